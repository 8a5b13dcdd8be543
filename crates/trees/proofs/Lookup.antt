-- Looking an element up by its number: where numbers ascend, a line is found by its number, and an edge is a test.
use mathlib.Core.Path.{◌≡◌, refl, sym, ◌∙◌, ap}
use mathlib.Core.Logic.{◌↔◌, ⊎_elim}
use mathlib.Core.Option.{Option, none, some, some_inj}
use mathlib.Core.Bool.{Bool, true, false, false≢true, true≢false}
use mathlib.Core.List.Memᴰ.{head as here}
use mathlib.Core.List.Memᴰ.{not-nil as in-none}
use mathlib.Core.List.Memᴰ.{tail as there}
use mathlib.Core.List.{List, [], ◌∷◌, Memᴰ as In}
use Prim.Native.Nat.{ℕ, ◌≤◌}
use native.Mathlib.Omega.{arith}
use lib.Dec.{eqb}
use borrow.Author.Tests.{eqb-true, eqb-false, eq-eqb, ne_eqb}
use Rattle.laws.proofs.SearchLaws.{no-some}
use Rattle.laws.proofs.SetLaws.{or_cases, or_left, or_right}
use Rattle.trees.specs.Tree.{Sort, Element, Tree, among}
use Rattle.trees.specs.TreeText.{line_of, some_of}
use Rattle.trees.specs.Conditions.{Edge, ins_by, sort_is, ins_of}
use Rattle.trees.specs.TreeFaults.{Ascending, no_line, line}

-- ---- one of a list
module _ (g : ℕ → Bool) where
  some-here : (x : ℕ) (xs : List ℕ) → g x ≡ true → some_of g (x ∷ xs) ≡ true
  unfolding some_of
  some-here x xs h = rw (h, some_of)

  some-there : (x : ℕ) (xs : List ℕ) → g x ≡ false → some_of g (x ∷ xs) ≡ some_of g xs
  unfolding some_of
  some-there x xs h = rw (h, some_of)

  pub some-of-in : (xs : List ℕ) → some_of g xs ≡ true → (x : ℕ) × In x xs × (g x ≡ true)
  unfolding some_of
  some-of-in [] e = absurd (false≢true e)
  some-of-in (x ∷ xs) e = go (some-of-in xs) (g x) refl
    where
      go : (some_of g xs ≡ true → (x : ℕ) × In x xs × (g x ≡ true)) → (b : Bool) → g x ≡ b → (y : ℕ) × In y (x ∷ xs) × (g y ≡ true)
      go ih true h = (x, here refl, h)
      go ih false h = let r = ih (sym (some-there x xs h) ∙ e) in (r.0, there r.1, r.2)

  pub in-some-of : (xs : List ℕ) (x : ℕ) → In x xs → g x ≡ true → some_of g xs ≡ true
  in-some-of [] x m h = absurd (in-none m)
  in-some-of (y ∷ ys) x (here e) h = some-here y ys (ap g (sym e) ∙ h)
  in-some-of (y ∷ ys) x (there m) h = go (in-some-of ys x m h) (g y) refl
    where
      go : some_of g ys ≡ true → (b : Bool) → g y ≡ b → some_of g (y ∷ ys) ≡ true
      go ih true q = some-here y ys q
      go ih false q = some-there y ys q ∙ ih

  pub none_of : (xs : List ℕ) → some_of g xs ≡ false → (x : ℕ) → In x xs → g x ≡ false
  none_of xs e x m = go (g x) refl
    where
      go : (b : Bool) → g x ≡ b → g x ≡ false
      go false h = h
      go true h = absurd (true≢false (sym (in-some-of xs x m h) ∙ e))

pub among_in : (v : ℕ) (xs : List ℕ) → among v xs ≡ true → In v xs
unfolding among
among_in v [] e = absurd (false≢true e)
among_in v (x ∷ xs) e = ⊎_elim (λ h. here (eqb-true v x h)) (λ h. there (among_in v xs h)) (or_cases (eqb v x) (among v xs) e)

pub in-among : (v : ℕ) (xs : List ℕ) → In v xs → among v xs ≡ true
unfolding among
in-among v [] m = absurd (in-none m)
in-among v (x ∷ xs) (here e) = or_left (eqb v x) (among v xs) (eq-eqb v x e)
in-among v (x ∷ xs) (there m) = or_right (eqb v x) (among v xs) (in-among v xs m)

-- ---- a line by its number
line_first : (e : Element) (es : Tree) (v : ℕ) → e.number ≡ v → line_of (e ∷ es) v ≡ some e
unfolding line_of
line_first e es v h = rw (eq-eqb e.number v h, line_of)

line-later : (e : Element) (es : Tree) (v : ℕ) → ¬ (e.number ≡ v) → line_of (e ∷ es) v ≡ line_of es v
unfolding line_of
line-later e es v h = rw (ne_eqb e.number v h, line_of)

pub line-in : (t : Tree) (v : ℕ) (e : Element) → line_of t v ≡ some e → In e t × (e.number ≡ v)
unfolding line_of
line-in [] v e h = absurd (no-some refl h)
line-in (d ∷ es) v e h = go (line-in es v e) (eqb d.number v) refl
  where
    go : (line_of es v ≡ some e → In e es × (e.number ≡ v)) → (b : Bool) → eqb d.number v ≡ b → In e (d ∷ es) × (e.number ≡ v)
    go ih true q =
        let z = eqb-true d.number v q in
        let w : d ≡ e = some_inj.0 (sym (line_first d es v z) ∙ h) in
        (here (sym w), ap (λ (x : Element). x.number) (sym w) ∙ z)
    go ih false q = let r = ih (sym (line-later d es v (eqb-false d.number v q)) ∙ h) in (there r.0, r.1)

-- numbers from low on
pub low-enough : {low : ℕ} {t : Tree} → Ascending low t → (e : Element) → In e t → low ≤ e.number
low-enough no_line e m = absurd (in-none m)
low-enough (line h a) e (here q) = rw q h
low-enough (line h a) e (there m) = omega (arith, h, low-enough a e m)

pub in-line : {low : ℕ} (t : Tree) → Ascending low t → (e : Element) → In e t → line_of t e.number ≡ some e
in-line [] a e m = absurd (in-none m)
in-line (d ∷ es) (line h a) e (here q) = line_first d es e.number (ap (λ (x : Element). x.number) (sym q)) ∙ ap {B = Option Element} some (sym q)
in-line (d ∷ es) (line h a) e (there m) = line-later d es e.number (λ z. let l = low-enough a e m in omega (arith, z, l)) ∙ in-line es a e m

-- no two lines have one number
pub one_line : {low : ℕ} (t : Tree) → Ascending low t → (d e : Element) → In d t → In e t → d.number ≡ e.number → d ≡ e
one_line t a d e m n h = some_inj.0 (sym (in-line t a d m) ∙ ap (line_of t) h ∙ in-line t a e n)

module _ {low : ℕ} (t : Tree) (a : Ascending low t) where
  pub ins-of : (e : Element) → In e t → ins_of t e.number ≡ e.ins
  unfolding ins_of
  ins-of e m = ap ins_by (in-line t a e m)

  pub sort-of : (g : Sort → Bool) (e : Element) → In e t → sort_is g (line_of t e.number) ≡ g e.sort
  sort-of g e m = ap (sort_is g) (in-line t a e m)

  pub edge_test : (v w : ℕ) → (among v (ins_of t w) ≡ true) ↔ Edge t v w
  unfolding ins_of
  edge_test v w = (there-is, back)
    where
      there-is : among v (ins_by (line_of t w)) ≡ true → Edge t v w
      there-is h = go (line_of t w) refl
        where
          go : (o : Option Element) → line_of t w ≡ o → Edge t v w
          go none q = absurd (in-none (among_in v (ins_by none) (ap (λ x. among v (ins_by x)) (sym q) ∙ h)))
          go (some e) q =
              let r = line-in t w e q in
              record { element = e; line = r.0; number = r.1; input = among_in v e.ins (ap (λ x. among v (ins_by x)) (sym q) ∙ h) }

      back : Edge t v w → among v (ins_by (line_of t w)) ≡ true
      back e =
          ap (λ n. among v (ins_by (line_of t n))) (sym e.number)
          ∙ ap (λ x. among v (ins_by x)) (in-line t a e.element e.line)
          ∙ in-among v e.element.ins e.input

-- a number with a sort has a line of that sort
pub sort-line : (g : Sort → Bool) (t : Tree) (v : ℕ) → sort_is g (line_of t v) ≡ true → (e : Element) × In e t × (e.number ≡ v) × (g e.sort ≡ true)
sort-line g t v h = go (line_of t v) refl
  where
    go : (o : Option Element) → line_of t v ≡ o → (e : Element) × In e t × (e.number ≡ v) × (g e.sort ≡ true)
    go none q = absurd (false≢true (ap (sort_is g) (sym q) ∙ h))
    go (some e) q = let r = line-in t v e q in (e, r.0, r.1, ap (sort_is g) (sym q) ∙ h)
