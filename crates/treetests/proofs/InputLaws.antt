-- The inputs of a line as a set: a member for each, and whether one is there twice.
use mathlib.Core.Path.{◌≡◌, refl, sym, ◌∙◌, ap, subst}
use mathlib.Core.Logic.{◌↔◌, ◌⊎◌, inl, inr, ⊎_elim}
use mathlib.Core.Bool.{Bool, true, false, true≢false, ◌||◌}
use mathlib.Core.List.Memᴰ.{head as here}
use mathlib.Core.List.Memᴰ.{not-nil as in-none}
use mathlib.Core.List.Memᴰ.{tail as there}
use mathlib.Core.List.{List, [], ◌∷◌, Memᴰ as In}
use Prim.Native.Nat.{ℕ, ◌+◌, ◌-◌, ◌≤◌, ◌<◌}
use native.Mathlib.Omega.{arith}
use lib.ListN.{get_or}
use Rattle.laws.specs.Sets.{has, ◌∪◌, only, ◌∈◌}
use Rattle.laws.specs.Fold.{tab}
use Rattle.laws.proofs.SetLaws.{in-or, or-in-l, or-in-r, not-or, or-not, in_one, one_in, none_in}
use Rattle.laws.proofs.TestLaws.{or-false, not_so}
use Rattle.laws.proofs.FoldLaws.{tab-length, tab-at}
use Rattle.laws.proofs.TabLaws.{tab-next, tab-done}
use Rattle.laws.proofs.ListLaws.{in-at}
use Rattle.sets.specs.Members.{word_bits}
use Rattle.trees.specs.Tree.{Element as TheElement, among}
use Rattle.trees.specs.Conditions.{repeats}
use Rattle.trees.specs.TreeFaults.{ElementFits, InRange}
use Rattle.trees.proofs.Lookup.{among_in, in-among}
use Rattle.trees.proofs.Broken.{repeats-here, repeats-there}
use Rattle.treelines.specs.declared.Inputs.{Inputs}
use Rattle.treelines.specs.declared.Element.{Element}
use Rattle.treelines.specs.Elements.{element_is}
use Rattle.treecheck.specs.Numbers.{input_at, ins_in}
use Rattle.treecheck.proofs.CodeLaws.{held, few-inputs}
use Rattle.treetests.specs.declared.LineSets.{LineSets}
use Rattle.treetests.specs.Gathering.{SmallInputs, Small, taken_in, taken_all, none_taken, line_sets}

-- ---- a member for each
taken_in_lem : (xs : List ℕ) (s : LineSets) (v : ℕ) → v ∈ (taken_all s xs).all → (v ∈ s.all) ⊎ In v xs
unfolding taken_all taken_in
taken_in_lem [] s v h = inl h
taken_in_lem (x ∷ xs) s v h = ⊎_elim
    (λ m. ⊎_elim (λ k. inl k) (λ k. inr (here (one_in x v k))) (in-or s.all (only x) v m))
    (λ m. inr (there m))
    (taken_in_lem xs (taken_in s x) v h)

in_taken : (xs : List ℕ) (s : LineSets) (v : ℕ) → (v ∈ s.all) ⊎ In v xs → v ∈ (taken_all s xs).all
unfolding taken_all taken_in
in_taken [] s v (inl h) = h
in_taken [] s v (inr m) = absurd (in-none m)
in_taken (x ∷ xs) s v (inl h) = in_taken xs (taken_in s x) v (inl (or-in-l s.all (only x) v h))
in_taken (x ∷ xs) s v (inr (here e)) = in_taken xs (taken_in s x) v (inl (or-in-r s.all (only x) v (subst (λ y. y ∈ only x) (sym e) (in_one x))))
in_taken (x ∷ xs) s v (inr (there m)) = in_taken xs (taken_in s x) v (inr m)

-- ---- one twice
-- none is there twice, nor was there before
record Once (s : LineSets) (xs : List ℕ) : Type 0 where
  before : s.twice ≡ false
  new : (x : ℕ) → In x xs → has s.all x ≡ false
  apart : repeats xs ≡ false

repeats-none : repeats [] ≡ false
unfolding repeats
repeats-none = refl

repeats-parts : (x : ℕ) (xs : List ℕ) → repeats (x ∷ xs) ≡ false → (among x xs ≡ false) × (repeats xs ≡ false)
repeats-parts x xs h = go (among x xs) refl
  where
    go : (b : Bool) → among x xs ≡ b → (among x xs ≡ false) × (repeats xs ≡ false)
    go true q = absurd (true≢false (sym (repeats-here x xs q) ∙ h))
    go false q = (q, sym (repeats-there x xs q) ∙ h)

pub neither : {a b : Bool} → a ≡ false → b ≡ false → (a || b) ≡ false
neither p q = rw (p, q)

new_in : (s x : ℕ) (xs : List ℕ) → has s x ≡ false → ((y : ℕ) → In y xs → has (s ∪ only x) y ≡ false) → (y : ℕ) → In y (x ∷ xs) → has s y ≡ false
new_in s x xs h k y (here e) = ap (has s) e ∙ h
new_in s x xs h k y (there m) = (not-or s (only x) y (k y m)).0

twice-once : (xs : List ℕ) (s : LineSets) → (taken_all s xs).twice ≡ false → Once s xs
unfolding taken_all taken_in
twice-once [] s h = record { before = h; new = λ x m. absurd (in-none m); apart = repeats-none }
twice-once (x ∷ xs) s h =
    let o = twice-once xs (taken_in s x) h in
    let b = or-false s.twice (has s.all x) o.before in
    let alone : among x xs ≡ false = not_so (among x xs) (λ a. true≢false (sym (or-in-r s.all (only x) x (in_one x)) ∙ o.new x (among_in x xs a))) in
    record { before = b.0; new = new_in s.all x xs b.1 o.new; apart = repeats-there x xs alone ∙ o.apart }

once-twice : (xs : List ℕ) (s : LineSets) → Once s xs → (taken_all s xs).twice ≡ false
unfolding taken_all taken_in
once-twice [] s o = o.before
once-twice (x ∷ xs) s o =
    let p = repeats-parts x xs o.apart in
    once-twice xs (taken_in s x) (record {
      before = neither o.before (o.new x (here refl));
      new = λ y m. or-not s.all (only x) y (o.new y (there m))
          (not_so (has (only x) y) (λ q. true≢false (sym (in-among x xs (subst (λ z. In z xs) (one_in x y q) m)) ∙ p.0)));
      apart = p.1;
    })

-- ---- of a line
module _ (e : TheElement) (f : ElementFits e) where
  there-are : ins_in (element_is e).inputs ≡ e.ins
  there-are = held e.ins (few-inputs e f)

  pub line-inputs : (v : ℕ) → (v ∈ (line_sets (element_is e)).all) ↔ In v e.ins
  unfolding line_sets
  line-inputs v = (
    λ h. ⊎_elim (λ z. absurd (none_in v z)) (λ m. m)
        (taken_in_lem e.ins (none_taken e.number) v (subst (λ l. v ∈ (taken_all (none_taken e.number) l).all) there-are h)),
    λ m. subst (λ l. v ∈ (taken_all (none_taken e.number) l).all) (sym there-are) (in_taken e.ins (none_taken e.number) v (inr m)),
  )

  pub line-twice : ((line_sets (element_is e)).twice ≡ false) ↔ (repeats e.ins ≡ false)
  unfolding line_sets
  line-twice = (
    λ h. (twice-once e.ins (none_taken e.number) (ap (λ l. (taken_all (none_taken e.number) l).twice) (sym there-are) ∙ h)).apart,
    λ h. ap (λ l. (taken_all (none_taken e.number) l).twice) there-are
        ∙ once-twice e.ins (none_taken e.number) (record { before = refl; new = λ x m. not_so (has 0 x) (none_in x); apart = h }),
  )

  pub small : InRange e → Small (element_is e)
  unfolding ins_in
  small r = record { number = r e.number (here refl); inputs = below }
    where
      below : SmallInputs (element_is e).inputs
      below k h =
          let i = (element_is e).inputs in
          let m = in-at 0 (tab (input_at i) 0 i.count) k (omega (arith, tab-length (input_at i) 0 i.count, h)) in
          let same = tab-at (input_at i) 0 0 i.count k h ∙ ap (input_at i) (let z : 0 + k ≡ k = omega arith in z) in
          subst (λ x. x < word_bits) same (r _ (there (subst (λ l. In (get_or (tab (input_at i) 0 i.count) k 0) l) there-are m)))

-- its own number stays
own-kept : (xs : List ℕ) (s : LineSets) → (taken_all s xs).own ≡ s.own
unfolding taken_all taken_in
own-kept [] s = refl
own-kept (x ∷ xs) s = own-kept xs (taken_in s x)

pub own-number : (e : Element) → (line_sets e).own ≡ only e.number
unfolding line_sets
own-number e = own-kept (ins_in e.inputs) (none_taken e.number)

-- ---- the loop: j of the inputs are taken, nothing at first
pub record Taking (i : Inputs) (begin s : LineSets) (j : ℕ) : Type 0 where
  pub same : taken_all s (tab (input_at i) j (i.count - j)) ≡ taken_all begin (tab (input_at i) 0 i.count)

module _ (i : Inputs) (begin : LineSets) where
  pub taking-begins : Taking i begin begin 0
  taking-begins = record { same = ap (λ n. taken_all begin (tab (input_at i) 0 n)) (let z : i.count - 0 ≡ i.count = omega arith in z) }

  module _ (s : LineSets) (j : ℕ) (t : Taking i begin s j) where
    pub taking-on : j < i.count → (n : LineSets) → n ≡ taken_in s (input_at i j) → Taking i begin n (j + 1)
    unfolding taken_all
    taking-on h n q = record {
      same = ap (λ x. taken_all x (tab (input_at i) (j + 1) (i.count - (j + 1)))) q ∙ ap (taken_all s) (sym (tab-next (input_at i) j i.count h)) ∙ t.same;
    }

    pub taking-done : i.count ≤ j → s ≡ taken_all begin (ins_in i)
    unfolding taken_all ins_in
    taking-done h = ap (taken_all s) (sym (tab-done (input_at i) j i.count h)) ∙ t.same

pub line-done : (e : Element) (own : ℕ) → own ≡ only e.number → (s : LineSets) → s ≡ taken_all (record { own = own; all = 0; twice = false })
    (ins_in e.inputs)
    → s ≡ line_sets e
unfolding line_sets
line-done e own p s q = q ∙ ap (λ o. taken_all (record { own = o; all = 0; twice = false }) (ins_in e.inputs)) p
