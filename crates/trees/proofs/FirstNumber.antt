-- 4 and 5 tell the first byte of the first number at fault.
use mathlib.Core.Path.{◌≡◌, refl, sym, ◌∙◌, ap, subst}
use mathlib.Core.Logic.{◌↔◌}
use mathlib.Core.Bool.{Bool, true, false, true≢false}
use mathlib.Core.List.Memᴰ.{head as here}
use mathlib.Core.List.{List, [], ◌∷◌, ◌++◌, map, head-eq_of_cons-eq, tail-eq_of_cons-eq, Memᴰ as In}
use mathlib.Core.List.Memᴰ.{not-nil as in-none}
use mathlib.Core.List.Memᴰ.{tail as there}
use Prim.Native.Nat.{ℕ, suc, ◌+◌}
use native.Mathlib.Omega.{arith}
use lib.ListN.{length, length-append}
use Rattle.model.specs.Text.{decimal}
use Rattle.model.specs.Column.{fields_up_to}
use Rattle.trees.specs.Tree.{Element}
use Rattle.trees.specs.TreeText.{sort_word, numbers_of, first_bad, column_of}
use Rattle.trees.specs.TreeFaults.{FirstNumber}

-- the bytes from the first tab on, up to the number behind these, with its tab
unfoldable width : List ℕ → ℕ
width [] = 0
width (n ∷ ns) = suc (length (decimal n)) + width ns

fields-wide : (ns : List ℕ) → length (fields_up_to (map decimal ns)) ≡ suc (width ns)
unfolding fields_up_to width
fields-wide [] = refl
fields-wide (n ∷ ns) = let w = fields-wide ns in let l = length-append (decimal n) (fields_up_to (map decimal ns)) in omega (arith, w, l)

-- the list with its first number at fault apart
record Split (Fine : ℕ → Type 0) (ns : List ℕ) : Type 0 where
  before : List ℕ
  number : ℕ
  behind : List ℕ
  numbers : ns ≡ before ++ number ∷ behind
  fault : ¬ Fine number
  fine : (n : ℕ) → In n before → Fine n

module _ (Fine : ℕ → Type 0) (bad : ℕ → Bool) (test : (n : ℕ) → (bad n ≡ false) ↔ Fine n) where
  bad-here : (k n : ℕ) (ns : List ℕ) → bad n ≡ true → first_bad bad k (n ∷ ns) ≡ k
  unfolding first_bad
  bad-here k n ns h = rw (h, first_bad)

  bad-there : (k n : ℕ) (ns : List ℕ) → bad n ≡ false → first_bad bad k (n ∷ ns) ≡ first_bad bad (k + suc (length (decimal n))) ns
  unfolding first_bad
  bad-there k n ns h = rw (h, first_bad)

  not-fine : (n : ℕ) → bad n ≡ true → ¬ Fine n
  not-fine n h f = true≢false (sym h ∙ (test n).1 f)

  -- where one is at fault, the first is, and the column is behind those before it
  split : (k : ℕ) (ns : List ℕ) (x : ℕ) → In x ns → bad x ≡ true → (s : Split Fine ns) × (first_bad bad k ns ≡ k + width s.before)
  unfolding width
  split k [] x m h = absurd (in-none m)
  split k (n ∷ ns) x m h = go (λ k x m h. split k ns x m h) (bad n) refl
    where
      go : ((k : ℕ) (x : ℕ) → In x ns → bad x ≡ true → (s : Split Fine ns) × (first_bad bad k ns ≡ k + width s.before)) → (b : Bool) → bad n ≡ b
          → (s : Split Fine (n ∷ ns)) × (first_bad bad k (n ∷ ns) ≡ k + width s.before)
      go ih true q = (
        record { before = []; number = n; behind = ns; numbers = refl; fault = not-fine n q; fine = λ y i. absurd (in-none i) },
        bad-here k n ns q ∙ (let z : k ≡ k + 0 = omega arith in z),
      )
      go ih false q = later m
        where
          later : In x (n ∷ ns) → (s : Split Fine (n ∷ ns)) × (first_bad bad k (n ∷ ns) ≡ k + width s.before)
          later (here e) = absurd (true≢false (sym h ∙ ap bad e ∙ q))
          later (there i) =
              let r = ih (k + suc (length (decimal n))) x i h in (
                record {
                  before = n ∷ r.0.before;
                  number = r.0.number;
                  behind = r.0.behind;
                  numbers = ap {B = List ℕ} (λ l. n ∷ l) r.0.numbers;
                  fault = r.0.fault;
                  fine = rest r.0.before r.0.fine;
                },
                bad-there k n ns q ∙ r.1 ∙ (let z : k + suc (length (decimal n)) + width r.0.before
                    ≡ k + (suc (length (decimal n)) + width r.0.before) = omega arith in z),
              )
            where
              rest : (l : List ℕ) → ((y : ℕ) → In y l → Fine y) → (y : ℕ) → In y (n ∷ l) → Fine y
              rest l f y (here e) = subst Fine (sym e) ((test n).0 q)
              rest l f y (there i) = f y i

  pub first-number : (e : Element) (x : ℕ) → In x (numbers_of e) → bad x ≡ true → FirstNumber Fine e (column_of bad e)
  first-number e x m h =
      let r = split (length (sort_word e.sort) + 2) (numbers_of e) x m h in
      let s = r.0 in
      let w = fields-wide s.before in
      let l = length-append (sort_word e.sort) (fields_up_to (map decimal s.before)) in
      record {
        before = s.before;
        number = s.number;
        behind = s.behind;
        numbers = s.numbers;
        fault = s.fault;
        fine = s.fine;
        at =
            r.1 ∙ (let z : length (sort_word e.sort) + 2 + width s.before
            ≡ suc (length (sort_word e.sort ++ fields_up_to (map decimal s.before))) = omega (arith, w, l) in z);
      }

-- ---- there is one such place
same-split : (Fine : ℕ → Type 0) (a b : List ℕ) (x y : ℕ) (c d : List ℕ) → a ++ x ∷ c ≡ b ++ y ∷ d → ¬ Fine x → ¬ Fine y → ((n : ℕ) → In n a → Fine n)
    → ((n : ℕ) → In n b → Fine n) → a ≡ b
same-split Fine [] [] x y c d e p q f g = refl
same-split Fine [] (z ∷ b) x y c d e p q f g = absurd (p (g x (here (head-eq_of_cons-eq e))))
same-split Fine (z ∷ a) [] x y c d e p q f g = absurd (q (f y (here (sym (head-eq_of_cons-eq e)))))
same-split Fine (z ∷ a) (w ∷ b) x y c d e p q f g =
    ap {B =
    List ℕ} (λ k. k ∷ a) (head-eq_of_cons-eq e) ∙ ap {B = List ℕ} (λ l. w ∷ l) (same-split Fine a b x y c d (tail-eq_of_cons-eq e) p q
    (λ n m. f n (there m)) (λ n m. g n (there m)))

pub one-first-number : {Fine : ℕ → Type 0} {e : Element} {j k : ℕ} → FirstNumber Fine e j → FirstNumber Fine e k → j ≡ k
one-first-number {Fine} {e} a b =
    let s = same-split Fine a.before b.before a.number b.number a.behind b.behind (sym a.numbers ∙ b.numbers) a.fault
    b.fault a.fine b.fine in
    a.at ∙ ap (λ (l : List ℕ). suc (length (sort_word e.sort ++ fields_up_to (map decimal l)))) s ∙ sym b.at
