-- The sum of a resets field tells what judging asks of its numbers.
use mathlib.Core.Path.{◌≡◌, refl, sym, ◌∙◌, ap}
use mathlib.Core.Bool.{Bool, true, false, ◌&&◌, cond}
use mathlib.Core.Logic.{⊎_elim}
use mathlib.Core.List.{List, [], ◌∷◌}
use Prim.Native.Nat.{ℕ}
use native.Mathlib.Omega.{arith}
use lib.Dec.{ltb}
use lib.Bits.{bit_or}
use Rattle.laws.specs.Sets.{has, ◌∪◌, within, only, ◌⊆◌}
use Rattle.laws.proofs.SetLaws.{bit-or, bit-ext, bit-above, or_assoc, in-or, or-in-l, or-in-r, in_one, one_in, none_in, within-true, true-within}
use Rattle.laws.proofs.TestLaws.{and-true}
use Rattle.answer.specs.Limits.{max_clocks}
use Rattle.model.specs.Reading.{all_below, all_in, ascending, set_of}
use Rattle.fields.specs.declared.Resets.{Resets}
use Rattle.fields.specs.Resets.{first, with, with_all, summary}

pub same_test : (a b : Bool) → (a ≡ true → b ≡ true) → (b ≡ true → a ≡ true) → a ≡ b
same_test true b f g = sym (f refl)
same_test false true f g = g refl
same_test false false f g = refl

pub and_one : (a : Bool) → (a && true) ≡ a
and_one true = refl
and_one false = refl

and_assoc : (a b c : Bool) → ((a && b) && c) ≡ (a && (b && c))
and_assoc true b c = refl
and_assoc false b c = refl

-- ---- all of them are clocks
moved : (l s b : Bool) → (cond l s false && b) ≡ (s && (l && b))
moved true s b = refl
moved false true b = refl
moved false false b = refl

with-clocks : (s : Resets) (xs : List ℕ) → (with_all s xs).clocks ≡ (s.clocks && all_below max_clocks xs)
unfolding with_all all_below
with-clocks s [] = sym (and_one s.clocks)
with-clocks s (x ∷ xs) = with-clocks (with s x) xs ∙ moved (ltb x max_clocks) s.clocks (all_below max_clocks xs)

pub summary-clocks : (xs : List ℕ) → (summary xs).clocks ≡ all_below max_clocks xs
unfolding summary all_below
summary-clocks [] = refl
summary-clocks (x ∷ xs) = with-clocks (first x) xs

-- ---- they ascend
with-ascend : (s : Resets) (xs : List ℕ) → (with_all s xs).ascend ≡ (s.ascend && ascending (s.last ∷ xs))
unfolding with_all ascending
with-ascend s [] = sym (and_one s.ascend)
with-ascend s (x ∷ xs) = with-ascend (with s x) xs ∙ and_assoc s.ascend (ltb s.last x) (ascending (x ∷ xs))

pub summary-ascend : (xs : List ℕ) → (summary xs).ascend ≡ ascending xs
unfolding summary ascending
summary-ascend [] = refl
summary-ascend (x ∷ xs) = with-ascend (first x) xs

-- ---- their set
or-none : (s : ℕ) → bit_or s 0 ≡ s
or-none s = bit-ext (bit_or s 0) s (λ x. omega (arith, bit-or s 0 x, bit-above 0 0 x (omega arith) (omega arith)))

with-set : (s : Resets) (xs : List ℕ) → all_below max_clocks xs ≡ true → (with_all s xs).set ≡ (s.set ∪ set_of xs)
unfolding with_all all_below set_of
with-set s [] h = sym (or-none s.set)
with-set s (x ∷ xs) h =
    let p = and-true (ltb x max_clocks) (all_below max_clocks xs) h in
    let e : (with s x).set ≡ (s.set ∪ only x) = ap (λ b. cond b (s.set ∪ only x) s.set) p.0 in
    with-set (with s x) xs p.1 ∙ ap (λ t. t ∪ set_of xs) e ∙ or_assoc s.set (only x) (set_of xs)

pub summary-set : (xs : List ℕ) → all_below max_clocks xs ≡ true → (summary xs).set ≡ set_of xs
unfolding summary all_below set_of
summary-set [] h = refl
summary-set (x ∷ xs) h =
    let p = and-true (ltb x max_clocks) (all_below max_clocks xs) h in
    let e : (first x).set ≡ only x = ap (λ b. cond b (only x) 0) p.0 in
    with-set (first x) xs p.1 ∙ ap (λ t. t ∪ set_of xs) e

-- ---- they lie in a set
all_in_lem : (s : ℕ) (xs : List ℕ) → set_of xs ⊆ s → all_in s xs ≡ true
unfolding all_in set_of
all_in_lem s [] h = refl
all_in_lem s (x ∷ xs) h = rw (h x (or-in-l (only x) (set_of xs) x (in_one x)), all_in) (all_in_lem s xs (λ y k. h y (or-in-r (only x) (set_of xs) y k)))

in_all : (s : ℕ) (xs : List ℕ) → all_in s xs ≡ true → set_of xs ⊆ s
unfolding all_in set_of
in_all s [] h y k = absurd (none_in y k)
in_all s (x ∷ xs) h y k =
    let p = and-true (has s x) (all_in s xs) h in
    ⊎_elim (λ m. let e : y ≡ x = one_in x y m in ap (has s) e ∙ p.0) (λ m. in_all s xs p.1 y m) (in-or (only x) (set_of xs) y k)

pub within_all : (s : ℕ) (xs : List ℕ) → within (set_of xs) s ≡ all_in s xs
within_all s xs =
    same_test (within (set_of xs) s) (all_in s xs) (λ h. all_in_lem s xs (within-true (set_of xs) s h)) (λ h. true-within (set_of xs) s (in_all s xs h))
