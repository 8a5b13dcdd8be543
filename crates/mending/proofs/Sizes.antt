-- A set and its lowest member: without it the set has one member less.
use mathlib.Core.Path.{◌≡◌, refl, sym, ◌∙◌, ap}
use mathlib.Core.Bool.{Bool, true, false, ◌&&◌, not, cond, true≢false}
use Prim.Native.Nat.{ℕ, zero, suc, ◌+◌, ◌^◌, ◌≤◌, ◌<◌}
use native.Mathlib.Omega.{arith}
use native.Mathlib.Decide.{ℕ_discrete}
use lib.Dec.{eqb}
use borrow.Author.Tests.{eqb-true, eq-eqb, ne_eqb}
use Rattle.laws.specs.Sets.{has, only, ◌∈◌}
use Rattle.laws.specs.Search.{Least}
use Rattle.laws.specs.Fold.{tab, sum}
use Rattle.laws.proofs.SetLaws.{has-without, in_without, without_in, one_in, in_one, none_in, in-below, same-members}
use Rattle.laws.proofs.SearchLaws.{least-some, none-least}
use Rattle.laws.proofs.TabLaws.{tab-same, sum-add, sum-at-most}
use Rattle.laws.proofs.TestLaws.{not_so}
use Rattle.sets.specs.Members.{word_bits, or_end, lowest_of, size_of}
use Rattle.sets.proofs.MemberLaws.{lowest-found}
use Rattle.lacking.proofs.LackLaws.{has-only}
use Rattle.mending.specs.Weave.{later}

abbrev pub Low : ℕ → Type 0
Low s = (x : ℕ) → x ∈ s → x < word_bits

low_of : (s : ℕ) → s < 2 ^ word_bits → Low s
low_of s h x m = in-below word_bits s x h m

pub lowest-least : (s : ℕ) → Low s → (s ≡ 0 → ⊥) → Least (has s) word_bits (lowest_of s)
lowest-least s low ne = least-some (has s) word_bits (lowest_of s) (lowest-found s low ne)

pub later-in : (s x : ℕ) → x ∈ later s → x ∈ s
unfolding later
later-in s x m = (in_without s (only (lowest_of s)) x m).0

pub later-not : (s x : ℕ) → x ∈ later s → x ≡ lowest_of s → ⊥
unfolding later
later-not s x m e = true≢false (sym (rw (← e) (in_one x)) ∙ (in_without s (only (lowest_of s)) x m).1)

pub in-later : (s x : ℕ) → x ∈ s → (x ≡ lowest_of s → ⊥) → x ∈ later s
unfolding later
in-later s x m ne = without_in s (only (lowest_of s)) x m (not_so (has (only (lowest_of s)) x) (λ k. ne (one_in (lowest_of s) x k)))

pub later-low : (s : ℕ) → Low s → Low (later s)
later-low s low x m = low x (later-in s x m)

-- a set without a member below 64
pub later-none : (s : ℕ) → s < 2 ^ word_bits → word_bits ≤ lowest_of s → s ≡ later s
later-none s h p = elim (ℕ_discrete s 0) [
  | yes e ↦ same-members s (later s) (λ x m. absurd (none_in x (rw e at m))) (λ x m. later-in s x m)
  | no ne ↦ absurd (omega (arith, p, (lowest-least s (low_of s h) ne).below))
]

-- ---- sizes
none-there : (a k n : ℕ) → a < k → sum (tab (λ x. cond (eqb a x) 1 0) k n) ≡ 0
none-there a k zero h = refl
none-there a k (suc n) h = let e : eqb a k ≡ false = ne_eqb a k (λ w. omega arith) in rw e (omega (arith, none-there a (suc k) n (omega arith)))

one-there : (a k n : ℕ) → k ≤ a → a < k + n → sum (tab (λ x. cond (eqb a x) 1 0) k n) ≡ 1
one-there a k zero h p = absurd (omega arith)
one-there a k (suc n) h p = elim (ℕ_discrete a k) [
  | yes e ↦ rw (eq-eqb a k e) (omega (arith, none-there a (suc k) n (omega arith)))
  | no ne ↦ rw (ne_eqb a k ne) (omega (arith, one-there a (suc k) n (omega arith) (omega arith)))
]

one_less : (whole both part one : ℕ) → whole ≡ both → both ≡ part + one → one ≡ 1 → part + 1 ≡ whole
one_less whole both part one p q r = omega arith

module _ (s : ℕ) (low : Low s) (ne : s ≡ 0 → ⊥) where
  abbrev a : ℕ
  a = lowest_of s

  here : a ∈ s
  here = (lowest-least s low ne).here

  each : (x : ℕ) → cond (has s x) 1 0 ≡ cond (has (later s) x) 1 0 + cond (eqb a x) 1 0
  unfolding later
  each x = rw (has-without s (only a) x ∙ ap (λ b. has s x && not b) (has-only a x)) (go (has s x) (eqb a x) refl refl)
    where
      go : (b e : Bool) → has s x ≡ b → eqb a x ≡ e → cond b 1 0 ≡ cond (b && not e) 1 0 + cond e 1 0
      go true true p q = refl
      go true false p q = refl
      go false true p q = absurd (true≢false (sym here ∙ ap (has s) (eqb-true a x q) ∙ p))
      go false false p q = refl

  pub size-later : size_of (later s) + 1 ≡ size_of s
  unfolding size_of
  size-later =
      one_less _ _ _ _ (ap sum (tab-same (λ x. cond (has s x) 1 0) (λ x. cond (has (later s) x) 1 0 + cond (eqb a x) 1 0) 0 word_bits (λ x p q. each x)))
      (sum-add (λ x. cond (has (later s) x) 1 0) (λ x. cond (eqb a x) 1 0) 0 word_bits) (one-there a 0 word_bits (omega arith) (lowest-least s low ne).below)

-- ---- the empty set
pub lowest-none : lowest_of 0 ≡ word_bits
unfolding lowest_of
lowest-none = ap (λ o. or_end o word_bits) (none-least (has 0) word_bits (λ x h. not_so (has 0 x) (none_in x)))

pub size_none : size_of 0 ≡ 0
unfolding size_of
size_none =
    let h = sum-at-most (λ x. cond (has 0 x) 1 0) 0 0 word_bits (λ x p q. rw (not_so (has 0 x) (none_in x)) (omega arith)) in
    omega (arith, h)
