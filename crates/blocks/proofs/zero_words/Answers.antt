-- `blocks::zero_words`: what was joined so far, and what is left to test, answer for the whole.
use mathlib.Core.Path.{◌≡◌, refl, sym, ◌∙◌, ap}
use mathlib.Core.Bool.{Bool}
use Prim.Native.Nat.{ℕ, ◌+◌, ◌≤◌, ◌<◌}
use native.Mathlib.Omega.{arith}
use native.Mathlib.Decide.{ℕ_discrete}
use borrow.Author.Tests.{eq-eqb, ne_eqb}
use lib.Bits.{bit_or, or_zero_l}
use lib.ListN.{get_or}
use lib.Dec.{eqb}
use Rattle.laws.specs.Fold.{all}
use Rattle.laws.specs.Tests.{both}
use Rattle.laws.proofs.SetLaws.{or-none}
use Rattle.laws.proofs.FoldLaws.{all_here, all-next, all_end}
use Rattle.laws.proofs.TestLaws.{both-no, both_go, both_yes}
use Rattle.blocks.specs.Blocks.{zero_words}
use Rattle.blocks.proofs.zero_words.Goals as goal

module _ (f : ℕ → ℕ) (hi : ℕ) where
  abbrev zero-from : ℕ → Bool
  zero-from k = all (λ j. eqb (f j) 0) k hi

  joined : (any k : ℕ) → k < hi → both (eqb (bit_or any (f k)) 0) (zero-from (k + 1)) ≡ both (eqb any 0) (zero-from k)
  joined any k h = go (ℕ_discrete any 0) (ℕ_discrete (f k) 0)
    where
      go : Dec (any ≡ 0) → Dec (f k ≡ 0) → both (eqb (bit_or any (f k)) 0) (zero-from (k + 1)) ≡ both (eqb any 0) (zero-from k)
      go (yes p) (yes q) =
          both_go _ _ (eq-eqb (bit_or any (f k)) 0 (ap (λ n. bit_or n (f k)) p ∙ or_zero_l (f k) ∙ q))
          ∙ sym (both_go _ _ (eq-eqb any 0 p) ∙ all-next (λ j. eqb (f j) 0) k hi h (eq-eqb (f k) 0 q))
      go (yes p) (no q) =
          both-no _ _ (ne_eqb (bit_or any (f k)) 0 (λ e. q (or-none any (f k) e).1))
          ∙ sym (both_go _ _ (eq-eqb any 0 p) ∙ all_here (λ j. eqb (f j) 0) k hi h (ne_eqb (f k) 0 q))
      go (no p) d = both-no _ _ (ne_eqb (bit_or any (f k)) 0 (λ e. p (or-none any (f k) e).0)) ∙ sym (both-no _ _ (ne_eqb any 0 p))

  joined-all : (any k : ℕ) → hi ≤ k → both (eqb any 0) (zero-from k) ≡ eqb any 0
  joined-all any k h = both_yes _ _ (all_end (λ j. eqb (f j) 0) k hi h)

pub loop-k-init : goal.loop-k-init
unfolding zero_words
loop-k-init c = both_go _ _ (eq-eqb 0 0 refl)

pub bounds-t-k : goal.bounds-t-k
bounds-t-k c = omega arith

pub overflow_step-k : goal.overflow_step-k
overflow_step-k c = omega arith

pub loop-k-smaller : goal.loop-k-smaller
loop-k-smaller c = omega arith

pub loop-k-preserved : goal.loop-k-preserved
loop-k-preserved c = let args = c.args in
    let loop = c.loop-k in
    joined (λ j. get_or args.t.now j 0) args.hi loop.any loop.k c.loop-k-test.true ∙ loop.invariant

pub returns : goal.returns
returns c = let args = c.args in
    let loop = c.loop-k in
    sym (joined-all (λ j. get_or args.t.now j 0) args.hi loop.any loop.k c.loop-k-test.false) ∙ loop.invariant
