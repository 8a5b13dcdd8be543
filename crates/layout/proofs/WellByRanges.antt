-- A component's rows are well-formed and in order where those of each state's range are.
use mathlib.Core.Path.{◌≡◌, ap}
use mathlib.Core.Bool.{true}
use mathlib.Core.List.{List}
use Prim.Native.Nat.{ℕ, suc, ◌+◌, ◌-◌, ◌≤◌, ◌<◌}
use native.Mathlib.Omega.{arith}
use lib.ListN.{length}
use Rattle.laws.proofs.TestLaws.{apart-cases}
use Rattle.model.specs.Model.{row_at}
use Rattle.model.specs.WellFormed.{before, WellRow}
use Rattle.merged.proofs.Merging.Ascend.{by-from}
use Rattle.layout.specs.Layout.{block_word, first_of}
use Rattle.layout.specs.Image.{row_in, comp_of}
use Rattle.layout.proofs.UpwardRanges.{firsts-up, row-of-range, range-of-row}

-- first goes upward to states
module _ (t : List ℕ) (i : ℕ) (up : (s : ℕ) → s < block_word t i 0 → first_of t i s ≤ first_of t i (suc s)) where
  row-in : (k s : ℕ) → s < block_word t i 0 → first_of t i s ≤ first_of t i 0 + k → first_of t i 0 + k < first_of t i (suc s)
      → row_at (comp_of t i) k ≡ row_in t s (first_of t i 0 + k)
  row-in k s h a b = let e : first_of t i 0 + k - first_of t i 0 ≡ k = omega arith in rw e at (row-of-range t i up s (first_of t i 0 + k) h a b)

  pub rows-well : ((s r : ℕ) → s < block_word t i 0 → first_of t i s ≤ r → r < first_of t i (suc s) → WellRow (comp_of t i) (row_in t s r))
      → (k : ℕ) → k < length (comp_of t i).rows → WellRow (comp_of t i) (row_at (comp_of t i) k)
  rows-well f k h =
      let x = range-of-row t i up k h in
      rw (row-in k x.0 x.1 x.2 x.3) (f x.0 (first_of t i 0 + k) x.1 x.2 x.3)

  pub rows-in-order : ((s r : ℕ) → s < block_word t i 0 → first_of t i s ≤ r → suc r < first_of t i (suc s) → before (row_in t s r) (row_in t s (suc r)) ≡ true)
      → (k : ℕ) → suc k < length (comp_of t i).rows → before (row_at (comp_of t i) k) (row_at (comp_of t i) (suc k)) ≡ true
  rows-in-order f k h =
      let x = range-of-row t i up k (omega arith) in
      let y = range-of-row t i up (suc k) h in
      let e : first_of t i 0 + suc k ≡ suc (first_of t i 0 + k) = omega arith in
      rw (row-in k x.0 x.1 x.2 x.3, row-in (suc k) y.0 y.1 y.2 y.3)
      (apart-cases x.0 y.0
      (λ w. rw (← w, e) (f x.0 (first_of t i 0 + k) x.1 x.2 (omega (arith, y.3, ap (λ s. first_of t i (suc s)) w))))
      (λ w. by-from (row_in t x.0 (first_of t i 0 + k)) (row_in t y.0 (first_of t i 0 + suc k)) w)
      (λ w. absurd (omega (arith, x.2, y.3, firsts-up t i up (suc y.0) x.0 w (omega (arith, x.1))))))
