-- The column of a line's first value that may not be, case by case.
use mathlib.Core.Path.{◌≡◌}
use mathlib.Core.Bool.{true, false}
use mathlib.Core.List.{List}
use Prim.Native.Nat.{ℕ, ◌+◌, ◌≤◌, ◌<◌}
use native.Mathlib.Omega.{arith}
use lib.ListN.{length, drop}
use borrow.Author.Tests.{lt-ltb, le-ltb}
use Rattle.model.specs.Text.{decimal}
use Rattle.model.specs.Reading.{stop_column}
use Rattle.measure.proofs.Fields.{width-most}
use Rattle.fields.specs.declared.Guard.{Guard}
use Rattle.fields.specs.declared.Guard.TheVariants as OfGuard
use Rattle.columns.specs.declared.Allowed.{Allowed}
use Rattle.columns.specs.Columns.{member_of, guard_out, wide_guard, resets_out, before_resets, row_column}

pub wide-most : (g : Guard) → wide_guard g ≤ 5
wide-most OfGuard.Dash = omega arith
wide-most (OfGuard.Clock x) = width-most x

-- ---- a row
module _ (t : List ℕ) (at : ℕ) (a : Allowed) (s : ℕ) (g : Guard) (x : ℕ) where
  pub row_from : a.states ≤ s → row_column t at a s g x ≡ 5
  unfolding row_column
  row_from h = rw (le-ltb s a.states h, row_column)

  module _ (h : s < a.states) where
    pub row-guard : guard_out a.clocks g ≡ true → row_column t at a s g x ≡ 6 + length (decimal s)
    unfolding row_column
    row-guard e = rw (lt-ltb s a.states h, e, row_column)

    pub row-action : guard_out a.clocks g ≡ false → member_of a.acts x ≡ false → row_column t at a s g x ≡ 6 + length (decimal s) + 1 + wide_guard g
    unfolding row_column
    row-action e f = rw (lt-ltb s a.states h, e, f, row_column)

    pub row-resets : guard_out a.clocks g ≡ false → member_of a.acts x ≡ true
        → row_column t at a s g x ≡ stop_column (drop at t) (resets_out a.clocks (drop (at + before_resets s g x) t))
    unfolding row_column
    row-resets e f = rw (lt-ltb s a.states h, e, f, row_column)
