-- The lines of a model, as they are printed, are read back.
use mathlib.Core.Path.{◌≡◌, refl}
use mathlib.Core.Option.{Option, none, some}
use mathlib.Core.Bool.{Bool, cond}
use Prim.Native.Nat.{ℕ, zero, suc, ◌^◌, ◌<◌}
use Rattle.answer.specs.Limits.{max_clocks}
use Rattle.model.specs.Model.{Row, Comp}
use Rattle.model.specs.Text.{Kind, comp_line, act_line, clk_line, row_line, clocks_of}
use Rattle.model.specs.Reading.{Entry, comp-entry, act-entry, clk-entry, row-entry, guard_of, row_of}
use Rattle.model.specs.Line.{line_of}
use Rattle.model.proofs.Reading.Members.{set-of-members, set-printed}

pub comp-line : (c : Comp) → comp_line c ≡ line_of (comp-entry c.states c.start)
unfolding comp_line line_of
comp-line c = refl

pub act-line : (a : ℕ) (k : Kind) → act_line a k ≡ line_of (act-entry a k)
unfolding act_line line_of
act-line a k = refl

pub clk-line : (x : ℕ) (s : Bool) → clk_line x s ≡ line_of (clk-entry x (cond s 1 0))
unfolding clk_line line_of
clk-line x s = refl

-- a guard as it is read
abbrev pub guard_read : ℕ → Option ℕ
guard_read zero = none
guard_read (suc x) = some x

guard-back : (g : ℕ) → guard_of (guard_read g) ≡ g
guard-back zero = refl
guard-back (suc x) = refl

-- the line of a row, as it is read
abbrev pub row_read : Row → Entry
row_read r = row-entry r.from (guard_read r.guard) r.action (clocks_of r.resets) r.target

-- the row of that line
abbrev pub row_back : Row → Row
row_back r = row_of r.from (guard_read r.guard) r.action (clocks_of r.resets) r.target

pub row_back_lem : (r : Row) → r.resets < 2 ^ max_clocks → row_back r ≡ r
row_back_lem r h = λ i. record { from = r.from; guard = guard-back r.guard i; action = r.action; resets = set-of-members r.resets h i; target = r.target }

pub row-line : (r : Row) → r.resets < 2 ^ max_clocks → row_line r ≡ line_of (row_read r)
unfolding row_line line_of
row-line r h = rw (set-printed r.resets h, guard-back r.guard)
