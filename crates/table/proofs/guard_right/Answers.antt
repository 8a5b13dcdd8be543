-- `table::guard_right`: `-`, or one member.
use mathlib.Core.Path.{sym, ◌∙◌}
use Prim.Native.Nat.{◌-◌}
use native.Mathlib.Omega.{arith}
use Rattle.table.proofs.RowTests.{has-beyond, guard_none, guard-one}
use Rattle.table.proofs.guard_right.Goals as goal

pub returns-then-g-eq0 : goal.returns-then-g-eq0
returns-then-g-eq0 c = sym (guard_none c.args.g c.args.clocks c.if-g-eq0.true)

pub returns-then-g : goal.returns-then-g
returns-then-g c = let args = c.args in
    let fits = c.ranges in
    let clocks = args.clocks in
    let g = args.g in
    sym (guard-one g clocks (omega arith) ∙ has-beyond clocks (g - 1) fits.clocks.fits (omega arith))

pub returns : goal.returns
returns c = c.has.ensures ∙ sym (guard-one c.args.g c.args.clocks (omega arith))
