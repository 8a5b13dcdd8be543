-- `measure::set_width`: the members with a comma each, but the first.
use mathlib.Core.Path.{sym, ap}
use lib.ListN.{length}
use Rattle.model.specs.Text.{set_field}
use native.Mathlib.Omega.{arith}
use Rattle.measure.proofs.Fields.{set-width}
use Rattle.measure.proofs.set_width.Goals as goal

pub overflow_sub-result : goal.overflow_sub-result
overflow_sub-result c = omega (arith, set-width c.args.s (omega arith) c.ranges.s.fits)

pub returns-then-s-eq0 : goal.returns-then-s-eq0
unfolding set_field
returns-then-s-eq0 c = ap (λ s. length (set_field s)) (sym c.if-s-eq0.true)

pub returns-else-s-eq0 : goal.returns-else-s-eq0
returns-else-s-eq0 c = omega (arith, set-width c.args.s (omega arith) c.ranges.s.fits)
