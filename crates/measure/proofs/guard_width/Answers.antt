-- `measure::guard_width`: `-`, or the clock.
use mathlib.Core.Path.{sym, ap, ◌∙◌}
use lib.ListN.{length}
use Rattle.model.specs.Text.{guard_field}
use Rattle.measure.proofs.Fields.{guard-clock}
use native.Mathlib.Omega.{arith}
use Rattle.measure.proofs.guard_width.Goals as goal

pub returns-then-g-eq0 : goal.returns-then-g-eq0
unfolding guard_field
returns-then-g-eq0 c = ap (λ g. length (guard_field g)) (sym c.if-g-eq0.true)

pub returns-else-g-eq0 : goal.returns-else-g-eq0
returns-else-g-eq0 c = c.width.ensures ∙ guard-clock c.args.g (omega arith)
