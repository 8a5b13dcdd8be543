-- `simulate::put_one` meets its contract.
use mathlib.Core.Path.{sym, ◌∙◌, ap}
use mathlib.Core.Bool.{cond}
use mir.Syntax.{w64}
use mir.ValLaws.{to_z-of_z}
use Rattle.simulate.proofs.put_one.Goals as goal

pub returns-then-has : goal.returns-then-has
returns-then-has c = to_z-of_z w64 c.args.v c.ranges.v ∙ sym (ap (λ b. cond b c.args.v c.args.z) (sym c.has.ensures ∙ c.if-has.true))

pub returns-else-has : goal.returns-else-has
returns-else-has c = to_z-of_z w64 c.args.z c.ranges.z ∙ sym (ap (λ b. cond b c.args.v c.args.z) (sym c.has.ensures ∙ c.if-has.false))
