-- `mending::later`: the lowest member taken off, where there is one.
use mathlib.Core.Path.{◌∙◌, ap}
use native.Mathlib.Omega.{arith}
use Rattle.laws.specs.Sets.{◌∖◌, only}
use Rattle.mending.specs.Weave.{later}
use Rattle.mending.proofs.Sizes.{later-none}
use Rattle.mending.proofs.later.Goals as goal

pub returns-then-low-lt64 : goal.returns-then-low-lt64
unfolding later
returns-then-low-lt64 c = c.minus.ensures ∙ ap (λ x. c.args.left ∖ x)
    (c.single.ensures ∙ ap only c.lowest-low.ensures)

pub returns-else-low-lt64 : goal.returns-else-low-lt64
returns-else-low-lt64 c = later-none c.args.left (omega (arith, c.ranges)) (omega (arith, c.if-low-lt64.false, c.lowest-low.ensures))
