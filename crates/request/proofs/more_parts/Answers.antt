-- `request::more_parts` meets its contract. The loop's invariant: the state so far, with the numbers from here on, is the state of all.
use mathlib.Core.Path.{ap, ◌∙◌}
use native.Mathlib.Omega.{arith}
use Rattle.laws.proofs.Exits.{handed-on}
use Rattle.request.specs.Kept.{with_all, with, got_parts}
use Rattle.fields.proofs.Gather.{gathered_none, gathered-end, gathered-other, gathered-missing, gathered-less, gathered-more}
use Rattle.request.proofs.LineLaws.{nothing-more, one_more}
use Rattle.request.proofs.more_parts.Goals as goal

pub loop-at-init : goal.loop-at-init
loop-at-init c = gathered_none with with_all nothing-more one_more _ _ _

pub bounds-text-at : goal.bounds-text-at
bounds-text-at c = omega arith

pub returns-then-text-at-ne-COMMA : goal.returns-then-text-at-ne-COMMA
returns-then-text-at-ne-COMMA c =
    gathered-other with with_all nothing-more one_more _ _ _ _ _ c.loop-at.invariant c.loop-at-test.true c.if-text-at-ne-COMMA.true

pub overflow_add-at : goal.overflow_add-at
overflow_add-at c = omega arith

pub returns-in_err-next : goal.returns-in_err-next
returns-in_err-next c = ap (got_parts c.args.text.now) (handed-on _ c.from_residual.ensures.1)
    ∙ gathered-missing with with_all nothing-more one_more _ _ _ _ _ c.loop-at.invariant c.loop-at-test.true c.if-text-at-ne-COMMA.false _
    c.number.ensures _ c.in_err-next.was

pub loop-at-smaller : goal.loop-at-smaller
loop-at-smaller c = gathered-less with with_all nothing-more one_more _ _ _ _ _ c.loop-at.invariant c.loop-at-test.true
    c.if-text-at-ne-COMMA.false _ c.number.ensures _ _ c.in_ok-next.was

pub loop-at-preserved : goal.loop-at-preserved
loop-at-preserved c = gathered-more with with_all nothing-more one_more _ _ _ _ _ c.loop-at.invariant c.loop-at-test.true
    c.if-text-at-ne-COMMA.false _ c.number.ensures _ _ c.in_ok-next.was _ c.with_part-cur.ensures

pub returns : goal.returns
returns c = gathered-end with with_all nothing-more one_more _ _ _ _ _ c.loop-at.invariant c.loop-at-test.false
