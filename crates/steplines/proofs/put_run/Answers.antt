-- `steplines::put_run` meets its contract: the lines printed, before what is left of the run, are the lines of the run.
use mathlib.Core.Path.{◌≡◌}
use native.Mathlib.Omega.{arith}
use borrow.Author.Rules.{rules}
use Rattle.moves.proofs.Ready.{count-few}
use Rattle.print.proofs.LaidLaws.{left-last, last-room}
use Rattle.steplines.proofs.Rest.{Tells, begins, ends-stable, ends-unsettled, step_room, step-told, next-reached}
use Rattle.steplines.proofs.put_run.Goals as goal
use Rattle.steplines.proofs.put_run.Goals.{After-loop-steps}

pub loop-steps-init : goal.loop-steps-init
loop-steps-init c = begins _ _ _ _ c.requires.0 (search rules) c.requires.1 c.requires.2

pub lowest_all-a-requires : goal.lowest_all-a-requires
lowest_all-a-requires c = c.loop-steps.invariant.reached.standing

pub put_last-requires : goal.put_last-requires
put_last-requires c = (
  omega (arith, count-few _ _ c.loop-steps.invariant.reached.standing),
  last-room (ends-stable c.requires.0.conforming c.requires.0.joinable c.loop-steps.invariant c.lowest_all-a.result
      c.lowest_all-a.ensures c.if-a.true),
)

pub returns-then-a : goal.returns-then-a
returns-then-a c = left-last (ends-stable c.requires.0.conforming c.requires.0.joinable c.loop-steps.invariant c.lowest_all-a.result
    c.lowest_all-a.ensures c.if-a.true) c.put_last.ensures

pub move_all-m-requires : goal.move_all-m-requires
move_all-m-requires c = c.loop-steps.invariant.reached.standing

pub overflow_add-steps : goal.overflow_add-steps
overflow_add-steps c = omega (arith, c.loop-steps-test.true, c.requires.1)

pub put_step-at-requires : goal.put_step-at-requires
put_step-at-requires c = (
  omega (
    arith,
    count-few _ _ (next-reached c.requires.0.conforming c.requires.0.joinable c.loop-steps.invariant c.lowest_all-a.result
        c.lowest_all-a.ensures c.loop-steps-test.true c.if-a.false c.move_all-m.result.state
        c.move_all-m.result.resets c.move_all-m.ensures.1 c.move_all-m.ensures.0).standing,
  ),
  step_room c.requires.0.conforming c.requires.0.joinable c.loop-steps.invariant c.lowest_all-a.result c.lowest_all-a.ensures
      c.loop-steps-test.true c.if-a.false c.move_all-m.result.state
      c.move_all-m.result.resets c.move_all-m.ensures.1 c.move_all-m.ensures.0,
)

pub loop-steps-preserved : goal.loop-steps-preserved
loop-steps-preserved c = step-told c.requires.0.conforming c.requires.0.joinable c.loop-steps.invariant c.lowest_all-a.result
    c.lowest_all-a.ensures c.loop-steps-test.true c.if-a.false c.move_all-m.result.state
    c.move_all-m.result.resets c.move_all-m.ensures.1 c.move_all-m.ensures.0 _ c.union-resets.ensures
    c.put_step-at.ensures

pub lowest_all-a-requires-2 : goal.lowest_all-a-requires-2
lowest_all-a-requires-2 c = c.loop-steps.invariant.reached.standing

-- as many steps as the budget has
told : (c : After-loop-steps)
    → Tells c.args.t.now c.args.budget c.args.x c.args.out.now c.loop-steps.cur c.loop-steps.resets c.args.budget c.loop-steps.out c.loop-steps.at
told c = let e : c.loop-steps.steps ≡ c.args.budget = omega arith in rw e at c.loop-steps.invariant

pub put_last-requires-then-a-2 : goal.put_last-requires-then-a-2
put_last-requires-then-a-2 c = let v = told (goal.at.put_last-requires-then-a-2 c).After-loop-steps in (
  omega (arith, count-few _ _ v.reached.standing),
  last-room (ends-stable c.requires.0.conforming c.requires.0.joinable v c.lowest_all-a-2.result c.lowest_all-a-2.ensures c.if-a-2.true),
)

pub returns-then-a-2 : goal.returns-then-a-2
returns-then-a-2 c = let v = told (goal.at.returns-then-a-2 c).After-loop-steps in
    left-last (ends-stable c.requires.0.conforming c.requires.0.joinable v c.lowest_all-a-2.result c.lowest_all-a-2.ensures c.if-a-2.true)
    c.put_last-then-a-2.ensures

pub put_last-requires-2 : goal.put_last-requires-2
put_last-requires-2 c = let v = told (goal.at.put_last-requires-2 c).After-loop-steps in (
  omega (arith, count-few _ _ v.reached.standing),
  last-room (ends-unsettled c.requires.0.conforming c.requires.0.joinable v c.lowest_all-a-2.result c.lowest_all-a-2.ensures (omega arith) c.if-a-2.false),
)

pub returns : goal.returns
returns c = let v = told (goal.at.returns c).After-loop-steps in
    left-last (ends-unsettled c.requires.0.conforming c.requires.0.joinable v c.lowest_all-a-2.result c.lowest_all-a-2.ensures (omega arith) c.if-a-2.false)
    c.put_last-2.ensures
