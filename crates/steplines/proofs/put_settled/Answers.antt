-- `steplines::put_settled` meets its contract.
use mathlib.Core.Path.{sym}
use Rattle.answer.specs.State.{parts_of}
use Rattle.layout.specs.Image.{model_of}
use Rattle.settling.proofs.Begun.{begun}
use Rattle.tell.proofs.TellLaws.{put_as}
use Rattle.steplines.proofs.Refusals.{answer-22, answer-run}
use Rattle.steplines.proofs.put_settled.Goals as goal

pub returns-then-budget : goal.returns-then-budget
returns-then-budget c = let m = model_of c.args.t.now in
    let s = parts_of c.args.x in
    put_as (sym (answer-22 m s c.args.budget c.requires.1 c.requires.2 c.if-budget.true))
    c.put_whole.ensures

pub put_run-requires : goal.put_run-requires
put_run-requires c = (begun c.args.t.now c.args.x c.requires.0 c.requires.1 c.requires.2, c.if-budget.false, c.requires.3)

pub returns : goal.returns
returns c = let m = model_of c.args.t.now in
    let s = parts_of c.args.x in
    put_as (sym (answer-run m s c.args.budget c.requires.1 c.requires.2 c.if-budget.false))
    c.put_run.ensures
