-- `lining::later_said` meets its contract: a later round.
use Rattle.std.specs.Prelude.{Ok, Err}
use Rattle.rounds.proofs.Turning.{armed, done, fired-posed, later-closes, later-rests, later-told}
use Rattle.lining.proofs.later_said.Goals as goal

pub shoot-requires : goal.shoot-requires
shoot-requires c = armed _ _ _ c.requires.1

pub close_said-requires : goal.close_said-requires
close_said-requires c = (c.requires.0, fired-posed _ c.args.s _ c.requires.1 _ _ c.in-Ok.ensures _ _ _ c.in-Fired.is)

pub returns-in-Ok-2 : goal.returns-in-Ok-2
returns-in-Ok-2 c = later-closes _ c.args.s _ c.requires.1 _ _ c.in-Ok.ensures _ _ _ c.in-Fired.is _ _ _ (Ok _) _ _ _
    (rw c.in-Ok-2.is at c.in_ok-next-in-Fired.ensures)

pub returns-in-Err-2 : goal.returns-in-Err-2
returns-in-Err-2 c = later-closes _ c.args.s _ c.requires.1 _ _ c.in-Ok.ensures _ _ _ c.in-Fired.is _ _ _ (Err _) _ _ _
    (rw c.in-Err-2.is at c.in_ok-next-in-Fired.ensures)

pub returns-in_err-next-in-Fired : goal.returns-in_err-next-in-Fired
returns-in_err-next-in-Fired c =
    let w = c.in_err-next-in-Fired.ensures in
    rw c.from_residual.ensures (done w.0, later-closes _ c.args.s _ c.requires.1 _ _ c.in-Ok.ensures _ _ _ c.in-Fired.is _ _ _ w.0 _ _ _ w.1)

pub returns-in-Quiet : goal.returns-in-Quiet
returns-in-Quiet c = later-rests _ c.args.s _ c.requires.1 _ _ _ _ c.requires.0 _ c.in-Ok.ensures c.in-Quiet.is

pub returns-in-Err : goal.returns-in-Err
returns-in-Err c = later-told _ c.args.s _ c.requires.1 _ _ _ _ c.requires.0 _ c.in-Err.ensures
