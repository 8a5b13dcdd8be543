-- `rounds::later` meets its contract.
use Rattle.std.specs.Prelude.{Ok, Err}
use Rattle.laws.proofs.Exits.{handed-on}
use Rattle.rounds.proofs.Turning.{armed, fired-posed, later-closes, later-rests, later-told}
use Rattle.rounds.proofs.later.Goals as goal

pub shoot-requires : goal.shoot-requires
shoot-requires c = armed _ _ _ c.requires.1

pub returns-in_err-shot : goal.returns-in_err-shot
returns-in_err-shot c = rw (handed-on _ c.from_residual.ensures.1) (later-told _ c.args.s _ c.requires.1 _ _ _ _ c.requires.0 _ c.in_err-shot.ensures)

pub close-requires : goal.close-requires
close-requires c = (c.requires.0, fired-posed _ c.args.s _ c.requires.1 _ _ c.in_ok-shot.ensures _ _ _ c.in-Fired.is)

pub returns-in_err-next-in-Fired : goal.returns-in_err-next-in-Fired
returns-in_err-next-in-Fired c = rw (handed-on _ c.from_residual-in_err-next-in-Fired.ensures.1)
    (later-closes _ c.args.s _ c.requires.1 _ _ c.in_ok-shot.ensures _ _ _ c.in-Fired.is _ _ _ (Err _) _ _ _ c.in_err-next-in-Fired.ensures)

pub returns-in_ok-next-in-Fired : goal.returns-in_ok-next-in-Fired
returns-in_ok-next-in-Fired c = later-closes _ c.args.s _ c.requires.1 _ _ c.in_ok-shot.ensures _ _ _ c.in-Fired.is _ _ _
    (Ok _) _ _ _ c.in_ok-next-in-Fired.ensures

pub returns-in-Quiet : goal.returns-in-Quiet
returns-in-Quiet c = later-rests _ c.args.s _ c.requires.1 _ _ _ _ c.requires.0 _ c.in_ok-shot.ensures c.in-Quiet.is
