-- `rounds::later_rounds` meets its contract: what is left from here on is what is left from round 0 on.
use Rattle.laws.proofs.Exits.{handed-on}
use Rattle.rounds.proofs.Going.{going-none, going_more, going-quiet, going-refused, going_end}
use Rattle.rounds.proofs.later_rounds.Goals as goal

pub loop-k-init : goal.loop-k-init
loop-k-init c = going-none _ _ _ _ _ _ _ c.requires.0 c.requires.1

pub later-requires : goal.later-requires
later-requires c = let l = c.loop-k in (l.invariant.placed, l.invariant.posed)

pub loop-k-preserved : goal.loop-k-preserved
loop-k-preserved c = going_more _ _ _ _ _ _ _ _ _ _ _ _ c.loop-k.invariant c.loop-k-test.true _ _ _ _ _ (rw c.in-Some.is at c.in_ok-next.ensures)

pub returns-in-None : goal.returns-in-None
returns-in-None c = going-quiet _ _ _ _ _ _ _ _ _ _ _ _ c.loop-k.invariant c.loop-k-test.true _ _ _ _ (rw c.in-None.is at c.in_ok-next.ensures)

pub returns-in_err-next : goal.returns-in_err-next
returns-in_err-next c = rw (handed-on _ c.from_residual.ensures.1)
    (going-refused _ _ _ _ _ _ _ _ _ _ _ _ c.loop-k.invariant c.loop-k-test.true _ _ _ _ _ c.in_err-next.ensures)

pub returns : goal.returns
returns c = going_end _ _ _ _ _ _ _ _ _ _ _ _ c.loop-k.invariant c.loop-k-test.false
