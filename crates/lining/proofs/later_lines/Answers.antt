-- `lining::later_lines` is safe and ends, and goes round by round as the definition does: what is left from here on is what is left from round 0 on.
use Rattle.rounds.proofs.Going.{going-none, going_more}
use Rattle.lining.proofs.later_lines.Goals as goal

pub loop-k-init : goal.loop-k-init
loop-k-init c = going-none _ _ _ _ _ _ _ c.requires.0 c.requires.1

pub later_said-requires : goal.later_said-requires
later_said-requires c = let l = c.loop-k in (l.invariant.placed, l.invariant.posed)

pub loop-k-preserved : goal.loop-k-preserved
loop-k-preserved c = going_more _ _ _ _ _ _ _ _ _ _ _ _ c.loop-k.invariant c.loop-k-test.true _ _ _ _ _
    (rw c.in-Some-turn.is at (rw c.in-Ok.is at c.in-Some.ensures))
