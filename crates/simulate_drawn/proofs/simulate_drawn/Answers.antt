-- `simulate_drawn::simulate_drawn` meets its contract: what `may_walk` refuses, and else what stands behind it.
use Rattle.laws.proofs.Exits.{handed-on}
use Rattle.drawing.specs.Call.{supplied_by, simulate_drawn}
use Rattle.simulate.proofs.Called.{refused-before, runnable, goes_on}
use Rattle.simulate_drawn.proofs.simulate_drawn.Goals as goal

pub returns-in_err-may_walk : goal.returns-in_err-may_walk
unfolding simulate_drawn
returns-in_err-may_walk c = let a = c.args in
    rw (handed-on _ c.from_residual.ensures.1)
    (refused-before _ (λ m. supplied_by m a.laws.now a.numbers.now) _ _ _ c.may_walk.ensures _ c.in_err-may_walk.was)

pub play_laws-requires : goal.play_laws-requires
play_laws-requires c = runnable _ _ c.may_walk.ensures c.in_ok-may_walk.was

pub returns : goal.returns
unfolding simulate_drawn
returns c = let a = c.args in
    goes_on _ (λ m. supplied_by m a.laws.now a.numbers.now) _ _ _ c.may_walk.ensures c.in_ok-may_walk.was _ _ c.play_laws.ensures
