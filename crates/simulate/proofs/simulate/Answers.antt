-- `simulate::simulate` meets its contract: what `may_walk` refuses, and else what stands behind it.
use Rattle.laws.proofs.Exits.{handed-on}
use Rattle.simulation.specs.Call.{supplied, simulate_text}
use Rattle.simulate.proofs.Called.{refused-before, runnable, goes_on}
use Rattle.simulate.proofs.simulate.Goals as goal

pub returns-in_err-may_walk : goal.returns-in_err-may_walk
unfolding simulate_text
returns-in_err-may_walk c = let text = c.args.samples.now in
    rw (handed-on _ c.from_residual.ensures.1) (refused-before _ (λ m. supplied m text) _ _ _ c.may_walk.ensures _ c.in_err-may_walk.was)

pub play_text-requires : goal.play_text-requires
play_text-requires c = runnable _ _ c.may_walk.ensures c.in_ok-may_walk.was

pub returns : goal.returns
unfolding simulate_text
returns c = let text = c.args.samples.now in
    goes_on _ (λ m. supplied m text) _ _ _ c.may_walk.ensures c.in_ok-may_walk.was _ _ c.play_text.ensures
