-- `floodneedle::floodneedle_simulate_drawn` meets its contract: words, state and clock values are those of the call.
use Rattle.floodneedle.proofs.Tells.{simulation-told}
use Rattle.floodneedle.proofs.floodneedle_simulate_drawn.Goals as goal

pub returns : goal.returns
returns c = let call = c.simulate_drawn-r in
    let left = c.simulated_places.ensures in
    simulation-told _ _ call.result _ _ _ call.ensures left c.ended_words.ensures
