-- `simulate::play` meets its contract.
use mathlib.Core.Path.{refl}
use Rattle.laws.proofs.Exits.{handed-on}
use Rattle.simulation.specs.Simulate.{no_values, none_taken}
use Rattle.simulate.proofs.Called.{put-out, put-none}
use Rattle.simulate.proofs.play.Goals as goal

pub run-requires : goal.run-requires
unfolding no_values
run-requires c = (c.requires.0, record { at_count = c.requires.1; used-count = refl }, refl)

pub returns-in_err-r : goal.returns-in_err-r
unfolding none_taken
returns-in_err-r c = rw (handed-on _ c.from_residual.ensures.1) (put-none _ _ _ _ _ _ _ c.in_err-r.ensures)

pub returns : goal.returns
unfolding none_taken
returns c = put-out _ _ _ _ _ _ _ c.in_ok-r.ensures _ c.declared.ensures _ c.put.ensures
