-- What each turn of the loop of `table::states_climb` keeps.
use mathlib.Core.Path.{◌≡◌}
use Prim.Native.Nat.{◌-◌}
use Rattle.laws.specs.Fold.{all}
use Rattle.layout.specs.Layout.{block_word}
use Rattle.table.specs.Rows.{state_climbs}
use Rattle.table.proofs.states_climb.Given as goal

abbrev pub invariant-loop-s : goal.invariant-loop-s
invariant-loop-s l = all (state_climbs l.t l.i) l.s l.states ≡ all (state_climbs l.t l.i) 0 (block_word l.t l.i 0)

abbrev pub decreases-loop-s : goal.decreases-loop-s
decreases-loop-s l = l.states - l.s
