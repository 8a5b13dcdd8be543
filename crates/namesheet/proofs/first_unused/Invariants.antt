-- What each turn of the loop of `namesheet::first_unused` keeps.
use Prim.Native.Nat.{◌-◌, ◌≤◌}
use Rattle.answer.specs.Limits.{max_actions}
use Rattle.namelaws.proofs.PlaceLaws.{Searched}
use Rattle.namesheet.proofs.first_unused.Given as goal

abbrev pub invariant-loop-a : goal.invariant-loop-a
invariant-loop-a l = (l.a ≤ max_actions) × Searched l.declared l.places l.a l.line

abbrev pub decreases-loop-a : goal.decreases-loop-a
decreases-loop-a l = max_actions - l.a
