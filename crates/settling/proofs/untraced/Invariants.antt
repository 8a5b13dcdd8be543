-- What each turn of the loop of `settling::untraced` keeps.
use mathlib.Core.Path.{◌≡◌}
use mathlib.Core.List.{List}
use Prim.Native.Nat.{ℕ}
use lib.ListN.{length, replicate}
use Rattle.answer.specs.Limits.{max_components}
use Rattle.moves.specs.Standing.{holding}
use Rattle.settling.proofs.Onward.{Runs}
use Rattle.settling.proofs.untraced.Given as goal

abbrev pub invariant-loop-taken : goal.invariant-loop-taken
invariant-loop-taken l = (length l.parts ≡ max_components) × (trace : List ℕ) × Runs l.t l.budget (holding l.n l.initial.parts) (replicate l.budget 0) (holding l.n l.parts) l.resets l.taken trace
