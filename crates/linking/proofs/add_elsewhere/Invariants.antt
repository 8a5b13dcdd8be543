-- What each turn of the loop of `linking::add_elsewhere` keeps.
use mathlib.Core.Path.{◌≡◌}
use mathlib.Core.List.{List}
use Prim.Native.Nat.{ℕ, ◌-◌, ◌≤◌}
use lib.ListN.{length}
use Rattle.laws.specs.Sets.{◌∖◌, only}
use Rattle.laws.specs.Fold.{over}
use Rattle.answer.specs.Limits.{max_actions}
use Rattle.layout.specs.Image.{model_of}
use Rattle.triggering.specs.Test.{crossed, own_of, sharing}
use Rattle.linking.proofs.add_elsewhere.Given as goal

abbrev pub adds : List ℕ → List ℕ → ℕ → List ℕ → List ℕ
adds t K = λ a. crossed (only a) (sharing K a ∖ own_of (model_of t) a)

abbrev pub invariant-loop-a : goal.invariant-loop-a
invariant-loop-a l = (l.a ≤ max_actions) × (length l.table ≡ max_actions)
    × (over (adds l.t l.wakers) l.a max_actions l.table ≡ over (adds l.t l.wakers) 0 max_actions l.initial.table)

abbrev pub decreases-loop-a : goal.decreases-loop-a
decreases-loop-a l = max_actions - l.a
