-- What each turn of the loop of `linking::add_led` keeps.
use mathlib.Core.Path.{◌≡◌}
use mathlib.Core.List.{List}
use Prim.Native.Nat.{ℕ, ◌-◌, ◌≤◌}
use lib.ListN.{length, get_or}
use Rattle.laws.specs.Fold.{over}
use Rattle.answer.specs.Limits.{max_actions}
use Rattle.triggering.specs.Test.{crossed, spread_by}
use Rattle.linking.proofs.add_led.Given as goal

abbrev pub adds : List ℕ → ℕ → List ℕ → List ℕ
adds L = λ a T. crossed (get_or L a 0) (spread_by L (get_or T a 0)) T

abbrev pub invariant-loop-a : goal.invariant-loop-a
invariant-loop-a l = (l.a ≤ max_actions) × (length l.table ≡ max_actions) × (over (adds l.lead) l.a max_actions l.table ≡ over (adds l.lead) 0 max_actions l.initial.table)

abbrev pub decreases-loop-a : goal.decreases-loop-a
decreases-loop-a l = max_actions - l.a
