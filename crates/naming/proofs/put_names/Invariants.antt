-- What each turn of the loop of `naming::put_names` keeps.
use mathlib.Core.List.{List}
use Prim.Native.Nat.{ℕ, ◌-◌, ◌≤◌}
use Rattle.answer.specs.Limits.{max_actions}
use Rattle.print.specs.Put.{Room, Put}
use Rattle.named.specs.NamedText.{defaults, sheet_text}
use Rattle.naming.proofs.put_names.Given as goal

abbrev pub below : ℕ → ℕ → List ℕ
below set a = sheet_text (defaults set a)

pub record Going (old : List ℕ) (to set : ℕ) (out : List ℕ) (a next : ℕ) : Type 0 where
  pub most : a ≤ max_actions
  pub room : Room old to (below set max_actions)
  pub put : Put old to (below set a) out next

abbrev pub invariant-loop-a : goal.invariant-loop-a
invariant-loop-a l = Going l.initial.out l.to l.set l.out l.a l.next

abbrev pub decreases-loop-a : goal.decreases-loop-a
decreases-loop-a l = max_actions - l.a
