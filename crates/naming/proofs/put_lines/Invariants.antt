-- What each turn of the loop of `naming::put_lines` keeps.
use mathlib.Core.List.{List}
use Prim.Native.Nat.{ℕ, ◌-◌, ◌≤◌}
use lib.ListN.{length}
use Rattle.print.proofs.LaidLaws.{Left}
use Rattle.naminglaws.specs.Naming.{entries_at, default_lines}
use Rattle.naming.proofs.put_lines.Given as goal

-- the place is in the text, and the lines from it on are left
pub record Going (old : List ℕ) (to : ℕ) (text : List ℕ) (out : List ℕ) (at next : ℕ) : Type 0 where
  pub inside : at ≤ length text
  pub left : Left old to (default_lines (entries_at text 0)) out next (default_lines (entries_at text at))

abbrev pub invariant-loop-at : goal.invariant-loop-at
invariant-loop-at l = Going l.initial.out l.to l.text l.out l.at l.next

abbrev pub decreases-loop-at : goal.decreases-loop-at
decreases-loop-at l = length l.text - l.at
