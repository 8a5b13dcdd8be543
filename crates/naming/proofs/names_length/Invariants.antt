-- What each turn of the loop of `naming::names_length` keeps.
use mathlib.Core.Path.{◌≡◌}
use Prim.Native.Nat.{◌-◌, ◌*◌, ◌≤◌}
use lib.ListN.{length}
use Rattle.answer.specs.Limits.{max_actions}
use Rattle.named.specs.NamedText.{defaults, sheet_text}
use Rattle.naming.proofs.names_length.Given as goal

abbrev pub invariant-loop-a : goal.invariant-loop-a
invariant-loop-a l = (l.a ≤ max_actions) × (l.sum ≡ length (sheet_text (defaults l.set l.a))) × (l.sum ≤ 18 * l.a)

abbrev pub decreases-loop-a : goal.decreases-loop-a
decreases-loop-a l = max_actions - l.a
