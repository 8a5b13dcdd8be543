-- What each turn of the loop of `writing::put_acts` keeps.
use mathlib.Core.Path.{◌≡◌}
use Prim.Native.Nat.{◌-◌, ◌≤◌}
use Rattle.print.proofs.LaidLaws.{Left}
use Rattle.laws.specs.Fold.{spread}
use Rattle.answer.specs.Limits.{max_actions}
use Rattle.model.specs.Text.{act_part}
use Rattle.layout.specs.Image.{comp_of}
use Rattle.model.specs.Model.{acts as acts_of}
use Rattle.measure.specs.Measure.{act_lines}
use Rattle.writing.proofs.put_acts.Given as goal

abbrev pub invariant-loop-a : goal.invariant-loop-a
invariant-loop-a l = (l.a ≤ max_actions) × (l.acts ≡ acts_of (comp_of l.t l.i))
    × Left l.initial.out l.at (act_lines (comp_of l.t l.i)) l.out l.next (spread (act_part (comp_of l.t l.i)) l.a (max_actions - l.a))

abbrev pub decreases-loop-a : goal.decreases-loop-a
decreases-loop-a l = max_actions - l.a
