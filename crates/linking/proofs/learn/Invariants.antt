-- What each turn of the loop of `linking::learn` keeps.
use mathlib.Core.Path.{◌≡◌}
use Prim.Native.Nat.{◌-◌}
use lib.ListN.{length}
use Rattle.laws.specs.Fold.{over}
use Rattle.answer.specs.Limits.{max_actions}
use Rattle.layout.specs.Image.{comp_of}
use Rattle.leads.specs.Learning.{learn_in}
use Rattle.linking.proofs.learn.Given as goal

abbrev pub invariant-loop-i : goal.invariant-loop-i
invariant-loop-i l = (length l.table ≡ max_actions)
    × (over (λ i. learn_in l.kind (comp_of l.t i)) l.i l.n l.table ≡ over (λ i. learn_in l.kind (comp_of l.t i)) 0 l.n l.initial.table)

abbrev pub decreases-loop-i : goal.decreases-loop-i
decreases-loop-i l = l.n - l.i
