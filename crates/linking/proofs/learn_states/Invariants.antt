-- What each turn of the loop of `linking::learn_states` keeps.
use mathlib.Core.Path.{◌≡◌}
use Prim.Native.Nat.{◌-◌}
use lib.ListN.{length}
use Rattle.laws.specs.Fold.{over}
use Rattle.answer.specs.Limits.{max_actions}
use Rattle.leads.specs.Learning.{learn_state}
use Rattle.linking.proofs.learn_states.Given as goal

abbrev pub invariant-loop-s : goal.invariant-loop-s
invariant-loop-s l = (length l.table ≡ max_actions)
    × (over (λ s. learn_state l.t l.i s l.kind) l.s l.states l.table ≡ over (λ s. learn_state l.t l.i s l.kind) 0 l.states l.initial.table)

abbrev pub decreases-loop-s : goal.decreases-loop-s
decreases-loop-s l = l.states - l.s
