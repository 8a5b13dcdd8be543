-- What each turn of the loop of `request::more_parts` keeps.
use Prim.Native.Nat.{◌-◌}
use lib.ListN.{length}
use Rattle.request.specs.Kept.{with_all}
use Rattle.fields.proofs.Gather.{Gathered}
use Rattle.request.proofs.more_parts.Given as goal

abbrev pub invariant-loop-at : goal.invariant-loop-at
invariant-loop-at l = Gathered with_all l.text l.initial.cur l.initial.at l.cur l.at

abbrev pub decreases-loop-at : goal.decreases-loop-at
decreases-loop-at l = length l.text - l.at
