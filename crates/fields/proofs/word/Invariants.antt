-- What each turn of the loop of `fields::word` keeps.
use mathlib.Core.Path.{◌≡◌}
use Prim.Native.Nat.{◌≤◌}
use lib.ListN.{length, drop}
use Rattle.model.specs.Reading.{exactly}
use Rattle.fields.proofs.word.Given as goal

abbrev pub invariant-loop-b : goal.invariant-loop-b
invariant-loop-b l = (l.b-index ≤ length l.w) × (exactly (drop l.b-index l.w) (drop l.at l.text) ≡ exactly l.w (drop l.initial.at l.text))
