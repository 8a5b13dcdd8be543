-- What each turn of the loop of `measure::text_length` keeps.
use mathlib.Core.Path.{◌≡◌}
use Prim.Native.Nat.{◌+◌, ◌-◌}
use lib.ListN.{length}
use Rattle.laws.specs.Fold.{tab}
use Rattle.model.specs.Text.{text_of}
use Rattle.layout.specs.Image.{comp_of, model_of}
use Rattle.measure.proofs.text_length.Given as goal

abbrev pub invariant-loop-i : goal.invariant-loop-i
invariant-loop-i l = l.sum + length (text_of (tab (comp_of l.t) l.i (l.count - l.i))) ≡ length (text_of (model_of l.t))

abbrev pub decreases-loop-i : goal.decreases-loop-i
decreases-loop-i l = l.count - l.i
