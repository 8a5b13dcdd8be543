-- What each turn of the loop of `writing::write_text` keeps.
use Prim.Native.Nat.{◌-◌}
use Rattle.print.proofs.LaidLaws.{Left}
use Rattle.laws.specs.Fold.{tab}
use Rattle.model.specs.Text.{text_of}
use Rattle.layout.specs.Image.{comp_of, model_of}
use Rattle.writing.proofs.write_text.Given as goal

abbrev pub invariant-loop-i : goal.invariant-loop-i
invariant-loop-i l = Left l.initial.out 0 (text_of (model_of l.t)) l.out l.next (text_of (tab (comp_of l.t) l.i (l.count - l.i)))

abbrev pub decreases-loop-i : goal.decreases-loop-i
decreases-loop-i l = l.count - l.i
