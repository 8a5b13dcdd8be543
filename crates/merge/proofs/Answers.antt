-- The contract of `merge` says exactly what is said of the product of the two components.
use mathlib.Core.Logic.{◌↔◌}
use mathlib.Core.List.{List}
use Prim.Native.Nat.{ℕ}
use Rattle.answer.specs.Told.{Answer}
use Rattle.answer.specs.Told.{Checked}
use Rattle.model.specs.Model.{Comp, Model}
use Rattle.merged.specs.Merge.{merge_of}
use Rattle.iosa.specs.InOrder.{room}
use Rattle.answering.specs.Answers.{MergeCallAnswer}
use Rattle.answering.proofs.Answers.InOrder.{Decided}
use Rattle.answering.proofs.Answers.Merged.{merge-model-exactly}
use Rattle.layout.specs.OnImage.{FillsTable, bytes_of, image_bytes}
use Rattle.table.proofs.OnImageExactly.{on-table-leaves, table-room-decided}
use Rattle.merge.specs.Merging.{room_fault, merge_on, Merging}
use Rattle.merge.specs.MergeExactly.{MergeExactly}

room-decided : (was : List ℕ) → Decided (room image_bytes (bytes_of was)) (room_fault was)
unfolding room_fault
room-decided was = table-room-decided was

pub merge-answers-exactly : (t : List ℕ) (i : ℕ) (was : List ℕ) (r : Checked) (into : List ℕ) → Merging t i was r into ↔ MergeExactly t i was r into
unfolding merge_on
merge-answers-exactly t i was r into =
    let R : Comp → List Comp → Answer Model → Type 0 = λ c cs. MergeCallAnswer c cs i image_bytes (bytes_of was) in
    let e = on-table-leaves t (λ m. merge_of m i (room_fault was)) R
    (λ c cs w. merge-model-exactly c cs w i image_bytes (bytes_of was) (room_fault was) (room-decided was)) (FillsTable was into r) in
    (λ g. e.0 (record { answer = g.answer; table = g.table }), λ g. let l = e.1 g in record { answer = l.answer; table = l.table })
