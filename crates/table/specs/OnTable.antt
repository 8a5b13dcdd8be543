-- A call on a table (01, "Refusal numbers"): "Tables: 20; then ..".
use Rattle.std.specs.Prelude.{true, false, List, ℕ}
use Rattle.std.proofs.Math.Option.{Option}
use Rattle.answer.specs.Told.{Told, Answer, refused}
use Rattle.model.specs.Model.{Model}
use Rattle.iosa.specs.Step.{unless}
use Rattle.layout.specs.Image.{model_of, no_image}
use Rattle.table.specs.IsImage.{is_image}

-- 20 where the table is no image, else what f answers of its model
unfoldable pub on_table : {A : Type 0} → List ℕ → (Model → Answer A) → Answer A
on_table t f = elim (is_image t) [ true ↦ f (model_of t) | false ↦ refused no_image ]

-- a check of the table's model: 20, what stands in the model's way, or nothing
abbrev pub check_on : List ℕ → (Model → Option Told) → Answer (Unit {0})
check_on t check = on_table t (λ m. unless (check m) tt)
