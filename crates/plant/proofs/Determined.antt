-- The contract of `read_tree` fixes its answer and the table.
use mathlib.Core.Path.{◌≡◌, sym, ◌∙◌}
use mathlib.Core.List.{List}
use Prim.Native.Nat.{ℕ}
use Rattle.answer.specs.Told.{done_of}
use Rattle.answer.specs.Told.{Checked}
use Rattle.plant.specs.ReadTreeCall.{ReadTreeCall, read_tree_on}
use Rattle.answer.proofs.SaysFixes.{checked-fixed}

pub read-tree-determined : (t old new₁ new₂ : List ℕ) (r₁ r₂ : Checked) → ReadTreeCall t old new₁ r₁ → ReadTreeCall t old new₂ r₂ → (new₁ ≡ new₂) × (r₁ ≡ r₂)
read-tree-determined t old new₁ new₂ r₁ r₂ a b = (a.table ∙ sym b.table, checked-fixed r₁ r₂ (done_of (read_tree_on t old)) a.answer b.answer)
