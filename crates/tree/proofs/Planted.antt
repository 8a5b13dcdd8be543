-- What the program prints, by the ways in which reading a tree goes.
use mathlib.Core.Path.{◌≡◌, sym, ◌∙◌, ap}
use mathlib.Core.Option.{some}
use mathlib.Core.List.{List}
use Prim.Native.Nat.{ℕ, ◌≤◌}
use lib.ListN.{length}
use Rattle.answer.specs.Told.{Told, told, answered, refused}
use Rattle.answer.specs.Told.{Checked}
use Rattle.std.specs.Prelude.{Ok, Err}
use Rattle.answer.specs.declared.Refusal.{Refusal}
use Rattle.model.specs.Model.{Model}
use Rattle.model.specs.Text.{text_of}
use Rattle.answering.specs.Report.{refused_line}
use Rattle.layout.specs.Layout.{image_words}
use Rattle.layout.specs.Image.{Image, model_of}
use Rattle.layout.specs.OnImage.{FillsTable}
use Rattle.reading.specs.Read.{room_for}
use Rattle.trees.specs.ReadTree.{read_tree_of}
use Rattle.trees.proofs.TreeAccepted.{tree-accepted}
use Rattle.plant.specs.ReadTreeCall.{read_tree_on, ReadTreeCall}
use Rattle.printout.proofs.Leaving.{leaves-model, leaves-refusal}
use Rattle.tree.specs.Modelled.{model_text}

tree-refused : (input : List ℕ) (t : Told) → read_tree_of input ≡ refused t → model_text input ≡ refused_line t
unfolding model_text
tree-refused input t e = rw (e, model_text)

tree-fine : (input : List ℕ) (m : Model) → read_tree_of input ≡ answered m → model_text input ≡ text_of m
unfolding model_text
tree-fine input m e = rw (e, model_text)

module _ (input old new : List ℕ) (r : Checked) (e : ReadTreeCall input old new r) (h : image_words ≤ length old) where
  fills : FillsTable old new r (room_for (length old) (read_tree_of input))
  unfolding read_tree_on
  fills = record { answer = e.answer; table = e.table }

  pub fine-tree : r ≡ (Ok tt) → Image new × (text_of (model_of new) ≡ model_text input)
  fine-tree f =
      let p = leaves-model (read_tree_of input) (λ m q. (tree-accepted input m q).well-formed) old new r fills h f in
      (p.2, ap text_of p.3 ∙ sym (tree-fine input p.0 p.1))

  pub refused-tree : (g : Refusal) → r ≡ Err g → (t : Told) × (told g ≡ some t) × (model_text input ≡ refused_line t)
  refused-tree g f =
      let p = leaves-refusal (read_tree_of input) (λ m q. (tree-accepted input m q).well-formed) old new r fills h g f in
      (p.0, p.2, tree-refused input p.0 p.1)
