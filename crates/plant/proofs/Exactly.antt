-- The contract of `read_tree` says exactly what is said of trees as they are drawn.
use mathlib.Core.Path.{◌≡◌, refl, sym, ◌∙◌, ap, subst}
use mathlib.Core.Logic.{◌↔◌}
use mathlib.Core.Bool.{Bool, true, false}
use mathlib.Core.List.{List}
use Prim.Native.Nat.{ℕ}
use lib.ListN.{length}
use lib.Dec.{ltb}
use Rattle.laws.specs.Search.{when}
use Rattle.answer.specs.Told.{Answer, answered, refused}
use Rattle.answer.specs.Told.{Checked}
use Rattle.model.specs.Model.{Model}
use Rattle.iosa.specs.InOrder.{◌▹◌, refuses, passes, Gives, room}
use Rattle.iosa.proofs.Settling.Called.{no_answer, same_answer}
use Rattle.answering.proofs.Answers.InOrder.{refused_or, check-exactly, gives-exactly, leaves-exactly}
use Rattle.layout.specs.Layout.{image_words}
use Rattle.layout.specs.Lent.{table_too_short}
use Rattle.layout.specs.OnImage.{FillsTable, bytes_of, image_bytes}
use Rattle.table.proofs.OnImageExactly.{table-room-decided}
use Rattle.reading.specs.Read.{room_for}
use Rattle.trees.specs.TreeFaults.{TreeAnswer}
use Rattle.trees.specs.ReadTree.{read_tree_of}
use Rattle.trees.proofs.Answers.{tree-answers-exactly}
use Rattle.plant.specs.ReadTreeCall.{read_tree_on, ReadTreeCall}
use Rattle.plant.specs.TreeExactly.{drawable, ReadTreeAnswer, ReadTreeExactly}

module _ (t old : List ℕ) where
  abbrev After : Answer Model → Type 0
  After = room image_bytes (bytes_of old) ▹ Gives (λ m. TreeAnswer t (answered m))

  -- 24 is asked of a table once there is a model for it
  roomy : (m : Model) → room_for (length old) (answered m) ≡ refused_or (when (ltb (length old) image_words) table_too_short) (answered m)
  roomy m = go (ltb (length old) image_words) refl
    where
      go : (b : Bool) → ltb (length old) image_words ≡ b → room_for (length old) (answered m) ≡ refused_or (when b table_too_short) (answered m)
      go true e = rw (e, room_for)
      go false e = rw (e, room_for)

  of-text : (v : Answer Model) → read_tree_of t ≡ v → (a : Answer Model) → (room_for (length old) v ≡ a) ↔ ReadTreeAnswer t image_bytes (bytes_of old) a
  of-text (refused f) h a = (λ e. subst (drawable t ▹ After) e (refuses ((tree-answers-exactly t (refused f)).0 h)), back)
    where
      back : {a : Answer Model} → (drawable t ▹ After) a → refused f ≡ a
      back (refuses r) = sym h ∙ (tree-answers-exactly t _).1 r
      back (passes p r) = absurd (no_answer (sym h ∙ (tree-answers-exactly t (answered p.0)).1 p.1))
  of-text (answered m) h a = (λ e. passes (m, (tree-answers-exactly t (answered m)).0 h) ((next a).0 (sym (roomy m) ∙ e)), back)
    where
      next : (a : Answer Model) → (refused_or (when (ltb (length old) image_words) table_too_short) (answered m) ≡ a) ↔ After a
      next = check-exactly (room image_bytes (bytes_of old)) _ (table-room-decided old) (answered m) (Gives (λ n. TreeAnswer t (answered n))) (λ p.
          gives-exactly m (λ n. TreeAnswer t (answered n)) (λ n. (
            λ e. (tree-answers-exactly t (answered n)).0 (h ∙ ap answered e),
            λ r. same_answer (sym h ∙ (tree-answers-exactly t (answered n)).1 r),
          )))

      back : {a : Answer Model} → (drawable t ▹ After) a → room_for (length old) (answered m) ≡ a
      back (refuses r) = absurd (no_answer (sym ((tree-answers-exactly t _).1 r) ∙ h))
      back (passes {a = b} p r) = roomy m ∙ (next b).1 r

  pub read-tree-answers-exactly : (new : List ℕ) (r : Checked) → ReadTreeCall t old new r ↔ ReadTreeExactly t old new r
  unfolding read_tree_on
  read-tree-answers-exactly new r =
      let e = leaves-exactly (read_tree_on t old) (ReadTreeAnswer t image_bytes (bytes_of old)) (FillsTable old new r) (of-text (read_tree_of t) refl) in
      (λ g. e.0 (record { answer = g.answer; table = g.table }), λ g. let l = e.1 g in record { answer = l.answer; table = l.table })
