-- The contracts of `read` and `write` say exactly what is said of the one text of a model.
use mathlib.Core.Path.{◌≡◌, refl, sym, ◌∙◌, ap, subst}
use mathlib.Core.Logic.{◌↔◌}
use mathlib.Core.Bool.{Bool, true, false}
use mathlib.Core.Option.{some}
use mathlib.Core.List.{List, [], ◌∷◌}
use Prim.Native.Nat.{ℕ}
use lib.ListN.{length}
use lib.Dec.{ltb}
use Rattle.laws.specs.Search.{when}
use Rattle.answer.specs.Told.{tell, Answer, answered, refused}
use Rattle.answer.specs.Told.{Checked}
use Rattle.answer.specs.Told.{Written}
use Rattle.model.specs.Model.{Comp, Model}
use Rattle.model.specs.Text.{text_of}
use Rattle.model.specs.WellFormed.{WellFormed}
use Rattle.model.specs.Reading.{read_of}
use Rattle.iosa.specs.InOrder.{◌▹◌, refuses, passes, Gives, room}
use Rattle.answering.specs.Answers.{ReadAnswer, readable, ReadCallAnswer, WriteAnswer}
use Rattle.iosa.specs.Lent.{Fills}
use Rattle.iosa.proofs.Settling.Called.{no_answer, same_answer}
use Rattle.answering.proofs.Answers.InOrder.{refused_or, check-exactly, gives-exactly, leaves-exactly, room-decided}
use Rattle.answering.proofs.Answers.Texts.{read-text-exactly}
use Rattle.layout.specs.Layout.{image_words}
use Rattle.layout.specs.Image.{model_of}
use Rattle.layout.specs.Lent.{table_too_short}
use Rattle.layout.specs.OnImage.{FillsTable, bytes_of, image_bytes}
use Rattle.table.specs.IsImage.{is_image}
use Rattle.table.specs.OnTable.{on_table}
use Rattle.table.proofs.OnTableLaws.{on-image, on-no-image}
use Rattle.table.proofs.OnImageExactly.{on-table-leaves, table-room-decided}
use Rattle.reading.specs.Read.{room_for, read_on, ReadCall}
use Rattle.text.specs.Write.{write_of, write_on, text_after, WriteCall}
use Rattle.text.specs.TextExactly.{ReadExactly, WriteExactly}
use Rattle.text.proofs.Filling.{length_in, filled_with, fills-exactly}

-- ---- reading
module _ (t old : List ℕ) where
  abbrev After : Answer Model → Type 0
  After = room image_bytes (bytes_of old) ▹ Gives (λ m. ReadAnswer t (answered m))

  -- 24 is asked of a table once there is a model for it
  roomy : (m : Model) → room_for (length old) (answered m) ≡ refused_or (when (ltb (length old) image_words) table_too_short) (answered m)
  roomy m = go (ltb (length old) image_words) refl
    where
      go : (b : Bool) → ltb (length old) image_words ≡ b → room_for (length old) (answered m) ≡ refused_or (when b table_too_short) (answered m)
      go true e = rw (e, room_for)
      go false e = rw (e, room_for)

  of-text : (v : Answer Model) → read_of t ≡ v → (a : Answer Model) → (room_for (length old) v ≡ a) ↔ ReadCallAnswer t image_bytes (bytes_of old) a
  of-text (refused f) h a = (λ e. subst (readable t ▹ After) e (refuses ((read-text-exactly t (refused f)).0 h)), back)
    where
      back : {a : Answer Model} → (readable t ▹ After) a → refused f ≡ a
      back (refuses r) = sym h ∙ (read-text-exactly t _).1 r
      back (passes p r) = absurd (no_answer (sym h ∙ (read-text-exactly t (answered p.0)).1 p.1))
  of-text (answered m) h a = (λ e. passes (m, (read-text-exactly t (answered m)).0 h) ((next a).0 (sym (roomy m) ∙ e)), back)
    where
      next : (a : Answer Model) → (refused_or (when (ltb (length old) image_words) table_too_short) (answered m) ≡ a) ↔ After a
      next = check-exactly (room image_bytes (bytes_of old)) _ (table-room-decided old) (answered m) (Gives (λ n. ReadAnswer t (answered n))) (λ p.
          gives-exactly m (λ n. ReadAnswer t (answered n)) (λ n. (
            λ e. (read-text-exactly t (answered n)).0 (h ∙ ap answered e),
            λ r. same_answer (sym h ∙ (read-text-exactly t (answered n)).1 r),
          )))

      back : {a : Answer Model} → (readable t ▹ After) a → room_for (length old) (answered m) ≡ a
      back (refuses r) = absurd (no_answer (sym ((read-text-exactly t _).1 r) ∙ h))
      back (passes {a = b} p r) = roomy m ∙ (next b).1 r

  pub read-answers-exactly : (new : List ℕ) (r : Checked) → ReadCall t old new r ↔ ReadExactly t old new r
  unfolding read_on
  read-answers-exactly new r =
      let e = leaves-exactly (read_on t old) (ReadCallAnswer t image_bytes (bytes_of old)) (FillsTable old new r) (of-text (read_of t) refl) in
      (λ g. e.0 (record { answer = g.answer; table = g.table }), λ g. let l = e.1 g in record { answer = l.answer; table = l.table })

-- ---- writing
-- the text, or 24
text_given : ℕ → Model → Answer (List ℕ)
text_given bytes m = refused_or (when (ltb bytes (length (text_of m))) (tell 24 (length (text_of m) ∷ []))) (answered (text_of m))

given-exactly : (bytes : ℕ) (c : Comp) (cs : List Comp) → WellFormed (c ∷ cs) → (a : Answer (List ℕ))
    → (text_given bytes (c ∷ cs) ≡ a) ↔ WriteAnswer bytes c cs a
unfolding text_given
given-exactly bytes c cs w a =
    let x = text_of (c ∷ cs) in
    check-exactly (room (length x) bytes) _ (room-decided (length x) bytes) (answered x) (Gives (λ text. text ≡ x)) (λ p.
    gives-exactly x (λ text. text ≡ x) (λ y. (sym, sym))) a

module _ (t old : List ℕ) where
  length-given : (m : Model) → write_of (length old) m ≡ length_in (text_given (length old) m)
  unfolding write_of text_given
  length-given m = go (ltb (length old) (length (text_of m))) refl
    where
      go : (b : Bool) → ltb (length old) (length (text_of m)) ≡ b
          → (elim b as (λ _. Answer ℕ) [ true ↦ refused (tell 24 (length (text_of m) ∷ [])) | false ↦ answered (length (text_of m)) ])
          ≡ length_in (refused_or (when b (tell 24 (length (text_of m) ∷ []))) (answered (text_of m)))
      go true e = refl
      go false e = refl

  on : Answer (List ℕ)
  on = on_table t (text_given (length old))

  length-on : write_on t old ≡ length_in on
  unfolding on
  length-on = go (is_image t) refl
    where
      go : (b : Bool) → is_image t ≡ b → on_table t (write_of (length old)) ≡ length_in (on_table t (text_given (length old)))
      go true e = on-image t (write_of (length old)) e ∙ length-given (model_of t) ∙ sym (ap length_in (on-image t (text_given (length old)) e))
      go false e = on-no-image t (write_of (length old)) e ∙ sym (ap length_in (on-no-image t (text_given (length old)) e))

  -- the bytes given are the text's
  filled_on : text_after (write_on t old) t old ≡ filled_with on old
  unfolding on text_given
  filled_on = go (is_image t) refl
    where
      given : (b : Bool) → text_after (length_in (refused_or (when b (tell 24 (length (text_of (model_of t)) ∷ []))) (answered (text_of (model_of t))))) t old
          ≡ filled_with (refused_or (when b (tell 24 (length (text_of (model_of t)) ∷ []))) (answered (text_of (model_of t)))) old
      given true = refl
      given false = refl

      go : (b : Bool) → is_image t ≡ b → text_after (write_on t old) t old ≡ filled_with (on_table t (text_given (length old))) old
      go true e =
          ap (λ a. text_after a t old) (on-image t (write_of (length old)) e ∙ length-given (model_of t))
          ∙ given (ltb (length old) (length (text_of (model_of t))))
          ∙ sym (ap (λ a. filled_with a old) (on-image t (text_given (length old)) e))
      go false e =
          ap (λ a. text_after a t old) (on-no-image t (write_of (length old)) e)
          ∙ sym (ap (λ a. filled_with a old) (on-no-image t (text_given (length old)) e))

  pub write-answers-exactly : (new : List ℕ) (r : Written) → WriteCall t old new r ↔ WriteExactly t old new r
  unfolding on
  write-answers-exactly new r =
      let e = on-table-leaves t (text_given (length old)) (WriteAnswer (length old)) (given-exactly (length old)) (Fills old new r) in
      let f = fills-exactly old new r on in (
        λ g. e.0 (f.0 (g.answer ∙ ap some length-on, g.buffer ∙ filled_on)),
        λ g. let p = f.1 (e.1 g) in record { answer = p.0 ∙ ap some (sym length-on); buffer = p.1 ∙ sym filled_on },
      )
