-- `explain` and `explain_table` by their cases: refused, and bytes put at the front; and a table's model by what `accept` says.
use mathlib.Core.Path.{◌≡◌, refl, sym, ◌∙◌, ap, subst}
use mathlib.Core.Option.{none, some}
use mathlib.Core.List.{List, [], ◌∷◌, ◌++◌}
use Prim.Native.Nat.{ℕ, ◌+◌, ◌≤◌, ◌<◌}
use native.Mathlib.Omega.{arith}
use lib.ListN.{length, drop}
use borrow.Author.Tests.{lt-ltb, le-ltb}
use Rattle.answer.specs.Told.{Told, tell, told, Answer, answered, refused, as_refused, says_checked, says_written}
use Rattle.answer.specs.declared.Refusal.{Refusal}
use Rattle.answer.specs.declared.Place.TheVariants.{Bytes}
use Rattle.answer.specs.Told.{Written}
use Rattle.std.specs.Prelude.{Ok, Err}
use Rattle.model.specs.Model.{Model}
use Rattle.model.specs.Reading.{read_of}
use Rattle.iosa.specs.Step.{unless}
use Rattle.iosa.specs.Checks.{accept_of}
use Rattle.layout.specs.Image.{Image, model_of}
use Rattle.table.specs.OnTable.{check_on}
use Rattle.table.proofs.OnTableLaws.{on-image}
use Rattle.table.proofs.CheckedLaws.{refused-tells, call-refuses}
use Rattle.table.proofs.ImageExactly.{image-exactly}
use Rattle.print.specs.Put.{laid, Put}
use Rattle.tell.specs.Tell.{refused_text}
use Rattle.tell.proofs.TellLaws.{told_text}
use Rattle.whys.specs.Explanation.{explain_accepted, explain_model, explain_read, explanation_of}
use Rattle.explaining.specs.Longest.{explanation_bytes}
use Rattle.clashing.proofs.Meeting.{stands}
use Rattle.explain.specs.Explain.{in_room, explain_in, text_explained, table_explained, length_in, buffer_with, Puts}

-- ---- the two ways in which a buffer is left
refused-puts : (a : Answer (List ℕ)) (old : List ℕ) (q : Refusal) (f : Told) → told q ≡ some f → a ≡ refused f → Puts a old old (Err q)
unfolding says_written
refused-puts a old q f e x = record { answer = ap as_refused e ∙ ap (λ y. some (length_in y)) (sym x); buffer = sym (ap (λ y. buffer_with y old) x) }

at-the-front : (old bytes : List ℕ) → laid old 0 bytes ≡ bytes ++ drop (length bytes) old
unfolding laid
at-the-front old bytes = let e : 0 + length bytes ≡ length bytes = omega arith in ap (λ n. bytes ++ drop n old) e

module _ (old bytes : List ℕ) where
  pub too_short_lem : (r : Written) → length old < explanation_bytes → r ≡ Err (record { number = 24; place = Bytes explanation_bytes })
      → Puts (in_room (length old) bytes) old old r
  unfolding in_room told
  too_short_lem r h e =
      subst (Puts (in_room (length old) bytes) old old) (sym e)
      (refused-puts (in_room (length old) bytes) old _ (tell 24 (explanation_bytes ∷ [])) refl (rw (lt-ltb (length old) explanation_bytes h)))

  pub filled : (new : List ℕ) (n : ℕ) → explanation_bytes ≤ length old → Put old 0 bytes new n → Puts (in_room (length old) bytes) old new (Ok n)
  unfolding in_room says_written
  filled new n h p =
      let x : in_room (length old) bytes ≡ answered bytes = rw (le-ltb (length old) explanation_bytes h) in
      let e : n ≡ length bytes = omega (arith, p.place) in
      record {
        answer = ap (λ k. some (answered k)) e ∙ ap (λ y. some (length_in y)) (sym x);
        buffer = p.buffer ∙ at-the-front old bytes ∙ sym (ap (λ y. buffer_with y old) x);
      }

-- ---- a text
pub of-text : (text old new : List ℕ) (r : Written) → Puts (in_room (length old) (explanation_of text)) old new r → Puts (text_explained text old) old new r
unfolding text_explained
of-text text old new r p = p

pub unread-line : (text : List ℕ) (q : Refusal) (f : Told) → told q ≡ some f → read_of text ≡ refused f → refused_text q ≡ explanation_of text
unfolding explanation_of
unread-line text q f e h = told_text q f e ∙ sym (ap explain_read h)

pub read-lines : (text : List ℕ) (m : Model) → read_of text ≡ answered m → explain_model m ≡ explanation_of text
unfolding explanation_of
read-lines text m h = sym (ap explain_read h)

-- ---- a table
module _ (t : List ℕ) where
  pub unaccepted-line : Image t → (q : Refusal) → says_checked (Err q) ≡ some (check_on t accept_of) → refused_text q ≡ explain_model (model_of t)
  unfolding explain_model
  unaccepted-line im q e =
      let p = refused-tells t accept_of q e in
      let s = stands (accept_of (model_of t)) p.0 (sym (on-image t (λ m. unless (accept_of m) tt) ((image-exactly t).1 im)) ∙ p.2) in
      told_text q p.0 p.1 ∙ sym (ap (explain_accepted (model_of t)) s)

  module _ (old : List ℕ) where
    follows : (m : Model) (f : Told) → accept_of m ≡ some f → explain_in (length old) m ≡ refused f
    unfolding explain_in
    follows m f e = rw (e, explain_in)

    pub refused-before : (q : Refusal) → says_checked (Err q) ≡ some (check_on t accept_of) → Puts (table_explained t old) old old (Err q)
    unfolding table_explained
    refused-before q e =
        let p = refused-tells t accept_of q e in
        refused-puts (table_explained t old) old q p.0 p.1 (call-refuses t accept_of (explain_in (length old)) follows p.0 p.2)

    on-accepted : Image t → accept_of (model_of t) ≡ none → in_room (length old) (explain_model (model_of t)) ≡ table_explained t old
    unfolding table_explained explain_in
    on-accepted im ok = sym (on-image t (explain_in (length old)) ((image-exactly t).1 im) ∙ rw (ok, explain_in))

    pub of-table : (new : List ℕ) (r : Written) → Image t → accept_of (model_of t) ≡ none
        → Puts (in_room (length old) (explain_model (model_of t))) old new r → Puts (table_explained t old) old new r
    of-table new r im ok p = subst (λ a. Puts a old new r) (on-accepted im ok) p
