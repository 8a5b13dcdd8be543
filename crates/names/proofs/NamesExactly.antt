-- The answer of old to new is the refusal of the text, or the text of its model with the default names.
use mathlib.Core.Path.{◌≡◌, refl, sym, subst}
use mathlib.Core.Logic.{◌↔◌}
use mathlib.Core.List.{List}
use Prim.Native.Nat.{ℕ}
use Rattle.answer.specs.Told.{Told, Answer, answered, refused}
use Rattle.answer.specs.Told.{Written}
use Rattle.model.specs.Model.{Model}
use Rattle.model.specs.Reading.{read_of}
use Rattle.model.proofs.Reading.ReadOfText.{read-exactly}
use Rattle.answering.proofs.Answers.Texts.{read-text-exactly}
use Rattle.named.specs.NamedText.{text_named, defaults_of}
use Rattle.named.specs.Converted.{to_names, Converts}
use Rattle.names.specs.NamesExactly.{NamesAnswer, is-unread, is-named, NamesExactly}
use Rattle.names.proofs.Fitted.{converts-exactly}

names-refused : (t : List ℕ) (f : Told) → read_of t ≡ refused f → to_names t ≡ refused f
unfolding to_names
names-refused t f e = rw (e, to_names)

names-answered : (t : List ℕ) (m : Model) → read_of t ≡ answered m → to_names t ≡ answered (text_named (defaults_of m) m)
unfolding to_names
names-answered t m e = rw (e, to_names)

pub to-names-exactly : (t : List ℕ) (a : Answer (List ℕ)) → (to_names t ≡ a) ↔ NamesAnswer t a
to-names-exactly t a = (λ e. subst (NamesAnswer t) e (there (read_of t) refl), back)
  where
    there : (o : Answer Model) → read_of t ≡ o → NamesAnswer t (to_names t)
    there (refused f) e = subst (NamesAnswer t) (sym (names-refused t f e)) (is-unread ((read-text-exactly t (refused f)).0 e))
    there (answered m) e = let p = (read-exactly t m).0 e in subst (NamesAnswer t) (sym (names-answered t m e)) (is-named p.0 p.1)

    back : {b : Answer (List ℕ)} → NamesAnswer t b → to_names t ≡ b
    back (is-unread {f = f} x) = names-refused t f ((read-text-exactly t (refused f)).1 x)
    back (is-named {m = m} w e) = names-answered t m ((read-exactly t m).1 (w, e))

pub to_names-answers-exactly : (t old new : List ℕ) (r : Written) → Converts (to_names t) old new r ↔ NamesExactly t old new r
to_names-answers-exactly t old new r = converts-exactly (to_names t) (NamesAnswer t) (to-names-exactly t) old new r
