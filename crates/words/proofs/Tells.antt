-- What an answer says fixes its words.
use mathlib.Core.Path.{◌≡◌, refl, ◌∙◌, ap}
use mathlib.Core.Option.{Option, none, some, some_inj}
use mathlib.Core.List.{List}
use Prim.Native.Nat.{ℕ}
use native.Mathlib.Omega.{arith}
use Rattle.answer.specs.declared.Refusal.{Refusal}
use Rattle.answer.specs.Told.{Told, Answer, answered, told, tell, as_refused, same_shape, shape_of, shape_at, values_at}
use Rattle.words.specs.Words.{told_words, refusal_words, said_words}

-- a refusal that tells something tells its own number and values
told-own : (r : Refusal) (t : Told) → told r ≡ some t → tell r.number (values_at r.place) ≡ t
unfolding told
told-own r t e = go (same_shape (shape_of r.number) (shape_at r.place)) e
  where
    go : (d : Dec (shape_of r.number ≡ shape_at r.place))
        → ◌≡◌ {A = Option Told} (elim d as (λ _. Option Told) [ yes e ↦ some (tell r.number (values_at r.place)) | no n ↦ none ]) (some t)
        → tell r.number (values_at r.place) ≡ t
    go (yes p) e = some_inj.0 e
    go (no n) e = let z : ◌≡◌ {A = ℕ} 0 1 = cc in absurd (omega arith)

-- the words of a refusal are those of what it tells
pub refused_says : {A : Type 0} (f : A → List ℕ) (r : Refusal) (a : Answer A) → as_refused (told r) ≡ some a → refusal_words r ≡ said_words f a
refused_says {A} f r a e = go (told r) refl e
  where
    go : (o : Option Told) → told r ≡ o → as_refused {A = A} o ≡ some a → refusal_words r ≡ said_words f a
    go none h e = let z : ◌≡◌ {A = ℕ} 0 1 = cc in absurd (omega arith)
    go (some t) h e = ap (λ u. told_words u.number u.place) (told-own r t h) ∙ ap (said_words f) (some_inj.0 e)

-- the words of a value are those that its kind of answer gives it
pub value-says : {A : Type 0} (f : A → List ℕ) (x : A) (a : Answer A) → ◌≡◌ {A = Option (Answer A)} (some (answered x)) (some a) → f x ≡ said_words f a
value-says f x a e = ap (said_words f) (some_inj.0 e)
