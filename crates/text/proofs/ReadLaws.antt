-- The promise of `read`, by the ways in which the call goes.
use mathlib.Core.Path.{◌≡◌, refl, sym, ◌∙◌, ap}
use mathlib.Core.Option.{some}
use mathlib.Core.List.{List, ◌++◌}
use Prim.Native.Nat.{ℕ, ◌*◌, ◌≤◌, ◌<◌}
use native.Mathlib.Omega.{arith}
use lib.ListN.{length, drop}
use borrow.Author.Tests.{lt-ltb, le-ltb}
use Rattle.answer.specs.Told.{told, Answer, answered, refused, says_checked, done_of}
use Rattle.answer.specs.declared.Place.TheVariants.{Bytes}
use Rattle.answer.specs.declared.Refusal.{Refusal}
use Rattle.answer.specs.Told.{Checked}
use Rattle.std.specs.Prelude.{Ok, Err}
use Rattle.model.specs.Model.{Model}
use Rattle.model.specs.Reading.{read_of}
use Rattle.layout.specs.Layout.{image_words}
use Rattle.layout.specs.Image.{image_of}
use Rattle.layout.specs.Lent.{word_bytes, table_too_short, table_after}
use Rattle.reading.specs.Read.{room_for, read_on, ReadCall}
use Rattle.answer.proofs.SaysFixes.{checked-fixed}

pub says-fine : says_checked (Ok tt) ≡ some (answered tt)
unfolding says_checked
says-fine = refl

says-too-short : (n : ℕ) → n ≡ image_words * word_bytes → says_checked (Err (record { number = 24; place = Bytes n })) ≡ some (refused table_too_short)
unfolding says_checked told
says-too-short n e = rw e

short-room : (room : ℕ) (m : Model) → room < image_words → room_for room (answered m) ≡ refused table_too_short
short-room room m h = rw (lt-ltb room image_words h, room_for)

long-room : (room : ℕ) (m : Model) → image_words ≤ room → room_for room (answered m) ≡ answered m
long-room room m h = rw (le-ltb room image_words h, room_for)

module _ (t old : List ℕ) where
  -- what the call says and leaves, from what it answers
  called : (new : List ℕ) (r : Checked) (a : Answer Model) → read_on t old ≡ a → says_checked r ≡ some (done_of a) → new ≡ table_after a old → ReadCall t old new r
  called new r a e p q = record { answer = p ∙ ap (λ b. some (done_of b)) (sym e); table = q ∙ ap (λ b. table_after b old) (sym e) }

  -- the text is refused
  pub no_text : (f : Refusal) → says_checked (Err f) ≡ some (done_of (read_of t)) → ReadCall t old old (Err f)
  unfolding read_on
  no_text f e = go (read_of t) refl e
    where
      go : (a : Answer Model) → read_of t ≡ a → says_checked (Err f) ≡ some (done_of a) → ReadCall t old old (Err f)
      go (refused g) h e = called old (Err f) (refused g) (ap (room_for (length old)) h) e refl
      go (answered m) h e =
          let same : Err f ≡ (Ok tt) = checked-fixed (Err f) (Ok tt) (answered tt) e says-fine in
          let z : ◌≡◌ {A = ℕ} 0 1 = cc in
          absurd (omega arith)

  -- the text is good
  pub good-text : says_checked (Ok tt) ≡ some (done_of (read_of t)) → (m : Model) × (read_of t ≡ answered m)
  good-text e = go (read_of t) refl e
    where
      go : (a : Answer Model) → read_of t ≡ a → says_checked (Ok tt) ≡ some (done_of a) → (m : Model) × (read_of t ≡ answered m)
      go (answered m) h e = (m, h)
      go (refused g) h e = let f = says-fine in let z : ◌≡◌ {A = ℕ} 0 1 = cc in absurd (omega arith)

  module _ (m : Model) (good : read_of t ≡ answered m) where
    pub no_room : (n : ℕ) → n ≡ image_words * word_bytes → length old < image_words → ReadCall t old old (Err (record { number = 24; place = Bytes n }))
    unfolding read_on
    no_room n p h = called old _ (refused table_too_short) (ap (room_for (length old)) good ∙ short-room (length old) m h) (says-too-short n p) refl

    pub taken_in_lem : (new : List ℕ) → image_words ≤ length old → new ≡ image_of m ++ drop image_words old → ReadCall t old new (Ok tt)
    unfolding read_on
    taken_in_lem new h e = called new (Ok tt) (answered m) (ap (room_for (length old)) good ∙ long-room (length old) m h) says-fine e
