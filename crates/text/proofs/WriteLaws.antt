-- The promise of `write`, by the ways in which the call goes.
use mathlib.Core.Path.{◌≡◌, refl, sym, ◌∙◌, ap}
use mathlib.Core.Option.{some}
use mathlib.Core.Bool.{true, false}
use mathlib.Core.List.{List, ◌++◌}
use Prim.Native.Nat.{ℕ, ◌+◌, ◌≤◌, ◌<◌}
use native.Mathlib.Omega.{arith}
use lib.ListN.{length, drop}
use borrow.Author.Tests.{lt-ltb, le-ltb}
use Rattle.answer.specs.Told.{told, Answer, answered, refused, says_written}
use Rattle.answer.specs.declared.Place.TheVariants.{Whole, Bytes}
use Rattle.answer.specs.Told.{Written}
use Rattle.std.specs.Prelude.{Ok, Err}
use Rattle.model.specs.Model.{Model}
use Rattle.model.specs.Text.{text_of}
use Rattle.layout.specs.Image.{model_of, no_image}
use Rattle.table.specs.IsImage.{is_image}
use Rattle.table.proofs.OnTableLaws.{on-image, on-no-image}
use Rattle.print.specs.Put.{laid, Put}
use Rattle.text.specs.Write.{too_short, write_of, write_on, text_after, WriteCall}

too_short_lem : (room : ℕ) (m : Model) → room < length (text_of m) → write_of room m ≡ refused (too_short (length (text_of m)))
unfolding write_of
too_short_lem room m h = rw (lt-ltb room (length (text_of m)) h, write_of)

pub long-enough : (room : ℕ) (m : Model) → length (text_of m) ≤ room → write_of room m ≡ answered (length (text_of m))
unfolding write_of
long-enough room m h = rw (le-ltb room (length (text_of m)) h, write_of)

-- what the call says and leaves, from what it answers
called : (t old new : List ℕ) (r : Written) (a : Answer ℕ) → write_on t old ≡ a → says_written r ≡ some a → new ≡ text_after a t old → WriteCall t old new r
called t old new r a e p q = record { answer = p ∙ ap some (sym e); buffer = q ∙ ap (λ b. text_after b t old) (sym e) }

pub says-length : (n : ℕ) → says_written (Ok n) ≡ some (answered n)
unfolding says_written
says-length n = refl

says-no-image : says_written (Err (record { number = 20; place = Whole })) ≡ some (refused no_image)
unfolding says_written told
says-no-image = refl

says-too-short : (n : ℕ) → says_written (Err (record { number = 24; place = Bytes n })) ≡ some (refused (too_short n))
unfolding says_written told
says-too-short n = refl

at_front : (old bytes : List ℕ) → laid old 0 bytes ≡ bytes ++ drop (length bytes) old
unfolding laid
at_front old bytes = let e : 0 + length bytes ≡ length bytes = omega arith in rw e

module _ (t old : List ℕ) where
  pub no_table : is_image t ≡ false → WriteCall t old old (Err (record { number = 20; place = Whole }))
  no_table e = called t old old _ (refused no_image) (on-no-image t (write_of (length old)) e) says-no-image refl

  module _ (image : is_image t ≡ true) where
    pub no_room : (n : ℕ) → n ≡ length (text_of (model_of t)) → length old < n → WriteCall t old old (Err (record { number = 24; place = Bytes n }))
    no_room n p h =
        called t old old _ (refused (too_short (length (text_of (model_of t))))) (on-image t (write_of (length old)) image
        ∙ too_short_lem (length old) (model_of t) (omega arith))
        (says-too-short n ∙ ap (λ k. some (refused (too_short k))) p) refl

    pub written : (new : List ℕ) (n : ℕ) → length (text_of (model_of t)) ≤ length old → Put old 0 (text_of (model_of t)) new n → WriteCall t old new (Ok n)
    written new n h p =
        let e : n ≡ length (text_of (model_of t)) = omega (arith, p.place) in
        called t old new _ (answered (length (text_of (model_of t)))) (on-image t (write_of (length old)) image ∙ long-enough (length old) (model_of t) h)
        (says-length n ∙ ap (λ k. some (answered k)) e) (p.buffer ∙ at_front old (text_of (model_of t)))
