-- What a call that fills a table leaves, where the table is long enough: an image of the model that it answers, or a refusal.
use mathlib.Core.Path.{◌≡◌, refl, sym, ◌∙◌, ap}
use mathlib.Core.Option.{Option, none, some}
use mathlib.Core.List.{List}
use Prim.Native.Nat.{ℕ, ◌≤◌}
use native.Mathlib.Omega.{arith}
use lib.ListN.{length, take, drop}
use lib.Seq.{take_at}
use borrow.Author.Tests.{le-ltb}
use Rattle.answer.specs.Told.{Told, told, Answer, answered, refused, as_refused, says_checked, done_of}
use Rattle.answer.specs.Told.{Checked}
use Rattle.std.specs.Prelude.{Ok, Err}
use Rattle.answer.specs.declared.Refusal.{Refusal}
use Rattle.model.specs.Model.{Model}
use Rattle.model.specs.WellFormed.{WellFormed}
use Rattle.layout.specs.Layout.{image_words}
use Rattle.layout.specs.Image.{Image, image_of, model_of}
use Rattle.layout.specs.Lent.{table_after}
use Rattle.layout.specs.OnImage.{FillsTable}
use Rattle.layout.proofs.ReadBack.{length-of-image}
use Rattle.layout.proofs.ModelOfImage.{model_of_lem}
use Rattle.reading.specs.Read.{room_for}

room-enough : (n : ℕ) (a : Answer Model) → image_words ≤ n → room_for n a ≡ a
room-enough n (refused f) h = refl
room-enough n (answered m) h = rw (le-ltb n image_words h, room_for)

module _ (a : Answer Model) (well : (m : Model) → a ≡ answered m → WellFormed m)
    (old new : List ℕ) (r : Checked) (e : FillsTable old new r (room_for (length old) a)) (h : image_words ≤ length old) where
  says : says_checked r ≡ some (done_of a)
  says = e.answer ∙ ap (λ x. some (done_of x)) (room-enough (length old) a h)

  table : new ≡ table_after a old
  table = e.table ∙ ap (λ x. table_after x old) (room-enough (length old) a h)

  pub leaves-model : r ≡ (Ok tt) → (m : Model) × (a ≡ answered m) × Image new × (model_of new ≡ m)
  unfolding says_checked
  leaves-model f = go a refl (ap says_checked (sym f) ∙ says) table
    where
      go : (x : Answer Model) → a ≡ x → ◌≡◌ {A = Option (Answer (Unit {0}))} (some (answered tt)) (some (done_of x)) → new ≡ table_after x old
          → (m : Model) × (a ≡ answered m) × Image new × (model_of new ≡ m)
      go (refused t) q s n = absurd (let z : ◌≡◌ {A = ℕ} 0 1 = cc in omega arith)
      go (answered m) q s n =
          let w = well m q in
          let front = ap (take image_words) n ∙ take_at (image_of m) (drop image_words old) image_words (length-of-image m w) in
          let im : Image new = record { model = m; well = w; front = front } in
          (m, q, im, model_of_lem new im)

  pub leaves-refusal : (g : Refusal) → r ≡ Err g → (t : Told) × (a ≡ refused t) × (told g ≡ some t)
  unfolding says_checked
  leaves-refusal g f = go (told g) a refl refl (ap says_checked (sym f) ∙ says)
    where
      go : (o : Option Told) (x : Answer Model) → told g ≡ o → a ≡ x → ◌≡◌ {A = Option (Answer (Unit {0}))} (as_refused o) (some (done_of x))
          → (t : Told) × (a ≡ refused t) × (told g ≡ some t)
      go none x p q s = absurd (let z : ◌≡◌ {A = ℕ} 0 1 = cc in omega arith)
      go (some u) (answered m) p q s = absurd (let z : ◌≡◌ {A = ℕ} 0 1 = cc in omega arith)
      go (some u) (refused t) p q s = let w : u ≡ t = cc in (t, q, p ∙ ap some w)
