-- The call's answer, branch by branch: what `accept` refuses, 24, 25, 26, and the image of the merged model.
use mathlib.Core.Path.{◌≡◌, refl, sym, ◌∙◌, ap}
use mathlib.Core.Option.{Option, none, some}
use mathlib.Core.List.{List, [], ◌∷◌, ◌++◌}
use Prim.Native.Nat.{ℕ, suc, ◌+◌, ◌*◌, ◌≤◌, ◌<◌}
use native.Mathlib.Omega.{arith}
use lib.ListN.{length, drop}
use lib.Seq.{sets, sets-eq}
use borrow.Author.Tests.{lt-ltb, le-ltb}
use Rattle.laws.specs.Search.{when, or_else}
use Rattle.answer.specs.Limits.{max_states}
use Rattle.answer.specs.Told.{Told, told, tell, Answer, answered, refused, as_refused, says_checked, done_of}
use Rattle.answer.specs.declared.Place.TheVariants.{Whole, Bytes}
use Rattle.answer.specs.declared.Refusal.{Refusal}
use Rattle.answer.specs.Told.{Checked}
use Rattle.std.specs.Prelude.{Ok, Err}
use Rattle.model.specs.Model.{Model}
use Rattle.iosa.specs.Checks.{accept_of}
use Rattle.merged.specs.Merge.{neighbour_fault, size_fault, merged_at, merge_of}
use Rattle.merged.specs.MergedExactly.{FitsIn, no-neighbour, too_large, small-enough}
use Rattle.iosa.proofs.Acceptance.Accepted.{accepted-exactly}
use Rattle.merged.proofs.Merging.Models.{merge-exactly, merged-model-is-well-formed}
use Rattle.layout.specs.Layout.{image_words, count_of, block_word}
use Rattle.layout.specs.Image.{image_of, comp_of, model_of, Image}
use Rattle.layout.proofs.ModelOf.{model-length, comp-at}
use Rattle.layout.proofs.ReadBack.{length-of-image}
use Rattle.layout.proofs.RowsOfRange.{well-formed}
use Rattle.table.proofs.OnTableLaws.{on-image}
use Rattle.table.specs.OnTable.{check_on}
use Rattle.table.proofs.CheckedLaws.{fine-passes, refused-tells, call-refuses}
use Rattle.table.proofs.ImageExactly.{image-exactly}
use Rattle.layout.specs.Lent.{word_bytes, table_too_short, table_after}
use Rattle.merge.specs.Merging.{room_fault, merge_on, Merging}

-- a refusal, or else the model x
abbrev refused_or : Option Told → Model → Answer Model
refused_or o x = elim o as (λ _. Answer Model) [ some t ↦ refused t | none ↦ answered x ]

module _ (m : Model) (i : ℕ) (room : Option Told) where
  follows : (f : Told) → accept_of m ≡ some f → merge_of m i room ≡ refused f
  unfolding merge_of
  follows f e = ap (λ o. refused_or (or_else o (or_else room (or_else (neighbour_fault m i) (size_fault m i)))) (merged_at m i)) e

  no_room : (f : Told) → accept_of m ≡ none → room ≡ some f → merge_of m i room ≡ refused f
  unfolding merge_of
  no_room f a e =
      ap (λ o. refused_or (or_else o (or_else room (or_else (neighbour_fault m i) (size_fault m i)))) (merged_at m i)) a
      ∙ ap (λ o. refused_or (or_else o (or_else (neighbour_fault m i) (size_fault m i))) (merged_at m i)) e

-- the states of the product, by the words of the two blocks
pub few-states : (t : List ℕ) (i : ℕ) → suc i < count_of t → FitsIn (model_of t) i → block_word t i 0 * block_word t (i + 1) 0 ≤ max_states
unfolding comp_of
few-states t i next f =
    let here = comp-at t i (omega arith) in
    let there = comp-at t (suc i) next in
    let e : i + 1 ≡ suc i = omega arith in
    rw e (rw (here, there) at f.states)

room-short : (was : List ℕ) → length was < image_words → room_fault was ≡ some (table_too_short)
unfolding room_fault
room-short was h = ap (λ b. when b (table_too_short)) (lt-ltb (length was) image_words h)

room-enough : (was : List ℕ) → image_words ≤ length was → room_fault was ≡ none
unfolding room_fault
room-enough was h = ap (λ b. when b (table_too_short)) (le-ltb (length was) image_words h)

module _ (t : List ℕ) (i : ℕ) (was : List ℕ) where
  refuses : (f : Told) → merge_on t i was ≡ refused f → (q : Refusal) → told q ≡ some f → Merging t i was (Err q) was
  unfolding says_checked
  refuses f e q h = record { answer = ap as_refused h ∙ sym (ap (λ a. some (done_of a)) e); table = sym (ap (λ a. table_after a was) e) }

  pub stays : (r : Checked) (into : List ℕ) → into ≡ was → Merging t i was r was → Merging t i was r into
  stays r into e g = record { answer = g.answer; table = e ∙ g.table }

  -- what `accept` refuses the call refuses alike
  pub refused-before : (q : Refusal) → says_checked (Err q) ≡ some (check_on t accept_of) → Merging t i was (Err q) was
  unfolding merge_on
  refused-before q e =
      let p = refused-tells t accept_of q e in
      refuses p.0 (call-refuses t accept_of (λ m. merge_of m i (room_fault was)) (λ m f k. follows m i (room_fault was) f k) p.0 p.2) q p.1

  pub fine_before : says_checked (Ok tt) ≡ some (check_on t accept_of) → Image t × (accept_of (model_of t) ≡ none)
  fine_before e = let p = fine-passes t accept_of e in ((image-exactly t).0 p.0, p.1)

  module _ (im : Image t) (acc : accept_of (model_of t) ≡ none) where
    on : merge_on t i was ≡ merge_of (model_of t) i (room_fault was)
    unfolding merge_on
    on = on-image t (λ m. merge_of m i (room_fault was)) ((image-exactly t).1 im)

    pub is-short : length was < image_words → (r : Checked) → r ≡ Err (record { number = 24; place = Bytes (image_words * word_bytes) })
        → Merging t i was r was
    unfolding told
    is-short h r e =
        rw e (refuses (table_too_short) (on ∙ no_room (model_of t) i (room_fault was) _ acc (room-short was h))
        (record { number = 24; place = Bytes (image_words * word_bytes) }) refl)

    module _ (room : image_words ≤ length was) where
      roomy : merge_on t i was ≡ merge_of (model_of t) i none
      roomy = on ∙ ap (merge_of (model_of t) i) (room-enough was room)

      pub is-alone : (suc i < count_of t → ⊥) → (r : Checked) → r ≡ Err (record { number = 25; place = Whole }) → Merging t i was r was
      unfolding told
      is-alone n r e =
          rw e (refuses (tell 25 (0 ∷ [])) (roomy ∙ (merge-exactly (model_of t) i acc _).1 (no-neighbour (λ h. n (omega (arith, model-length t)))))
          (record { number = 25; place = Whole }) refl)

      module _ (next : suc i < count_of t) where
        inside : suc i < length (model_of t)
        inside = omega (arith, model-length t)

        pub is-big : (FitsIn (model_of t) i → ⊥) → (r : Checked) → r ≡ Err (record { number = 26; place = Whole }) → Merging t i was r was
        unfolding told
        is-big n r e =
            rw e (refuses (tell 26 (0 ∷ [])) (roomy ∙ (merge-exactly (model_of t) i acc _).1 (too_large inside n)) (record { number = 26; place = Whole }) refl)

        module _ (fits : FitsIn (model_of t) i) where
          long : length (image_of (merged_at (model_of t) i)) ≡ image_words
          long =
              let a = (accepted-exactly (model_of t) (well-formed t im)).0 acc in
              length-of-image (merged_at (model_of t) i) (merged-model-is-well-formed (model_of t) i (well-formed t im) a.0 a.1 inside fits)

          written : sets was 0 (image_of (merged_at (model_of t) i)) ≡ image_of (merged_at (model_of t) i) ++ drop image_words was
          written =
              let n = image_of (merged_at (model_of t) i) in
              let end : 0 + length n ≡ image_words = omega (arith, long) in
              sets-eq n was 0 (omega (arith, long)) ∙ ap (λ k. n ++ drop k was) end

          pub is-merged-model : (into : List ℕ) → into ≡ sets was 0 (image_of (merged_at (model_of t) i)) → Merging t i was (Ok tt) into
          unfolding says_checked
          is-merged-model into e =
              let k = roomy ∙ (merge-exactly (model_of t) i acc _).1 (small-enough inside fits) in
              record { answer = sym (ap (λ a. some (done_of a)) k); table = e ∙ written ∙ sym (ap (λ a. table_after a was) k) }
