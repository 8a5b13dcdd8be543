-- Where the contract of `merge` says fine, the second table holds the merged model, and that is accepted again.
use mathlib.Core.Path.{◌≡◌, refl, sym, ◌∙◌}
use mathlib.Core.Bool.{Bool, true, false}
use mathlib.Core.Option.{some_inj}
use mathlib.Core.List.{List}
use Prim.Native.Nat.{ℕ}
use native.Mathlib.Omega.{arith}
use Rattle.answer.specs.Told.{Told, Answer, answered, refused, says_checked, done_of}
use Rattle.std.specs.Prelude.{Ok}
use Rattle.model.specs.Model.{Model}
use Rattle.merged.specs.Merge.{merge_of}
use Rattle.merged.proofs.Merging.Accepted.{merging-keeps-acceptance}
use Rattle.layout.specs.Image.{model_of, Image}
use Rattle.layout.proofs.RowsOfRange.{well-formed}
use Rattle.table.specs.IsImage.{is_image}
use Rattle.table.proofs.OnTableLaws.{on-image, on-no-image}
use Rattle.table.proofs.ImageExactly.{image-exactly, written-recognised}
use Rattle.merge.specs.Merging.{room_fault, merge_on, Merging}
use Rattle.merge.specs.MergedTable.{MergedTable}
use Rattle.merge.proofs.Written.{merged-answered, merge-writes-the-image, merge-leaves-the-rest}

never {ℓ} : {A : Type 0} {P : Type ℓ} {x : A} {f : Told} → ◌≡◌ {A = Answer A} (answered x) (refused f) → P
never e = let z : ◌≡◌ {A = ℕ} 0 1 = cc in absurd (omega arith)

module _ (t : List ℕ) (i : ℕ) (was into : List ℕ) (g : Merging t i was (Ok tt) into) where
  done : done_of (merge_on t i was) ≡ answered tt
  unfolding says_checked
  done = sym (some_inj.0 g.answer)

  some-model : (n : Model) × (merge_on t i was ≡ answered n)
  some-model = go (merge_on t i was) refl done
    where
      go : (a : Answer Model) → merge_on t i was ≡ a → done_of a ≡ answered tt → (n : Model) × (merge_on t i was ≡ answered n)
      go (answered n) e h = (n, e)
      go (refused f) e h = never (sym h)

  some-image : Image t
  unfolding merge_on
  some-image = go (is_image t) refl
    where
      go : (b : Bool) → is_image t ≡ b → Image t
      go true e = (image-exactly t).0 e
      go false e = never (sym some-model.1 ∙ on-no-image t (λ m. merge_of m i (room_fault was)) e)

  pub merge-fine-exactly : MergedTable t i was into
  unfolding merge_on
  merge-fine-exactly =
      let n = some-model.0 in
      let e = some-model.1 in
      let r = merged-answered t some-image i was n e in
      let w = written-recognised n into r.well-formed (merge-writes-the-image t some-image i was (Ok tt) into g n e) in
      record {
        image = some-image;
        again = (image-exactly into).0 w.0;
        model = rw w.1 r;
        accepted =
            rw w.1 (merging-keeps-acceptance (model_of t) i (room_fault was) n (well-formed t some-image)
            (sym (on-image t (λ m. merge_of m i (room_fault was)) ((image-exactly t).1 some-image)) ∙ e));
        rest = merge-leaves-the-rest t some-image i was (Ok tt) into g n e;
      }
