-- The state that a run has reached: of the same model, and x but for its numbers.
use mathlib.Core.Path.{◌≡◌, refl, sym, ap, ◌∙◌}
use mathlib.Core.List.{List}
use Prim.Native.Nat.{ℕ}
use native.Mathlib.Omega.{arith}
use lib.ListN.{length}
use Rattle.answer.specs.Limits.{max_components}
use Rattle.answer.specs.declared.State.{State}
use Rattle.answer.specs.State.{parts_of, with_parts}
use Rattle.answer.proofs.StateLaws.{parts-length, with-parts, with-parts-again, with-own-parts}
use Rattle.iosa.proofs.Settling.Parts.{within-length}
use Rattle.layout.specs.Image.{model_of}
use Rattle.layout.proofs.RowsOfRange.{well-formed}
use Rattle.moves.specs.Moves.{after_all}
use Rattle.moves.specs.Standing.{Standing}
use Rattle.moves.proofs.Ready.{count-few, count-model}
use Rattle.moves.proofs.KeepsRange.{all_keep}
use Rattle.settling.specs.Gives.{Ready}

pub record Reached (t : List ℕ) (x cur : State) : Type 0 where
  pub standing : Standing t cur
  pub same : with_parts x (parts_of cur) ≡ cur
  pub count : cur.count ≡ x.count

pub reached-first : (t : List ℕ) (x : State) → Ready t x → length x.parts ≡ max_components → Reached t x x
reached-first t x r len = record { standing = r.standing; same = with-own-parts x (omega (arith, count-few t x r.standing)); count = refl }

pub reached-ready : (t : List ℕ) (x cur : State) → Ready t x → Reached t x cur → Ready t cur
reached-ready t x cur r at = record { standing = at.standing; conforming = r.conforming; joinable = r.joinable }

module _ (t : List ℕ) (x cur : State) (at : Reached t x cur) (a : ℕ) (next : State) (en : next ≡ with_parts cur (after_all (model_of t) (parts_of cur) a)) where
  after-length : length (after_all (model_of t) (parts_of cur) a) ≡ cur.count
  after-length =
      within-length (model_of t) (after_all (model_of t) (parts_of cur) a) (all_keep (model_of t) (well-formed t at.standing.image).each (parts_of cur)
      a at.standing.within)
      ∙ sym (count-model t cur at.standing)

  pub next-parts : parts_of next ≡ after_all (model_of t) (parts_of cur) a
  next-parts = ap parts_of en ∙ with-parts cur (after_all (model_of t) (parts_of cur) a) after-length

  pub reached-next : Reached t x next
  reached-next =
      let ps = after_all (model_of t) (parts_of cur) a in
      record {
        standing =
            record {
              image = at.standing.image;
              within = rw (← next-parts) at (all_keep (model_of t) (well-formed t at.standing.image).each (parts_of cur) a at.standing.within);
            };
        same =
            ap (with_parts x) next-parts ∙ sym (with-parts-again x (parts_of cur) ps (parts-length cur ∙ at.count))
            ∙ ap (λ y. with_parts y ps) at.same ∙ sym en;
        count = ap (λ y. y.count) en ∙ (unfold with_parts in at.count);
      }
