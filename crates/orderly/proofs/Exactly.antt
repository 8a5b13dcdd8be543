-- `orderly` answers fine exactly where the table is the image of an accepted model that is closed and passes the new test;
-- `may_walk` exactly where that model passes check 18, or is closed and passes the new test. Where neither test passes, `orderly` refuses as `confluent` does.
use mathlib.Core.Path.{◌≡◌, sym, ◌∙◌, ap}
use mathlib.Core.Logic.{◌↔◌, inl, inr}
use mathlib.Core.Option.{none, some}
use mathlib.Core.List.{List}
use Prim.Native.Nat.{ℕ}
use Rattle.answer.specs.Told.{Checked}
use Rattle.std.specs.Prelude.{Ok}
use Rattle.answer.proofs.SaysFixes.{checked-fixed}
use Rattle.iosa.specs.Checks.{accept_of, confluent_of}
use Rattle.iosa.specs.Step.{unless}
use Rattle.iosa.proofs.Acceptance.Accepted.{accepted-exactly}
use Rattle.layout.specs.Image.{Image, model_of}
use Rattle.layout.proofs.RowsOfRange.{well-formed}
use Rattle.table.specs.OnTable.{check_on}
use Rattle.table.proofs.OnTableLaws.{on-image}
use Rattle.table.proofs.CheckedLaws.{fine-passes}
use Rattle.table.proofs.ImageExactly.{image-exactly}
use Rattle.admit.specs.Admit.{Confluently}
use Rattle.admit.proofs.Exactly.{passes-fine, confluent-fine}
use Rattle.triggering.specs.Triggering.{Passes, NoOpenInput}
use Rattle.triggering.specs.Test.{orderly_of, entry_of}
use Rattle.walkable.specs.Orderly.{Orderly, Settles}
use Rattle.walkable.proofs.Opening.{closed-exactly}
use Rattle.walkable.proofs.Orderly.{orderly-exactly, refused-as-18, entry-exactly}
use Rattle.orderly.specs.Calls.{OrderlyCall, MayWalk}

-- what a call that goes on after `(Ok tt)` counts on
pub record Walkable (t : List ℕ) : Type 0 where
  pub image : Image t
  pub entry : entry_of (model_of t) ≡ none
  pub accepted : accept_of (model_of t) ≡ none
  pub settles : Settles (model_of t)

module _ (t : List ℕ) where
  pub walk_fine : MayWalk t (Ok tt) → Walkable t
  walk_fine e =
      let p = fine-passes t entry_of e in
      let im = (image-exactly t).0 p.0 in
      let s = (entry-exactly (model_of t) (well-formed t im)).0 p.1 in
      record { image = im; entry = p.1; accepted = (accepted-exactly (model_of t) (well-formed t im)).1 (s.conforms, s.joins); settles = s }

  pub orderly-fine : OrderlyCall t (Ok tt) → Image t × Orderly (model_of t)
  orderly-fine e =
      let p = fine-passes t orderly_of e in
      let im = (image-exactly t).0 p.0 in
      (im, (orderly-exactly (model_of t) (well-formed t im)).0 p.1)

  module _ (r : Checked) where
    pub orderly-call-exactly : OrderlyCall t r → (r ≡ (Ok tt)) ↔ (Image t × Orderly (model_of t))
    orderly-call-exactly s = (
      λ e. orderly-fine (rw e at s),
      λ p. passes-fine t orderly_of r p.0 ((orderly-exactly (model_of t) (well-formed t p.0)).1 p.1) s,
    )

    pub may-walk-exactly : MayWalk t r → (r ≡ (Ok tt)) ↔ (Image t × Settles (model_of t))
    may-walk-exactly s = (
      λ e. let p = walk_fine (rw e at s) in (p.image, p.settles),
      λ p. passes-fine t entry_of r p.0 ((entry-exactly (model_of t) (well-formed t p.0)).1 p.1) s,
    )

    -- "systems that pass check 18 work as before", open or not
    pub confluent-may-walk : Confluently t (Ok tt) → MayWalk t r → r ≡ (Ok tt)
    confluent-may-walk e s =
        let p = confluent-fine t e in
        (may-walk-exactly s).1 (p.0.image, record { conforms = p.0.conforming; joins = p.0.joinable; either = inl p.2 })

    pub orderly-may-walk : OrderlyCall t (Ok tt) → MayWalk t r → r ≡ (Ok tt)
    orderly-may-walk e s =
        let p = orderly-fine e in
        let o = p.1 in
        (may-walk-exactly s).1 (p.0, record { conforms = o.conforms; joins = o.joins; either = inr (o.closed, o.passes) })

    -- "18 where neither test passes": with check 18's place
    pub refused-as-confluent : (q : Checked) → OrderlyCall t r → Confluently t q → Image t → accept_of (model_of t) ≡ none
        → NoOpenInput (model_of t) → (Passes (model_of t) → ⊥) → r ≡ q
    refused-as-confluent q s f im ok cl ne =
        let w = well-formed t im in
        let i = (image-exactly t).1 im in
        let e = refused-as-18 (model_of t) w ok ((closed-exactly (model_of t) w).1 cl) ne in
        let there = on-image t (λ m. unless (orderly_of m) tt) i in
        let back = on-image t (λ m. unless (confluent_of m) tt) i in
        checked-fixed r q (check_on t confluent_of) (s ∙ ap some (there ∙ ap (λ o. unless o tt) e ∙ sym back)) f
