-- The contract of `timed_step`, said of the product and its clocks.
use mathlib.Core.Path.{◌≡◌, refl}
use mathlib.Core.Option.{none}
use mathlib.Core.Bool.{false}
use mathlib.Core.List.{List, ◌∷◌}
use Prim.Native.Nat.{ℕ}
use lib.IntN.{ℤ, pos}
use lib.Signed.{lt_z}
use Rattle.answer.specs.Told.{Answer, answered, refused, Shot, shot_said}
use Rattle.answer.specs.State.{parts_of}
use Rattle.answer.specs.declared.State.{State}
use Rattle.std.specs.Prelude.{Result, Ok, Err, IsOkAnd}
use Rattle.answer.specs.declared.Timed.{Timed}
use Rattle.answer.specs.declared.Refusal.{Refusal}
use Rattle.model.specs.Model.{Comp}
use Rattle.iosa.specs.Checks.{accept_of}
use Rattle.timing.specs.Timed.{timed_of}
use Rattle.iosa.specs.TimedExactly.{Waits, TimedAnswer, value_of, Timing}
use Rattle.timing.proofs.Timing.Exactly.{timed-exactly}
use Rattle.timing.proofs.Timing.Answered.{enabling-clocks-end-from-zero-on}
use Rattle.layout.specs.Image.{Image, model_of}
use Rattle.layout.proofs.RowsOfRange.{well-formed}
use Rattle.table.proofs.OnTableLaws.{on-image}
use Rattle.table.proofs.ImageExactly.{image-exactly}
use Rattle.firing.specs.Shots.{TimingAnswers}
use Rattle.timed.specs.TimedStep.{TimedStep}

-- on an image of an accepted model
module _ (t : List ℕ) (im : Image t) (acc : accept_of (model_of t) ≡ none) (c : Comp) (cs : List Comp) (em : model_of t ≡ c ∷ cs)
    (x : State) (was : List ℤ) (r : Result Timed Refusal) (vs : List ℤ) (says : TimedStep t x was r vs) where
  of-model : TimingAnswers (timed_of (c ∷ cs) (parts_of x) was) x was r vs
  of-model = rw (on-image t (λ m. timed_of m (parts_of x) was) ((image-exactly t).1 im), em) at says

  -- the call answers what paper 01 says: a row of the product where a clock fires, and each refusal for its reason
  pub timed_step-exactly : (a : Answer Timing) × TimedAnswer c cs (parts_of x) was a × TimingAnswers a x was r vs
  timed_step-exactly =
      let a = timed_of (c ∷ cs) (parts_of x) was in
      (a, (timed-exactly c cs (rw em at (well-formed t im)) (rw em at acc) (parts_of x) was a).0 refl, of-model)

  -- an enabling clock never ends below zero
  pub enabling-clocks-end-from-zero : (k : Shot) → IsOkAnd r (λ p. shot_said p.firing ≡ k) → (y : ℕ) → Waits c cs (parts_of x) y
      → lt_z (value_of vs y) (pos 0) ≡ false
  enabling-clocks-end-from-zero k e y h = go (timed_of (c ∷ cs) (parts_of x) was) refl r of-model e
    where
      go : (a : Answer Timing) → timed_of (c ∷ cs) (parts_of x) was ≡ a → (q : Result Timed Refusal) → TimingAnswers a x was q vs
          → IsOkAnd q (λ p. shot_said p.firing ≡ k) → lt_z (value_of vs y) (pos 0) ≡ false
      go (answered d) q (Ok p) g e = rw g.values (enabling-clocks-end-from-zero-on c cs (rw em at (well-formed t im)) (parts_of x) was d q y h)
      go (answered d) q (Err f) g e = absurd g
      go (refused f) q (Ok p) g e = absurd g.told
      go (refused f) q (Err n) g e = absurd e
