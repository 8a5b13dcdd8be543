-- 21, then 19, by what the code finds on its way.
use mathlib.Core.Path.{◌≡◌, refl}
use mathlib.Core.Bool.{false}
use mathlib.Core.Option.{none, some}
use mathlib.Core.List.{List, [], ◌∷◌}
use Prim.Native.Nat.{ℕ}
use Rattle.answer.specs.Told.{Told, tell, told}
use Rattle.answer.specs.Told.{Checked}
use Rattle.std.specs.Prelude.{Ok, Err}
use Rattle.answer.specs.declared.Place.TheVariants.{Whole, Component}
use Rattle.model.specs.Model.{Model}
use Rattle.iosa.specs.Product.{Within}
use Rattle.iosa.specs.Step.{in_range, state_fault}
use Rattle.iosa.specs.Settle.{reach_fault, begin_fault}
use Rattle.iosa.proofs.Settling.Called.{state-faultless, begin-faultless}
use Rattle.parts.specs.Faults.{Says}
use Rattle.parts.proofs.Saying.{says-fine, says-refused}

module _ (m : Model) (s : List ℕ) where
  is_out_of_range : in_range m s ≡ false → begin_fault m s ≡ some (tell 21 (0 ∷ []))
  unfolding begin_fault state_fault
  is_out_of_range e = rw e

  not-reached : Within m s → (f : Told) → reach_fault m s ≡ some f → begin_fault m s ≡ some f
  unfolding begin_fault
  not-reached w f e = rw ((state-faultless m s).1 w, e)

  -- ---- what is answered
  pub says-21 : (r : Checked) → r ≡ Err (record { number = 21; place = Whole }) → in_range m s ≡ false → Says r (begin_fault m s)
  unfolding told
  says-21 r e h = rw e (says-refused _ (tell 21 (0 ∷ [])) (begin_fault m s) refl (is_out_of_range h))

  pub says-19 : (r : Checked) (i : ℕ) → r ≡ Err (record { number = 19; place = Component i }) → Within m s → reach_fault m s ≡ some (tell 19 (i ∷ []))
      → Says r (begin_fault m s)
  unfolding told
  says-19 r i e w f = rw e (says-refused _ (tell 19 (i ∷ [])) (begin_fault m s) refl (not-reached w (tell 19 (i ∷ [])) f))

  pub says-begins : Within m s → reach_fault m s ≡ none → Says (Ok tt) (begin_fault m s)
  says-begins w e = says-fine (begin_fault m s) ((begin-faultless m s).1 (w, e))
