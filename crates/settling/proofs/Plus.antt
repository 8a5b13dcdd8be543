-- What is done so far, before what is left: the invariant of the loop that settles.
use mathlib.Core.Path.{◌≡◌, refl, sym, ◌∙◌, ap}
use mathlib.Core.Bool.{true, false, not}
use mathlib.Core.Option.{Option, none, some}
use mathlib.Core.List.{List, [], ◌∷◌, ◌++◌}
use Prim.Native.Nat.{ℕ, zero, suc, ◌+◌, ◌-◌, ◌<◌}
use native.Mathlib.Omega.{arith}
use lib.Seq.{append_snoc}
use Rattle.laws.specs.Sets.{◌∪◌}
use Rattle.laws.specs.Search.{is_some}
use Rattle.laws.proofs.SetLaws.{or_assoc}
use Rattle.iosa.specs.Step.{Went, lowest}
use Rattle.iosa.specs.Stepped.{Gone}
use Rattle.iosa.specs.Settle.{resting, after, settle}
use Rattle.iosa.specs.Orders.{Settling}

module _ {S : Type 0} where
  -- k steps with resets r and actions l, before d
  unfoldable pub plus : ℕ → ℕ → List ℕ → Settling S → Settling S
  plus k r l d = record { stable = d.stable; steps = k + d.steps; resets = r ∪ d.resets; trace = l ++ d.trace; state = d.state }

  pub plus-nothing : (d : Settling S) → plus 0 0 [] d ≡ d
  unfolding plus
  plus-nothing d =
      let e : 0 + d.steps ≡ d.steps = omega arith in
      λ i. record { stable = d.stable; steps = e i; resets = d.resets; trace = d.trace; state = d.state }

  plus-after : (k r : ℕ) (l : List ℕ) (w : Went S) (d : Settling S) → plus k r l (after w d) ≡ plus (k + 1) (r ∪ w.gone.resets) (l ++ (w.action ∷ [])) d
  unfolding plus
  plus-after k r l w d =
      let e : k + suc d.steps ≡ k + 1 + d.steps = omega arith in
      let f = sym (or_assoc r w.gone.resets d.resets) in
      let g = sym (append_snoc l w.action d.trace) in
      λ i. record { stable = d.stable; steps = e i; resets = f i; trace = g i; state = d.state }

module _ {S : Type 0} (step : S → ℕ → Option (Gone S)) where
  settle-go : (n : ℕ) (s : S) (w : Went S) → lowest step s ≡ some w → settle step (suc n) s ≡ after w (settle step n w.gone.after)
  unfolding settle
  settle-go n s w e = rw (e, settle)

  pub settle-rests : (n : ℕ) (s : S) → lowest step s ≡ none → settle step n s ≡ resting true s
  unfolding settle
  settle-rests zero s e = rw (e, settle)
  settle-rests (suc n) s e = rw (e, settle)

  pub settle-out : (n : ℕ) (s : S) (w : Went S) → n ≡ 0 → lowest step s ≡ some w → settle step n s ≡ resting false s
  unfolding settle
  settle-out n s w z e = rw z (rw (e, settle))

  -- no step is left, or the budget is used up
  pub settle-ends : (n : ℕ) (s : S) → (is_some (lowest step s) ≡ true → n ≡ 0) → settle step n s ≡ resting (not (is_some (lowest step s))) s
  settle-ends n s h = go (lowest step s) refl
    where
      rested : (o : Option (Went S)) → lowest step s ≡ o → resting (not (is_some o)) s ≡ resting (not (is_some (lowest step s))) s
      rested o e = ap (λ v. resting (not (is_some v)) s) (sym e)

      go : (o : Option (Went S)) → lowest step s ≡ o → settle step n s ≡ resting (not (is_some (lowest step s))) s
      go none e = settle-rests n s e ∙ rested none e
      go (some w) e = settle-out n s w (h (ap is_some e)) e ∙ rested (some w) e

  -- one step more, of those that the budget still allows
  pub plus_step : (budget k r : ℕ) (l : List ℕ) (s : S) (w : Went S) → k < budget → lowest step s ≡ some w
      → plus k r l (settle step (budget - k) s) ≡ plus (k + 1) (r ∪ w.gone.resets) (l ++ (w.action ∷ [])) (settle step (budget - (k + 1)) w.gone.after)
  plus_step budget k r l s w h e =
      let n : budget - k ≡ suc (budget - (k + 1)) = omega arith in
      ap (plus k r l) (ap (λ m. settle step m s) n ∙ settle-go (budget - (k + 1)) s w e) ∙ plus-after k r l w (settle step (budget - (k + 1)) w.gone.after)
