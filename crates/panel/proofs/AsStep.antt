-- What the promise of `advance` allows, beside what that of `step` allows on the same table and state.
use mathlib.Core.Path.{◌≡◌, sym, ◌∙◌, ap, subst}
use mathlib.Core.List.{List}
use Prim.Native.Nat.{ℕ}
use Rattle.std.specs.Prelude.{Result, Ok, Err}
use Rattle.answer.specs.Told.{step_said}
use Rattle.answer.specs.declared.Outcome.{Outcome}
use Rattle.answer.specs.declared.Outcome.TheVariants.{Moved, Stable}
use Rattle.answer.specs.declared.Refusal.{Refusal}
use Rattle.answer.specs.declared.State.{State}
use Rattle.answer.specs.declared.Stepped.{Stepped}
use Rattle.run.specs.Calls.{StepCall, step_on}
use Rattle.settling.specs.Gives.{StepAnswers}
use Rattle.answer.proofs.SaysFixes.{outcome-fixed, says-fixed}
use Rattle.panel.specs.Advance.{AdvanceCall, outcome_of, outcome_in}
use Rattle.panel.proofs.Kept.{said, where-moved, where-stable, where-refused}

module _ (t : List ℕ) (x y : State) (r : Result Outcome Refusal) (g : AdvanceCall t x y r) where
  pub state-stays-where-stable : r ≡ Ok Stable → y ≡ x
  state-stays-where-stable e = g.state ∙ sym (where-stable (step_on t x) x r g.outcome e)

  pub state-stays-where-refused : (q : Refusal) → r ≡ Err q → y ≡ x
  state-stays-where-refused q e = g.state ∙ sym (where-refused (step_on t x) x r q g.outcome e)

  module _ (s : Result Stepped Refusal) (h : StepCall t x s) where
    pub outcome-of-step : r ≡ outcome_in s
    outcome-of-step = says-fixed step_said outcome-fixed r (outcome_in s) (outcome_of (step_on t x)) g.outcome (said (step_on t x) x s h.answer)

    pub state-of-step : (a n : ℕ) → r ≡ Ok (Moved a n) → (p : Stepped) → s ≡ Ok p → y ≡ p.state
    state-of-step a n e p k =
        let q : ◌≡◌ {A = Result Outcome Refusal} (Ok p.outcome) (Ok (Moved a n)) = sym (ap outcome_in k) ∙ sym outcome-of-step ∙ e in
        let o : p.outcome ≡ Moved a n = cc in
        g.state ∙ sym (where-moved (step_on t x) x p a n (subst (StepAnswers (step_on t x) x) k h.answer) o)
