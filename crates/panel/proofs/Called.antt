-- Where `step` refuses, `advance` does, and the state stays.
use mathlib.Core.Path.{◌≡◌, refl, subst}
use mathlib.Core.List.{List}
use Prim.Native.Nat.{ℕ}
use Rattle.std.specs.Prelude.{Result, Err}
use Rattle.answer.specs.declared.Refusal.{Refusal}
use Rattle.answer.specs.declared.State.{State}
use Rattle.answer.specs.declared.Stepped.{Stepped}
use Rattle.settling.specs.Gives.{StepAnswers}
use Rattle.run.specs.Calls.{StepCall, step_on}
use Rattle.panel.specs.Advance.{AdvanceCall}
use Rattle.panel.proofs.Kept.{said, where-refused}

module _ (t : List ℕ) (x : State) (r : Result Stepped Refusal) (h : StepCall t x r) where
  pub refused-call : (q : Refusal) → r ≡ Err q → AdvanceCall t x x (Err q)
  refused-call q e =
      let o = said (step_on t x) x (Err q) (subst (StepAnswers (step_on t x) x) e h.answer) in
      record { outcome = o; state = where-refused (step_on t x) x (Err q) q o refl }
