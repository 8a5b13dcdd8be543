-- Any two outcomes that the promise of `advance` allows are equal, the lent state too.
use mathlib.Core.Path.{◌≡◌, sym, ◌∙◌}
use mathlib.Core.List.{List}
use Prim.Native.Nat.{ℕ}
use Rattle.answer.specs.declared.Outcome.{Outcome}
use Rattle.answer.specs.Told.{step_said}
use Rattle.std.specs.Prelude.{Result}
use Rattle.answer.specs.declared.Refusal.{Refusal}
use Rattle.answer.specs.declared.State.{State}
use Rattle.run.specs.Calls.{step_on}
use Rattle.answer.proofs.SaysFixes.{outcome-fixed, says-fixed}
use Rattle.panel.specs.Advance.{AdvanceCall, outcome_of}

pub advance-determined : (t : List ℕ) (x y z : State) (r q : Result Outcome Refusal) → AdvanceCall t x y r → AdvanceCall t x z q → (r ≡ q) × (y ≡ z)
advance-determined t x y z r q g h = (says-fixed step_said outcome-fixed r q (outcome_of (step_on t x)) g.outcome h.outcome, g.state ∙ sym h.state)
