-- What the call `advance` answers, and what the lent state is then ("a composed state lent to one urgent step and advanced there").
use Rattle.std.specs.Prelude.{◌≡◌, Bool, true, false, List, ℕ, Result, Ok, Err}
use Rattle.std.proofs.Math.Option.{some}
use Rattle.answer.specs.Told.{Answer, answered, refused, Step, moved, stable, step_said, says}
use Rattle.answer.specs.State.{with_parts}
use Rattle.answer.specs.declared.Outcome.{Outcome}
use Rattle.answer.specs.declared.Outcome.TheVariants.{Moved, Stable}
use Rattle.answer.specs.declared.Refusal.{Refusal}
use Rattle.answer.specs.declared.State.{State}
use Rattle.answer.specs.declared.Stepped.{Stepped}
use Rattle.iosa.specs.Stepped.{Stepping}
use Rattle.run.specs.Calls.{step_on}

-- "Each step's outcome is one of moved, stable or refused"
abbrev pub outcome_of : Answer Stepping → Answer Step
outcome_of (answered v) = answered v.step
outcome_of (refused f) = refused f

-- a step's state, or the one before it where nothing moves
abbrev pub moved_to : State → Step → List ℕ → State
moved_to x (moved a r) ps = with_parts x ps
moved_to x stable ps = x

-- "A refusal .. changes no lent byte"
abbrev pub state_after : State → Answer Stepping → State
state_after x (answered v) = moved_to x v.step v.state
state_after x (refused f) = x

-- t is the table; x is the lent state before the call, and y after it
pub record AdvanceCall (t : List ℕ) (x y : State) (r : Result Outcome Refusal) : Type 0 where
  pub outcome : says step_said r ≡ some (outcome_of (step_on t x))
  pub state : y ≡ state_after x (step_on t x)

-- the same of a state by value: the state after stands beside the outcome, and a refusal has none
pub record AdvancedCall (t : List ℕ) (x : State) (r : Result Stepped Refusal) : Type 0 where
  pub outcome : says (λ p. step_said p.outcome) r ≡ some (outcome_of (step_on t x))
  pub state : (p : Stepped) → r ≡ Ok p → p.state ≡ state_after x (step_on t x)

-- whether an outcome is a move: only then is there a state to store
abbrev pub is_move : Outcome → Bool
is_move (Moved a r) = true
is_move Stable = false

-- what a step did, without the state after it
abbrev pub outcome_in : Result Stepped Refusal → Result Outcome Refusal
outcome_in (Ok p) = Ok p.outcome
outcome_in (Err q) = Err q
