-- What a step and settling give, in an accepted model and from a state of it.
use Rattle.std.specs.Prelude.{◌≡◌, List, ◌++◌, ℕ, length, drop, Result, IsOkAnd}
use Rattle.answer.specs.Told.{Answer, answered, refused, moved, step_said, stable_said, RefusedWith}
use Rattle.answer.specs.State.{parts_of, with_parts}
use Rattle.answer.specs.declared.State.{State}
use Rattle.answer.specs.declared.Refusal.{Refusal}
use Rattle.answer.specs.declared.Place.TheVariants.{Index}
use Rattle.answer.specs.declared.Stepped.{Stepped}
use Rattle.answer.specs.declared.Settled.{Settled}
use Rattle.model.specs.Model.{Model}
use Rattle.iosa.specs.Automaton.{Conforming, Joinable}
use Rattle.iosa.specs.Step.{taken, taken_by, named, lowest, urgent_step, is_stable}
use Rattle.iosa.specs.Stepped.{Stepping}
use Rattle.iosa.specs.Settle.{settle}
use Rattle.iosa.specs.Orders.{Settling}
use Rattle.layout.specs.Image.{model_of}
use Rattle.moves.specs.Moves.{reset_all, after_all}
use Rattle.moves.specs.Standing.{Standing}

-- an image of an accepted model, and a composed state of it
pub record Ready (t : List ℕ) (x : State) : Type 0 where
  pub standing : Standing t x
  pub conforming : Conforming (model_of t)
  pub joinable : Joinable (model_of t)

-- the answer says this step, with its state; places at and past the count stay
pub record StepGives (v : Stepping) (x : State) (r : Stepped) : Type 0 where
  pub outcome : step_said r.outcome ≡ v.step
  pub state : r.state ≡ with_parts x v.state

-- the answer says a step by this action
pub record StepsBy (m : Model) (x : State) (a : ℕ) (r : Stepped) : Type 0 where
  pub outcome : step_said r.outcome ≡ moved a (reset_all m (parts_of x) a)
  pub state : r.state ≡ with_parts x (after_all m (parts_of x) a)

-- the step by our rule
abbrev pub by_rule_of : Model → List ℕ → Stepping
by_rule_of m s = taken s (lowest (urgent_step m) s)

-- the step by a named action, or 23 at 0
abbrev pub by_name_of : Model → List ℕ → ℕ → Answer Stepping
by_name_of m s a = taken_by (named a (urgent_step m s a))

-- a step, or a refusal
abbrev pub StepAnswers : Answer Stepping → State → Result Stepped Refusal → Type 0
StepAnswers (answered v) x r = IsOkAnd r (λ p. StepGives v x p)
StepAnswers (refused f) x r = RefusedWith f r

-- 23 at an index
abbrev pub not_enabled_at : ℕ → Refusal
not_enabled_at i = record { number = 23; place = Index i }

-- the answer says this settling
pub record SettlingGives (d : Settling (List ℕ)) (x : State) (r : Settled) : Type 0 where
  pub verdict : stable_said r.verdict ≡ d.stable
  pub steps : r.steps ≡ d.steps
  pub resets : r.resets ≡ d.resets
  pub state : r.state ≡ with_parts x d.state

-- the answer says so many steps with these resets, and whether the state that they led to is stable
pub record EndsAt (m : Model) (cur : State) (steps resets : ℕ) (r : Settled) : Type 0 where
  pub verdict : stable_said r.verdict ≡ is_stable m (parts_of cur)
  pub steps-are : r.steps ≡ steps
  pub resets-are : r.resets ≡ resets
  pub state : r.state ≡ cur

-- a settling, or a refusal
abbrev pub SettleAnswers : Answer (Settling (List ℕ)) → State → Result Settled Refusal → Type 0
SettleAnswers (answered d) x r = IsOkAnd r (λ p. SettlingGives d x p)
SettleAnswers (refused f) x r = RefusedWith f r

abbrev pub SettleGives : Model → ℕ → State → Settled → Type 0
SettleGives m budget x r = SettlingGives (settle (urgent_step m) budget (parts_of x)) x r

-- "It writes the actions taken to the front of a lent trace, one byte each; later bytes stay"
unfoldable pub traced : List ℕ → List ℕ → List ℕ
traced l old = l ++ drop (length l) old

abbrev pub TraceHolds : Model → ℕ → State → List ℕ → List ℕ → Type 0
TraceHolds m budget x old new = new ≡ traced (settle (urgent_step m) budget (parts_of x)).trace old
