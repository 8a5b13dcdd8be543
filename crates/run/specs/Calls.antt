-- What the calls `step`, `step_by`, `settle` and `settle_list` answer on every input, and what they leave in the trace.
use Rattle.std.specs.Prelude.{◌≡◌, List, ℕ, length, Result}
use Rattle.answer.specs.Told.{Answer, answered, refused}
use Rattle.answer.specs.State.{parts_of}
use Rattle.answer.specs.declared.Refusal.{Refusal}
use Rattle.answer.specs.declared.State.{State}
use Rattle.answer.specs.declared.Stepped.{Stepped}
use Rattle.answer.specs.declared.Settled.{Settled}
use Rattle.iosa.specs.Step.{step_of, step_by_of}
use Rattle.iosa.specs.Stepped.{Stepping}
use Rattle.iosa.specs.Settle.{settle_of, settle_list_of}
use Rattle.iosa.specs.Orders.{Settling}
use Rattle.table.specs.OnTable.{on_table}
use Rattle.settling.specs.Gives.{StepAnswers, SettleAnswers, traced}

-- "One step, by our rule .." on a table: 20, then what the model's call answers
abbrev pub step_on : List ℕ → State → Answer Stepping
step_on t x = on_table t (λ m. step_of m (parts_of x))

abbrev pub step_by_on : List ℕ → State → ℕ → Answer Stepping
step_by_on t x a = on_table t (λ m. step_by_of m (parts_of x) a)

pub record StepCall (t : List ℕ) (x : State) (r : Result Stepped Refusal) : Type 0 where
  pub answer : StepAnswers (step_on t x) x r

pub record StepByCall (t : List ℕ) (x : State) (a : ℕ) (r : Result Stepped Refusal) : Type 0 where
  pub answer : StepAnswers (step_by_on t x a) x r

-- settling with a lent trace of these bytes
abbrev pub settle_on : List ℕ → State → ℕ → List ℕ → Answer (Settling (List ℕ))
settle_on t x budget old = on_table t (λ m. settle_of m (parts_of x) budget (length old))

-- "It writes the actions taken to the front of a lent trace, one byte each; later bytes stay"; "A refusal .. changes no lent byte"
abbrev pub trace_after : Answer (Settling (List ℕ)) → List ℕ → List ℕ
trace_after (answered d) old = traced d.trace old
trace_after (refused f) old = old

pub record SettleCall (t : List ℕ) (x : State) (budget : ℕ) (old new : List ℕ) (r : Result Settled Refusal) : Type 0 where
  pub answer : SettleAnswers (settle_on t x budget old) x r
  pub trace : new ≡ trace_after (settle_on t x budget old) old

abbrev pub settle_list_on : List ℕ → State → List ℕ → Answer (Settling (List ℕ))
settle_list_on t x l = on_table t (λ m. settle_list_of m (parts_of x) l)

pub record SettleListCall (t : List ℕ) (x : State) (l : List ℕ) (r : Result Settled Refusal) : Type 0 where
  pub answer : SettleAnswers (settle_list_on t x l) x r
