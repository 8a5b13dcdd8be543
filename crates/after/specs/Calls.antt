-- What the calls `settle_after` and `settle_list_after` answer on every input, and what they leave in the trace.
use Rattle.std.specs.Prelude.{◌≡◌, List, ℕ, length, Result, IsOkAnd}
use Rattle.answer.specs.Told.{Answer, answered, refused, stable_said, RefusedWith}
use Rattle.answer.specs.declared.Refusal.{Refusal}
use Rattle.answer.specs.declared.Settled.{Settled}
use Rattle.iosa.specs.Orders.{Settling}
use Rattle.table.specs.OnTable.{on_table}
use Rattle.words.specs.Bytes.{state_of}
use Rattle.run.specs.Calls.{trace_after}
use Rattle.after.specs.After.{walk_of, settle_after_of, settle_list_after_of}

-- 20, then where the path leads in the table's model
abbrev pub walked_on : List ℕ → List ℕ → Answer (List ℕ)
walked_on t p = on_table t (λ m. walk_of m p)

-- "Steps, resets and trace of the answer are those of the settling, not of the path"; places of the state past the last component are 0
pub record AfterGives (d : Settling (List ℕ)) (r : Settled) : Type 0 where
  pub verdict : stable_said r.verdict ≡ d.stable
  pub steps : r.steps ≡ d.steps
  pub resets : r.resets ≡ d.resets
  pub state : r.state ≡ state_of d.state

-- a settling, or a refusal
abbrev pub AfterAnswers : Answer (Settling (List ℕ)) → Result Settled Refusal → Type 0
AfterAnswers (answered d) r = IsOkAnd r (λ p. AfterGives d p)
AfterAnswers (refused f) r = RefusedWith f r

-- settling with a lent trace of these bytes: 20, then what the model's call answers
abbrev pub settle_after_on : List ℕ → List ℕ → ℕ → List ℕ → Answer (Settling (List ℕ))
settle_after_on t p budget old = on_table t (λ m. settle_after_of m p budget (length old))

pub record SettleAfterCall (t p : List ℕ) (budget : ℕ) (old new : List ℕ) (r : Result Settled Refusal) : Type 0 where
  pub answer : AfterAnswers (settle_after_on t p budget old) r
  pub trace : new ≡ trace_after (settle_after_on t p budget old) old

abbrev pub settle_list_after_on : List ℕ → List ℕ → List ℕ → Answer (Settling (List ℕ))
settle_list_after_on t p l = on_table t (λ m. settle_list_after_of m p l)

pub record SettleListAfterCall (t p l : List ℕ) (r : Result Settled Refusal) : Type 0 where
  pub answer : AfterAnswers (settle_list_after_on t p l) r
