-- What the calls answer on a table and on the one that `merge` wrote (02, 11/13).
use Rattle.std.specs.Prelude.{◌≡◌, ℕ, Result, Ok, Err, IsOkAnd}
use Rattle.answer.specs.State.{parts_of}
use Rattle.answer.specs.declared.Refusal.{Refusal}
use Rattle.answer.specs.declared.Settled.{Settled}
use Rattle.model.specs.Model.{Model}
use Rattle.merged.specs.MergedExactly.{paired_at}

-- r is of a table that holds m, and q of the one that m merged at i was written to: one verdict, and "the end state read through the pair numbering"
pub record SameEnd (m : Model) (i : ℕ) (r q : Settled) : Type 0 where
  pub verdict : q.verdict ≡ r.verdict
  pub count : q.steps ≡ r.steps
  pub resets : q.resets ≡ r.resets
  pub end : parts_of q.state ≡ paired_at m i (parts_of r.state)

-- both settle, or there is one refusal
abbrev pub SameSettled : Model → ℕ → Result Settled Refusal → Result Settled Refusal → Type 0
SameSettled m i (Ok r) q = IsOkAnd q (λ p. SameEnd m i r p)
SameSettled m i (Err f) q = q ≡ Err f

-- two answers that are one: verdict, steps, resets and the numbers of the state; or the same refusal
abbrev pub SameAgain : Result Settled Refusal → Result Settled Refusal → Type 0
SameAgain (Ok q) r = IsOkAnd r (λ p. (q.verdict ≡ p.verdict) × (q.steps ≡ p.steps) × (q.resets ≡ p.resets) × (parts_of q.state ≡ parts_of p.state))
SameAgain (Err f) r = r ≡ Err f
