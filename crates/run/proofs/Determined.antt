-- Any two outcomes that a call's promise allows are equal, the trace too.
use mathlib.Core.Path.{◌≡◌, sym, ◌∙◌}
use mathlib.Core.List.{List}
use Prim.Native.Nat.{ℕ}
use Rattle.std.specs.Prelude.{Result, Ok, Err}
use Rattle.answer.specs.Told.{Answer, answered, refused}
use Rattle.answer.specs.declared.Refusal.{Refusal}
use Rattle.answer.specs.declared.State.{State}
use Rattle.answer.specs.declared.Stepped.{Stepped}
use Rattle.answer.specs.declared.Settled.{Settled}
use Rattle.iosa.specs.Stepped.{Stepping}
use Rattle.iosa.specs.Orders.{Settling}
use Rattle.settling.specs.Gives.{StepAnswers, SettleAnswers}
use Rattle.run.specs.Calls.{StepCall, StepByCall, SettleCall, SettleListCall, step_on, step_by_on, settle_on, settle_list_on}
use Rattle.answer.proofs.SaysFixes.{outcome-fixed, verdict-fixed, refused-fixed}

stepped : (v : Answer Stepping) (x : State) (r q : Result Stepped Refusal) → StepAnswers v x r → StepAnswers v x q → r ≡ q
stepped (answered v) x (Ok r) (Ok q) g h =
    let o = outcome-fixed r.outcome q.outcome (g.outcome ∙ sym h.outcome) in
    let s = g.state ∙ sym h.state in
    λ i. Ok (record { outcome = o i; state = s i })
stepped (answered v) x (Ok r) (Err q) g h = absurd h
stepped (answered v) x (Err r) q g h = absurd g
stepped (refused f) x r q g h = refused-fixed r q f g h

settled : (v : Answer (Settling (List ℕ))) (x : State) (r q : Result Settled Refusal) → SettleAnswers v x r → SettleAnswers v x q → r ≡ q
settled (answered d) x (Ok r) (Ok q) g h =
    let o = verdict-fixed r.verdict q.verdict (g.verdict ∙ sym h.verdict) in
    let n = g.steps ∙ sym h.steps in
    let c = g.resets ∙ sym h.resets in
    let s = g.state ∙ sym h.state in
    λ i. Ok (record { verdict = o i; steps = n i; resets = c i; state = s i })
settled (answered d) x (Ok r) (Err q) g h = absurd h
settled (answered d) x (Err r) q g h = absurd g
settled (refused f) x r q g h = refused-fixed r q f g h

pub step-determined : (t : List ℕ) (x : State) (r q : Result Stepped Refusal) → StepCall t x r → StepCall t x q → r ≡ q
step-determined t x r q g h = stepped (step_on t x) x r q g.answer h.answer

pub step-by-determined : (t : List ℕ) (x : State) (a : ℕ) (r q : Result Stepped Refusal) → StepByCall t x a r → StepByCall t x a q → r ≡ q
step-by-determined t x a r q g h = stepped (step_by_on t x a) x r q g.answer h.answer

pub settle-determined : (t : List ℕ) (x : State) (budget : ℕ) (old new late : List ℕ) (r q : Result Settled Refusal) → SettleCall t x budget old new r
    → SettleCall t x budget old late q → (r ≡ q) × (new ≡ late)
settle-determined t x budget old new late r q g h = (settled (settle_on t x budget old) x r q g.answer h.answer, g.trace ∙ sym h.trace)

pub settle-list-determined : (t : List ℕ) (x : State) (l : List ℕ) (r q : Result Settled Refusal) → SettleListCall t x l r → SettleListCall t x l q → r ≡ q
settle-list-determined t x l r q g h = settled (settle_list_on t x l) x r q g.answer h.answer
