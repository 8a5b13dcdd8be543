-- Any two outcomes that a call's promise allows are equal, the trace too.
use mathlib.Core.Path.{◌≡◌, sym, ◌∙◌}
use mathlib.Core.List.{List}
use Prim.Native.Nat.{ℕ}
use Rattle.std.specs.Prelude.{Result, Ok, Err}
use Rattle.answer.specs.Told.{Answer, answered, refused}
use Rattle.answer.specs.declared.Refusal.{Refusal}
use Rattle.answer.specs.declared.Settled.{Settled}
use Rattle.answer.proofs.SaysFixes.{verdict-fixed, refused-fixed}
use Rattle.iosa.specs.Orders.{Settling}
use Rattle.after.specs.Calls.{AfterAnswers, settle_after_on, SettleAfterCall, settle_list_after_on, SettleListAfterCall}

one_answer : (v : Answer (Settling (List ℕ))) (r q : Result Settled Refusal) → AfterAnswers v r → AfterAnswers v q → r ≡ q
one_answer (answered d) (Ok r) (Ok q) g h =
    let o = verdict-fixed r.verdict q.verdict (g.verdict ∙ sym h.verdict) in
    let n = g.steps ∙ sym h.steps in
    let c = g.resets ∙ sym h.resets in
    let s = g.state ∙ sym h.state in
    λ i. Ok (record { verdict = o i; steps = n i; resets = c i; state = s i })
one_answer (answered d) (Ok r) (Err q) g h = absurd h
one_answer (answered d) (Err r) q g h = absurd g
one_answer (refused f) r q g h = refused-fixed r q f g h

pub settle-after-determined : (t p : List ℕ) (budget : ℕ) (old new late : List ℕ) (r q : Result Settled Refusal)
    → SettleAfterCall t p budget old new r → SettleAfterCall t p budget old late q → (r ≡ q) × (new ≡ late)
settle-after-determined t p budget old new late r q g h = (one_answer (settle_after_on t p budget old) r q g.answer h.answer, g.trace ∙ sym h.trace)

pub settle-list-after-determined : (t p l : List ℕ) (r q : Result Settled Refusal) → SettleListAfterCall t p l r → SettleListAfterCall t p l q → r ≡ q
settle-list-after-determined t p l r q g h = one_answer (settle_list_after_on t p l) r q g.answer h.answer
