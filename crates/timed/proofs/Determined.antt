-- Any two outcomes that the contract of `timed_step` allows are equal: the answer, and all values.
use mathlib.Core.Path.{◌≡◌, sym, ◌∙◌}
use mathlib.Core.List.{List}
use Prim.Native.Nat.{ℕ}
use lib.IntN.{ℤ}
use Rattle.answer.specs.Told.{Answer, answered, refused}
use Rattle.answer.specs.State.{parts_of}
use Rattle.answer.specs.declared.State.{State}
use Rattle.std.specs.Prelude.{Result, Ok, Err}
use Rattle.answer.specs.declared.Timed.{Timed}
use Rattle.answer.specs.declared.Refusal.{Refusal}
use Rattle.answer.proofs.SaysFixes.{firing-fixed, refused-fixed}
use Rattle.timing.specs.Timed.{timed_of}
use Rattle.iosa.specs.TimedExactly.{Timing}
use Rattle.table.specs.OnTable.{on_table}
use Rattle.firing.specs.Shots.{TimingAnswers}
use Rattle.timed.specs.TimedStep.{TimedStep}

answers-fix : (a : Answer Timing) (x : State) (was : List ℤ) (r q : Result Timed Refusal) (vs us : List ℤ) → TimingAnswers a x was r vs
    → TimingAnswers a x was q us
    → (r ≡ q) × (vs ≡ us)
answers-fix (answered d) x was (Ok p) (Ok o) vs us g h =
    let f = firing-fixed p.firing o.firing (g.firing ∙ sym h.firing) in
    let s = g.state ∙ sym h.state in
    (λ i. Ok (record { firing = f i; state = s i }), g.values ∙ sym h.values)
answers-fix (answered d) x was (Ok p) (Err q) vs us g h = absurd h
answers-fix (answered d) x was (Err p) q vs us g h = absurd g
answers-fix (refused t) x was r q vs us g h = (refused-fixed r q t g.told h.told, g.values ∙ sym h.values)

pub timed_step-determined : (t : List ℕ) (x : State) (was : List ℤ) (r q : Result Timed Refusal) (vs us : List ℤ) → TimedStep t x was r vs
    → TimedStep t x was q us
    → (r ≡ q) × (vs ≡ us)
timed_step-determined t x was r q vs us g h = answers-fix (on_table t (λ m. timed_of m (parts_of x) was)) x was r q vs us g h
