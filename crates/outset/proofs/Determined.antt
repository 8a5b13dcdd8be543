-- Any two answers that the contract of `start` allows are equal.
use mathlib.Core.Path.{◌≡◌, sym, ◌∙◌, ap}
use mathlib.Core.List.{List}
use Prim.Native.Nat.{ℕ}
use Rattle.std.specs.Prelude.{Result, Ok, Err}
use Rattle.answer.specs.Told.{Answer, answered, refused}
use Rattle.answer.specs.declared.Refusal.{Refusal}
use Rattle.answer.proofs.SaysFixes.{refused-fixed}
use Rattle.iosa.specs.Start.{Beginning}
use Rattle.outset.specs.declared.Outset.{Outset}
use Rattle.outset.specs.Start.{start_on, StartGives, StartLeaves, StartCall}

pub gives-fixed : (b : Beginning) (r q : Outset) → StartGives b r → StartGives b q → r ≡ q
gives-fixed b r q g h =
    let s = g.started ∙ sym h.started in
    let x = g.state ∙ sym h.state in
    λ i. record { started = s i; state = x i }

fixed : (a : Answer Beginning) (r q : Result Outset Refusal) → StartLeaves r a → StartLeaves q a → r ≡ q
fixed (answered b) (Ok r) (Ok q) g h = ap (λ x. Ok x) (gives-fixed b r q g h)
fixed (answered b) (Ok r) (Err q) g h = absurd h
fixed (answered b) (Err r) q g h = absurd g
fixed (refused f) r q g h = refused-fixed r q f g h

pub start-determined : (t : List ℕ) (r q : Result Outset Refusal) → StartCall t r → StartCall t q → r ≡ q
start-determined t r q g h = fixed (start_on t) r q g h
