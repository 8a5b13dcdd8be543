-- The state that stands after a step, by the step's outcome: the one that the step answers where it moved, else the one before it.
use mathlib.Core.Path.{◌≡◌, refl, sym, ◌∙◌, ap}
use mathlib.Core.Option.{Option, none, some}
use Prim.Native.Nat.{ℕ}
use native.Mathlib.Omega.{arith}
use Rattle.std.specs.Prelude.{Result, Ok, Err}
use Rattle.answer.specs.Told.{Told, told, Answer, answered, refused, as_refused, Step, moved, stable, step_said, says}
use Rattle.answer.specs.declared.Outcome.{Outcome}
use Rattle.answer.specs.declared.Outcome.TheVariants.{Moved, Stable}
use Rattle.answer.specs.declared.Refusal.{Refusal}
use Rattle.answer.specs.declared.State.{State}
use Rattle.answer.specs.declared.Stepped.{Stepped}
use Rattle.iosa.specs.Stepped.{Stepping}
use Rattle.settling.specs.Gives.{StepAnswers}
use Rattle.panel.specs.Advance.{outcome_of, moved_to, state_after, outcome_in}

pub said : (v : Answer Stepping) (x : State) (r : Result Stepped Refusal) → StepAnswers v x r → says step_said (outcome_in r) ≡ some (outcome_of v)
said (answered v) x (Ok p) g = ap (λ s. some (answered s)) g.outcome
said (answered v) x (Err q) g = absurd g
said (refused f) x (Ok p) g = absurd g
said (refused f) x (Err q) g = ap as_refused g

pub where-moved : (v : Answer Stepping) (x : State) (p : Stepped) (a n : ℕ) → StepAnswers v x (Ok p) → p.outcome ≡ Moved a n → p.state ≡ state_after x v
where-moved (answered v) x p a n g e =
    let q : moved a n ≡ v.step = sym (ap step_said e) ∙ g.outcome in
    g.state ∙ ap (λ w. moved_to x w v.state) q
where-moved (refused f) x p a n g e = absurd g

pub where-stable : (v : Answer Stepping) (x : State) (r : Result Outcome Refusal) → says step_said r ≡ some (outcome_of v) → r ≡ Ok Stable → x ≡ state_after x v
where-stable (answered v) x r g e =
    let s : ◌≡◌ {A = Option (Answer Step)} (some (answered stable)) (some (answered v.step)) = sym (ap (says step_said) e) ∙ g in
    let q : stable ≡ v.step = cc in
    ap (λ w. moved_to x w v.state) q
where-stable (refused f) x r g e = refl

no_value : (o : Option Told) (w : Step) → ◌≡◌ {A = Option (Answer Step)} (as_refused o) (some (answered w)) → ⊥
no_value none w e = let z : ◌≡◌ {A = ℕ} 0 1 = cc in absurd (omega arith)
no_value (some f) w e = let z : ◌≡◌ {A = ℕ} 0 1 = cc in absurd (omega arith)

pub where-refused : (v : Answer Stepping) (x : State) (r : Result Outcome Refusal) (q : Refusal) → says step_said r ≡ some (outcome_of v) → r ≡ Err q
    → x ≡ state_after x v
where-refused (answered v) x r q g e = absurd (no_value (told q) v.step (sym (ap (says step_said) e) ∙ g))
where-refused (refused f) x r q g e = refl
