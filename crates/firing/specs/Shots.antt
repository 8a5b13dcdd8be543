-- What the timed step gives: its answer, and what the lent values are then.
use Rattle.std.specs.Prelude.{◌≡◌, List, ℕ, ◌<◌, ℤ, pos, false, Result, IsOkAnd}
use Rattle.std.specs.Int.Signed.{lt_z}
use Rattle.answer.specs.Limits.{max_clocks}
use Rattle.answer.specs.Told.{Told, Answer, answered, refused, shot_said, RefusedWith}
use Rattle.answer.specs.State.{with_parts}
use Rattle.answer.specs.declared.State.{State}
use Rattle.answer.specs.declared.Timed.{Timed}
use Rattle.answer.specs.declared.Refusal.{Refusal}
use Rattle.answer.specs.declared.Place.TheVariants.{Whole}
use Rattle.laws.specs.Sets.{◌∈◌}
use Rattle.iosa.specs.Automaton.{Conforming, Joinable}
use Rattle.model.specs.Model.{Model, declared}
use Rattle.timing.specs.Timed.{enabling_all}
use Rattle.iosa.specs.TimedExactly.{Timing, value_of}
use Rattle.layout.specs.Image.{model_of}
use Rattle.moves.specs.Standing.{Standing}
use Rattle.ticks.specs.Ticks.{Ticking}

-- "The answer gives v, action, resets, state"; places of the state at and past the count stay
pub record TimingGives (d : Timing) (x : State) (p : Timed) (vs : List ℤ) : Type 0 where
  pub firing : shot_said p.firing ≡ d.shot
  pub state : p.state ≡ with_parts x d.state
  pub values : vs ≡ d.values

-- "A refusal returns its number and place and changes no lent byte"; was are the values before
pub record TimingRefused (f : Told) (was : List ℤ) (r : Result Timed Refusal) (vs : List ℤ) : Type 0 where
  pub told : RefusedWith f r
  pub values : vs ≡ was

abbrev pub TimingAnswers : Answer Timing → State → List ℤ → Result Timed Refusal → List ℤ → Type 0
TimingAnswers (answered d) x was r vs = IsOkAnd r (λ p. TimingGives d x p vs)
TimingAnswers (refused f) x was r vs = TimingRefused f was r vs

-- an image of an accepted model, a composed state of it, and 64 values, the declared ones in range
pub record Armed (t : List ℕ) (x : State) (vs : List ℤ) : Type 0 where
  pub standing : Standing t x
  pub conforming : Conforming (model_of t)
  pub joinable : Joinable (model_of t)
  pub ticking : Ticking (declared (model_of t)) vs

-- clock x is enabling, and not below zero
pub record Fireable (m : Model) (s : List ℕ) (vs : List ℤ) (x : ℕ) : Type 0 where
  pub below : x < max_clocks
  pub enables : x ∈ enabling_all m s
  pub from_zero : lt_z (value_of vs x) (pos 0) ≡ false

-- a refusal of the whole
abbrev pub refused_with : ℕ → Refusal
refused_with n = record { number = n; place = Whole }
