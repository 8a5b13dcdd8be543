-- What a round of a simulation gives: its answer, and the values and places then. The samples are whichever the places supply.
use Rattle.std.specs.Prelude as Answered
use Rattle.std.specs.Prelude.{Some, None, IsSomeAnd, IfSome, Result, Ok, Err, IsOkAnd, IfOk, ◌≡◌, List, ℕ, length, ℤ}
use Rattle.std.proofs.Math.Option.{Option, none, some}
use Rattle.answer.specs.Limits.{max_clocks}
use Rattle.answer.specs.Told.{Answer, answered, refused, fired, quiet, RefusedWith}
use Rattle.answer.specs.State.{parts_of}
use Rattle.answer.specs.declared.Refusal.{Refusal}
use Rattle.answer.specs.declared.State.{State}
use Rattle.answer.specs.declared.Simulated.{Simulated}
use Rattle.model.specs.Model.{Model, declared}
use Rattle.iosa.specs.Automaton.{Conforming, Joinable}
use Rattle.timing.specs.Timed.{timed_from, enabling_all}
use Rattle.layout.specs.Image.{Image, model_of}
use Rattle.words.specs.Bytes.{state_of}
use Rattle.ticks.specs.Ticks.{Ticking}
use Rattle.settling.specs.Gives.{Ready}
use Rattle.simulation.specs.Simulate.{Supply, Round, end_of, close_of, and_then, Simulation, none_taken, round_zero, rounds_from, simulate_of}
use Rattle.feed.specs.Supply.{Lent, Supplies}
use Rattle.rounds.specs.declared.Stand.{Stand}

-- an image of an accepted model, a composed state of it with zeros behind its parts, and 64 values, the declared ones in range
pub record Posed (t : List ℕ) (x : State) (vs : List ℤ) : Type 0 where
  pub ready : Ready t x
  pub zeros : x ≡ state_of (parts_of x)
  pub ticking : Ticking (declared (model_of t)) vs

-- a place for each clock, and how many numbers it has used
pub record Placed (at used : List ℕ) : Type 0 where
  pub at_count : length at ≡ max_clocks
  pub used-count : length used ≡ max_clocks

-- the round is done: it ended with q, in state x
pub record RoundIs (l : Lent) (p : Supply) (q : Round) (x : State) (at used : List ℕ) (vs : List ℤ) : Type 0 where
  pub state : x ≡ state_of q.state
  pub values : vs ≡ q.values
  pub supplies : Supplies l p q.taken at used

abbrev pub Closing : Type 0
Closing = Result State Refusal

abbrev pub Closes : Answer Round → Lent → Supply → Closing → List ℕ → List ℕ → List ℤ → Type 0
Closes (answered q) l p r at used vs = IsOkAnd r (λ x. RoundIs l p q x at used vs)
Closes (refused f) l p r at used vs = RefusedWith f r

-- of `end`; at, used and was are the places and values before, at', used' and vs those after
pub record EndCall (l : Lent) (s : Stand) (at used : List ℕ) (was : List ℤ) (r : Closing) (at' used' : List ℕ) (vs : List ℤ) : Type 0 where
  pub ends : (p : Supply) (ts : List ℕ) → Supplies l p ts at used → s.state ≡ state_of (parts_of s.state)
      → Closes (end_of p s.resets (parts_of s.state) was ts) l p r at' used' vs
  pub placed : Placed at' used'
  pub state : IfOk r (λ x. x ≡ s.state)
  pub ticking : (d : ℕ) → Ticking d was → Ticking d vs

-- of `close`
pub record CloseCall (t : List ℕ) (l : Lent) (s : Stand) (at used : List ℕ) (was : List ℤ) (r : Closing) (at' used' : List ℕ) (vs : List ℤ) : Type 0 where
  pub closes : (p : Supply) (ts : List ℕ) → Supplies l p ts at used
      → Closes (close_of (model_of t) p s.round s.resets (parts_of s.state) was ts) l p r at' used' vs
  pub placed : Placed at' used'
  pub posed : IfOk r (λ x. Posed t x vs)
  pub ticking : Ticking (declared (model_of t)) vs

-- one later round, which is round k, from a state, values and samples taken: quiet, or what it ends with
unfoldable pub later_of : Model → Supply → ℕ → List ℕ → List ℤ → List ℕ → Answer (Option Round)
later_of m p k s vs ts = and_then (timed_from m s vs (enabling_all m s)) (λ τ. elim τ.shot [
  | quiet ↦ answered none
  | fired v a R ↦ and_then (close_of m p k R τ.state τ.values ts) (λ q. answered (some q))
])

abbrev pub Turn : Type 0
Turn = Result (Answered.Option State) Refusal

abbrev pub Later : Answer (Option Round) → Lent → Supply → List ℤ → Turn → List ℕ → List ℕ → List ℤ → Type 0
Later (answered (some q)) l p was r at used vs = IsOkAnd r (λ o. IsSomeAnd o (λ x. RoundIs l p q x at used vs))
Later (answered none) l p was r at used vs = IsOkAnd r Answered.IsNone × (vs ≡ was)
Later (refused f) l p was r at used vs = RefusedWith f r

-- of `later`
pub record LaterCall (t : List ℕ) (l : Lent) (s : Stand) (at used : List ℕ) (was : List ℤ) (r : Turn) (at' used' : List ℕ) (vs : List ℤ) : Type 0 where
  pub goes : (p : Supply) (ts : List ℕ) → Supplies l p ts at used
      → Later (later_of (model_of t) p s.round (parts_of s.state) was ts) l p was r at' used' vs
  pub placed : Placed at' used'
  pub posed : IfOk r (λ o. IfSome o (λ x. Posed t x vs))
  pub ticking : Ticking (declared (model_of t)) vs

-- ---- all rounds
pub record Runnable (t : List ℕ) : Type 0 where
  pub image : Image t
  pub conforming : Conforming (model_of t)
  pub joinable : Joinable (model_of t)

pub record RunGives (d : Simulation) (p : Simulated) (vs : List ℤ) : Type 0 where
  pub rounds : p.rounds ≡ d.rounds
  pub state : p.state ≡ state_of d.last.state
  pub values : vs ≡ d.last.values

abbrev pub Runs : Answer Simulation → Result Simulated Refusal → List ℤ → Type 0
Runs (answered d) r vs = IsOkAnd r (λ p. RunGives d p vs)
Runs (refused f) r vs = RefusedWith f r

-- of `later_rounds`: n of them after round 0, which ended in this state with these values
pub record RoundsCall (t : List ℕ) (l : Lent) (n : ℕ) (x : State) (at used : List ℕ) (was : List ℤ) (r : Result Simulated Refusal) (vs : List ℤ) : Type 0 where
  pub runs : (p : Supply) (ts : List ℕ) → Supplies l p ts at used
      → Runs (rounds_from (model_of t) p n 0 (record { state = parts_of x; values = was; taken = ts })) r vs

-- of `first`
pub record FirstCall (t : List ℕ) (l : Lent) (at used : List ℕ) (r : Closing) (at' used' : List ℕ) (vs : List ℤ) : Type 0 where
  pub closes : (p : Supply) → Supplies l p none_taken at used → Closes (round_zero (model_of t) p) l p r at' used' vs
  pub placed : Placed at' used'
  pub posed : IfOk r (λ x. Posed t x vs)
  pub ticking : Ticking (declared (model_of t)) vs

-- of `run`: n later rounds, over whatever the places supply
pub record RunCall (t : List ℕ) (l : Lent) (n : ℕ) (at used : List ℕ) (r : Result Simulated Refusal) (vs : List ℤ) : Type 0 where
  pub runs : (p : Supply) → Supplies l p none_taken at used → Runs (simulate_of (model_of t) p n) r vs
