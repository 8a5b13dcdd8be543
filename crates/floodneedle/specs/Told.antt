-- What a caller in C is told: the answer's words, and the state after in a byte for each component that a model may have.
use Rattle.std.specs.Prelude.{◌≡◌, List, ℕ, length, ℤ}
use Rattle.answer.specs.Limits.{no_state}
use Rattle.answer.specs.State.{parts_of, with_parts}
use Rattle.answer.specs.Told.{Answer, answered, refused, Step, moved, stable, Shot}
use Rattle.answer.specs.declared.State.{State}
use Rattle.iosa.specs.Checks.{component_of, compatible_of, accept_of, confluent_of}
use Rattle.iosa.specs.Start.{Beginning}
use Rattle.iosa.specs.Stepped.{Stepping}
use Rattle.iosa.specs.Orders.{Settling}
use Rattle.timing.specs.Timed.{timed_of}
use Rattle.iosa.specs.TimedExactly.{Timing}
use Rattle.triggering.specs.Test.{orderly_of}
use Rattle.outset.specs.Start.{state_in}
use Rattle.panel.specs.Advance.{outcome_of}
use Rattle.table.specs.OnTable.{on_table, check_on}
use Rattle.words.specs.Bytes.{state_of}
use Rattle.words.specs.Words.{started_words, stepped_words, settled_words, fired_words, written_words}
use Rattle.simulation.specs.Call.{Simulating}

-- "one call for a component's own conditions, another for the compatibility of several" (02, 10/13)
abbrev pub component_on : List ℕ → ℕ → Answer (Unit {0})
component_on t i = check_on t (λ m. component_of m i)

abbrev pub compatible_on : List ℕ → Answer (Unit {0})
compatible_on t = check_on t compatible_of

-- "Tables: 20; then 10 to 14 for each component in turn; then 15 to 17; then 18 where .. the confluence check is called"
abbrev pub accept_on : List ℕ → Answer (Unit {0})
accept_on t = check_on t accept_of

abbrev pub confluent_on : List ℕ → Answer (Unit {0})
confluent_on t = check_on t confluent_of

-- "the new test is called" (02, 8/13): as acceptance, then 45, then 18
abbrev pub orderly_on : List ℕ → Answer (Unit {0})
orderly_on t = check_on t orderly_of

-- "it answers the outcome and, unless refused, the state": beside a refusal the bytes are 0
abbrev pub step_bytes : State → Answer Stepping → List ℕ
step_bytes x (answered v) = (with_parts x v.state).parts
step_bytes x (refused t) = no_state.parts

pub record StepTold (v : Answer Stepping) (x : State) (after told : List ℕ) : Type 0 where
  pub words : told ≡ stepped_words (outcome_of v)
  pub state : after ≡ step_bytes x v

-- the state that was lent, in as many bytes: "a composed state lent to one urgent step and advanced there"; as it was where nothing moves
abbrev pub bytes_moved : List ℕ → Step → List ℕ → List ℕ
bytes_moved old (moved a r) ps = ps
bytes_moved old stable ps = old

abbrev pub bytes_after : List ℕ → Answer Stepping → List ℕ
bytes_after old (answered v) = bytes_moved old v.step v.state
bytes_after old (refused t) = old

pub record AdvanceTold (v : Answer Stepping) (old new told : List ℕ) : Type 0 where
  pub words : told ≡ stepped_words (outcome_of v)
  pub state : new ≡ bytes_after old v

-- "answers stable or unsettled, steps taken, clocks reset at least once, and the state"
abbrev pub settling_words : Answer (Settling (List ℕ)) → List ℕ
settling_words (answered d) = settled_words (answered d.stable) d.steps d.resets
settling_words (refused t) = settled_words (refused t) 0 0

abbrev pub settling_bytes : State → Answer (Settling (List ℕ)) → List ℕ
settling_bytes x (answered d) = (with_parts x d.state).parts
settling_bytes x (refused t) = no_state.parts

pub record SettlingTold (v : Answer (Settling (List ℕ))) (x : State) (after told : List ℕ) : Type 0 where
  pub words : told ≡ settling_words v
  pub state : after ≡ settling_bytes x v

-- after a path no state was given: behind its numbers the bytes are 0
abbrev pub after_bytes : Answer (Settling (List ℕ)) → List ℕ
after_bytes (answered d) = (state_of d.state).parts
after_bytes (refused t) = no_state.parts

pub record AfterTold (v : Answer (Settling (List ℕ))) (after told : List ℕ) : Type 0 where
  pub words : told ≡ settling_words v
  pub state : after ≡ after_bytes v

-- "The answer gives v, action, resets, state"
abbrev pub timed_on : List ℕ → State → List ℤ → Answer Timing
timed_on t x was = on_table t (λ m. timed_of m (parts_of x) was)

abbrev pub shot_said : Answer Timing → Answer Shot
shot_said (answered d) = answered d.shot
shot_said (refused t) = refused t

abbrev pub timing_bytes : State → Answer Timing → List ℕ
timing_bytes x (answered d) = (with_parts x d.state).parts
timing_bytes x (refused t) = no_state.parts

-- "every declared clock falls by v .. undeclared places stay"; "A refusal .. changes no lent byte"
abbrev pub timing_values : List ℤ → Answer Timing → List ℤ
timing_values was (answered d) = d.values
timing_values was (refused t) = was

pub record TimingTold (v : Answer Timing) (x : State) (was vs : List ℤ) (after told : List ℕ) : Type 0 where
  pub words : told ≡ fired_words (shot_said v)
  pub state : after ≡ timing_bytes x v
  pub values : vs ≡ timing_values was v

-- done, with the number of components and the clocks set at the start; the start state stands beside it, and zeros beside a refusal
abbrev pub start_words : Answer Beginning → List ℕ
start_words (answered b) = started_words (answered tt) (length b.state) b.started
start_words (refused t) = started_words (refused t) 0 0

pub record StartTold (v : Answer Beginning) (after told : List ℕ) : Type 0 where
  pub words : told ≡ start_words v
  pub state : after ≡ (state_in v).parts

-- "It answers later rounds done and state and writes the declared clocks to 64 lent values" (02, 4/13); "A refusal .. changes no lent byte"
abbrev pub rounds_said : Answer Simulating → Answer ℕ
rounds_said (answered d) = answered d.rounds
rounds_said (refused t) = refused t

abbrev pub simulation_bytes : Answer Simulating → List ℕ
simulation_bytes (answered d) = (state_of d.state).parts
simulation_bytes (refused t) = no_state.parts

abbrev pub simulation_values : List ℤ → Answer Simulating → List ℤ
simulation_values was (answered d) = d.values
simulation_values was (refused t) = was

pub record SimulationTold (v : Answer Simulating) (was vs : List ℤ) (after told : List ℕ) : Type 0 where
  pub words : told ≡ written_words (rounds_said v)
  pub state : after ≡ simulation_bytes v
  pub values : vs ≡ simulation_values was v
