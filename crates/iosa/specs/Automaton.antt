-- The automaton of document 000, Definition 4.1, with its conditions (a) to (f); where it can get, Definition 4.9; confluence, Definition 4.5; compatibility.
use Rattle.std.specs.Prelude.{◌≡◌, ◌≢◌, ◌⊎◌, ℕ, ◌<◌, length}
use Rattle.laws.specs.Sets.{◌∪◌, ◌∖◌, only, ◌∈◌, ◌⊆◌, Apart}
use Rattle.model.specs.Model.{Row, Comp, Model, row_at, comp_at, guard_set, inputs, outputs, urgents}

-- (S, A, C, →, C0, s0): states, actions as inputs and outputs, some of them urgent, clocks, rows, the clocks set at the start, the start.
-- `Row s C a R t`: a row leaves s with guard set C, action a and resets R, and goes to t
pub record Automaton : Type 1 where
  pub State : Type 0
  pub States : State → Type 0
  pub start : State
  pub inputs : ℕ
  pub outputs : ℕ
  pub urgent : ℕ
  pub clocks : ℕ
  pub started : ℕ
  pub Row : State → ℕ → ℕ → ℕ → State → Type 0

abbrev pub alphabet : Automaton → ℕ
alphabet A = A.inputs ∪ A.outputs

-- ---- a component is an automaton
-- one of its rows leaves s with guard set C, action a and resets R, and goes to t
pub record Leads (c : Comp) (s C a R t : ℕ) : Type 0 where
  pub place : ℕ
  pub inside : place < length c.rows
  pub from : (row_at c place).from ≡ s
  pub guard : guard_set (row_at c place).guard ≡ C
  pub action : (row_at c place).action ≡ a
  pub resets : (row_at c place).resets ≡ R
  pub target : (row_at c place).target ≡ t

abbrev pub auto_of : Comp → Automaton
auto_of c = record {
  State = ℕ;
  States = λ s. s < c.states;
  start = c.start;
  inputs = inputs c;
  outputs = outputs c;
  urgent = urgents c;
  clocks = c.clocks;
  started = c.started;
  Row = Leads c;
}

-- ---- stable, enabling
-- a row of an urgent output
pub record UrgentRow (A : Automaton) (s : A.State) (C a R : ℕ) (t : A.State) : Type 0 where
  pub output : a ∈ A.outputs
  pub urgent : a ∈ A.urgent
  pub row : A.Row s C a R t

-- "A state is stable if no row with a `uout` action leaves it" (01); 000, section 4.2
pub record Stable (A : Automaton) (s : A.State) : Type 0 where
  pub rests : {C a R : ℕ} {t : A.State} → UrgentRow A s C a R t → ⊥

-- "enabling(s) is the set of clocks that guard rows leaving s": x is one of them
pub record Enabling (A : Automaton) (s : A.State) (x : ℕ) : Type 0 where
  pub guard : ℕ
  pub action : ℕ
  pub resets : ℕ
  pub target : A.State
  pub guards : x ∈ guard
  pub row : A.Row s guard action resets target

-- ---- the conditions on a component (01; 000, Definition 4.1)
-- (a) "Rows of `in`, `uin` and `uout` have guard `-`"
pub record CondA (A : Automaton) : Type 0 where
  pub unguarded : {C a R : ℕ} {s t : A.State} → A.Row s C a R t → a ∈ A.inputs ∪ A.urgent → C ≡ 0

-- (b) "rows of `out` have a clock"
pub record CondB (A : Automaton) : Type 0 where
  pub guarded : {C a R : ℕ} {s t : A.State} → A.Row s C a R t → a ∈ A.outputs → (a ∈ A.urgent → ⊥) → (x : ℕ) × (C ≡ only x)

-- (c) "No two rows leave one state with the same clock as guard"
pub record CondC (A : Automaton) : Type 0 where
  pub same : (x : ℕ) {C D a b R Q : ℕ} {s t u : A.State} → x ∈ C → x ∈ D → A.Row s C a R t → A.Row s D b Q u → (C ≡ D) × (a ≡ b) × (R ≡ Q) × (t ≡ u)

-- (d) "Every state has a row for every `in` and `uin` action"
pub record CondD (A : Automaton) : Type 0 where
  pub row : (s : A.State) → A.States s → (a : ℕ) → a ∈ A.inputs → (R : ℕ) × (t : A.State) × A.Row s 0 a R t

-- (e) "It has at most one such row. House rule: also at most one for each `uout`"
pub record CondE (A : Automaton) : Type 0 where
  pub same : {C D a R Q : ℕ} {s t u : A.State} → a ∈ A.inputs ∪ A.urgent → A.Row s C a R t → A.Row s D a Q u → (C ≡ D) × (R ≡ Q) × (t ≡ u)

-- (f) these sets will do: "active(start) holds only clocks set at the start; enabling(s) lies within active(s), and equals it where s is stable;
-- for a row from t to s with guard set C and resets R, active(s) lies within (active(t) without C) joined with R"
pub record Active (A : Automaton) (active : A.State → ℕ) : Type 0 where
  pub own : (s : A.State) → A.States s → active s ⊆ A.clocks
  pub first : active A.start ⊆ A.started
  pub enabled : (s : A.State) → A.States s → (x : ℕ) → Enabling A s x → x ∈ active s
  pub equal : (s : A.State) → A.States s → Stable A s → (x : ℕ) → x ∈ active s → Enabling A s x
  pub kept : {C a R : ℕ} {s t : A.State} → A.Row t C a R s → active s ⊆ active t ∖ C ∪ R

-- (f) "A set active(s) can be given for each state"
abbrev pub CondF : Automaton → Type 0
CondF A = (active : A.State → ℕ) × Active A active

-- Definition 4.1
pub record Conditions (A : Automaton) : Type 0 where
  pub cond_a : CondA A
  pub cond_b : CondB A
  pub cond_c : CondC A
  pub cond_d : CondD A
  pub cond_e : CondE A
  pub cond_f : CondF A

-- ---- where it can get (02, 3/13; 000, Definition 4.9)
-- "reached from its start by rows of which every non-urgent one leaves a stable state"
pub data Reachable (A : Automaton) : A.State → Type 0 where
  at-start : Reachable A A.start
  by_row : {s t : A.State} {C a R : ℕ} → Reachable A s → (a ∈ A.urgent) ⊎ Stable A s → A.Row s C a R t → Reachable A t

-- a state that a component can reach
abbrev pub ReachedIn : Comp → ℕ → Type 0
ReachedIn c = Reachable (auto_of c)

-- ---- confluence (01; 000, Definition 4.5), over the states that count
-- at s, for the actions a and b: "that both leave s, to s1 with resets A and to s2 with resets B, there is an s3 with a b-row from s1 to s3 resetting B
-- and an a-row from s2 to s3 resetting A"
pub record MeetsAt (A : Automaton) (s : A.State) (a b : ℕ) : Type 0 where
  pub meet : {R Q : ℕ} {t u : A.State} → A.Row s 0 a R t → A.Row s 0 b Q u → (v : A.State) × A.Row t 0 b Q v × A.Row u 0 a R v

-- they meet at s where the automaton has both
abbrev pub Meets : (A : Automaton) → A.State → ℕ → ℕ → Type 0
Meets A s a b = a ∈ alphabet A → b ∈ alphabet A → MeetsAt A s a b

-- 000: "confluent with respect to actions a, b"
pub record ConfluentFor (A : Automaton) (Counts : A.State → Type 0) (a b : ℕ) : Type 0 where
  pub meets : (s : A.State) → Counts s → MeetsAt A s a b

-- "for every state s and two different urgent actions a and b"; 000: "with respect to every pair of urgent actions"
pub record Confluent (A : Automaton) (Counts : A.State → Type 0) : Type 0 where
  pub pair : (a b : ℕ) → a ≢ b → a ∈ A.urgent → b ∈ A.urgent → ConfluentFor A Counts a b

-- ---- compatibility (01; 000, section 4.3)
-- "no action is an output of two components, no clock belongs to two, and an action is urgent in all components that have it or in none"
pub record Compatible (A B : Automaton) : Type 0 where
  pub outputs : Apart A.outputs B.outputs
  pub clocks : Apart A.clocks B.clocks
  pub left : (a : ℕ) → a ∈ A.urgent → a ∈ alphabet B → a ∈ B.urgent
  pub right : (a : ℕ) → a ∈ B.urgent → a ∈ alphabet A → a ∈ A.urgent

-- ---- a system
-- every component meets the conditions
pub record Conforming (m : Model) : Type 0 where
  pub each : (i : ℕ) → i < length m → Conditions (auto_of (comp_at m i))

-- every two components are compatible
pub record Joinable (m : Model) : Type 0 where
  pub pair : (i j : ℕ) → i < j → j < length m → Compatible (auto_of (comp_at m i)) (auto_of (comp_at m j))

-- every component is confluent, in the states that it can reach
pub record AllConfluent (m : Model) : Type 0 where
  pub each : (i : ℕ) → i < length m → Confluent (auto_of (comp_at m i)) (ReachedIn (comp_at m i))
