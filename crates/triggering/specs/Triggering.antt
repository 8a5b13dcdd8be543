-- Systems of components that are not confluent alone (02, 8/13; 000, Definitions 4.10 to 4.13 and Theorem 4.5).
use Rattle.std.specs.Prelude.{◌≢◌, ℕ, ◌<◌, length}
use Rattle.laws.specs.Sets.{◌∈◌}
use Rattle.model.specs.Model.{Model, comp_at, inputs, outputs}
use Rattle.iosa.specs.Automaton.{Automaton, auto_of, UrgentRow, Stable, Reachable, ConfluentFor}

-- the urgent output b is enabled in s: a row of it leaves s
pub record Enabled (A : Automaton) (s : A.State) (b : ℕ) : Type 0 where
  pub guard : ℕ
  pub resets : ℕ
  pub target : A.State
  pub row : UrgentRow A s guard b resets target

-- component i as an automaton
abbrev pub part : Model → ℕ → Automaton
part m i = auto_of (comp_at m i)

-- ---- "which urgent action triggers which" (000, Definition 4.12, with the step by b that the proof of its Proposition 4.7 reads there):
-- a leads from a reached state to one that enables b, and, if a and b differ, b was not enabled before
pub record Triggers (A : Automaton) (a b : ℕ) : Type 0 where
  pub from : A.State
  pub to : A.State
  pub guard : ℕ
  pub resets : ℕ
  pub reached : Reachable A from
  pub urgent : a ∈ A.urgent
  pub row : A.Row from guard a resets to
  pub enabled : Enabled A to b
  pub new : a ≢ b → Enabled A from b → ⊥

-- "closed under going on", "each may itself be of the pair": over all components, possibly another one at each link (000, Definition 4.13)
pub data LeadsOn (m : Model) (a : ℕ) : ℕ → Type 0 where
  itself : LeadsOn m a a
  onward : {b d : ℕ} → LeadsOn m a b → (i : ℕ) → i < length m → Triggers (part m i) b d → LeadsOn m a d

-- ---- the sets that are enabled at the start and by a non-urgent action (000, Definitions 4.11 and 4.10)
-- b is enabled in the start of some component
pub record AtStart (m : Model) (b : ℕ) : Type 0 where
  pub index : ℕ
  pub inside : index < length m
  pub enabled : Enabled (part m index) (part m index).start b

-- a row by the non-urgent action e from a reached stable state to t: the urgent outputs that are enabled in t are one set
pub record Woken (A : Automaton) (e : ℕ) (t : A.State) : Type 0 where
  pub from : A.State
  pub guard : ℕ
  pub resets : ℕ
  pub reached : Reachable A from
  pub stable : Stable A from
  pub calm : e ∈ A.urgent → ⊥
  pub row : A.Row from guard e resets t

-- "both enabled at the start or by one non-urgent action"; "The two outputs may be one and the same; two of one component count only in one set"
pub data Together (m : Model) (c d : ℕ) : Type 0 where
  start : AtStart m c → AtStart m d → Together m c d
  in_one_set : {e t : ℕ} (i : ℕ) → i < length m → Woken (part m i) e t → Enabled (part m i) t c → Enabled (part m i) t d → Together m c d
  in_two_parts : {e t u : ℕ} (i j : ℕ) → i < length m → j < length m → i ≢ j → Woken (part m i) e t → Woken (part m j) e u
      → Enabled (part m i) t c → Enabled (part m j) u d → Together m c d

-- "two urgent outputs lead to it by triggering"
pub record Led (m : Model) (a b : ℕ) : Type 0 where
  pub left : ℕ
  pub right : ℕ
  pub both : Together m left right
  pub leftward : LeadsOn m left a
  pub rightward : LeadsOn m right b

-- ---- the test (000, Theorem 4.5): every component is confluent for two different actions that are led to, where it can get
pub record Passes (m : Model) : Type 0 where
  pub confluent : {a b : ℕ} → a ≢ b → Led m a b → (i : ℕ) → i < length m → ConfluentFor (part m i) (Reachable (part m i)) a b

-- a closed system: every input of a component is an output of some component
pub record NoOpenInput (m : Model) : Type 0 where
  pub answered : (i : ℕ) → i < length m → (a : ℕ) → a ∈ inputs (comp_at m i) → (j : ℕ) × (j < length m) × (a ∈ outputs (comp_at m j))

-- 45: "an input and nobody's output"
pub record OpenInput (m : Model) (a : ℕ) : Type 0 where
  pub index : ℕ
  pub inside : index < length m
  pub input : a ∈ inputs (comp_at m index)
  pub nobody : (j : ℕ) → j < length m → a ∈ outputs (comp_at m j) → ⊥
