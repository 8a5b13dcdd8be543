-- Definitions 4.1, 4.3 and 4.9 of document 000, clause by clause in its own words, without the measure of each clock: sampling is not the engine's.
-- `conditions-are-definition-4-1` proves that `Conditions` (Automaton) is the first with paper 01's house rule, `compatible-is-definition-4-3` that
-- `Compatible` is the second, `reachable-is-definition-4-9` that `Reachable` is Definition 4.9.
use Rattle.std.specs.Prelude.{◌≡◌, ◌↔◌, ℕ, ◌<◌, length}
use Rattle.laws.specs.Sets.{◌∪◌, ◌∩◌, ◌∖◌, only, ◌∈◌, ◌⊆◌, Apart}
use Rattle.model.specs.Model.{Model, comp_at}
use Rattle.iosa.specs.Automaton.{Automaton, alphabet, auto_of, UrgentRow}

-- ---- the structure (S, A, C, →, C0, s0)
-- (s, C, a, C', s') is one of S × 2^C × A × 2^C × S
pub record Among (A : Automaton) (s : A.State) (C a R : ℕ) (t : A.State) : Type 0 where
  pub from : A.States s
  pub guard : C ⊆ A.clocks
  pub action : a ∈ alphabet A
  pub resets : R ⊆ A.clocks
  pub target : A.States t

-- the automaton keeps to its own states, clocks and labels
pub record OwnNames (A : Automaton) : Type 0 where
  pub rows : {C a R : ℕ} {s t : A.State} → A.Row s C a R t → Among A s C a R t
  -- "C0 is the set of clocks that are initialized in the initial state"
  pub initialized : A.started ⊆ A.clocks
  -- "s0 ∈ S is the initial state"
  pub initial : A.States A.start

pub record Structure (A : Automaton) : Type 0 where
  -- "A is a set of labels partitioned into disjoint sets of input labels and output labels"
  pub partition : Apart A.inputs A.outputs
  -- "from which a subset A^u ⊆ A is marked as urgent"
  pub urgent : A.urgent ⊆ alphabet A
  pub own : OwnNames A

-- ---- the last sentence of the definition
-- enabling(s) = { y | s -{y},_,_-> _ }: y is one of them
pub record Enabling41 (A : Automaton) (s : A.State) (y : ℕ) : Type 0 where
  pub action : ℕ
  pub resets : ℕ
  pub target : A.State
  pub row : A.Row s (only y) action resets target

-- "s is stable if there is no a ∈ A^u ∩ A^o such that s -∅,a,_-> _"
pub record Stable41 (A : Automaton) (s : A.State) : Type 0 where
  pub none : {a R : ℕ} {t : A.State} → a ∈ A.urgent ∩ A.outputs → A.Row s 0 a R t → ⊥

-- ---- the constraints
-- (f) the function `active`. Its sets may be any: that clocks of A alone will do is `active-within-the-clocks`
pub record Active41 (A : Automaton) (active : A.State → ℕ) : Type 0 where
  pub i : active A.start ⊆ A.started
  pub ii : (s : A.State) → A.States s → (x : ℕ) → Enabling41 A s x → x ∈ active s
  pub iii : (s : A.State) → A.States s → Stable41 A s → (x : ℕ) → (x ∈ active s) ↔ Enabling41 A s x
  pub iv : {C a R : ℕ} {s t : A.State} → A.Row t C a R s → active s ⊆ active t ∖ C ∪ R

pub record Definition41 (A : Automaton) : Type 0 where
  pub structure : Structure A
  -- "If s -C,a,C'-> s' and a ∈ A^i ∪ A^u, then C = ∅"
  pub a : {C a R : ℕ} {s t : A.State} → A.Row s C a R t → a ∈ A.inputs ∪ A.urgent → C ≡ 0
  -- "If s -C,a,C'-> s' and a ∈ A^o ∖ A^u, then C is a singleton set"
  pub b : {C a R : ℕ} {s t : A.State} → A.Row s C a R t → a ∈ A.outputs ∖ A.urgent → (x : ℕ) × (C ≡ only x)
  -- "If s -{x},a1,C1-> s1 and s -{x},a2,C2-> s2 then a1 = a2, C1 = C2 and s1 = s2"
  pub c : (x : ℕ) {a b R Q : ℕ} {s t u : A.State} → A.Row s (only x) a R t → A.Row s (only x) b Q u → (a ≡ b) × (R ≡ Q) × (t ≡ u)
  -- "For every a ∈ A^i and state s, there exists a transition s -∅,a,C-> s'"
  pub d : (a : ℕ) → a ∈ A.inputs → (s : A.State) → A.States s → (R : ℕ) × (t : A.State) × A.Row s 0 a R t
  -- "For every a ∈ A^i, if s -∅,a,C'1-> s1 and s -∅,a,C'2-> s2, C'1 = C'2 and s1 = s2"
  pub e : {a R Q : ℕ} {s t u : A.State} → a ∈ A.inputs → A.Row s 0 a R t → A.Row s 0 a Q u → (R ≡ Q) × (t ≡ u)
  pub f : (active : A.State → ℕ) × Active41 A active

-- paper 01: "House rule: also at most one for each `uout`"
pub record HouseRule (A : Automaton) : Type 0 where
  pub one : {a R Q : ℕ} {s t u : A.State} → a ∈ A.urgent ∩ A.outputs → A.Row s 0 a R t → A.Row s 0 a Q u → (R ≡ Q) × (t ≡ u)

-- every component of a system
pub record AllDefinition41 (m : Model) : Type 0 where
  pub each : (i : ℕ) → i < length m → Definition41 (auto_of (comp_at m i)) × HouseRule (auto_of (comp_at m i))

-- ---- Definition 4.3: "they do not share output actions nor clocks, i.e. A1^o ∩ A2^o = ∅ and C1 ∩ C2 = ∅ and, moreover, they agree on urgent actions,
-- i.e. A1 ∩ A2^u = A2 ∩ A1^u"
pub record Definition43 (A B : Automaton) : Type 0 where
  pub outputs : A.outputs ∩ B.outputs ≡ 0
  pub clocks : A.clocks ∩ B.clocks ≡ 0
  pub urgent : alphabet A ∩ B.urgent ≡ alphabet B ∩ A.urgent

-- ---- Definition 4.9: "potentially reachable", by "a path from the initial state, with n ≥ 0, such that for all i < n, if s_i -_,b,_-> _ for some
-- b ∈ A^u ∩ A^o then a_i ∈ A^u"
pub data PotentiallyReachable (A : Automaton) : A.State → Type 0 where
  no_rows : PotentiallyReachable A A.start
  one_more : {s t : A.State} {C a R : ℕ} → PotentiallyReachable A s → ((D b Q : ℕ) (u : A.State) → UrgentRow A s D b Q u → a ∈ A.urgent) → A.Row s C a R t
      → PotentiallyReachable A t
