-- Where a condition is broken (01, "Refusal numbers", 10 to 18; 02, 3/13, 19), in the terms of document 000: rows of the relation and the automaton's sets.
use Rattle.std.specs.Prelude.{◌≡◌, ◌≢◌, ◌⊎◌, true, List, [], ◌∷◌, ℕ, ◌+◌, ◌<◌, length, take, get_or}
use Rattle.laws.specs.Sets.{◌∪◌, only, ◌∈◌}
use Rattle.answer.specs.Told.{Told, tell}
use Rattle.model.specs.Model.{Comp, Model, row_at, comp_at, guard_set, row_count}
use Rattle.model.specs.WellFormed.{lower}
use Rattle.iosa.specs.Automaton.{Automaton, alphabet, Leads, auto_of, CondF, ReachedIn}

-- ---- 10 "(a) or (b) broken": the row
-- a row with guard set C and action a against (a) "Rows of `in`, `uin` and `uout` have guard `-`"
abbrev pub AgainstA : Automaton → ℕ → ℕ → Type 0
AgainstA A C a = (a ∈ A.inputs ∪ A.urgent) × (C ≢ 0)

-- against (b) "rows of `out` have a clock"
abbrev pub AgainstB : Automaton → ℕ → ℕ → Type 0
AgainstB A C a = (a ∈ A.outputs) × (a ∈ A.urgent → ⊥) × ((x : ℕ) → C ≢ only x)

pub record Broken10 (c : Comp) (k : ℕ) : Type 0 where
  pub inside : k < length c.rows
  pub against : AgainstA (auto_of c) (guard_set (row_at c k).guard) (row_at c k).action ⊎ AgainstB (auto_of c) (guard_set (row_at c k).guard) (row_at c k).action

-- ---- 11 "(c) broken": a "row that repeats a clock", the guard of an earlier row that leaves the same state
pub record Broken11 (c : Comp) (k : ℕ) : Type 0 where
  pub inside : k < length c.rows
  pub earlier : ℕ
  pub above : earlier < k
  pub from : (row_at c earlier).from ≡ (row_at c k).from
  pub clock : ℕ
  pub first : clock ∈ guard_set (row_at c earlier).guard
  pub again : clock ∈ guard_set (row_at c k).guard

-- ---- 12 "(d) broken": a state without a row for an `in` or `uin` action
pub record Broken12 (c : Comp) (s a : ℕ) : Type 0 where
  pub state : s < c.states
  pub input : a ∈ (auto_of c).inputs
  pub lacks : {C R t : ℕ} → Leads c s C a R t → ⊥

-- ---- 13 "(e) or the house rule broken": a state with two different rows for an `in`, `uin` or `uout` action
pub record Broken13 (c : Comp) (s a : ℕ) : Type 0 where
  pub kind : a ∈ (auto_of c).inputs ∪ (auto_of c).urgent
  pub guard : ℕ
  pub resets : ℕ
  pub target : ℕ
  pub row : Leads c s guard a resets target
  pub guard' : ℕ
  pub resets' : ℕ
  pub target' : ℕ
  pub other : Leads c s guard' a resets' target'
  pub differ : (guard ≡ guard') × (resets ≡ resets') × (target ≡ target') → ⊥

-- ---- 14 "(f) broken": "exactly when no choice of sets works"
abbrev pub Broken14 : Comp → Type 0
Broken14 c = CondF (auto_of c) → ⊥

-- ---- 15 to 17: "action or clock, two components", the lower one first
pub record Between (P : ℕ → Automaton → Automaton → Type 0) (m : Model) (x i j : ℕ) : Type 0 where
  pub order : i < j
  pub inside : j < length m
  pub clash : P x (auto_of (comp_at m i)) (auto_of (comp_at m j))

-- "output shared"
abbrev pub Broken15 : Model → ℕ → ℕ → ℕ → Type 0
Broken15 = Between (λ a A B. (a ∈ A.outputs) × (a ∈ B.outputs))

-- "clock shared"
abbrev pub Broken16 : Model → ℕ → ℕ → ℕ → Type 0
Broken16 = Between (λ x A B. (x ∈ A.clocks) × (x ∈ B.clocks))

-- "urgency differs": urgent in one of them, and not in the other, which has it too
abbrev pub OnlyThere : ℕ → Automaton → Automaton → Type 0
OnlyThere a A B = (a ∈ A.urgent) × (a ∈ alphabet B) × (a ∈ B.urgent → ⊥)

abbrev pub Broken17 : Model → ℕ → ℕ → ℕ → Type 0
Broken17 = Between (λ a A B. OnlyThere a A B ⊎ OnlyThere a B A)

-- ---- 18 "not confluent": urgent actions a and b both leave s, which is reached, and no s3 joins them again
pub record Broken18 (c : Comp) (s a b : ℕ) : Type 0 where
  pub reached : ReachedIn c s
  pub order : a < b
  pub lower : a ∈ (auto_of c).urgent
  pub higher : b ∈ (auto_of c).urgent
  pub resets : ℕ
  pub target : ℕ
  pub row : Leads c s 0 a resets target
  pub resets' : ℕ
  pub target' : ℕ
  pub other : Leads c s 0 b resets' target'
  pub parted : {v : ℕ} → Leads c target 0 b resets' v → Leads c target' 0 a resets v → ⊥

-- ---- 19 "component, a part not reachable": the lowest component whose part of s is not reached
pub record FirstUnreached (m : Model) (s : List ℕ) (i : ℕ) : Type 0 where
  pub inside : i < length m
  pub here : ReachedIn (comp_at m i) (get_or s i 0) → ⊥
  pub before : (j : ℕ) → j < i → ReachedIn (comp_at m j) (get_or s j 0)

-- ---- the order of faults
-- what is told of a fault of component i, whose first row is row n of the system, and its rank: number, place
pub data FaultAt (c : Comp) (i n : ℕ) : List ℕ → Told → Type 0 where
  guarded : {k : ℕ} → Broken10 c k → FaultAt c i n (10 ∷ k ∷ []) (tell 10 ((n + k) ∷ []))
  repeated : {k : ℕ} → Broken11 c k → FaultAt c i n (11 ∷ k ∷ []) (tell 11 ((n + k) ∷ []))
  lacking : {s a : ℕ} → Broken12 c s a → FaultAt c i n (12 ∷ s ∷ a ∷ []) (tell 12 (i ∷ s ∷ a ∷ []))
  doubled : {s a : ℕ} → Broken13 c s a → FaultAt c i n (13 ∷ s ∷ a ∷ []) (tell 13 (i ∷ s ∷ a ∷ []))
  inactive : Broken14 c → FaultAt c i n (14 ∷ []) (tell 14 (i ∷ []))

-- the rank in the system: component, number, place; "then 15 to 17", as if of a component after the last
pub data Fault (m : Model) : List ℕ → Told → Type 0 where
  inside : {i : ℕ} {q : List ℕ} {t : Told} → i < length m → FaultAt (comp_at m i) i (row_count (take i m)) q t → Fault m (i ∷ q) t
  output-shared : {a i j : ℕ} → Broken15 m a i j → Fault m (length m ∷ 15 ∷ a ∷ i ∷ j ∷ []) (tell 15 (a ∷ i ∷ j ∷ []))
  clock-shared : {x i j : ℕ} → Broken16 m x i j → Fault m (length m ∷ 16 ∷ x ∷ i ∷ j ∷ []) (tell 16 (x ∷ i ∷ j ∷ []))
  urgency-differs : {a i j : ℕ} → Broken17 m a i j → Fault m (length m ∷ 17 ∷ a ∷ i ∷ j ∷ []) (tell 17 (a ∷ i ∷ j ∷ []))

-- the faults of turn i: those of component i by itself, and 15 to 17 in the turn after the last component
abbrev pub InTurnOf : Model → ℕ → List ℕ → Told → Type 0
InTurnOf m i q t = Fault m (i ∷ q) t

-- 18, by its place alone: "component, state, lower and higher action"
pub data Clash (m : Model) : List ℕ → Told → Type 0 where
  clash : {i s a b : ℕ} → i < length m → Broken18 (comp_at m i) s a b → Clash m (i ∷ s ∷ a ∷ b ∷ []) (tell 18 (i ∷ s ∷ a ∷ b ∷ []))

-- t is told of a fault, and none comes before it: "Places are the least possible"
pub record First {A : Type 0} (F : List ℕ → A → Type 0) (t : A) : Type 0 where
  pub rank : List ℕ
  pub here : F rank t
  pub before : (q : List ℕ) (u : A) → lower q rank ≡ true → F q u → ⊥
