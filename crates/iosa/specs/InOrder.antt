-- Refusals in their order (01, "Refusal numbers"): a call is refused by the first of its checks that does not pass; else it goes on.
use Rattle.std.specs.Prelude.{◌≡◌, [], ◌∷◌, ℕ, ◌≤◌, ◌<◌, length}
use Rattle.laws.specs.Lowest.{Lowest}
use Rattle.answer.specs.Told.{Told, tell, Answer, answered, refused}
use Rattle.model.specs.Model.{Model, comp_at}
use Rattle.iosa.specs.Automaton.{auto_of, Joinable, AllConfluent}
use Rattle.iosa.specs.Thesis.{Definition41, HouseRule, AllDefinition41}
use Rattle.iosa.specs.Faults.{Fault, InTurnOf, Clash, First}

-- what a check tells where it refuses, and what holds where it passes
pub record Check : Type 1 where
  pub Refuses : Told → Type 0
  pub Passes : Type 0

-- the check first: its refusal, or else what R answers
infixr 10 ◌▹◌
pub data ◌▹◌ {A : Type 0} (k : Check) (R : Answer A → Type 0) : Answer A → Type 0 where
  refuses : {t : Told} → k.Refuses t → (k ▹ R) (refused t)
  passes : {a : Answer A} → k.Passes → R a → (k ▹ R) a

-- and at last the answer: a value as P says
pub data Gives {A : Type 0} (P : A → Type 0) : Answer A → Type 0 where
  gives : {x : A} → P x → Gives P (answered x)

-- what a call leaves, its answer and every lent buffer, is what `Left` says of the one answer that is right
pub record Leaves {A : Type 0} (Right Left : Answer A → Type 0) : Type 0 where
  pub answer : Answer A
  pub right : Right answer
  pub left : Left answer

-- ---- the checks that several calls make
-- number n, place 0, unless P holds
abbrev pub needs : ℕ → Type 0 → Check
needs n P = record { Refuses = λ t. (P → ⊥) × (t ≡ tell n (0 ∷ [])); Passes = P }

-- 24 for a lent buffer that is too short, place "bytes needed"
abbrev pub room : ℕ → ℕ → Check
room needed bytes = record { Refuses = λ t. (bytes < needed) × (t ≡ tell 24 (needed ∷ [])); Passes = needed ≤ bytes }

-- number n for a clock of which P holds, place the "lowest such clock"
abbrev pub no_clock : ℕ → (ℕ → Type 0) → Check
no_clock n P = record { Refuses = λ t. (x : ℕ) × Lowest P x × (t ≡ tell n (x ∷ [])); Passes = (x : ℕ) → P x → ⊥ }

-- "10 to 14 for each component in turn; then 15 to 17": the first fault, or each component is of Definition 4.1 and every two are compatible
abbrev pub accepted : Model → Check
accepted m = record { Refuses = First (Fault m); Passes = AllDefinition41 m × Joinable m }

-- "10 to 14" of component i by itself: its first fault, or it is of Definition 4.1
abbrev pub conforms : Model → ℕ → Check
conforms m i = record { Refuses = First (InTurnOf m i); Passes = Definition41 (auto_of (comp_at m i)) × HouseRule (auto_of (comp_at m i)) }

-- "15 to 17" by themselves: the first of them, or every two components are compatible
abbrev pub joinable : Model → Check
joinable m = record { Refuses = First (InTurnOf m (length m)); Passes = Joinable m }

-- "then 18": the first clash, or every component is confluent where it can get
abbrev pub confluent : Model → Check
confluent m = record { Refuses = First (Clash m); Passes = AllConfluent m }
