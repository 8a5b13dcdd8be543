-- Series of urgent outputs in any order (the mission, demand 3; 01, "Confluence and settling"), and what settling by our rule or by a list answers of them.
use Rattle.std.specs.Prelude.{◌≡◌, ◌⊎◌, ◌↔◌, Bool, true, false, List, [], ◌∷◌, ◌++◌, ℕ, ◌≤◌, ◌<◌, length}
use Rattle.laws.specs.Sets.{◌∪◌}
use Rattle.model.specs.Model.{Comp}
use Rattle.iosa.specs.Automaton.{Automaton, UrgentRow, Stable}
use Rattle.iosa.specs.Product.{product, state_of, Within, Series, count}

-- an urgent output leaves y
abbrev pub GoesOn : (A : Automaton) → A.State → Type 0
GoesOn A y = (C : ℕ) × (a : ℕ) × (R : ℕ) × (z : A.State) × UrgentRow A y C a R z

-- what another series k with resets Q to z has in common with l, R, y where both stop: the number of steps, each action's count, the resets, the end
pub record Same (A : Automaton) (l : List ℕ) (R : ℕ) (y : A.State) (k : List ℕ) (Q : ℕ) (z : A.State) : Type 0 where
  pub steps : length k ≡ length l
  pub actions : (b : ℕ) → count b k ≡ count b l
  pub resets : Q ≡ R
  pub end : z ≡ y

-- demand 3 by itself, with no engine in it: from x a series ends in a stable state or can be continued; where one stops, no series is longer,
-- and all that stop are the same
pub record OneEnd (A : Automaton) (x : A.State) : Type 0 where
  pub ends : {l : List ℕ} {R : ℕ} {y : A.State} → Series A x l R y → Stable A y ⊎ GoesOn A y
  pub longest : {l k : List ℕ} {R Q : ℕ} {y z : A.State} → Series A x l R y → Stable A y → Series A x k Q z → length k ≤ length l
  pub same : {l k : List ℕ} {R Q : ℕ} {y z : A.State} → Series A x l R y → Stable A y → Series A x k Q z → Stable A z → Same A l R y k Q z

-- ---- settling by our rule
-- "answers stable or unsettled, steps taken, clocks reset at least once, and the state. It writes the actions taken to .. a lent trace"
pub record Settling (S : Type 0) : Type 0 where
  pub stable : Bool
  pub steps : ℕ
  pub resets : ℕ
  pub trace : List ℕ
  pub state : S

-- "Settling takes the lowest-numbered one": a series in which no lower-numbered urgent output is enabled where a step is taken
pub data LowestSeries (A : Automaton) : A.State → List ℕ → ℕ → A.State → Type 0 where
  rest : {x : A.State} → LowestSeries A x [] 0 x
  take : {x y z : A.State} {C a R Q : ℕ} {l : List ℕ} → UrgentRow A x C a R y → ((b D P : ℕ) (w : A.State) → b < a → UrgentRow A x D b P w → ⊥)
      → LowestSeries A y l Q z → LowestSeries A x (a ∷ l) (R ∪ Q) z

-- our run is a run: what settling from s with this budget did
pub record OurRun (c : Comp) (cs : List Comp) (s : List ℕ) (budget : ℕ) (d : Settling (List ℕ)) : Type 0 where
  pub series : LowestSeries (product c cs) (state_of c cs s) d.trace d.resets (state_of c cs d.state)
  pub steps : d.steps ≡ length d.trace
  pub range : Within (c ∷ cs) d.state
  pub stable : (d.stable ≡ true) ↔ Stable (product c cs) (state_of c cs d.state)
  pub bounded : d.steps ≤ budget
  pub unsettled : d.stable ≡ false → d.steps ≡ budget

-- what a call of settling that is not refused answers: the order does not matter, our run is one of the series, and it is stable exactly where the
-- budget is enough for a series that stops. Then it is the same as every one (`same`), and else it has as many steps as its budget (`unsettled`)
pub record Called (c : Comp) (cs : List Comp) (s : List ℕ) (budget : ℕ) (d : Settling (List ℕ)) : Type 0 where
  pub orders : OneEnd (product c cs) (state_of c cs s)
  pub run : OurRun c cs s budget d
  pub enough : {l : List ℕ} {R : ℕ} {y : (product c cs).State} → Series (product c cs) (state_of c cs s) l R y → Stable (product c cs) y → length l ≤ budget
      → d.stable ≡ true
  pub short : {l : List ℕ} {R : ℕ} {y : (product c cs).State} → Series (product c cs) (state_of c cs s) l R y → Stable (product c cs) y → budget < length l
      → d.stable ≡ false
  pub never : ((l : List ℕ) (R : ℕ) (y : (product c cs).State) → Series (product c cs) (state_of c cs s) l R y → Stable (product c cs) y → ⊥) → d.stable ≡ false

-- ---- settling by list
-- "Settling by list takes the listed actions .. in order and answers likewise, but writes no trace; stable tells only of the last state"
pub record Listed (c : Comp) (cs : List Comp) (s l : List ℕ) (d : Settling (List ℕ)) : Type 0 where
  pub series : Series (product c cs) (state_of c cs s) l d.resets (state_of c cs d.state)
  pub steps : d.steps ≡ length l
  pub range : Within (c ∷ cs) d.state
  pub stable : (d.stable ≡ true) ↔ Stable (product c cs) (state_of c cs d.state)
  pub trace : d.trace ≡ []

-- 23 "listed action not an enabled urgent output", place its index: those before it are a series, and it is not enabled where that ends
pub data NotEnabledAt (A : Automaton) (x : A.State) : List ℕ → ℕ → Type 0 where
  not-enabled : (before : List ℕ) (a : ℕ) (later : List ℕ) {R : ℕ} {y : A.State} → Series A x before R y
      → ((C Q : ℕ) (z : A.State) → UrgentRow A y C a Q z → ⊥) → NotEnabledAt A x (before ++ (a ∷ later)) (length before)

-- what a call of settling by list that is not refused answers
pub record CalledByList (c : Comp) (cs : List Comp) (s l : List ℕ) (d : Settling (List ℕ)) : Type 0 where
  pub orders : OneEnd (product c cs) (state_of c cs s)
  pub listed : Listed c cs s l d
