-- A simulation in which the urgent steps of every round are chosen freely (02, 4/13), over the product's own rows.
use Rattle.std.specs.Prelude.{◌≡◌, false, List, [], ◌∷◌, ℕ, suc, ◌≤◌, ◌<◌, length, ℤ, pos}
use Rattle.std.proofs.Math.Option.{none, some}
use Rattle.laws.specs.Sets.{has, ◌∪◌, ◌∈◌}
use Rattle.laws.specs.Lowest.{Lowest}
use Rattle.answer.specs.Limits.{max_budget, max_clocks, max_ticks}
use Rattle.answer.specs.Told.{tell, Answer, answered, refused}
use Rattle.model.specs.Model.{Comp}
use Rattle.iosa.specs.Automaton.{Stable}
use Rattle.iosa.specs.Product.{product, state_of, Within, Series}
use Rattle.iosa.specs.Start.{start_all, started_all}
use Rattle.iosa.specs.TimedExactly.{value_of, Waits, Shares, Fires, Falls}
use Rattle.iosa.specs.Demand3.{Demand3}
use Rattle.simulation.specs.Simulate.{Supply, Round, Simulation, taken_by, no_values, none_taken}

-- "samples are 1 to 2^40"
pub record Fair (p : Supply) : Type 0 where
  pub least : (x j n : ℕ) → p.sample x j ≡ some n → 1 ≤ n
  pub most : (x j n : ℕ) → p.sample x j ≡ some n → n ≤ max_ticks

-- clock x takes its next sample, the one after so many
pub record TakesOne (p : Supply) (x before : ℕ) (value : ℤ) (after : ℕ) : Type 0 where
  pub ticks : ℕ
  pub next : p.sample x before ≡ some ticks
  pub value-is : value ≡ pos ticks
  pub one_more : after ≡ suc before

-- "As a round ends, each clock set or reset in it takes one sample, the next of its own list": w is the set of these clocks, and the others keep what they have
pub record Takes (p : Supply) (w : ℕ) (vs : List ℤ) (ts : List ℕ) (q : Round) : Type 0 where
  pub count-values : length q.values ≡ max_clocks
  pub count-taken : length q.taken ≡ max_clocks
  pub takes : (x : ℕ) → x < max_clocks → x ∈ w → TakesOne p x (taken_by ts x) (value_of q.values x) (taken_by q.taken x)
  pub keeps : (x : ℕ) → has w x ≡ false → (value_of q.values x ≡ value_of vs x) × (taken_by q.taken x ≡ taken_by ts x)

-- some series of urgent steps from s, chosen freely, "with budget 4,096", stops in the composed state t, with resets R
pub record Settles (c : Comp) (cs : List Comp) (s : List ℕ) (R : ℕ) (t : List ℕ) : Type 0 where
  pub actions : List ℕ
  pub series : Series (product c cs) (state_of c cs s) actions R (state_of c cs t)
  pub within : Within (c ∷ cs) t
  pub stable : Stable (product c cs) (state_of c cs t)
  pub budget : length actions ≤ max_budget

-- a round that settles from s ends with q; w are the clocks set or reset in it before
pub record Closes (c : Comp) (cs : List Comp) (p : Supply) (w : ℕ) (s : List ℕ) (vs : List ℤ) (ts : List ℕ) (q : Round) : Type 0 where
  pub resets : ℕ
  pub settles : Settles c cs s resets q.state
  pub takes : Takes p (w ∪ resets) vs ts q

-- round k ends with q, none of the rounds up to it refused
pub data After (c : Comp) (cs : List Comp) (p : Supply) : ℕ → Round → Type 0 where
  -- "round 0 sets the starting clocks and settles at the start state"; "others begin at 0"
  first : {q : Round} → Closes c cs p (started_all (c ∷ cs)) (start_all (c ∷ cs)) no_values none_taken q → After c cs p 0 q
  -- "each .. later round[s] does a timed step and settles again"
  later : {k x v a R : ℕ} {q : Round} {s : List ℕ} {vs : List ℤ} {q' : Round} → After c cs p k q → Fires c cs q.state q.values x v a R s
      → Falls (c ∷ cs) q.values v vs → Closes c cs p R s vs q.taken q' → After c cs p (suc k) q'

-- ---- what a simulation answers, and what it is refused for
-- round k settles from s; w are the clocks set or reset in it before
pub data Opens (c : Comp) (cs : List Comp) (p : Supply) : ℕ → ℕ → List ℕ → List ℤ → List ℕ → Type 0 where
  at-start : Opens c cs p 0 (started_all (c ∷ cs)) (start_all (c ∷ cs)) no_values none_taken
  by-firing : {k x v a R : ℕ} {q : Round} {s : List ℕ} {vs : List ℤ} → After c cs p k q → Fires c cs q.state q.values x v a R s
      → Falls (c ∷ cs) q.values v vs → Opens c cs p (suc k) R s vs q.taken

-- clock x is due a sample and has none left
pub record Lacks (p : Supply) (w : ℕ) (ts : List ℕ) (x : ℕ) : Type 0 where
  pub below : x < max_clocks
  pub due : x ∈ w
  pub none_left : p.sample x (taken_by ts x) ≡ none

-- n later rounds, "then round by round 30, 42 unsettled (the round), 41 a list ran out (lowest such clock)"
pub data Simulates (c : Comp) (cs : List Comp) (p : Supply) (n : ℕ) : Answer Simulation → Type 0 where
  -- "A quiet timed step ends it, uncounted": with fewer rounds than asked for, no clock is waited for
  is-done : {k : ℕ} {q : Round} → After c cs p k q → k ≤ n → (k < n → (x : ℕ) → Waits c cs q.state x → ⊥)
      → Simulates c cs p n (answered (record { rounds = k; last = q }))
  is30 : {k x : ℕ} {q : Round} → After c cs p k q → k < n → Lowest (Shares (Waits c cs q.state) q.values) x
      → Simulates c cs p n (refused (tell 30 (x ∷ [])))
  is42 : {k w : ℕ} {s ts : List ℕ} {vs : List ℤ} → Opens c cs p k w s vs ts → k ≤ n → ((R : ℕ) (t : List ℕ) → Settles c cs s R t → ⊥)
      → Simulates c cs p n (refused (tell 42 (k ∷ [])))
  is41 : {k w R x : ℕ} {s t ts : List ℕ} {vs : List ℤ} → Opens c cs p k w s vs ts → k ≤ n → Settles c cs s R t → Lowest (Lacks p (w ∪ R) ts) x
      → Simulates c cs p n (refused (tell p.ran_out (x ∷ [])))

-- ---- The composed states that count: the start is one, urgent steps and firings from stable ones lead to others, and from each of them demand 3 holds
pub record Counting (c : Comp) (cs : List Comp) (P : List ℕ → Type 0) : Type 0 where
  pub start : P (start_all (c ∷ cs))
  pub urgent : {s s' l : List ℕ} {R : ℕ} → P s → Within (c ∷ cs) s → Within (c ∷ cs) s' → Series (product c cs) (state_of c cs s) l R (state_of c cs s') → P s'
  pub fires : {s s' : List ℕ} {vs : List ℤ} {x v a R : ℕ} → P s → Within (c ∷ cs) s → Stable (product c cs) (state_of c cs s) → Fires c cs s vs x v a R s' → P s'
  pub settles : (s : List ℕ) → Within (c ∷ cs) s → P s → Demand3 c cs s
