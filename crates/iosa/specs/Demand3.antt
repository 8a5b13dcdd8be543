-- Demand 3 (the mission; 01, "Confluence and settling"): what settling with any budget says of the series of the product's own rows.
use Rattle.std.specs.Prelude.{◌≡◌, ◌⊎◌, ◌↔◌, true, false, List, ◌∷◌, ℕ, ◌≤◌, ◌<◌, length}
use Rattle.model.specs.Model.{Comp}
use Rattle.iosa.specs.Automaton.{Stable}
use Rattle.iosa.specs.Product.{product, state_of, Series}
use Rattle.iosa.specs.Step.{urgent_step}
use Rattle.iosa.specs.Settle.{settle}
use Rattle.iosa.specs.Orders.{Settling}
pub use Rattle.iosa.specs.Orders.{GoesOn, Same, LowestSeries, rest, take, OurRun, Called, Listed, NotEnabledAt, not-enabled}

-- settling answers stable, with n steps, resets R and state y
pub record SettledAs (c : Comp) (cs : List Comp) (n R : ℕ) (y : (product c cs).State) (d : Settling (List ℕ)) : Type 0 where
  pub stable : d.stable ≡ true
  pub steps : d.steps ≡ n
  pub resets : d.resets ≡ R
  pub state : state_of c cs d.state ≡ y

-- settling answers unsettled, with as many steps as its budget
pub record Unsettled (budget : ℕ) (d : Settling (List ℕ)) : Type 0 where
  pub unstable : d.stable ≡ false
  pub steps : d.steps ≡ budget

-- a series l with resets R from s stops in the stable y: no series is longer, each that stops is the same, and settling says so exactly when its
-- budget is at least the number of steps
pub record Stops (c : Comp) (cs : List Comp) (s : List ℕ) (l : List ℕ) (R : ℕ) (y : (product c cs).State) : Type 0 where
  pub longest : {k : List ℕ} {Q : ℕ} {z : (product c cs).State} → Series (product c cs) (state_of c cs s) k Q z → length k ≤ length l
  pub same : {k : List ℕ} {Q : ℕ} {z : (product c cs).State} → Series (product c cs) (state_of c cs s) k Q z → Stable (product c cs) z → Same (product c cs) l R y k Q z
  pub exactly : (budget : ℕ) → ((settle (urgent_step (c ∷ cs)) budget s).stable ≡ true) ↔ (length l ≤ budget)
  pub enough : (budget : ℕ) → length l ≤ budget → SettledAs c cs (length l) R y (settle (urgent_step (c ∷ cs)) budget s)
  pub short : (budget : ℕ) → budget < length l → Unsettled budget (settle (urgent_step (c ∷ cs)) budget s)

-- of the composed state s
pub record Demand3 (c : Comp) (cs : List Comp) (s : List ℕ) : Type 0 where
  -- a series ends in a stable state, or can be continued
  pub ends : {l : List ℕ} {R : ℕ} {y : (product c cs).State} → Series (product c cs) (state_of c cs s) l R y → Stable (product c cs) y ⊎ GoesOn (product c cs) y
  pub stops : {l : List ℕ} {R : ℕ} {y : (product c cs).State} → Series (product c cs) (state_of c cs s) l R y → Stable (product c cs) y → Stops c cs s l R y
  -- where no series stops
  pub never : ((l : List ℕ) (R : ℕ) (y : (product c cs).State) → Series (product c cs) (state_of c cs s) l R y → Stable (product c cs) y → ⊥)
      → (budget : ℕ) → Unsettled budget (settle (urgent_step (c ∷ cs)) budget s)
