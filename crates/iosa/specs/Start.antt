-- The start of a system (01, "Composition"; 000, Definition 4.1: s0 and C0, and section 4.3: those of a product).
use Rattle.std.specs.Prelude.{◌≡◌, List, [], ◌∷◌, ℕ}
use Rattle.laws.specs.Sets.{◌∪◌}
use Rattle.model.specs.Model.{Comp, Model}
use Rattle.iosa.specs.Product.{product, state_of, Within}

-- "`comp`: states, start": one number for each component
unfoldable pub start_all : Model → List ℕ
start_all [] = []
start_all (c ∷ cs) = c.start ∷ start_all cs

-- "`clk`: clock, then 1 if set at the start": those of all components
unfoldable pub started_all : Model → ℕ
started_all [] = 0
started_all (c ∷ cs) = c.started ∪ started_all cs

-- where a system begins: one number for each component, and a set of clocks
pub record Beginning : Type 0 where
  pub state : List ℕ
  pub started : ℕ

abbrev pub start_of : Model → Beginning
start_of m = record { state = start_all m; started = started_all m }

-- these numbers are the product's start state, each below its component's states, and this set has the clocks that the product sets there
pub record StartOf (c : Comp) (cs : List Comp) (b : Beginning) : Type 0 where
  pub state : state_of c cs b.state ≡ (product c cs).start
  pub within : Within (c ∷ cs) b.state
  pub started : b.started ≡ (product c cs).started
