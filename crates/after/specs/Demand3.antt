-- Demand 3 of the calls `settle_after` and `settle_list_after` themselves: what every answer of theirs, unless refused, stands on.
use Rattle.std.specs.Prelude.{List, ◌∷◌, ℕ}
use Rattle.model.specs.Model.{Comp}
use Rattle.iosa.specs.Automaton.{Joinable, Reachable}
use Rattle.iosa.specs.Thesis.{AllDefinition41}
use Rattle.iosa.specs.Product.{product, state_of, Within}
use Rattle.iosa.specs.Orders.{OneEnd}
use Rattle.layout.specs.OnImage.{Holds}
use Rattle.walkable.specs.Orderly.{EitherTest}
use Rattle.paths.specs.Path.{Path}

-- the table holds a model whose components are of Definition 4.1 and compatible, and which passes check 18, or else is closed and passes the new test;
-- the path leads from the start of its product to a composed state, so the product can reach it, and from there the order of urgent steps does not matter
pub record SettledAfter (t p : List ℕ) : Type 0 where
  pub first : Comp
  pub others : List Comp
  pub holds : Holds t (first ∷ others)
  pub definition : AllDefinition41 (first ∷ others)
  pub joinable : Joinable (first ∷ others)
  pub either : EitherTest (first ∷ others)
  pub there : List ℕ
  pub within : Within (first ∷ others) there
  pub path : Path (product first others) (product first others).start p (state_of first others there)
  pub reached : Reachable (product first others) (state_of first others there)
  pub orders : OneEnd (product first others) (state_of first others there)
