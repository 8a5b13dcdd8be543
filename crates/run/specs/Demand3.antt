-- Demand 3 of the calls `settle` and `settle_list` themselves: what every answer of theirs, unless refused, stands on.
use Rattle.std.specs.Prelude.{List, ◌∷◌, ℕ}
use Rattle.answer.specs.State.{parts_of}
use Rattle.answer.specs.declared.State.{State}
use Rattle.model.specs.Model.{Comp}
use Rattle.iosa.specs.Automaton.{Joinable, AllConfluent}
use Rattle.iosa.specs.Thesis.{AllDefinition41}
use Rattle.iosa.specs.Product.{product, state_of, Reached}
use Rattle.iosa.specs.Orders.{OneEnd}
use Rattle.layout.specs.OnImage.{Holds}

-- the table holds a model whose components are of Definition 4.1, compatible, and confluent where they can get, each part of the state is one where its
-- component can get, and from there the order in which urgent steps are taken does not matter
pub record SettledFrom (t : List ℕ) (x : State) : Type 0 where
  pub first : Comp
  pub others : List Comp
  pub holds : Holds t (first ∷ others)
  pub definition : AllDefinition41 (first ∷ others)
  pub joinable : Joinable (first ∷ others)
  pub confluent : AllConfluent (first ∷ others)
  pub reached : Reached (first ∷ others) (parts_of x)
  pub orders : OneEnd (product first others) (state_of first others (parts_of x))
