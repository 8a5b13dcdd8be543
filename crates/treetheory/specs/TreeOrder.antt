-- What is promised of the model of every tree by the test of 02, 8/13 (000, Theorem 5.1; 001, Theorem 2): its owner meets neither 45 nor 18.
use Rattle.std.specs.Prelude.{◌≡◌, List, ◌∷◌, ℕ, true}
use Rattle.model.specs.Model.{Comp, Model}
use Rattle.iosa.specs.Automaton.{Reachable}
use Rattle.iosa.specs.Product.{product, state_of, Within}
use Rattle.iosa.specs.Demand3.{Demand3}
use Rattle.triggering.specs.Triggering.{Passes, NoOpenInput}
use Rattle.triggering.specs.Test.{passes_of}

pub record TreeOrder (m : Model) : Type 0 where
  -- no 45: every input is somebody's output
  pub closed : NoOpenInput m
  -- no 18: every component is confluent for the pairs that are led to
  pub passes : Passes m
  -- and so says the test that computes
  pub tested : passes_of m ≡ true
  -- demand 3 from every composed state reached from the start by steps of which each non-urgent one leaves a stable state
  pub settles : (c : Comp) (cs : List Comp) → m ≡ c ∷ cs → (s : List ℕ) → Within (c ∷ cs) s → Reachable (product c cs) (state_of c cs s) → Demand3 c cs s
