-- The three tables of 02, 8/13, by the rows of a table: what each action triggers, what is in one set with it, and the actions that enable it.
use Rattle.std.specs.Prelude.{◌≡◌, List, ℕ, suc, ◌≤◌, ◌<◌, length}
use Rattle.laws.specs.Sets.{only}
use Rattle.laws.specs.Fold.{over}
use Rattle.model.specs.Model.{Row, Comp, Model, row_at, comp_at}
use Rattle.iosa.specs.Checks.{reach_of}
use Rattle.layout.specs.Layout.{count_of, block_word, first_of}
use Rattle.layout.specs.Image.{Image, comp_of, row_in}
use Rattle.triggering.specs.Test.{crossed, stirred, woken}
use Rattle.leads.specs.declared.Kind.{Kind}
use Rattle.leads.specs.declared.Kind.TheVariants.{Triggers, Sets, Wakers}
use Rattle.leads.specs.declared.Spot.{Spot}
use Rattle.leads.specs.declared.Pair.{Pair}

-- ---- where the code stands
-- a state of a component, and whether the component can reach it
pub record InState (t : List ℕ) (x : Spot) : Type 0 where
  pub image : Image t
  pub inside : x.component < count_of t
  pub below : x.state < block_word t x.component 0
  pub counts : x.counts ≡ reach_of (comp_of t x.component) x.state

-- a row that leaves it
pub record AtRow (t : List ℕ) (x : Spot) (r : ℕ) : Type 0 where
  pub state : InState t x
  pub from : first_of t x.component x.state ≤ r
  pub to : r < first_of t x.component (suc x.state)

-- ---- what a row adds: to the sets of these actions, these members
unfoldable pub to_of : Kind → Comp → Row → ℕ
to_of Triggers c r = only r.action
to_of Sets c r = woken c r
to_of Wakers c r = woken c r

unfoldable pub new_of : Kind → Comp → Row → ℕ
new_of Triggers c r = stirred c r
new_of Sets c r = woken c r
new_of Wakers c r = only r.action

pub record PairOf (k : Kind) (c : Comp) (r : Row) (p : Pair) : Type 0 where
  pub to : p.to ≡ to_of k c r
  pub new : p.new ≡ new_of k c r

abbrev pub learn_row : Kind → Comp → Row → List ℕ → List ℕ
learn_row k c r T = crossed (to_of k c r) (new_of k c r) T

-- the rows of a state, of a component, of a system
unfoldable pub learn_state : List ℕ → ℕ → ℕ → Kind → List ℕ → List ℕ
learn_state t i s k T = over (λ r. learn_row k (comp_of t i) (row_in t s r)) (first_of t i s) (first_of t i (suc s)) T

unfoldable pub learn_in : Kind → Comp → List ℕ → List ℕ
learn_in k c T = over (λ j. learn_row k c (row_at c j)) 0 (length c.rows) T

unfoldable pub learn_of : Kind → Model → List ℕ → List ℕ
learn_of k m T = over (λ i. learn_in k (comp_at m i)) 0 (length m) T
