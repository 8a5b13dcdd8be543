-- The place of 18 in a table: a component, a state of it, and two actions.
use Rattle.std.specs.Prelude.{◌≡◌, List, ℕ, ◌<◌}
use Rattle.answer.specs.Limits.{max_actions}
use Rattle.answer.specs.declared.Place.{Place}
use Rattle.answer.specs.declared.Place.TheVariants.{Clash}
use Rattle.layout.specs.Layout.{count_of, block_word}

pub record ClashPlace (t : List ℕ) (p : Place) : Type 0 where
  pub component : ℕ
  pub state : ℕ
  pub lower : ℕ
  pub higher : ℕ
  pub here : p ≡ Clash component state lower higher
  pub inside : component < count_of t
  pub state-there : state < block_word t component 0
  pub lower-there : lower < max_actions
  pub higher-there : higher < max_actions
