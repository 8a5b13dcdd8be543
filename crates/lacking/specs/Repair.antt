-- Missing self-loops put in (02, 1/13): "For each state lacking an input's row adds a row to itself with no guard or resets".
use Rattle.std.specs.Prelude.{cond, List, [], ◌∷◌, ◌++◌, map, ℕ, length}
use Rattle.laws.specs.Fold.{spread}
use Rattle.answer.specs.Limits.{max_actions}
use Rattle.model.specs.Model.{Row, Comp, Model, comp_at}
use Rattle.iosa.specs.Checks.{lacks_row}
use Rattle.merged.specs.Merge.{rows_by}

-- "a row to itself with no guard or resets"
abbrev pub loop_at : ℕ → ℕ → Row
loop_at s a = record { from = s; guard = 0; action = a; resets = 0; target = s }

-- the row that state s lacks for action a, and the rows of that state and action when it is put in
unfoldable pub missing_at : Comp → ℕ → ℕ → List Row
missing_at c s a = cond (lacks_row c s a) (loop_at s a ∷ []) []

unfoldable pub repaired_at : Comp → ℕ → ℕ → List Row
repaired_at c s a = missing_at c s a ++ rows_by c.rows s a

-- "All else stays"
unfoldable pub repaired : Comp → Comp
repaired c = record {
  states = c.states;
  start = c.start;
  ins = c.ins;
  outs = c.outs;
  uins = c.uins;
  uouts = c.uouts;
  clocks = c.clocks;
  started = c.started;
  rows = spread (λ s. spread (repaired_at c s) 0 max_actions) 0 c.states;
}

unfoldable pub repaired_of : Model → Model
repaired_of m = map repaired m

-- "lists each added row, ascending, as three bytes (component, state, action)"
abbrev pub cell : ℕ → ℕ → ℕ → List ℕ
cell i s a = i ∷ s ∷ a ∷ []

unfoldable pub cell_at : ℕ → Comp → ℕ → ℕ → List (List ℕ)
cell_at i c s a = cond (lacks_row c s a) (cell i s a ∷ []) []

unfoldable pub cells_of : ℕ → Comp → List (List ℕ)
cells_of i c = spread (λ s. spread (cell_at i c s) 0 max_actions) 0 c.states

unfoldable pub added_to : Model → List (List ℕ)
added_to m = spread (λ i. cells_of i (comp_at m i)) 0 (length m)

-- their bytes, one after the other
unfoldable pub bytes_in : List (List ℕ) → List ℕ
bytes_in [] = []
bytes_in (x ∷ xs) = x ++ bytes_in xs
