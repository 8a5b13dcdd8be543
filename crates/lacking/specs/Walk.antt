-- A walk over rows to be added: each is counted, its line is measured, and where the walk writes its three bytes are put into the list.
use Rattle.std.specs.Prelude.{◌≡◌, Bool, true, cond, List, [], ◌∷◌, ℕ, suc, ◌+◌, ◌*◌, ◌≤◌, length, get_or}
use Rattle.std.proofs.lemmas.List.Edits.{sets}
use Rattle.laws.specs.Sets.{has, ◌∪◌, ◌∖◌, only}
use Rattle.laws.specs.Fold.{over, spread}
use Rattle.answer.specs.Limits.{max_actions, max_states, max_components}
use Rattle.model.specs.Text.{row_line}
use Rattle.layout.specs.Layout.{block_word, first_of, action_at}
use Rattle.lacking.specs.declared.Tally.{Tally}
use Rattle.lacking.specs.Repair.{loop_at, cell}

-- "three bytes"
abbrev pub cell_bytes : ℕ
cell_bytes = 3

-- the rows so far, the bytes of their lines, and the list
pub record Out : Type 0 where
  pub rows : ℕ
  pub bytes : ℕ
  pub list : List ℕ

abbrev pub out_of : Tally → List ℕ → Out
out_of n l = record { rows = n.rows; bytes = n.bytes; list = l }

-- the line of the row that a cell stands for
unfoldable pub width_of : List ℕ → ℕ
width_of x = length (row_line (loop_at (get_or x 1 0) (get_or x 2 0)))

unfoldable pub one_more : Bool → List ℕ → Out → Out
one_more write x o =
    record { rows = o.rows + 1; bytes = o.bytes + width_of x; list = cond write (sets o.list (cell_bytes * o.rows) x) o.list }

unfoldable pub walked : Bool → List (List ℕ) → Out → Out
walked write [] o = o
walked write (x ∷ xs) o = walked write xs (one_more write x o)

-- what no walk passes: every cell of the largest model, and a kilobyte for each
abbrev pub most_cells : ℕ
most_cells = max_actions * max_states * max_components

pub record Roomy (write : Bool) (o : Out) : Type 0 where
  pub rows : o.rows ≤ most_cells
  pub bytes : o.bytes ≤ 1024 * most_cells
  pub list : write ≡ true → cell_bytes * o.rows ≤ length o.list

-- the actions of the rows lo .. hi, and the inputs of component i that are not among them
unfoldable pub actions_from : List ℕ → ℕ → ℕ → ℕ
actions_from t lo hi = over (λ r x. x ∪ only (action_at t r)) lo hi 0

unfoldable pub lack_in : List ℕ → ℕ → ℕ → ℕ → ℕ
lack_in t i lo hi = (block_word t i 2 ∪ block_word t i 4) ∖ actions_from t lo hi

-- the inputs that state s of component i lacks, as a set
unfoldable pub lack_of : List ℕ → ℕ → ℕ → ℕ
lack_of t i s = lack_in t i (first_of t i s) (first_of t i (suc s))

-- the cell of action a, where it is in the set
unfoldable pub cell_in : ℕ → ℕ → ℕ → ℕ → List (List ℕ)
cell_in lacking i s a = cond (has lacking a) (cell i s a ∷ []) []

unfoldable pub cells_in : ℕ → ℕ → ℕ → List (List ℕ)
cells_in lacking i s = spread (cell_in lacking i s) 0 max_actions

-- of a component's states, and of a table
unfoldable pub cells_by : List ℕ → ℕ → List (List ℕ)
cells_by t i = spread (λ s. cells_in (lack_of t i s) i s) 0 (block_word t i 0)
