-- The rows of an element's module, by the words of the actions; and room for so many rows more.
use Rattle.std.proofs.Math.Option.{Option, none, some}
use Rattle.std.specs.Prelude.{List, [], ◌∷◌, ℕ, ◌+◌, ◌*◌, ◌≤◌, ◌<◌, length, get_or}
use Rattle.laws.specs.Fold.{spread}
use Rattle.model.specs.Model.{Row}
use Rattle.layout.specs.Layout.{image_words}
use Rattle.product.specs.Walk.{Out, most_rows, most_bytes}
use Rattle.trees.specs.Module.{Move}
use Rattle.trees.specs.Tree.{Element}
use Rattle.elements.specs.Parts.{meaning_at, states_by, move_by}

-- the row of a move by action a from state s
abbrev pub row_by : Option Move → ℕ → ℕ → List Row
row_by none s a = []
row_by (some v) s a = record { from = s; guard = v.guard; action = a; resets = v.resets; target = v.target } ∷ []

unfoldable pub word_rows : List ℕ → Element → ℕ → ℕ → ℕ → List Row
word_rows words e k s a = row_by (move_by e k s (meaning_at (get_or words a 0))) s a

unfoldable pub state_rows : List ℕ → ℕ → Element → ℕ → ℕ → List Row
state_rows words count e k s = spread (word_rows words e k s) 0 count

unfoldable pub element_rows : List ℕ → ℕ → Element → ℕ → List Row
element_rows words count e k = spread (state_rows words count e k) 0 (states_by e)

-- room for r rows more, and a table that is long enough where there is a limit
pub record Room (limit r : ℕ) (o : Out) : Type 0 where
  pub rows : o.rows + r ≤ most_rows
  pub bytes : o.bytes + 512 * r ≤ most_bytes
  pub long : 0 < limit → image_words ≤ length o.words
