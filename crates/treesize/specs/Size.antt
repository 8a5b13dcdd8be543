-- The rows and bytes of a tree's model, line by line.
use Rattle.std.specs.Prelude.{◌≡◌, List, ℕ, suc, ◌+◌, ◌*◌, ◌≤◌, ◌<◌, length, get_or}
use Rattle.std.proofs.Math.Option.{some}
use Rattle.laws.specs.Sets.{◌∪◌, only}
use Rattle.answer.specs.Limits.{max_actions}
use Rattle.model.specs.Model.{Comp, row_count}
use Rattle.model.specs.Text.{comp_text, row_lines, text_of}
use Rattle.measure.specs.Measure.{bare}
use Rattle.product.specs.declared.Tally.{Tally}
use Rattle.trees.specs.Tree.{Sort, be-sort, and-sort, or-sort, pand-sort, rbox-sort, Element, Tree, meanings, meaning_of}
use Rattle.trees.specs.Modules.{tree_model}
use Rattle.elements.specs.Parts.{meaning_at, states_by}
use Rattle.treerows.specs.Rows.{element_rows}
use Rattle.treerows.specs.KindSets.{kinds_below, word_kind}

abbrev pub clocks_for : Sort → ℕ → ℕ
clocks_for be-sort k = only (2 * k) ∪ only (2 * k + 1)
clocks_for and-sort k = 0
clocks_for or-sort k = 0
clocks_for pand-sort k = 0
clocks_for rbox-sort k = 0

abbrev pub next_be : Sort → ℕ → ℕ
next_be be-sort k = suc k
next_be and-sort k = k
next_be or-sort k = k
next_be pand-sort k = k
next_be rbox-sort k = k

-- an element's component without its rows
unfoldable pub bare_by : List ℕ → ℕ → Element → ℕ → Comp
bare_by words count e k =
    let h = kinds_below (word_kind words e) count in
    bare (states_by e) 0 h.ins h.outs h.uins h.uouts (clocks_for e.sort k)

-- far below the machine's limits, and far above what 32 components can have
pub record Roomy (n : Tally) : Type 0 where
  pub rows : n.rows ≤ 1048576
  pub bytes : n.bytes ≤ 1073741824

-- a component's rows and bytes more
pub record Longer (words : List ℕ) (count : ℕ) (e : Element) (k : ℕ) (n r : Tally) : Type 0 where
  pub rows : r.rows ≡ n.rows + length (element_rows words count e k)
  pub bytes : r.bytes ≡ n.bytes + length (comp_text (bare_by words count e k)) + length (row_lines (element_rows words count e k))

-- the words hold the meanings of the tree's actions
pub record Hold (t : Tree) (words : List ℕ) : Type 0 where
  pub few : length (meanings t) ≤ max_actions
  pub means : (a : ℕ) → a < length (meanings t) → meaning_of t a ≡ some (meaning_at (get_or words a 0))

pub record Sized (t : Tree) (r : Tally) : Type 0 where
  pub rows : r.rows ≡ row_count (tree_model t)
  pub bytes : r.bytes ≡ length (text_of (tree_model t))
