-- An element's component by the words of the actions, and what the text of a tree is known to hold before its image is written.
use Rattle.std.specs.Prelude.{◌≡◌, List, ℕ, ◌+◌, ◌*◌, ◌≤◌, length}
use Rattle.laws.specs.Sets.{only}
use Rattle.laws.specs.Fold.{spread}
use Rattle.answer.specs.Limits.{max_actions, max_components, max_rows}
use Rattle.model.specs.Model.{Comp, row_count}
use Rattle.trees.specs.Tree.{Sort, be-sort, and-sort, or-sort, pand-sort, rbox-sort, Element, meanings}
use Rattle.trees.specs.Modules.{tree_model}
use Rattle.treenames.specs.Names.{tree_in, LinesOf}
use Rattle.elements.specs.Parts.{states_by}
use Rattle.treerows.specs.Rows.{state_rows, element_rows}
use Rattle.treerows.specs.KindSets.{kinds_below, word_kind}
use Rattle.treesize.specs.Size.{clocks_for, Hold}

-- "started" of a basic element is fc
abbrev pub started_for : Sort → ℕ → ℕ
started_for be-sort k = only (2 * k)
started_for and-sort k = 0
started_for or-sort k = 0
started_for pand-sort k = 0
started_for rbox-sort k = 0

-- comp_by of an element's module; k basic elements stand before it
unfoldable pub plant_of : List ℕ → ℕ → Element → ℕ → Comp
plant_of words count e k =
    let h = kinds_below (word_kind words e) count in
    record {
      states = states_by e;
      start = 0;
      ins = h.ins;
      outs = h.outs;
      uins = h.uins;
      uouts = h.uouts;
      clocks = clocks_for e.sort k;
      started = started_for e.sort k;
      rows = element_rows words count e k;
    }

-- the row at which those of state s begin, where the component's begin at row `base`
unfoldable pub start_of : ℕ → List ℕ → ℕ → Element → ℕ → ℕ → ℕ
start_of base words count e k s = base + length (spread (state_rows words count e k) 0 s)

-- the lines of a text, the words of its actions, and as many components and rows as there may be
pub record Plantable (text words : List ℕ) (count : ℕ) : Type 0 where
  pub lines : LinesOf text (tree_in text)
  pub hold : Hold (tree_in text) words
  pub long : length words ≡ max_actions
  pub all : count ≡ length (meanings (tree_in text))
  pub components : length (tree_in text) ≤ max_components
  pub rows : row_count (tree_model (tree_in text)) ≤ max_rows
