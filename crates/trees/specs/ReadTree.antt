-- What is answered to a tree's text (02, 9/13): "2, 4 and 6 as for models, then 5 an input no line defines, 47 lowest condition broken, as a number, 48, at 0, the model
-- would pass a limit of 01, 24"; else the model.
use Rattle.std.specs.Prelude.{◌≡◌, List, [], ◌∷◌, Bool, true, false, ◌&&◌, not, ℕ, ◌*◌, ◌≤◌, length, leb}
use Rattle.std.proofs.Math.Option.{Option, none, some}
use Rattle.laws.specs.Search.{when, map_some}
use Rattle.answer.specs.Limits.{max_components, max_rows, max_actions, max_clocks, max_bytes}
use Rattle.answer.specs.Told.{Told, tell, Answer, answered, refused}
use Rattle.model.specs.Model.{Model, row_count}
use Rattle.model.specs.Text.{text_of}
use Rattle.trees.specs.Tree.{Tree, bes, meanings}
use Rattle.trees.specs.Modules.{tree_model}
use Rattle.trees.specs.TreeText.{tree_of, unless}
use Rattle.trees.specs.Conditions.{condition_of}

-- ---- 48 "the model would pass a limit of 01"; no module has more states than a component may have
pub record InLimits (t : Tree) : Type 0 where
  pub components : length t ≤ max_components
  pub actions : length (meanings t) ≤ max_actions
  pub clocks : 2 * bes t ≤ max_clocks
  pub rows : row_count (tree_model t) ≤ max_rows
  pub bytes : length (text_of (tree_model t)) ≤ max_bytes

unfoldable pub fitting : Tree → Bool
fitting t =
    leb (length t) max_components
    && (leb (length (meanings t)) max_actions
    && (leb (2 * bes t) max_clocks && (leb (row_count (tree_model t)) max_rows && leb (length (text_of (tree_model t))) max_bytes)))

-- ---- 47, then 48, then the model
abbrev pub condition_told : ℕ → Told
condition_told n = tell 47 (n ∷ [])

abbrev pub limit_told : Told
limit_told = tell 48 (0 ∷ [])

abbrev pub modelled : Answer Tree → Answer Model
modelled (refused f) = refused f
modelled (answered t) = unless (map_some condition_told (condition_of t)) (unless (when (not (fitting t)) limit_told) (answered (tree_model t)))

unfoldable pub read_tree_of : List ℕ → Answer Model
read_tree_of bs = modelled (tree_of bs)
