-- 47 as the code asks it: what a pass over a tree's lines gathers in sets of 64 bits, and the lowest condition that these say is broken.
use Rattle.std.specs.Prelude.{◌≡◌, ◌↔◌, Bool, false, ◌||◌, not, cond, List, [], ◌∷◌, ℕ, ◌<◌, length, get_or, eqb}
use Rattle.std.proofs.Math.Option.{Option, none}
use Rattle.laws.specs.Sets.{has, ◌∪◌, ◌∩◌, ◌∖◌, within, only, ◌∈◌}
use Rattle.laws.specs.Search.{when, or_else, map_some}
use Rattle.sets.specs.Members.{word_bits, size_of}
use Rattle.answer.specs.Told.{Answer, answered, refused}
use Rattle.model.specs.Model.{Model}
use Rattle.trees.specs.Tree.{Tree, is_be, is_box}
use Rattle.trees.specs.TreeText.{unless, tree_of}
use Rattle.trees.specs.Conditions.{Edge, condition_of}
use Rattle.trees.specs.Modules.{tree_model}
use Rattle.trees.specs.ReadTree.{condition_told, limit_told, fitting}
use Rattle.treelines.specs.declared.Inputs.{Inputs}
use Rattle.treelines.specs.declared.Element.{Element}
use Rattle.treelines.specs.Elements.{sort_is, element_is}
use Rattle.treecheck.specs.Numbers.{input_at, ins_in}
use Rattle.treenames.specs.Names.{tree_in}
use Rattle.treetests.specs.declared.LineSets.{LineSets}
use Rattle.treetests.specs.declared.Gathered.{Gathered}

-- ---- "2, 4 and 6 .., then 5 .., 47 lowest condition broken, as a number"
abbrev pub proper : Answer Tree → Answer Tree
proper (refused f) = refused f
proper (answered t) = unless (map_some condition_told (condition_of t)) (answered t)

unfoldable pub proper_of : List ℕ → Answer Tree
proper_of bs = proper (tree_of bs)

-- and then "48, at 0, the model would pass a limit of 01"; else the model
abbrev pub limited : Answer Tree → Answer Model
limited (refused f) = refused f
limited (answered t) = unless (when (not (fitting t)) limit_told) (answered (tree_model t))

-- 2, 4, 6 and 5 have no fault with the text
abbrev pub IsTree : List ℕ → Type 0
IsTree text = tree_of text ≡ answered (tree_in text)

-- ---- a line
-- inputs, and an element's numbers, fit a set
abbrev pub SmallInputs : Inputs → Type 0
SmallInputs i = (k : ℕ) → k < i.count → input_at i k < word_bits

pub record Small (e : Element) : Type 0 where
  pub number : e.number < word_bits
  pub inputs : SmallInputs e.inputs

-- one input more, behind those that are there
unfoldable pub taken_in : LineSets → ℕ → LineSets
taken_in s x = record { own = s.own; all = s.all ∪ only x; twice = s.twice || has s.all x }

unfoldable pub taken_all : LineSets → List ℕ → LineSets
taken_all s [] = s
taken_all s (x ∷ xs) = taken_all (taken_in s x) xs

-- a number without inputs
abbrev pub none_taken : ℕ → LineSets
none_taken n = record { own = only n; all = 0; twice = false }

unfoldable pub line_sets : Element → LineSets
line_sets e = taken_all (none_taken e.number) (ins_in e.inputs)

-- ---- all lines
abbrev pub none_gathered : Gathered
none_gathered = record { numbers = 0; boxes = 0; basics = 0; inputs = 0; boxed = 0; twice = false; shared = false }

-- the inputs of a box, none of another element
abbrev pub box_inputs : Element → ℕ
box_inputs e = cond (is_box (sort_is e.sort)) (line_sets e).all 0

unfoldable pub gathered : Gathered → Element → Gathered
gathered g e = record {
  numbers = g.numbers ∪ (line_sets e).own;
  boxes = g.boxes ∪ cond (is_box (sort_is e.sort)) (line_sets e).own 0;
  basics = g.basics ∪ cond (is_be (sort_is e.sort)) (line_sets e).own 0;
  inputs = g.inputs ∪ (line_sets e).all;
  boxed = g.boxed ∪ box_inputs e;
  twice = g.twice || (line_sets e).twice;
  shared = g.shared || not (eqb (g.boxed ∩ box_inputs e) 0);
}

unfoldable pub gathered_all : Gathered → Tree → Gathered
gathered_all g [] = g
gathered_all g (e ∷ es) = gathered_all (gathered g (element_is e)) es

-- for each number below 64 the set of the inputs of its line
pub record InputRows (t : Tree) (rows : List ℕ) : Type 0 where
  pub places : length rows ≡ word_bits
  pub edges : (w v : ℕ) → w < word_bits → (v ∈ get_or rows w 0) ↔ Edge t v w

-- ---- the tests
-- how many elements are no box and no input
abbrev pub tops : Gathered → ℕ
tops g = size_of ((g.numbers ∖ g.boxes) ∖ g.inputs)

-- the lowest of (i) to (vi) that is broken, (i) asked already
unfoldable pub lowest_broken : Bool → Gathered → Option ℕ
lowest_broken cyclic g =
    let b : Option ℕ = when (not (eqb (tops g) 1)) 2 in
    let c : Option ℕ = when g.twice 3 in
    let d : Option ℕ = when (not (eqb (g.boxes ∩ g.inputs) 0)) 4 in
    let e : Option ℕ = when (not (within g.boxed g.basics)) 5 in
    let f : Option ℕ = when g.shared 6 in
    or_else (when cyclic 1) (or_else b (or_else c (or_else d (or_else e f))))

-- fine, or 47 with the number of the condition
abbrev pub broken_as : Option ℕ → Answer (Unit {0})
broken_as o = unless (map_some condition_told o) (answered tt)
