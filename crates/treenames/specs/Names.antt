-- The numbers of a tree's lines as a set; the lines of a text that is good line by line; one of them.
use Rattle.std.specs.Prelude.{◌≡◌, List, [], ◌∷◌, ℕ, length, drop, Ok}
use Rattle.laws.specs.Sets.{◌∪◌, only}
use Rattle.answer.specs.Told.{Answer, answered, refused}
use Rattle.model.specs.Reading.{got}
use Rattle.fields.specs.Resets.{valued}
use Rattle.trees.specs.Tree.{Element, Tree}
use Rattle.trees.specs.TreeText.{element, lines_from}
use Rattle.treelines.specs.Elements.{element_is, got_element}
use Rattle.treenames.specs.declared.Line.{Line}

unfoldable pub numbers_in : Tree → ℕ
numbers_in [] = 0
numbers_in (e ∷ es) = only e.number ∪ numbers_in es

-- the lines of a text that 2, 4 and 6 find no fault with, none of another
abbrev pub lines_in : Answer Tree → Tree
lines_in (answered t) = t
lines_in (refused f) = []

unfoldable pub tree_in : List ℕ → Tree
tree_in text = lines_in (lines_from (length text) 1 0 text)

-- 2, 4 and 6 find no fault, and t are the lines
abbrev pub LinesOf : List ℕ → Tree → Type 0
LinesOf text t = lines_from (length text) 1 0 text ≡ answered t

-- a line stands at a place of the text
pub record LineThere (text : List ℕ) (at : ℕ) : Type 0 where
  pub it : Element
  pub behind : List ℕ
  pub read : element (drop at text) ≡ got it behind

-- what a scan finds there
abbrev pub LineRead : List ℕ → ℕ → Line → Type 0
LineRead text at l = got_element text (Ok (record { at = l.next }, l.element)) ≡ valued element_is (element (drop at text))
