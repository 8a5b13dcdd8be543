-- The actions of a tree as words: 8 times the element's number, and its signal's, 0 to 4 for fl, up, f, u, r.
use Rattle.std.specs.Prelude.{◌≡◌, Bool, true, false, cond, List, [], ◌∷◌, ◌++◌, ℕ, ◌+◌, ◌*◌, ◌≤◌, length, leb}
use Rattle.std.proofs.lemmas.List.Edits.{sets}
use Rattle.laws.specs.Sets.{has, ◌∪◌, only}
use Rattle.laws.specs.Fold.{tab}
use Rattle.answer.specs.Limits.{max_actions}
use Rattle.trees.specs.Tree.{Sort, be-sort, and-sort, or-sort, pand-sort, rbox-sort, Element, Tree, is_box, meanings}
use Rattle.meanings.specs.declared.Named.{Named}

unfoldable pub set_of : List ℕ → ℕ
set_of [] = 0
set_of (x ∷ xs) = only x ∪ set_of xs

unfoldable pub box_set : Element → ℕ
box_set e = cond (is_box e.sort) (set_of e.ins) 0

-- the elements in boxes, as a set
unfoldable pub boxed_in : Tree → ℕ
boxed_in [] = 0
boxed_in (e ∷ es) = box_set e ∪ boxed_in es

-- an element's signals are a range of numbers
abbrev pub first_signal : Sort → ℕ
first_signal be-sort = 0
first_signal and-sort = 2
first_signal or-sort = 2
first_signal pand-sort = 2
first_signal rbox-sort = 0

abbrev pub signal_count : Sort → Bool → ℕ
signal_count be-sort b = cond b 5 4
signal_count and-sort b = 2
signal_count or-sort b = 2
signal_count pand-sort b = 2
signal_count rbox-sort b = 0

unfoldable pub words_for : ℕ → Element → List ℕ
words_for boxed e = tab (λ k. e.number * 8 + first_signal e.sort + k) 0 (signal_count e.sort (has boxed e.number))

unfoldable pub words_from : ℕ → List Element → List ℕ
words_from boxed [] = []
words_from boxed (e ∷ es) = words_for boxed e ++ words_from boxed es

unfoldable pub words_of : Tree → List ℕ
words_of t = words_from (boxed_in t) t

-- words at a place, where there is room for all of them
unfoldable pub put_at : ℕ → List ℕ → List ℕ → List ℕ
put_at at ws l = cond (leb (at + length ws) max_actions) (sets l at ws) l

-- what is counted, and the words where there is room for them
pub record NamedBy (t : Tree) (old : List ℕ) (r : Named) (new : List ℕ) : Type 0 where
  pub components : r.components ≡ length t
  pub actions : r.actions ≡ length (meanings t)
  pub words : length (meanings t) ≤ max_actions → new ≡ sets old 0 (words_of t)
