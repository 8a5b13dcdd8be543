-- The text of a tree (02, 9/13): "tabbed lines (`be`, `and`, `or`, `pand`, `rbox`, number 0 to 63 ascending, inputs)". As it is printed, and as it is read: one scan of a
-- line's bytes from left to right, as of a model's lines; only a line of good shape is judged.
use Rattle.std.proofs.Math.Option.{Option, none, some}
use Rattle.std.specs.Prelude.{List, [], ◌∷◌, ◌++◌, map, Bool, true, false, not, cond, ℕ, zero, suc, ◌+◌, length, eqb, ltb}
use Rattle.laws.specs.Search.{when, is_some, or_else}
use Rattle.answer.specs.Limits.{max_elements, max_inputs}
use Rattle.answer.specs.Told.{Told, tell, Answer, answered, refused}
use Rattle.model.specs.Text.{tab, lf, decimal, fields_after}
use Rattle.model.specs.Reading.{Scan, is, stops, got, then, furthest, exactly, the_byte, number, field, all_below, stop_column}
use Rattle.trees.specs.Tree.{Sort, be-sort, and-sort, or-sort, pand-sort, rbox-sort, Element, Tree}

-- ---- as it is printed
-- `be`, `and`, `or`, `pand`, `rbox`
abbrev pub sort_word : Sort → List ℕ
sort_word be-sort = 98 ∷ 101 ∷ []
sort_word and-sort = 97 ∷ 110 ∷ 100 ∷ []
sort_word or-sort = 111 ∷ 114 ∷ []
sort_word pand-sort = 112 ∷ 97 ∷ 110 ∷ 100 ∷ []
sort_word rbox-sort = 114 ∷ 98 ∷ 111 ∷ 120 ∷ []

-- "gates have two inputs, boxes one to five": so many inputs at least, and so many more at most
abbrev pub fewest : Sort → ℕ
fewest be-sort = 0
fewest and-sort = 2
fewest or-sort = 2
fewest pand-sort = 2
fewest rbox-sort = 1

abbrev pub at_most_more : Sort → ℕ
at_most_more be-sort = 0
at_most_more and-sort = 0
at_most_more or-sort = 0
at_most_more pand-sort = 0
at_most_more rbox-sort = 4

-- an element's numbers: its own, then its inputs in their order
abbrev pub numbers_of : Element → List ℕ
numbers_of e = e.number ∷ e.ins

-- a line, with its LF
unfoldable pub element_text : Element → List ℕ
element_text e = sort_word e.sort ++ fields_after (map decimal (numbers_of e))

unfoldable pub tree_text : Tree → List ℕ
tree_text [] = []
tree_text (e ∷ es) = element_text e ++ tree_text es

-- ---- as a line is read
-- the first word; where it is none of the five, the one that got furthest tells where it stops
unfoldable pub sort_scan : List ℕ → Scan Sort
sort_scan bs = furthest (word be-sort) (furthest (word and-sort) (furthest (word or-sort) (furthest (word pand-sort) (word rbox-sort))))
  where
    word : Sort → Scan Sort
    word s = then (exactly (sort_word s) bs) (λ _ cs. got s cs)

-- further inputs, each behind a tab; no more than k
unfoldable pub more_inputs : ℕ → List ℕ → Scan (List ℕ)
more_inputs zero bs = got [] bs
more_inputs (suc k) [] = got [] []
more_inputs (suc k) (b ∷ bs) = elim (eqb b tab) [
  | true ↦ then (number bs) (λ n cs. then (more_inputs k cs) (λ ns ds. got (n ∷ ns) ds))
  | false ↦ got [] (b ∷ bs)
]

-- n inputs, each behind a tab, and no more than k further ones
unfoldable pub inputs : ℕ → ℕ → List ℕ → Scan (List ℕ)
inputs zero k bs = more_inputs k bs
inputs (suc n) k bs = then (field number bs) (λ x cs. then (inputs n k cs) (λ xs ds. got (x ∷ xs) ds))

abbrev pub ended : Element → List ℕ → Scan Element
ended e bs = then (the_byte lf bs) (λ _ cs. got e cs)

-- what stands behind the first word
unfoldable pub behind_word : Sort → List ℕ → Scan Element
behind_word s bs =
    then (field number bs) (λ n cs.
    then (inputs (fewest s) (at_most_more s) cs) (λ xs ds.
    ended (record { sort = s; number = n; ins = xs }) ds))

-- one line, with its LF
unfoldable pub element : List ℕ → Scan Element
element bs = then (sort_scan bs) behind_word

-- ---- the faults of a line of good shape
-- 4 "number outside its range": "number 0 to 63", and so is an input
unfoldable pub out_of_range : Element → Bool
out_of_range e = not (all_below max_elements (numbers_of e))

-- "2, 4 and 6 as for models": the lowest fault of a line of good shape; 6 "not strictly ascending": low is one more than the last line's number, 0 before any line
unfoldable pub fault_of : ℕ → Element → Option ℕ
fault_of low e = let b : Option ℕ = when (ltb e.number low) 6 in or_else (when (out_of_range e) 4) b

-- the column of the first number of a list at fault, where the first of all stands at column k, and each behind one byte
unfoldable pub first_bad : (ℕ → Bool) → ℕ → List ℕ → ℕ
first_bad bad k [] = k
first_bad bad k (n ∷ ns) = cond (bad n) k (first_bad bad (k + suc (length (decimal n))) ns)

-- the first number stands behind the first word and a tab
abbrev pub column_of : (ℕ → Bool) → Element → ℕ
column_of bad e = first_bad bad (length (sort_word e.sort) + 2) (numbers_of e)

-- "2, 4 and 5 carry line and column" (02, 2/13): what stands behind the line in the place of fault f
unfoldable pub behind_line : ℕ → Element → List ℕ
behind_line f e = cond (eqb f 4) (column_of (λ n. not (ltb n max_elements)) e ∷ []) []

-- ---- the whole text
-- the line e, then the lines behind it
abbrev pub consed : Element → Answer Tree → Answer Tree
consed e (answered t) = answered (e ∷ t)
consed e (refused f) = refused f

-- the lines from line n on, of which there are no more than k; their numbers are low or higher
unfoldable pub lines_from : ℕ → ℕ → ℕ → List ℕ → Answer Tree
lines_from zero n low bs = answered []
lines_from (suc k) n low [] = answered []
lines_from (suc k) n low (b ∷ bs) = elim (element (b ∷ bs)) [
  | stops cs ↦ refused (tell 2 (n ∷ stop_column (b ∷ bs) cs ∷ []))
  | is g ↦ elim (fault_of low g.value) [
    | some f ↦ refused (tell f (n ∷ behind_line f g.value))
    | none ↦ consed g.value (lines_from k (suc n) (suc g.value.number) g.rest)
  ]
]

-- the line of a number, if there is one
unfoldable pub line_of : Tree → ℕ → Option Element
line_of [] v = none
line_of (e ∷ es) v = elim (eqb e.number v) [ true ↦ some e | false ↦ line_of es v ]

abbrev pub unknown : Tree → ℕ → Bool
unknown t v = not (is_some (line_of t v))

-- one of a list with the test
unfoldable pub some_of : (ℕ → Bool) → List ℕ → Bool
some_of g [] = false
some_of g (x ∷ xs) = elim (g x) [ true ↦ true | false ↦ some_of g xs ]

-- 5 "an input no line defines": the least line, in it the leftmost such input; of the lines from line n on
unfoldable pub unknown_from : Tree → ℕ → List Element → Option Told
unknown_from t n [] = none
unknown_from t n (e ∷ es) = elim (some_of (unknown t) (numbers_of e)) [
  | true ↦ some (tell 5 (n ∷ column_of (unknown t) e ∷ []))
  | false ↦ unknown_from t (suc n) es
]

-- a check first: its refusal, or else the answer
abbrev pub unless : {A : Type 0} → Option Told → Answer A → Answer A
unless none a = a
unless (some f) a = refused f

abbrev pub all_known : Answer Tree → Answer Tree
all_known (refused f) = refused f
all_known (answered t) = unless (unknown_from t 1 t) (answered t)

-- "2, 4 and 6 as for models, then 5"; every line has a byte, so there are no more lines than bytes
unfoldable pub tree_of : List ℕ → Answer Tree
tree_of bs = all_known (lines_from (length bs) 1 0 bs)
