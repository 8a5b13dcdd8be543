-- The rows of a state with the loops that it lacks, in their order: the rows of a range, and a loop for each member of a set, the lower action first.
use Rattle.std.specs.Prelude.{Bool, ◌&&◌, cond, List, [], ◌∷◌, ℕ, zero, suc, ◌+◌, ◌*◌, ltb}
use Rattle.std.proofs.lemmas.List.Edits.{sets}
use Rattle.laws.specs.Sets.{◌∖◌, only}
use Rattle.sets.specs.Members.{lowest_of}
use Rattle.model.specs.Model.{Row}
use Rattle.layout.specs.Layout.{row_words, rows_at}
use Rattle.layout.specs.Image.{row_in}
use Rattle.layout.specs.Words.{words_of}
use Rattle.lacking.specs.Repair.{loop_at}

-- whether row r, of those below hi, comes before the loops of a set
unfoldable pub takes : (ℕ → Row) → ℕ → ℕ → ℕ → Bool
takes g hi left r = ltb r hi && ltb (g r).action (lowest_of left)

-- the set without its lowest member
unfoldable pub later : ℕ → ℕ
later left = left ∖ only (lowest_of left)

-- k rows of state s, from row r of g on
unfoldable pub woven : (ℕ → Row) → ℕ → ℕ → ℕ → ℕ → ℕ → List Row
woven g s hi zero left r = []
woven g s hi (suc k) left r = cond (takes g hi left r) (g r ∷ woven g s hi k left (suc r)) (loop_at s (lowest_of left) ∷ woven g s hi k (later left) r)

-- row v of a table
abbrev pub put_row : List ℕ → ℕ → Row → List ℕ
put_row u v r = sets u (rows_at + row_words * v) (words_of r)

-- the same written into a table from row v on, while its rows from r on are read
unfoldable pub weave : ℕ → ℕ → ℕ → ℕ → ℕ → ℕ → List ℕ → List ℕ
weave s hi zero v left r u = u
weave s hi (suc k) v left r u =
    cond (takes (row_in u s) hi left r) (weave s hi k (v + 1) left (r + 1) (put_row u v (row_in u s r)))
    (weave s hi k (v + 1) (later left) r (put_row u v (loop_at s (lowest_of left))))
