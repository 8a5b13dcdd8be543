-- What the call `repair` answers (02, 1/13: "Refuses: 20, 24 for the list, 26"), and what the lent table and the lent list are then.
use Rattle.std.specs.Prelude.{◌≡◌, ◌||◌, List, [], ◌∷◌, ◌++◌, ℕ, ◌*◌, length, drop, ltb}
use Rattle.std.proofs.Math.Option.{some, none}
use Rattle.laws.specs.Search.{when, or_else}
use Rattle.answer.specs.Limits.{max_rows, max_bytes}
use Rattle.answer.specs.Told.{tell, Answer, answered, refused, says_written}
use Rattle.answer.specs.Told.{Written}
use Rattle.model.specs.Model.{Model, row_count}
use Rattle.model.specs.Text.{text_of}
use Rattle.layout.specs.Layout.{image_words}
use Rattle.layout.specs.Image.{image_of}
use Rattle.table.specs.OnTable.{on_table}
use Rattle.lacking.specs.Repair.{repaired_of, added_to, bytes_in}
use Rattle.lacking.specs.Repaired.{Mended}
use Rattle.lacking.specs.Walk.{cell_bytes}

-- a list of so many bytes: 24 with the bytes needed, also where so many rows cannot be put in; then 26, place 0: rows or bytes of the repaired model
unfoldable pub repair_of : ℕ → Model → Answer Mended
repair_of bytes m =
    let needed = cell_bytes * length (added_to m) in
    let b = when (ltb bytes needed) (tell 24 (needed ∷ [])) in
    let d = when (ltb max_rows (row_count (repaired_of m)) || ltb max_bytes (length (text_of (repaired_of m)))) (tell 26 (0 ∷ [])) in
    let x : Mended = record { model = repaired_of m; added = added_to m } in
    elim (or_else b d) [ some t ↦ refused t | none ↦ answered x ]

-- 20, then what repairing the table's model answers
unfoldable pub repair_on : List ℕ → List ℕ → Answer Mended
repair_on t list = on_table t (repair_of (length list))

-- "the answer gives their number"
abbrev pub number_in : Answer Mended → Answer ℕ
number_in (answered d) = answered (length d.added)
number_in (refused f) = refused f

-- "works in the lent table"; "A refusal .. changes no lent byte"
abbrev pub table_with : Answer Mended → List ℕ → List ℕ
table_with (answered d) old = image_of d.model ++ drop image_words old
table_with (refused f) old = old

-- "and lists each added row"
abbrev pub list_with : Answer Mended → List ℕ → List ℕ
list_with (answered d) old = bytes_in d.added ++ drop (cell_bytes * length d.added) old
list_with (refused f) old = old

-- t and l are the table and the list before the call, t' and l' after it
pub record Repairing (t l : List ℕ) (r : Written) (t' l' : List ℕ) : Type 0 where
  pub answer : says_written r ≡ some (number_in (repair_on t l))
  pub table : t' ≡ table_with (repair_on t l) t
  pub list : l' ≡ list_with (repair_on t l) l
