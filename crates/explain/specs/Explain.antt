-- The contracts of `explain` and `explain_table` (02, 5/13): what is printed of a text, or of a lent table's model, at the front of a lent buffer.
use Rattle.std.specs.Prelude.{◌≡◌, cond, List, [], ◌∷◌, ◌++◌, ℕ, length, drop, ltb}
use Rattle.std.proofs.Math.Option.{none, some}
use Rattle.answer.specs.Told.{Answer, answered, refused, tell, says_written}
use Rattle.answer.specs.Told.{Written}
use Rattle.model.specs.Model.{Model}
use Rattle.iosa.specs.Checks.{accept_of}
use Rattle.table.specs.OnTable.{on_table}
use Rattle.whys.specs.Explanation.{explain_model, explanation_of}
use Rattle.explaining.specs.Longest.{explanation_bytes}

-- "24 .. bytes needed": one need for every input; else these bytes
unfoldable pub in_room : ℕ → List ℕ → Answer (List ℕ)
in_room room bytes = cond (ltb room explanation_bytes) (refused (tell 24 (explanation_bytes ∷ []))) (answered bytes)

-- as `accept`, then 24
unfoldable pub explain_in : ℕ → Model → Answer (List ℕ)
explain_in room m = elim (accept_of m) [ some t ↦ refused t | none ↦ in_room room (explain_model m) ]

-- a text, and a table: 20, then that
unfoldable pub text_explained : List ℕ → List ℕ → Answer (List ℕ)
text_explained text old = in_room (length old) (explanation_of text)

unfoldable pub table_explained : List ℕ → List ℕ → Answer (List ℕ)
table_explained t old = on_table t (explain_in (length old))

-- how many bytes these are
abbrev pub length_in : Answer (List ℕ) → Answer ℕ
length_in (answered bytes) = answered (length bytes)
length_in (refused t) = refused t

-- the buffer with them at its front, later bytes as they were; "A refusal .. changes no lent byte"
abbrev pub buffer_with : Answer (List ℕ) → List ℕ → List ℕ
buffer_with (answered bytes) old = bytes ++ drop (length bytes) old
buffer_with (refused t) old = old

pub record Puts (a : Answer (List ℕ)) (old new : List ℕ) (r : Written) : Type 0 where
  pub answer : says_written r ≡ some (length_in a)
  pub buffer : new ≡ buffer_with a old

abbrev pub ExplainCall : List ℕ → List ℕ → List ℕ → Written → Type 0
ExplainCall text old new r = Puts (text_explained text old) old new r

abbrev pub ExplainTableCall : List ℕ → List ℕ → List ℕ → Written → Type 0
ExplainTableCall t old new r = Puts (table_explained t old) old new r
