-- The numbers of an element as the code has it: its own, then its inputs; which of them are in a set, and where the first stands that is not.
use Rattle.std.specs.Prelude.{Bool, not, cond, List, ◌∷◌, ℕ, ◌+◌, length, eqb}
use Rattle.laws.specs.Fold.{tab}
use Rattle.columns.specs.Columns.{member_of}
use Rattle.trees.specs.TreeText.{sort_word, some_of, first_bad}
use Rattle.treelines.specs.Elements.{sort_is}
use Rattle.treelines.specs.declared.Inputs.{Inputs}
use Rattle.treelines.specs.declared.Element.{Element}

unfoldable pub input_at : Inputs → ℕ → ℕ
input_at i k = cond (eqb k 0) i.first (cond (eqb k 1) i.second (cond (eqb k 2) i.third (cond (eqb k 3) i.fourth i.fifth)))

-- as many as the count says
unfoldable pub ins_in : Inputs → List ℕ
ins_in i = tab (input_at i) 0 i.count

-- a number is no member
abbrev pub out_of : ℕ → ℕ → Bool
out_of s n = not (member_of s n)

unfoldable pub all_in : Element → ℕ → Bool
all_in e s = not (some_of (out_of s) (e.number ∷ ins_in e.inputs))

unfoldable pub column_in : Element → ℕ → ℕ
column_in e s = first_bad (out_of s) (length (sort_word (sort_is e.sort)) + 2) (e.number ∷ ins_in e.inputs)
