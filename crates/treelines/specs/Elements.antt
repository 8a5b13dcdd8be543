-- What a scan of a tree's line answers: the sort, the inputs, the element as the code has them, and the bytes behind, or the bytes from where it stopped.
use Rattle.std.specs.Prelude.{List, [], ◌∷◌, Bool, true, false, cond, ℕ, ◌+◌, drop, eqb, Result}
use Rattle.model.specs.Reading.{Scan}
use Rattle.fields.specs.declared.Cursor.{Cursor}
use Rattle.fields.specs.Fields.{scanned}
use Rattle.trees.specs.Tree.{Sort as TheSort, be-sort, and-sort, or-sort, pand-sort, rbox-sort, Element as TheElement}
use Rattle.treelines.specs.declared.Sort.{Sort}
use Rattle.treelines.specs.declared.Sort.TheVariants as OfSort
use Rattle.treelines.specs.declared.Inputs.{Inputs}
use Rattle.treelines.specs.declared.Element.{Element}

abbrev pub sort_is : Sort → TheSort
sort_is OfSort.Be = be-sort
sort_is OfSort.And = and-sort
sort_is OfSort.Or = or-sort
sort_is OfSort.Pand = pand-sort
sort_is OfSort.Rbox = rbox-sort

abbrev pub sort_as : TheSort → Sort
sort_as be-sort = OfSort.Be
sort_as and-sort = OfSort.And
sort_as or-sort = OfSort.Or
sort_as pand-sort = OfSort.Pand
sort_as rbox-sort = OfSort.Rbox

abbrev pub got_sort : List ℕ → Result (Cursor × Sort) Cursor → Scan TheSort
got_sort t r = scanned sort_is t r

-- ---- inputs: places past the count are 0
abbrev pub no_inputs : Inputs
no_inputs = record { count = 0; first = 0; second = 0; third = 0; fourth = 0; fifth = 0 }

-- a number in its place, the last of all
unfoldable pub placed_at : Inputs → ℕ → ℕ → Inputs
placed_at i at n =
    cond (eqb at 0) (record { count = at + 1; first = n; second = 0; third = 0; fourth = 0; fifth = 0 })
    (cond (eqb at 1) (record { count = at + 1; first = i.first; second = n; third = 0; fourth = 0; fifth = 0 })
    (cond (eqb at 2) (record { count = at + 1; first = i.first; second = i.second; third = n; fourth = 0; fifth = 0 })
    (cond (eqb at 3) (record { count = at + 1; first = i.first; second = i.second; third = i.third; fourth = n; fifth = 0 })
    (record { count = at + 1; first = i.first; second = i.second; third = i.third; fourth = i.fourth; fifth = n }))))

-- numbers behind those that are there, one after the other
unfoldable pub with_more : Inputs → List ℕ → Inputs
with_more i [] = i
with_more i (n ∷ ns) = with_more (placed_at i i.count n) ns

abbrev pub got_inputs : List ℕ → Result (Cursor × Inputs) Cursor → Scan Inputs
got_inputs t r = scanned (λ i. i) t r

-- ---- an element as the code has it
abbrev pub element_is : TheElement → Element
element_is e = record { sort = sort_as e.sort; number = e.number; inputs = with_more no_inputs e.ins }

abbrev pub got_element : List ℕ → Result (Cursor × Element) Cursor → Scan Element
got_element t r = scanned (λ e. e) t r
