-- What the new test answers of a table when it is called (02, 8/13), and what stands in the way of a path or of a simulation.
use Rattle.std.specs.Prelude.{◌≡◌, List, ℕ}
use Rattle.std.proofs.Math.Option.{Option, some}
use Rattle.laws.specs.Search.{or_else}
use Rattle.answer.specs.Told.{Told, says_checked}
use Rattle.answer.specs.Told.{Checked}
use Rattle.model.specs.Model.{Model}
use Rattle.iosa.specs.Checks.{clash_among}
use Rattle.table.specs.OnTable.{check_on}
use Rattle.triggering.specs.Test.{open_fault, unless_passes, else_orderly, orderly_of, entry_of}

-- of an accepted model, where the new test is called: 45, then 18
abbrev pub called_fault : Model → Option Told
called_fault m = or_else (open_fault m) (unless_passes m (clash_among 0 m))

-- where either test will do: check 18, or else 45, then 18
abbrev pub either_fault : Model → Option Told
either_fault m = else_orderly m (clash_among 0 m)

-- of the call `orderly`: 20, 10 to 17, then that of the test called
abbrev pub OrderlyCall : List ℕ → Checked → Type 0
OrderlyCall t r = says_checked r ≡ some (check_on t orderly_of)

-- of `may_walk`: 20, 10 to 17, then that of either test
abbrev pub MayWalk : List ℕ → Checked → Type 0
MayWalk t r = says_checked r ≡ some (check_on t entry_of)
