-- Any two answers that the contract of `orderly` allows are equal, and so of `may_walk`.
use mathlib.Core.Path.{◌≡◌}
use mathlib.Core.List.{List}
use Prim.Native.Nat.{ℕ}
use Rattle.answer.specs.Told.{Checked}
use Rattle.answer.proofs.SaysFixes.{checked-fixed}
use Rattle.table.specs.OnTable.{check_on}
use Rattle.triggering.specs.Test.{orderly_of, entry_of}
use Rattle.orderly.specs.Calls.{OrderlyCall, MayWalk}

pub orderly-determined : (t : List ℕ) (r q : Checked) → OrderlyCall t r → OrderlyCall t q → r ≡ q
orderly-determined t r q e f = checked-fixed r q (check_on t orderly_of) e f

pub may-walk-determined : (t : List ℕ) (r q : Checked) → MayWalk t r → MayWalk t q → r ≡ q
may-walk-determined t r q e f = checked-fixed r q (check_on t entry_of) e f
