-- Any two answers that the contract of `component` allows are equal, and so of `compatible`, `accept` and `confluent`.
use mathlib.Core.Path.{◌≡◌}
use mathlib.Core.List.{List}
use Prim.Native.Nat.{ℕ}
use Rattle.answer.specs.Told.{Checked}
use Rattle.answer.proofs.SaysFixes.{checked-fixed}
use Rattle.iosa.specs.Checks.{component_of, compatible_of, accept_of, confluent_of}
use Rattle.table.specs.OnTable.{check_on}
use Rattle.admit.specs.Admit.{ByItself, Compatibly, Accepted, Confluently}

pub component-determined : (t : List ℕ) (i : ℕ) (r q : Checked) → ByItself t i r → ByItself t i q → r ≡ q
component-determined t i r q e f = checked-fixed r q (check_on t (λ m. component_of m i)) e f

pub compatible-determined : (t : List ℕ) (r q : Checked) → Compatibly t r → Compatibly t q → r ≡ q
compatible-determined t r q e f = checked-fixed r q (check_on t compatible_of) e f

pub accept-determined : (t : List ℕ) (r q : Checked) → Accepted t r → Accepted t q → r ≡ q
accept-determined t r q e f = checked-fixed r q (check_on t accept_of) e f

pub confluent-determined : (t : List ℕ) (r q : Checked) → Confluently t r → Confluently t q → r ≡ q
confluent-determined t r q e f = checked-fixed r q (check_on t confluent_of) e f
