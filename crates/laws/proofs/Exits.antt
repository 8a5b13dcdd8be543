-- The exit of a `?` that hands an error on as it is.
use mathlib.Core.Path.{◌≡◌, ap}
use Rattle.std.specs.Prelude.{Result, Ok, Err, IsErrAnd}

pub handed-on : {A E : Type 0} {e : E} (r : Result A E) → IsErrAnd r (λ x. x ≡ e) → r ≡ Err e
handed-on (Ok x) h = absurd h
handed-on (Err d) h = ap (λ x. Err x) h
