-- What a step of a listed path and the whole walk give, in an accepted model.
use Rattle.std.specs.Prelude as Code
use Rattle.std.specs.Prelude.{◌≡◌, Bool, false, ◌&&◌, List, ℕ, eqb, Some, None, Result, Ok}
use Rattle.std.proofs.Math.Option.{Option, none, some}
use Rattle.answer.specs.Told.{Answer, answered, refused, RefusedWith}
use Rattle.answer.specs.State.{with_parts}
use Rattle.answer.specs.declared.Place.TheVariants.{Index}
use Rattle.answer.specs.declared.Refusal.{Refusal}
use Rattle.answer.specs.declared.State.{State}
use Rattle.model.specs.Model.{Row, Model}
use Rattle.iosa.specs.Step.{is_stable}
use Rattle.timing.specs.Timed.{clock_row_of}
use Rattle.words.specs.Bytes.{state_of}

abbrev pub has_action : ℕ → Option Row → Bool
has_action a none = false
has_action a (some r) = eqb r.action a

-- "steps of which each non-urgent one leaves a stable state": the state is stable, and the row that clock x guards there has the action
unfoldable pub waits_for : Model → List ℕ → ℕ → ℕ → Bool
waits_for m s a x = is_stable m s && has_action a (clock_row_of m s x)

-- the step leads to these numbers; or it is not possible
abbrev pub Trod : Option (List ℕ) → State → Code.Option State → Type 0
Trod (some s) x r = r ≡ Some (with_parts x s)
Trod none x r = r ≡ None

-- 46 "path not possible, with its index"
abbrev pub not_possible_at : ℕ → Refusal
not_possible_at i = record { number = 46; place = Index i }

-- the path led to these numbers, with zeros behind them; or it is refused
abbrev pub Walks : Answer (List ℕ) → Result State Refusal → Type 0
Walks (answered s) r = r ≡ Ok (state_of s)
Walks (refused f) r = RefusedWith f r
