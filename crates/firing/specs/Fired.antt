-- What each component does when a clock fires: what the loops over components compute in a model that is accepted.
use Rattle.std.proofs.Math.Option.{Option, none, some}
use Rattle.std.specs.Prelude.{List, ℕ, suc}
use Rattle.answer.specs.Limits.{max_actions}
use Rattle.model.specs.Model.{Row, Comp, Model}
use Rattle.iosa.specs.Step.{gone_by}
use Rattle.iosa.specs.Stepped.{Gone}
use Rattle.timing.specs.Timed.{clock_row, fire_one}
use Rattle.layout.specs.Layout.{first_of}
use Rattle.rows.specs.Ranges.{by_guard}
use Rattle.moves.specs.Moves.{or_stays, reset_by, after_by}

-- the row of the system that clock x guards in state s of component i
unfoldable pub by_clock : List ℕ → ℕ → ℕ → ℕ → Option ℕ
by_clock t i s x = by_guard t (suc x) (first_of t i s) (first_of t i (suc s))

-- the action of a row, or the limit where there is none
abbrev pub action_or : Option Row → ℕ
action_or none = max_actions
action_or (some r) = r.action

-- one component by the row that clock x guards; where it has none, it stays
unfoldable pub guarded_one : ℕ → Comp → ℕ → Gone ℕ
guarded_one x c s = or_stays s (gone_by (clock_row c s x))

-- one component when clock x fires by action a; where it has no row, it stays
unfoldable pub fired_one : ℕ → ℕ → Comp → ℕ → Gone ℕ
fired_one x a c s = or_stays s (fire_one c s x a)

-- every component
abbrev pub fired_all : Model → List ℕ → ℕ → ℕ → Gone (List ℕ)
fired_all m ss x a = record { resets = reset_by (fired_one x a) m ss; after = after_by (fired_one x a) m ss }
