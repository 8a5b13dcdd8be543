-- What the values of the enabling clocks decide: 29, 30, quiet, or the clock that fires (01, "The timed step").
use Rattle.std.proofs.Math.Option.{Option, none, some}
use Rattle.std.specs.Prelude as Answered
use Rattle.std.specs.Prelude.{Some, None, Result, Ok, Err, List, ℕ, ℤ}
use Rattle.laws.specs.Search.{least}
use Rattle.answer.specs.Limits.{max_clocks}
use Rattle.answer.specs.Told.{tell, values_at, Answer, answered, refused}
use Rattle.answer.specs.declared.Place.TheVariants.{Clock}
use Rattle.answer.specs.declared.Refusal.{Refusal}
use Rattle.model.specs.Model.{Model}
use Rattle.timing.specs.Timed.{check29, check30, is_least, fire, quietly}
use Rattle.iosa.specs.TimedExactly.{Timing}
use Rattle.ticks.specs.Ticks.{clock_of}

-- the clock that fires, or quiet; or a refusal
abbrev pub Choice : Type 0
Choice = Result (Answered.Option ℕ) Refusal

abbrev pub at_clock : ℕ → ℕ → Refusal
at_clock n x = record { number = n; place = Clock x }

abbrev pub refused_or : ℕ → Option ℕ → Choice → Choice
refused_or n none d = d
refused_or n (some x) d = Err (at_clock n x)

-- 29 first, then 30; e is the set of enabling clocks
unfoldable pub choice_of : ℕ → List ℤ → Choice
choice_of e vs = refused_or 29 (check29 e vs) (refused_or 30 (check30 e vs) (Ok (clock_of (least (is_least e vs) max_clocks))))

-- the answer for each
unfoldable pub answer_of : Model → List ℕ → List ℤ → Choice → Answer Timing
answer_of m s vs (Ok None) = answered (quietly s vs)
answer_of m s vs (Ok (Some x)) = answered (fire m s vs x)
answer_of m s vs (Err q) = refused (tell q.number (values_at q.place))
