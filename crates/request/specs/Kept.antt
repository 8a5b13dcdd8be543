-- What is kept of a request: its numbers as a composed state, and its budget.
use Rattle.std.proofs.Math.Option.{Option, none, some}
use Rattle.std.specs.Prelude as Answered
use Rattle.std.specs.Prelude.{Bool, true, false, cond, List, [], ◌∷◌, ℕ, ◌+◌, drop, set, ltb, Result, Ok, Err, Some, None}
use Rattle.answer.specs.Limits.{max_components, no_state}
use Rattle.answer.specs.declared.State.{State}
use Rattle.model.specs.Reading.{Got, Scan, stops, got}
use Rattle.answering.specs.Report.{Request}
use Rattle.fields.specs.declared.Cursor.{Cursor}
use Rattle.fields.specs.Fields.{scanned}
use Rattle.request.specs.declared.Asked.{Asked}

-- a number of a state fits a byte, as max_states is no more than that; the last byte stands for every larger one
abbrev pub byte_of : ℕ → ℕ
byte_of n = cond (ltb n 255) n 255

-- one number more; a model has at most max_components components: a number past them, and every further one, leaves one number too many
abbrev pub with : State → ℕ → State
with x n =
    cond (ltb x.count max_components)
    (record { count = x.count + 1; parts = set x.parts x.count (byte_of n) })
    (record { count = max_components + 1; parts = x.parts })

unfoldable pub with_all : State → List ℕ → State
with_all x [] = x
with_all x (n ∷ ns) = with_all (with x n) ns

-- the numbers of a request as a state
unfoldable pub held : List ℕ → State
held ns = with_all no_state ns

pub record Kept : Type 0 where
  pub state : State
  pub budget : ℕ

abbrev pub keep : Request → Kept
keep r = record { state = held r.state; budget = r.budget }

-- a value and the bytes behind it, and the same with the value changed
abbrev pub there : {A : Type 0} → A → List ℕ → Option (Got A)
there x bs = some (record { value = x; rest = bs })

abbrev pub kept : {A B : Type 0} → (A → B) → Option (Got A) → Option (Got B)
kept f none = none
kept f (some g) = there (f g.value) g.rest

-- what the scans answer
abbrev pub got_parts : List ℕ → Result (Cursor × State) Cursor → Scan State
got_parts t r = scanned (λ x. x) t r

abbrev pub kept_of : Asked → Kept
kept_of a = record { state = a.state; budget = a.budget }

abbrev pub got_asked : List ℕ → Result Asked Cursor → Scan Kept
got_asked t (Ok a) = got (kept_of a) (drop a.at t)
got_asked t (Err c) = stops (drop c.at t)

-- 9 has no column: a scan that stops is no request, wherever it does
abbrev pub asked : List ℕ → Answered.Option Asked → Option (Got Kept)
asked t None = none
asked t (Some a) = there (kept_of a) (drop a.at t)
