-- What a field's answer says: the value and the bytes behind it, or the bytes from where it stopped, as the scans of a line's definition do.
use Rattle.std.proofs.Math.Option.{Option, none, some}
use Rattle.std.specs.Prelude.{List, ℕ, drop, Result, Ok, Err}
use Rattle.model.specs.Text.{Kind as TheKind, in-kind, out-kind, uin-kind, uout-kind}
use Rattle.model.specs.Reading.{Got, Scan, is, stops, got}
use Rattle.fields.specs.declared.Cursor.{Cursor}
use Rattle.fields.specs.declared.Guard.{Guard}
use Rattle.fields.specs.declared.Guard.TheVariants as OfGuard
use Rattle.fields.specs.declared.Kind.{Kind}
use Rattle.fields.specs.declared.Kind.TheVariants as OfKind

abbrev pub past : List ℕ → Result Cursor Cursor → Scan (Unit {0})
past t (Ok c) = got tt (drop c.at t)
past t (Err c) = stops (drop c.at t)

-- what a scan that cannot fail took
abbrev pub taken : {A : Type 0} → List ℕ → Cursor × A → Got A
taken t p = record { value = p.1; rest = drop p.0.at t }

-- a scan's answer, its value read as the definition has it
abbrev pub scanned : {A B : Type 0} → (A → B) → List ℕ → Result (Cursor × A) Cursor → Scan B
scanned f t (Ok p) = got (f p.1) (drop p.0.at t)
scanned f t (Err c) = stops (drop c.at t)

abbrev pub got_number : List ℕ → Result (Cursor × ℕ) Cursor → Scan ℕ
got_number t r = scanned (λ n. n) t r

abbrev pub guard_of : Guard → Option ℕ
guard_of OfGuard.Dash = none
guard_of (OfGuard.Clock x) = some x

abbrev pub got_guard : List ℕ → Result (Cursor × Guard) Cursor → Scan (Option ℕ)
got_guard t r = scanned guard_of t r

abbrev pub kind_of : Kind → TheKind
kind_of OfKind.In = in-kind
kind_of OfKind.Out = out-kind
kind_of OfKind.Uin = uin-kind
kind_of OfKind.Uout = uout-kind

abbrev pub got_kind : List ℕ → Result (Cursor × Kind) Cursor → Scan TheKind
got_kind t r = scanned kind_of t r
