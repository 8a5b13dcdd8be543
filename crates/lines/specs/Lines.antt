-- What a line's answer says: the line of an entry and the bytes behind it, or the bytes from where its scan stopped.
use Rattle.std.proofs.Math.Option.{Option, none, some}
use Rattle.std.specs.Prelude.{List, ℕ, Result}
use Rattle.model.specs.Text.{lf, comp_word, act_word, clk_word, row_word, Kind as TheKind, in-kind, out-kind, uin-kind, uout-kind}
use Rattle.model.specs.Reading.{Scan, is, stops, got, then, shorter, exactly, the_byte, field, number, numbers_or_dash, Entry, comp-entry, act-entry, clk-entry, row-entry}
use Rattle.fields.specs.declared.Cursor.{Cursor}
use Rattle.fields.specs.declared.Guard.{Guard}
use Rattle.fields.specs.declared.Guard.TheVariants as OfGuard
use Rattle.fields.specs.declared.Kind.{Kind}
use Rattle.fields.specs.declared.Kind.TheVariants as OfKind
use Rattle.fields.specs.Fields.{scanned}
use Rattle.fields.specs.Resets.{summary, valued}
use Rattle.lines.specs.declared.Line.{Line}
use Rattle.lines.specs.declared.Line.TheVariants.{Comp, Act, Clk, Row}

abbrev pub guard_is : Option ℕ → Guard
guard_is none = OfGuard.Dash
guard_is (some x) = OfGuard.Clock x

abbrev pub kind_is : TheKind → Kind
kind_is in-kind = OfKind.In
kind_is out-kind = OfKind.Out
kind_is uin-kind = OfKind.Uin
kind_is uout-kind = OfKind.Uout

-- an entry as the code has it: the numbers of a resets field only by their sum
abbrev pub line_of : Entry → Line
line_of (comp-entry n s) = Comp n s
line_of (act-entry a k) = Act a (kind_is k)
line_of (clk-entry x b) = Clk x b
line_of (row-entry s g a r t) = Row s (guard_is g) a (summary r) t

abbrev pub got_line : List ℕ → Result (Cursor × Line) Cursor → Scan Line
got_line t r = scanned (λ l. l) t r

-- a row behind its action: resets, target, LF
unfoldable pub row_end : ℕ → Guard → ℕ → List ℕ → Scan Line
row_end s g a bs =
    then (valued summary (field numbers_or_dash bs)) (λ r cs.
    then (field number cs) (λ t ds.
    then (the_byte lf ds) (λ _ es.
    got (Row s g a r t) es)))

-- the bytes behind a word, or those from where it stops
abbrev pub stop_of : Scan (Unit {0}) → List ℕ
stop_of (is g) = g.rest
stop_of (stops cs) = cs

-- where no first word stands: of the places where the four stop, the furthest on
unfoldable pub no_word : List ℕ → List ℕ
no_word bs =
    shorter (stop_of (exactly comp_word bs)) (shorter (stop_of (exactly act_word bs)) (shorter (stop_of (exactly clk_word bs)) (stop_of (exactly row_word bs))))
