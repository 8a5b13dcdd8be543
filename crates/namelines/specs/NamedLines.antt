-- What the scan of a line of the second form answers: the line without its name, which stays in the text, and the bytes behind it, or the bytes from where it stopped.
use Rattle.std.specs.Prelude.{List, ℕ, ◌+◌, length, Result}
use Rattle.model.specs.Text.{lf, decimal}
use Rattle.model.specs.Reading.{Scan, stops, got, then, shorter, furthest, exactly, the_byte, field, number, numbers_or_dash, entry}
use Rattle.fields.specs.declared.Cursor.{Cursor}
use Rattle.fields.specs.declared.Guard.{Guard}
use Rattle.fields.specs.Fields.{scanned}
use Rattle.fields.specs.Resets.{summary, valued}
use Rattle.lines.specs.Lines.{guard_is, kind_is, line_of, stop_of}
use Rattle.columns.specs.Columns.{wide_guard}
use Rattle.named.specs.NamedText.{form_word, name_word, Line as TheLine, form-line, name-line, act-line, row-line, plain-line, plain}
use Rattle.namelines.specs.declared.NamedLine.{NamedLine}
use Rattle.namelines.specs.declared.NamedLine.TheVariants.{Form, Name, Act, Row, Plain}

-- a line as the code has it
abbrev pub code_of : TheLine → NamedLine
code_of form-line = Form
code_of (name-line n w) = Name n
code_of (act-line w k) = Act (kind_is k)
code_of (row-line s g w r t) = Row s (guard_is g) (summary r) t
code_of (plain-line e) = Plain (line_of e)

abbrev pub got_named : List ℕ → Result (Cursor × NamedLine) Cursor → Scan NamedLine
got_named t r = scanned (λ l. l) t r

-- a row behind its name: resets, target, LF
unfoldable pub row_tail : ℕ → Guard → List ℕ → Scan NamedLine
row_tail s g bs =
    then (valued summary (field numbers_or_dash bs)) (λ r cs.
    then (field number cs) (λ t ds.
    then (the_byte lf ds) (λ _ es.
    got (Row s g r t) es)))

-- a line with none of the words `form`, `name`, `act`, `row`
unfoldable pub other_line : List ℕ → Scan TheLine
other_line bs = furthest (plain (entry bs)) (stops (shorter (stop_of (exactly form_word bs)) (stop_of (exactly name_word bs))))

-- how many bytes of a line stand before its name; a line without one has none
abbrev pub before_name : NamedLine → ℕ
before_name Form = 0
before_name (Name n) = 6 + length (decimal n)
before_name (Act k) = 4
before_name (Row s g r t) = 6 + length (decimal s) + wide_guard g
before_name (Plain l) = 0
