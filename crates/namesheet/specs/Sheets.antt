-- What reading the `name` lines answers.
use Rattle.std.specs.Prelude.{List, ℕ, Result, Ok, Err}
use Rattle.named.specs.ReadNamed.{begun}
use Rattle.namelaws.specs.Sheets.{sheet_of, with_sheet, onward, Refuses, NameFine, SheetIs}
use Rattle.answer.specs.declared.Refusal.{Refusal}
use Rattle.namesheet.specs.declared.NameLine.{NameLine}
use Rattle.namesheet.specs.declared.SheetEnd.{SheetEnd}

abbrev pub NameAs : List ℕ → List ℕ → ℕ → ℕ → ℕ → Result NameLine Refusal → Type 0
NameAs t places low at n (Ok l) = NameFine t places low at l.number l.place l.next
NameAs t places low at n (Err f) = Refuses (onward t (with_sheet (sheet_of t places)) at n) f

abbrev pub Sheets : List ℕ → ℕ → List ℕ → Result SheetEnd Refusal → Type 0
Sheets t from places (Ok e) = SheetIs t from places e.at e.line
Sheets t from places (Err f) = Refuses (onward t begun from 2) f
