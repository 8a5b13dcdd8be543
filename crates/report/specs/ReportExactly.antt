-- What `report` answers, said of what the program prints, and what it leaves in the lent buffer.
use Rattle.std.specs.Prelude.{List, ℕ, length}
use Rattle.answer.specs.Told.{Written}
use Rattle.iosa.specs.InOrder.{◌▹◌, Gives, Leaves, room}
use Rattle.iosa.specs.Lent.{Fills}
use Rattle.answering.specs.Printed.{Prints}

-- the bytes that `report` asks for, whatever the input: no report is longer (`no-report-is-longer`), and one is as long (`longest-reached`)
abbrev pub longest_report : ℕ
longest_report = 1322226

abbrev pub ReportExactly : List ℕ → List ℕ → List ℕ → Written → Type 0
ReportExactly input old new r = Leaves (room longest_report (length old) ▹ Gives (Prints input)) (Fills old new r)
