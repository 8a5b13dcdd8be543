-- `lines::stop_of` meets its contract.
use mathlib.Core.Path.{sym, ◌∙◌, ap}
use Rattle.fields.specs.Fields.{past}
use Rattle.lines.specs.Lines.{stop_of}
use Rattle.lines.proofs.stop_of.Goals as goal

pub returns-in-Ok : goal.returns-in-Ok
returns-in-Ok c = ap stop_of (sym (ap (past c.args.text.now) c.in-Ok.is) ∙ c.word.ensures)

pub returns-in-Err : goal.returns-in-Err
returns-in-Err c = ap stop_of (sym (ap (past c.args.text.now) c.in-Err.is) ∙ c.word.ensures)
