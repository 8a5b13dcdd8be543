-- `survey::check_text` meets its contract.
use mathlib.Core.Path.{sym, ◌∙◌, ap}
use mathlib.Core.Option.{some}
use Rattle.answer.specs.Told.{done_of}
use Rattle.model.specs.Reading.{read_of}
use Rattle.model.proofs.Reading.Faults.{too-long-exactly, read_short}
use Rattle.survey.proofs.Turns.{says-long}
use Rattle.survey.proofs.check_text.Goals as goal

pub returns-then-text-gt-BYTES : goal.returns-then-text-gt-BYTES
returns-then-text-gt-BYTES c = let t = c.args.text.now in says-long (read_of t) ((too-long-exactly t).1 c.if-text-gt-BYTES.true)

pub returns : goal.returns
returns c = let t = c.args.text.now in
    c.check_lines.ensures ∙ ap (λ o. some (done_of o)) (sym (read_short t c.if-text-gt-BYTES.false))
