-- `lines::line_end` meets its contract.
use mathlib.Core.Path.{sym, ◌∙◌, ap}
use Rattle.laws.proofs.Exits.{handed-on}
use Rattle.model.specs.Reading.{got}
use Rattle.fields.specs.Fields.{past}
use Rattle.fields.proofs.ScanLaws.{then-stops, then_is}
use Rattle.lines.specs.Lines.{got_line}
use Rattle.lines.proofs.line_end.Goals as goal

pub returns : goal.returns
returns c = let a = c.args in
    let t = a.text.now in
    sym (then_is (λ _ cs. got a.l cs) (sym c.byte.ensures ∙ ap (past t) c.in_ok-d.was))

pub returns-in_err-d : goal.returns-in_err-d
returns-in_err-d c = let a = c.args in
    let t = a.text.now in
    ap (got_line t) (handed-on _ c.from_residual.ensures.1) ∙ sym (then-stops (λ _ cs. got a.l cs) (sym c.byte.ensures ∙ ap (past t) c.in_err-d.was))
