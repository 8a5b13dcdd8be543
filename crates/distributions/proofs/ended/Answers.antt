-- `distributions::ended` meets its contract.
use mathlib.Core.Path.{sym, ◌∙◌, ap}
use Rattle.laws.proofs.Exits.{handed-on}
use Rattle.fields.specs.Fields.{past}
use Rattle.model.specs.Reading.{got}
use Rattle.fields.proofs.ScanLaws.{then-stops, then_is}
use Rattle.distributions.specs.Found.{got_law}
use Rattle.distributions.proofs.ended.Goals as goal

pub returns : goal.returns
returns c = let a = c.args in
    sym (then_is (λ _ cs. got a.law cs) (sym c.byte.ensures ∙ ap (past a.text.now) c.in_ok-d.was))

pub returns-in_err-d : goal.returns-in_err-d
returns-in_err-d c = let a = c.args in
    ap (got_law a.text.now) (handed-on _ c.from_residual.ensures.1)
    ∙ sym (then-stops (λ _ cs. got a.law cs) (sym c.byte.ensures ∙ ap (past a.text.now) c.in_err-d.was))
