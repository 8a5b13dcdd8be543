-- `lines::resets_field` meets its contract.
use mathlib.Core.Path.{sym, ◌∙◌, ap}
use Rattle.laws.proofs.Exits.{handed-on}
use Rattle.model.specs.Reading.{numbers_or_dash}
use Rattle.fields.specs.Fields.{past}
use Rattle.fields.specs.Resets.{got_resets, valued, summary}
use Rattle.fields.proofs.ScanLaws.{then-stops, then_is}
use Rattle.lines.proofs.resets_field.Goals as goal

pub returns : goal.returns
returns c = let t = c.args.text.now in
    c.resets_of.ensures ∙ sym (ap (valued summary) (then_is (λ _ cs. numbers_or_dash cs) (sym c.byte.ensures ∙ ap (past t)
    c.in_ok-d.was)))

pub returns-in_err-d : goal.returns-in_err-d
returns-in_err-d c = let a = c.args in
    let t = a.text.now in
    ap (got_resets t) (handed-on _ c.from_residual.ensures.1) ∙ sym (ap (valued summary) (then-stops (λ _ cs. numbers_or_dash cs)
    (sym c.byte.ensures ∙ ap (past t) c.in_err-d.was)))
