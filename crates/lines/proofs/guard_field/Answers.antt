-- `lines::guard_field` meets its contract.
use mathlib.Core.Path.{sym, ◌∙◌, ap}
use Rattle.laws.proofs.Exits.{handed-on}
use Rattle.model.specs.Reading.{guard_or_dash}
use Rattle.fields.specs.Fields.{past, got_guard}
use Rattle.fields.proofs.ScanLaws.{then-stops, then_is}
use Rattle.lines.proofs.guard_field.Goals as goal

pub returns : goal.returns
returns c = let t = c.args.text.now in
    c.guard_of.ensures ∙ sym (then_is (λ _ cs. guard_or_dash cs) (sym c.byte.ensures ∙ ap (past t)
    c.in_ok-d.was))

pub returns-in_err-d : goal.returns-in_err-d
returns-in_err-d c = let a = c.args in
    let t = a.text.now in
    ap (got_guard t) (handed-on _ c.from_residual.ensures.1) ∙ sym (then-stops (λ _ cs. guard_or_dash cs) (sym c.byte.ensures
    ∙ ap (past t) c.in_err-d.was))
