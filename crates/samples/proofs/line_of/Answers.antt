-- `samples::line_of` meets its contract.
use mathlib.Core.Path.{sym, ◌∙◌, ap, subst}
use Rattle.laws.proofs.Exits.{handed-on}
use Rattle.fields.specs.Fields.{past, got_number}
use Rattle.samples.specs.Lines.{LineGives}
use Rattle.samples.proofs.LineLaws.{line-none, line_other, line-bad, line-good}
use Rattle.samples.proofs.line_of.Goals as goal

pub returns-in_ok-end : goal.returns-in_ok-end
returns-in_ok-end c = let t = c.args.text.now in
    line-good _ _ _ _ c.in_ok-begin.begin.at (sym c.number.ensures ∙ ap (got_number t) c.in_ok-begin.was)
    c.if-n-x.true _ (sym (ap (past t) c.in_ok-end.was) ∙ c.all_samples.ensures)

pub returns-in_err-end : goal.returns-in_err-end
returns-in_err-end c = let t = c.args.text.now in
    subst (LineGives c.args.x t c.args.c.at) (sym (handed-on _ c.from_residual-in_err-end.ensures.1))
    (line-bad _ _ _ _ c.in_ok-begin.begin.at (sym c.number.ensures ∙ ap (got_number t) c.in_ok-begin.was)
    c.if-n-x.true _ (sym (ap (past t) c.in_err-end.was) ∙ c.all_samples.ensures))

pub returns-else-n-x : goal.returns-else-n-x
returns-else-n-x c = let t = c.args.text.now in
    line_other _ _ _ _ c.in_ok-begin.begin.at (sym c.number.ensures ∙ ap (got_number t) c.in_ok-begin.was) c.if-n-x.false

pub returns-in_err-begin : goal.returns-in_err-begin
returns-in_err-begin c = let t = c.args.text.now in
    subst (LineGives c.args.x t c.args.c.at) (sym (handed-on _ c.from_residual.ensures.1))
    (line-none _ _ _ _ (sym c.number.ensures ∙ ap (got_number t) c.in_err-begin.was))
