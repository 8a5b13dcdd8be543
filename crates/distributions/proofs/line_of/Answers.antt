-- `distributions::line_of` meets its contract.
use mathlib.Core.Path.{sym, ◌∙◌, ap}
use Rattle.laws.proofs.Exits.{handed-on}
use Rattle.fields.specs.Fields.{got_number}
use mathlib.Core.Path.{subst}
use Rattle.distributions.specs.Found.{got_law, LineGives}
use Rattle.distributions.proofs.LineLaws.{line-none, line_other, line-bad, line-good}
use Rattle.distributions.proofs.line_of.Goals as goal

pub returns-in_ok-end : goal.returns-in_ok-end
returns-in_ok-end c = let t = c.args.text.now in
    line-good c.args.x t c.args.c.at _ c.in_ok-begin.begin.at (sym c.number.ensures ∙ ap (got_number t) c.in_ok-begin.was) c.if-n-x.true _ _
    (sym c.law_at.ensures ∙ ap (got_law t) c.in_ok-end.was)

pub returns-in_err-end : goal.returns-in_err-end
returns-in_err-end c = let t = c.args.text.now in
    subst (LineGives c.args.x t c.args.c.at) (sym (handed-on _ c.from_residual-in_err-end.ensures.1))
    (line-bad c.args.x t c.args.c.at _ c.in_ok-begin.begin.at (sym c.number.ensures ∙ ap (got_number t) c.in_ok-begin.was) c.if-n-x.true
    (sym c.law_at.ensures ∙ ap (got_law t) c.in_err-end.was))

pub returns-else-n-x : goal.returns-else-n-x
returns-else-n-x c = let t = c.args.text.now in
    line_other c.args.x t c.args.c.at _ c.in_ok-begin.begin.at (sym c.number.ensures ∙ ap (got_number t) c.in_ok-begin.was) c.if-n-x.false

pub returns-in_err-begin : goal.returns-in_err-begin
returns-in_err-begin c = let t = c.args.text.now in
    subst (LineGives c.args.x t c.args.c.at) (sym (handed-on _ c.from_residual.ensures.1))
    (line-none c.args.x t c.args.c.at (sym c.number.ensures ∙ ap (got_number t) c.in_err-begin.was))
