-- `distributions::mixture` meets its contract.
use mathlib.Core.Path.{sym, ◌∙◌, ap}
use Rattle.laws.proofs.Exits.{handed-on}
use Rattle.distributions.specs.Found.{got_real, got_range, got_law}
use Rattle.distributions.proofs.FormLaws.{no-weight, no-first, no_second, mix-on}
use Rattle.distributions.proofs.mixture.Goals as goal

pub returns : goal.returns
returns c = let t = c.args.text.now in
    c.ended.ensures ∙ mix-on _ (sym c.real.ensures ∙ ap (got_real t) c.in_ok-d.was) (sym c.range.ensures ∙ ap (got_range t) c.in_ok-e.was)
    (sym c.range-2.ensures ∙ ap (got_range t) c.in_ok-f.was)

pub returns-in_err-f : goal.returns-in_err-f
returns-in_err-f c = let t = c.args.text.now in
    ap (got_law t) (handed-on _ c.from_residual-in_err-f.ensures.1)
    ∙ no_second _ (sym c.real.ensures ∙ ap (got_real t) c.in_ok-d.was) (sym c.range.ensures ∙ ap (got_range t) c.in_ok-e.was)
    (sym c.range-2.ensures ∙ ap (got_range t) c.in_err-f.was)

pub returns-in_err-e : goal.returns-in_err-e
returns-in_err-e c = let t = c.args.text.now in
    ap (got_law t) (handed-on _ c.from_residual-in_err-e.ensures.1)
    ∙ no-first _ (sym c.real.ensures ∙ ap (got_real t) c.in_ok-d.was) (sym c.range.ensures ∙ ap (got_range t) c.in_err-e.was)

pub returns-in_err-d : goal.returns-in_err-d
returns-in_err-d c = let t = c.args.text.now in
    ap (got_law t) (handed-on _ c.from_residual.ensures.1) ∙ no-weight _ (sym c.real.ensures ∙ ap (got_real t) c.in_err-d.was)
