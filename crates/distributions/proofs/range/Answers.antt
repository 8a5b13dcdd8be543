-- `distributions::range` meets its contract.
use mathlib.Core.Path.{sym, ◌∙◌, ap}
use Rattle.laws.proofs.Exits.{handed-on}
use Rattle.distributions.specs.Found.{got_real, got_range}
use Rattle.distributions.proofs.FormLaws.{no_lower, no-upper, both_ends}
use Rattle.distributions.proofs.range.Goals as goal

pub returns : goal.returns
returns c = let t = c.args.text.now in
    both_ends _ (sym c.real.ensures ∙ ap (got_real t) c.in_ok-d.was) (sym c.real-2.ensures ∙ ap (got_real t) c.in_ok-e.was)

pub returns-in_err-e : goal.returns-in_err-e
returns-in_err-e c = let t = c.args.text.now in
    ap (got_range t) (handed-on _ c.from_residual-in_err-e.ensures.1)
    ∙ no-upper _ (sym c.real.ensures ∙ ap (got_real t) c.in_ok-d.was) (sym c.real-2.ensures ∙ ap (got_real t) c.in_err-e.was)

pub returns-in_err-d : goal.returns-in_err-d
returns-in_err-d c = let t = c.args.text.now in
    ap (got_range t) (handed-on _ c.from_residual.ensures.1) ∙ no_lower _ (sym c.real.ensures ∙ ap (got_real t) c.in_err-d.was)
