-- `distributions::uniform` meets its contract.
use mathlib.Core.Path.{sym, ◌∙◌, ap}
use Rattle.laws.proofs.Exits.{handed-on}
use Rattle.distributions.specs.Found.{got_range, got_law}
use Rattle.distributions.proofs.FormLaws.{uni-none, uni-on}
use Rattle.distributions.proofs.uniform.Goals as goal

pub returns : goal.returns
returns c = let t = c.args.text.now in
    c.ended.ensures ∙ uni-on _ (sym c.range.ensures ∙ ap (got_range t) c.in_ok-d.was)

pub returns-in_err-d : goal.returns-in_err-d
returns-in_err-d c = let t = c.args.text.now in
    ap (got_law t) (handed-on _ c.from_residual.ensures.1) ∙ uni-none _ (sym c.range.ensures ∙ ap (got_range t) c.in_err-d.was)
