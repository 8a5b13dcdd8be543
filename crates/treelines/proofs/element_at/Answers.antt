-- `treelines::element_at` meets its contract.
use mathlib.Core.Path.{sym, ◌∙◌, ap}
use Rattle.laws.proofs.Exits.{handed-on}
use Rattle.treelines.specs.Elements.{got_sort, got_element}
use Rattle.treelines.proofs.ElementLaws.{element-none, element-some}
use Rattle.treelines.proofs.element_at.Goals as goal

pub returns : goal.returns
returns c = let t = c.args.text.now in
    c.behind_word.ensures ∙ element-some _ (sym c.sort_of.ensures ∙ ap (got_sort t) c.in_ok-d.was)

pub returns-in_err-d : goal.returns-in_err-d
returns-in_err-d c = let t = c.args.text.now in
    ap (got_element t) (handed-on _ c.from_residual.ensures.1) ∙ element-none _ (sym c.sort_of.ensures ∙ ap (got_sort t) c.in_err-d.was)
