-- `treetests::check_well_formed` meets its contract.
use mathlib.Core.Path.{sym, ◌∙◌, ap}
use Rattle.laws.proofs.Exits.{handed-on}
use Rattle.answer.specs.Told.{says_checked}
use Rattle.treetests.proofs.PassLaws.{tree-refused, tree-fine}
use Rattle.treetests.proofs.check_well_formed.Goals as goal

pub check_conditions-requires : goal.check_conditions-requires
check_conditions-requires c = tree-fine c.args.text.now (ap says_checked (sym c.in_ok-check_tree.was) ∙ c.check_tree.ensures)

pub returns-in_err-check_tree : goal.returns-in_err-check_tree
returns-in_err-check_tree c = ap says_checked (handed-on _ c.from_residual.ensures.1)
    ∙ tree-refused c.args.text.now _ (ap says_checked (sym c.in_err-check_tree.was) ∙ c.check_tree.ensures)
