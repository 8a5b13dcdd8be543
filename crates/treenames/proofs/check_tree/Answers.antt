-- `treenames::check_tree` meets its contract.
use mathlib.Core.Path.{sym, ◌∙◌, ap}
use Rattle.laws.proofs.Exits.{handed-on}
use Rattle.answer.specs.Told.{says_checked}
use Rattle.treenames.proofs.TreeLaws.{lines-refused, lines-fine}
use Rattle.treenames.proofs.check_tree.Goals as goal

pub number_set-known-requires : goal.number_set-known-requires
number_set-known-requires c = lines-fine c.args.text.now (ap says_checked (sym c.in_ok-check_lines.was) ∙ c.check_lines.ensures)

pub returns-in_err-check_lines : goal.returns-in_err-check_lines
returns-in_err-check_lines c = ap says_checked (handed-on _ c.from_residual.ensures.1)
    ∙ lines-refused c.args.text.now _ (ap says_checked (sym c.in_err-check_lines.was) ∙ c.check_lines.ensures)
