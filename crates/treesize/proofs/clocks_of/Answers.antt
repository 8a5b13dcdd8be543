-- `treesize::clocks_of` meets its contract.
use mathlib.Core.Path.{◌∙◌, ap₂}
use Rattle.laws.specs.Sets.{◌∪◌}
use Rattle.treesize.proofs.clocks_of.Goals as goal

pub returns-in-Be : goal.returns-in-Be
returns-in-Be c = rw c.in-Be.is (c.union-both.ensures ∙ ap₂ (λ x y. x ∪ y) c.single.ensures c.single-2.ensures)
