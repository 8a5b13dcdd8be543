-- `treetests::one_top` meets its contract.
use mathlib.Core.Path.{ap, ◌∙◌}
use lib.Dec.{eqb}
use Rattle.laws.specs.Sets.{◌∖◌}
use Rattle.sets.specs.Members.{size_of}
use Rattle.treetests.proofs.one_top.Goals as goal

pub returns : goal.returns
returns c = ap (λ n. eqb n 1) (c.count.ensures ∙ ap size_of (c.minus-2.ensures ∙ ap (λ s. s ∖ c.args.g.inputs) c.minus.ensures))
