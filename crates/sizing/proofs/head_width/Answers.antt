-- `sizing::head_width`: the product's numbers and sets.
use mathlib.Core.Path.{◌∙◌, ap}
use lib.ListN.{length}
use Rattle.model.specs.Text.{comp_text}
use Rattle.measure.specs.Measure.{bare}
use Rattle.merging.specs.declared.Head.{Head}
use Rattle.merging.specs.Heads.{as_head}
use Rattle.sizing.specs.Bare.{bare_of}
use Rattle.sizing.proofs.head_width.Goals as goal

pub returns : goal.returns
unfolding bare_of as_head
returns c = c.head_width.ensures
    ∙ ap (λ (h : Head). length (comp_text (bare h.states h.start h.ins h.outs h.uins h.uouts h.clocks))) c.head_of-h.ensures
