-- `treesize::line_bytes` meets its contract.
use mathlib.Core.Path.{◌∙◌}
use Rattle.elements.specs.Parts.{element_of}
use Rattle.treesize.proofs.SizeLaws.{bytes-by}
use Rattle.treesize.proofs.line_bytes.Goals as goal

pub returns : goal.returns
returns c = let a = c.args in
    c.head_width.ensures ∙ bytes-by a.words.now a.count (element_of a.e) a.k c.kinds_of-h.result _ _ c.kinds_of-h.ensures
    c.states_of-states.ensures c.clocks_of-clocks.ensures
