-- `lines::no_word` meets its contract.
use mathlib.Core.Path.{◌∙◌, ap}
use lib.ListN.{drop}
use Rattle.model.specs.Reading.{shorter}
use Rattle.lines.proofs.LineLaws.{no-word}
use Rattle.lines.proofs.no_word.Goals as goal

pub returns : goal.returns
returns c = let a = c.args in
    let t = a.text.now in
    let last = ap (shorter _) (c.further.ensures t) in
    let more = ap (shorter _) (c.further-2.ensures t ∙ last) in
    c.further-3.ensures t ∙ more
    ∙ no-word (drop a.c.at t) c.stop_of-co.ensures c.stop_of-ac.ensures c.stop_of-cl.ensures
    c.stop_of-ro.ensures
