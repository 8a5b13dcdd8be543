-- `reading::fill_words` meets its contract: a part of the table is filled.
use mathlib.Core.Path.{◌∙◌, ap}
use lib.ListN.{replicate}
use Rattle.std.proofs.lemmas.List.Edits.{length-between}
use Rattle.reading.proofs.Raise.{filled-mid}
use Rattle.reading.proofs.fill_words.Goals as goal

pub returns : goal.returns
returns c = let a = c.args in
    filled-mid a.table.now a.lo a.hi a.v c.fill.new.self c.requires.0 c.requires.1
    (c.fill.ensures.after (λ y e. e) ∙ ap (λ n. replicate n a.v) (length-between a.table.now a.lo a.hi c.requires.1))
