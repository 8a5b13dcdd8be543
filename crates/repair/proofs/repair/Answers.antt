-- `repair::repair`: 20, then what is done with an image.
use mathlib.Core.Path.{sym, ◌∙◌}
use Rattle.table.proofs.ImageExactly.{image-exactly}
use Rattle.repair.proofs.Called.{no_table}
use Rattle.repair.proofs.repair.Goals as goal

pub returns-then-not-recognise : goal.returns-then-not-recognise
returns-then-not-recognise c = no_table _ _ _ c.refused.ensures (sym c.recognise.ensures ∙ c.if-not-recognise.true)

pub repaired-requires : goal.repaired-requires
repaired-requires c = (image-exactly _).0 (sym c.recognise.ensures ∙ c.if-not-recognise.false)
