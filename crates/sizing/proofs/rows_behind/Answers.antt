-- `sizing::rows_behind`: all rows, less those up to and with component j.
use native.Mathlib.Omega.{arith}
use Rattle.layout.proofs.ImageIsSane.{image-long}
use Rattle.sizing.proofs.MergedSums.{behind-rows}
use Rattle.sizing.proofs.rows_behind.Goals as goal

pub count_of-count-requires : goal.count_of-count-requires
count_of-count-requires c = image-long _ c.requires.0

pub overflow_sub-result : goal.overflow_sub-result
overflow_sub-result c = omega (arith, behind-rows _ c.args.j _ _ _ c.requires.1 c.count_of-count.ensures c.end_of.ensures c.end_of-2.ensures)

pub returns : goal.returns
returns c = omega (arith, behind-rows _ c.args.j _ _ _ c.requires.1 c.count_of-count.ensures c.end_of.ensures c.end_of-2.ensures)
