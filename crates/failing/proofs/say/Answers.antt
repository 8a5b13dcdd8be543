-- The line ends within its buffer.
use Rattle.std.proofs.Common.{rules}
use mathlib.Core.Path.{sym}
use lib.Seq.{length-take-le}
use Rattle.failing.proofs.Line.{line-ends}
use Rattle.failing.proofs.say.Goals as goal

pub slice_bounds-line-end : goal.slice_bounds-line-end
slice_bounds-line-end c = line-ends c.args.what.now _ (search rules) c.requires c.put_failure-end.ensures

pub slice_bounds-write-end : goal.slice_bounds-write-end
slice_bounds-write-end c = sym (length-take-le _ _ (line-ends c.args.what.now _ (search rules) c.requires c.put_failure-end.ensures))
