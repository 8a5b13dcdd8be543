-- `mending::raise`: word by word, from the last to the first.
use native.Mathlib.Omega.{arith}
use Rattle.mending.proofs.SetsAt.{raising-start, raising-on, raising-end}
use Rattle.mending.proofs.raise.Goals as goal

pub loop-k-init : goal.loop-k-init
loop-k-init c = raising-start _ c.args.t.now _ _ c.requires.0

pub loop-k-preserved : goal.loop-k-preserved
loop-k-preserved c = let l = c.loop-k in
    raising-on c.args.t.now l.t c.args.words c.args.by c.requires.0 l.k c.loop-k-test.true l.invariant

pub returns : goal.returns
returns c = let l = c.loop-k in
    raising-end c.args.t.now l.t c.args.words c.args.by c.requires.0 l.k (omega (arith, c.loop-k-test.false)) l.invariant
