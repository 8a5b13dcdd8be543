-- `active::solve` meets its contract: the sets stay above all that the rows allow, and end where no row breaks them.
use mathlib.Core.Path.{sym, ◌∙◌}
use Rattle.active.proofs.Passes.{pass-low, pass-high, unchanged-greatest, first-low, first-high}
use Rattle.active.proofs.solve.Goals as goal

pub loop-init : goal.loop-init
loop-init c = let f = c.first_sets.ensures in
    record { image = c.requires.0; inside = c.requires.1; low = first-low _ c.requires.0 _ c.requires.1 _ f; high = first-high _ c.requires.0 _ c.requires.1 _ f }

pub loop-smaller : goal.loop-smaller
loop-smaller c = rw c.loop-test.true at c.pass_once.ensures.1

pub loop-preserved : goal.loop-preserved
loop-preserved c = let b = c.loop.invariant in
    let e = c.pass_once.ensures.0 in
    record {
      image = b.image;
      inside = b.inside;
      low = rw e (pass-low _ b.image _ b.inside _ b.low);
      high = rw e (pass-high _ b.image _ b.inside _ b.high);
    }

pub returns : goal.returns
returns c = let b = c.loop.invariant in
    let p = c.pass_once in
    let e = rw c.loop-test.false at p.ensures.1 in
    rw e (unchanged-greatest _ b.image _ b.inside _ b.low b.high (sym e ∙ p.ensures.0))
