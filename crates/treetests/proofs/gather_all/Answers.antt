-- `treetests::gather_all` meets its contract. The loop's invariant: what is gathered from here on is what is gathered in all.
use Rattle.treenames.proofs.Passing.{line-there, first_read, fewer_bytes}
use Rattle.treetests.proofs.PassLaws.{line_small, gathering-begins, gathering-on, gathering-done}
use Rattle.treetests.proofs.gather_all.Goals as goal

pub loop-at-init : goal.loop-at-init
loop-at-init c = gathering-begins _ c.requires

pub line_at-line-requires : goal.line_at-line-requires
line_at-line-requires c = line-there _ _ _ c.loop-at.invariant.left c.loop-at-test.true

pub gather-more-requires : goal.gather-more-requires
gather-more-requires c =
    let here = first_read c.args.text.now c.loop-at.at c.loop-at.invariant.rest c.loop-at.invariant.left c.loop-at-test.true c.line_at-line.result c.line_at-line.ensures in
    line_small _ _ _ _ here

pub loop-at-smaller : goal.loop-at-smaller
loop-at-smaller c = let l = c.loop-at in
    fewer_bytes c.args.text.now l.at l.invariant.rest l.invariant.left c.loop-at-test.true c.line_at-line.result c.line_at-line.ensures

pub loop-at-preserved : goal.loop-at-preserved
loop-at-preserved c =
    let here = first_read c.args.text.now c.loop-at.at c.loop-at.invariant.rest c.loop-at.invariant.left c.loop-at-test.true c.line_at-line.result c.line_at-line.ensures in
    let l = c.loop-at in
    gathering-on _ l.g l.at l.invariant _ _ here _ c.gather-more.ensures

pub returns : goal.returns
returns c = gathering-done _ _ _ c.loop-at.invariant c.loop-at-test.false
