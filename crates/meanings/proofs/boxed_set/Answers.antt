-- `meanings::boxed_set` meets its contract. The loop's invariant: the boxes so far, with those of the lines from here on, are all.
use Rattle.treenames.proofs.Passing.{line-there, first_read, fewer_bytes}
use Rattle.meanings.proofs.FirstLine.{inputs-low}
use Rattle.meanings.proofs.Gathering.{boxing-begins, boxing-done, boxing-on}
use Rattle.meanings.proofs.boxed_set.Goals as goal

pub loop-at-init : goal.loop-at-init
loop-at-init c = boxing-begins _ c.requires

pub line_at-line-requires : goal.line_at-line-requires
line_at-line-requires c = line-there _ _ _ c.loop-at.invariant.left c.loop-at-test.true

pub box_inputs-requires : goal.box_inputs-requires
box_inputs-requires c =
    let here = first_read c.args.text.now c.loop-at.at c.loop-at.invariant.rest c.loop-at.invariant.left c.loop-at-test.true c.line_at-line.result c.line_at-line.ensures in
    inputs-low _ _ _ _ here

pub loop-at-smaller : goal.loop-at-smaller
loop-at-smaller c = let l = c.loop-at in
    fewer_bytes c.args.text.now l.at l.invariant.rest l.invariant.left c.loop-at-test.true c.line_at-line.result c.line_at-line.ensures

pub loop-at-preserved : goal.loop-at-preserved
loop-at-preserved c =
    let here = first_read c.args.text.now c.loop-at.at c.loop-at.invariant.rest c.loop-at.invariant.left c.loop-at-test.true c.line_at-line.result c.line_at-line.ensures in
    let l = c.loop-at in
    boxing-on c.args.text.now l.boxed l.at l.invariant _ _ here _ _ c.box_inputs.ensures c.union-boxed.ensures

pub returns : goal.returns
returns c = boxing-done _ _ _ c.loop-at.invariant c.loop-at-test.false
