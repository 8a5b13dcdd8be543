-- `planting::put_blocks`. The loop's invariant: the blocks so far, with those of the lines from here on, are all.
use native.Mathlib.Omega.{arith}
use Rattle.treenames.proofs.Passing.{line-there, first_read, fewer_bytes}
use Rattle.meanings.proofs.FirstLine.{fit}
use Rattle.planting.proofs.LineWalks.{k-low, count_low, rows_fit, blocking-begins, blocking-done, block-fits, blocking-on}
use Rattle.planting.proofs.put_blocks.Goals as goal

pub loop-at-init : goal.loop-at-init
loop-at-init c = blocking-begins _ _ _ _ c.requires.0

pub line_at-line-requires : goal.line_at-line-requires
line_at-line-requires c = line-there _ _ _ c.loop-at.invariant.walked.left c.loop-at-test.true

pub overflow_mul-i : goal.overflow_mul-i
overflow_mul-i c =
    let here = first_read c.args.text.now c.loop-at.at c.loop-at.invariant.walked.rest c.loop-at.invariant.walked.left c.loop-at-test.true c.line_at-line.result c.line_at-line.ensures in
    let l = c.loop-at in
    let b = block-fits _ _ _ _ _ l.n l.k l.i l.at l.invariant _ _ here in
    omega (arith, b)

pub overflow_add-i : goal.overflow_add-i
overflow_add-i c =
    let here = first_read c.args.text.now c.loop-at.at c.loop-at.invariant.walked.rest c.loop-at.invariant.walked.left c.loop-at-test.true c.line_at-line.result c.line_at-line.ensures in
    let l = c.loop-at in
    let b = block-fits _ _ _ _ _ l.n l.k l.i l.at l.invariant _ _ here in
    omega (arith, b)

pub put_block-n-requires : goal.put_block-n-requires
put_block-n-requires c =
    let here = first_read c.args.text.now c.loop-at.at c.loop-at.invariant.walked.rest c.loop-at.invariant.walked.left c.loop-at-test.true c.line_at-line.result c.line_at-line.ensures in
    let l = c.loop-at in
    let w = l.invariant.walked in
    let low = k-low _ _ _ l.n l.k l.at w in
    let long = l.invariant.long in
    let room = c.requires.1 in (
      w.plan.long,
      count_low _ _ _ l.n l.k l.at w,
      fit _ _ _ _ here,
      omega (arith, low),
      omega (arith, long, room),
      block-fits _ _ _ _ _ l.n l.k l.i l.at l.invariant _ _ here,
      rows_fit _ _ _ l.n l.k l.at w _ _ here,
    )

pub next_be-k-requires : goal.next_be-k-requires
next_be-k-requires c = let l = c.loop-at in
    let low = k-low _ _ _ l.n l.k l.at l.invariant.walked in
    omega (arith, low)

pub overflow_add-i-in-loop-at : goal.overflow_add-i-in-loop-at
overflow_add-i-in-loop-at c =
    let here = first_read c.args.text.now c.loop-at.at c.loop-at.invariant.walked.rest c.loop-at.invariant.walked.left c.loop-at-test.true c.line_at-line.result c.line_at-line.ensures in
    let l = c.loop-at in
    let b = block-fits _ _ _ _ _ l.n l.k l.i l.at l.invariant _ _ here in
    omega (arith, b)

pub loop-at-smaller : goal.loop-at-smaller
loop-at-smaller c = let l = c.loop-at in
    fewer_bytes c.args.text.now l.at l.invariant.walked.rest l.invariant.walked.left c.loop-at-test.true c.line_at-line.result c.line_at-line.ensures

pub loop-at-preserved : goal.loop-at-preserved
loop-at-preserved c =
    let here = first_read c.args.text.now c.loop-at.at c.loop-at.invariant.walked.rest c.loop-at.invariant.walked.left c.loop-at-test.true c.line_at-line.result c.line_at-line.ensures in
    let l = c.loop-at in
    blocking-on c.args.text.now _ _ _ l.into l.n l.k l.i l.at l.invariant _ _ here _ _ _ c.put_block-n.ensures.0
    c.put_block-n.ensures.1 c.next_be-k.ensures

pub returns : goal.returns
returns c = let l = c.loop-at in blocking-done _ _ _ _ _ l.n l.k l.i l.at l.invariant c.loop-at-test.false
