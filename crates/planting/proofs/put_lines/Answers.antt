-- `planting::put_lines`. The loop's invariant: the rows so far, with those of the lines from here on, are all.
use native.Mathlib.Omega.{arith}
use Rattle.treenames.proofs.Passing.{line-there, first_read, fewer_bytes}
use Rattle.meanings.proofs.FirstLine.{fit}
use Rattle.planting.proofs.LineWalks.{k-low, count_low, rows_fit, rowing-begins, rowing-done, rowing-on}
use Rattle.planting.proofs.put_lines.Goals as goal

pub loop-at-init : goal.loop-at-init
loop-at-init c = rowing-begins _ _ _ _ c.requires.0

pub line_at-line-requires : goal.line_at-line-requires
line_at-line-requires c = line-there _ _ _ c.loop-at.invariant.walked.left c.loop-at-test.true

pub emit_states-m-requires : goal.emit_states-m-requires
emit_states-m-requires c =
    let here = first_read c.args.text.now c.loop-at.at c.loop-at.invariant.walked.rest c.loop-at.invariant.walked.left c.loop-at-test.true c.line_at-line.result c.line_at-line.ensures in
    let l = c.loop-at in
    let w = l.invariant.walked in
    let low = k-low _ _ _ l.n l.k l.at w in
    let long = l.invariant.long in
    let room = c.requires.1 in
    let few = rows_fit _ _ _ l.n l.k l.at w _ _ here in (
      w.plan.long,
      count_low _ _ _ l.n l.k l.at w,
      omega arith,
      fit _ _ _ _ here,
      omega (arith, low),
      record { rows = omega (arith, few); bytes = omega arith; long = λ z. omega (arith, long, room) },
    )

pub next_be-k-requires : goal.next_be-k-requires
next_be-k-requires c = let l = c.loop-at in
    let low = k-low _ _ _ l.n l.k l.at l.invariant.walked in
    omega (arith, low)

pub loop-at-smaller : goal.loop-at-smaller
loop-at-smaller c = let l = c.loop-at in
    fewer_bytes c.args.text.now l.at l.invariant.walked.rest l.invariant.walked.left c.loop-at-test.true c.line_at-line.result c.line_at-line.ensures

pub loop-at-preserved : goal.loop-at-preserved
loop-at-preserved c =
    let here = first_read c.args.text.now c.loop-at.at c.loop-at.invariant.walked.rest c.loop-at.invariant.walked.left c.loop-at-test.true c.line_at-line.result c.line_at-line.ensures in
    let l = c.loop-at in
    rowing-on c.args.text.now _ _ _ l.into l.n l.k l.at l.invariant _ _ here _ c.emit_states-m.result _ c.emit_states-m.ensures
    c.next_be-k.ensures

pub returns : goal.returns
returns c = let l = c.loop-at in rowing-done _ _ _ _ _ l.n l.k l.at l.invariant c.loop-at-test.false
