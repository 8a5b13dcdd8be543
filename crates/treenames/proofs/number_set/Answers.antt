-- `treenames::number_set` meets its contract. The loop's invariant: the numbers so far, with those of the lines from here on, are those of all.
use native.Mathlib.Omega.{arith}
use Rattle.treenames.proofs.Passing.{line-there, first_read, fewer_bytes}
use Rattle.treenames.proofs.NameLaws.{counted-begins, counted-done, counted-on, number_fits}
use Rattle.treenames.proofs.number_set.Goals as goal

pub loop-at-init : goal.loop-at-init
loop-at-init c = counted-begins _ _ c.requires.1

pub line_at-line-requires : goal.line_at-line-requires
line_at-line-requires c = line-there _ _ _ c.loop-at.invariant.left c.loop-at-test.true

pub single-requires : goal.single-requires
single-requires c =
    let here = first_read c.args.text.now c.loop-at.at c.loop-at.invariant.rest c.loop-at.invariant.left c.loop-at-test.true c.line_at-line.result c.line_at-line.ensures in
    let b = number_fits c.args.text.now _ _ c.loop-at.invariant _ _ here in
    omega (arith, b)

pub loop-at-smaller : goal.loop-at-smaller
loop-at-smaller c =
    let shorter = fewer_bytes c.args.text.now c.loop-at.at c.loop-at.invariant.rest c.loop-at.invariant.left c.loop-at-test.true c.line_at-line.result c.line_at-line.ensures in
    shorter

pub loop-at-preserved : goal.loop-at-preserved
loop-at-preserved c =
    let here = first_read c.args.text.now c.loop-at.at c.loop-at.invariant.rest c.loop-at.invariant.left c.loop-at-test.true c.line_at-line.result c.line_at-line.ensures in
    let l = c.loop-at in
    counted-on c.args.text.now l.known l.at l.invariant _ _ here _ _ c.single.ensures c.union-known.ensures

pub returns : goal.returns
returns c = counted-done _ _ _ c.loop-at.invariant c.loop-at-test.false
