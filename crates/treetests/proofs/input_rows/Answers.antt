-- `treetests::input_rows` meets its contract. The loop's invariant: what is stored from here on is what is stored in all.
use mathlib.Core.Path.{ap}
use native.Mathlib.Omega.{arith}
use Rattle.treenames.proofs.Passing.{line-there, first_read, fewer_bytes}
use Rattle.treetests.specs.declared.LineSets.{LineSets}
use Rattle.treetests.proofs.PassLaws.{line_small, storing-begins, storing-on, storing-done}
use Rattle.treetests.proofs.input_rows.Goals as goal

pub loop-at-init : goal.loop-at-init
loop-at-init c = storing-begins _ c.requires

pub line_at-line-requires : goal.line_at-line-requires
line_at-line-requires c = line-there _ _ _ c.loop-at.invariant.left c.loop-at-test.true

pub line_sets-s-requires : goal.line_sets-s-requires
line_sets-s-requires c =
    let here = first_read c.args.text.now c.loop-at.at c.loop-at.invariant.rest c.loop-at.invariant.left c.loop-at-test.true c.line_at-line.result c.line_at-line.ensures in
    line_small _ _ _ _ here

pub offset_bounds-rows-e : goal.offset_bounds-rows-e
offset_bounds-rows-e c =
    let here = first_read c.args.text.now c.loop-at.at c.loop-at.invariant.rest c.loop-at.invariant.left c.loop-at-test.true c.line_at-line.result c.line_at-line.ensures in
    let s = (line_small _ _ _ _ here).number in omega (arith, s)

pub bounds-rows-e : goal.bounds-rows-e
bounds-rows-e c =
    let here = first_read c.args.text.now c.loop-at.at c.loop-at.invariant.rest c.loop-at.invariant.left c.loop-at-test.true c.line_at-line.result c.line_at-line.ensures in
    let s = (line_small _ _ _ _ here).number in
    let n = c.loop-at.invariant.places in
    omega (arith, s, n)

pub loop-at-smaller : goal.loop-at-smaller
loop-at-smaller c = let l = c.loop-at in
    fewer_bytes c.args.text.now l.at l.invariant.rest l.invariant.left c.loop-at-test.true c.line_at-line.result c.line_at-line.ensures

pub loop-at-preserved : goal.loop-at-preserved
loop-at-preserved c =
    let here = first_read c.args.text.now c.loop-at.at c.loop-at.invariant.rest c.loop-at.invariant.left c.loop-at-test.true c.line_at-line.result c.line_at-line.ensures in
    let l = c.loop-at in
    storing-on _ l.rows l.at l.invariant _ _ here _ (ap (λ (s : LineSets). s.all) c.line_sets-s.ensures)

pub returns : goal.returns
returns c = storing-done _ c.requires _ _ c.loop-at.invariant c.loop-at-test.false
