-- `treesize::size` meets its contract. The loop's invariant: the rows and bytes so far, with those of the lines from here on, are all.
use mathlib.Core.Path.{refl, ◌∙◌}
use native.Mathlib.Omega.{arith}
use Rattle.treenames.proofs.Passing.{line-there, first_read, fewer_bytes}
use Rattle.meanings.proofs.FirstLine.{fit}
use Rattle.treesize.proofs.SizeLaws.{sizing-begins, k-low, count_low, roomy, sizing-done, sizing-on}
use Rattle.treesize.proofs.size.Goals as goal

pub loop-at-init : goal.loop-at-init
loop-at-init c = let p = c.requires in (sizing-begins _ _ _ p.0 p.1 p.3 p.4, refl)

pub line_at-line-requires : goal.line_at-line-requires
line_at-line-requires c = line-there _ _ _ c.loop-at.invariant.0.left c.loop-at-test.true

pub line_size-m-requires : goal.line_size-m-requires
line_size-m-requires c =
    let here = first_read c.args.text.now c.loop-at.at c.loop-at.invariant.0.rest c.loop-at.invariant.0.left c.loop-at-test.true c.line_at-line.result c.line_at-line.ensures in
    let inv = c.loop-at.invariant.0 in
    let low = k-low _ _ _ c.loop-at.n c.loop-at.k c.loop-at.at inv in (
      c.requires.2,
      count_low _ _ _ c.loop-at.n c.loop-at.k c.loop-at.at inv,
      fit _ _ _ _ here,
      omega (arith, low),
      roomy _ _ _ c.loop-at.n c.loop-at.k c.loop-at.at inv,
    )

pub next_be-k-requires : goal.next_be-k-requires
next_be-k-requires c = let l = c.loop-at in
    let low = k-low _ _ _ l.n l.k l.at l.invariant.0 in
    omega (arith, low)

pub loop-at-smaller : goal.loop-at-smaller
loop-at-smaller c = let l = c.loop-at in
    fewer_bytes c.args.text.now l.at l.invariant.0.rest l.invariant.0.left c.loop-at-test.true c.line_at-line.result c.line_at-line.ensures

pub loop-at-preserved : goal.loop-at-preserved
loop-at-preserved c =
    let here = first_read c.args.text.now c.loop-at.at c.loop-at.invariant.0.rest c.loop-at.invariant.0.left c.loop-at-test.true c.line_at-line.result c.line_at-line.ensures in
    let l = c.loop-at in
    let f = fit _ _ _ _ here in (
      sizing-on c.args.text.now _ _ l.n l.k l.at l.invariant.0 _ _ here f c.line_size-m.result _ c.line_size-m.ensures.0
          c.next_be-k.ensures,
      c.line_size-m.ensures.1 ∙ l.invariant.1,
    )

pub returns : goal.returns
returns c = let l = c.loop-at in (sizing-done _ _ _ l.n l.k l.at l.invariant.0 c.loop-at-test.false, l.invariant.1)
