-- `sizing::size_of`: states, then what the walk counts and measures.
use mathlib.Core.Path.{refl, sym, ◌∙◌}
use Prim.Native.Nat.{◌+◌}
use native.Mathlib.Omega.{arith}
use Rattle.layout.proofs.ImageIsSane.{image-long, count-below, comp-ranges}
use Rattle.product.proofs.WalkLaws.{pair_fits}
use Rattle.sizing.proofs.MergedSums.{many-states, room, sum-few, few-states, too-many, as_lent}
use Rattle.sizing.proofs.size_of.Goals as goal

pub block_word-tall-requires : goal.block_word-tall-requires
block_word-tall-requires c = (image-long _ c.requires.0, omega (arith, c.requires.1, count-below _ c.requires.0), omega arith)

pub overflow_add-i : goal.overflow_add-i
overflow_add-i c = omega (arith, c.requires.1, count-below _ c.requires.0)

pub block_word-wide-requires : goal.block_word-wide-requires
block_word-wide-requires c = (image-long _ c.requires.0, omega (arith, c.requires.1, count-below _ c.requires.0), omega arith)

pub overflow_mul-tall : goal.overflow_mul-tall
overflow_mul-tall c = pair_fits _ _ 0 (omega (arith, c.block_word-tall.ensures, (comp-ranges _ c.requires.0 c.args.i (omega (arith, c.requires.1))).states))
    (omega (arith, c.block_word-wide.ensures, (comp-ranges _ c.requires.0 (c.args.i + 1) c.requires.1).states)) (omega arith)

pub returns-then-tall-wide : goal.returns-then-tall-wide
returns-then-tall-wide c = (many-states _ c.requires.0 c.args.i c.requires.1 _ _ c.block_word-tall.ensures c.block_word-wide.ensures c.if-tall-wide.true, refl)

pub overflow_add-i-2 : goal.overflow_add-i-2
overflow_add-i-2 c = omega (arith, c.requires.1, count-below _ c.requires.0)

pub emit_product-n-requires : goal.emit_product-n-requires
emit_product-n-requires c = (
  c.requires.0,
  omega (arith, c.requires.1),
  c.requires.1,
  omega arith,
  room _ c.requires.0 c.args.i c.requires.1 _ _ c.block_word-tall.ensures c.block_word-wide.ensures
      c.if-tall-wide.false _ c.bytes_beside-bytes.ensures c.args.into.now c.requires.2,
)

pub overflow_add-new : goal.overflow_add-new
overflow_add-new c = omega (
  arith,
  sum-few _ c.requires.0 c.args.i c.requires.1 _ _ c.block_word-tall.ensures c.block_word-wide.ensures
      c.if-tall-wide.false _ c.bytes_beside-bytes.ensures c.args.into.now c.emit_product-n.result
      c.emit_product-n.new.into c.emit_product-n.ensures _ _ c.start_of.ensures refl,
)

pub overflow_add-i-3 : goal.overflow_add-i-3
overflow_add-i-3 c = omega (arith, c.requires.1, count-below _ c.requires.0)

pub overflow_add-rows : goal.overflow_add-rows
overflow_add-rows c = omega (
  arith,
  sum-few _ c.requires.0 c.args.i c.requires.1 _ _ c.block_word-tall.ensures c.block_word-wide.ensures
      c.if-tall-wide.false _ c.bytes_beside-bytes.ensures c.args.into.now c.emit_product-n.result
      c.emit_product-n.new.into c.emit_product-n.ensures _ _ c.start_of.ensures c.rows_behind.ensures,
)

pub returns-then-fits : goal.returns-then-fits
returns-then-fits c = (
  few-states _ c.requires.0 c.args.i c.requires.1 _ _ c.block_word-tall.ensures c.block_word-wide.ensures
      c.if-tall-wide.false _ c.bytes_beside-bytes.ensures c.args.into.now c.emit_product-n.result
      c.emit_product-n.new.into c.emit_product-n.ensures _ _ c.start_of.ensures
      c.rows_behind.ensures (sym c.fits.ensures ∙ c.if-fits.true),
  as_lent _ c.requires.0 c.args.i c.requires.1 _ _ c.block_word-tall.ensures c.block_word-wide.ensures
      c.if-tall-wide.false _ c.bytes_beside-bytes.ensures c.args.into.now c.emit_product-n.result
      c.emit_product-n.new.into c.emit_product-n.ensures,
)

pub returns-else-fits : goal.returns-else-fits
returns-else-fits c = (
  too-many _ c.requires.0 c.args.i c.requires.1 _ _ c.block_word-tall.ensures c.block_word-wide.ensures
      c.if-tall-wide.false _ c.bytes_beside-bytes.ensures c.args.into.now c.emit_product-n.result
      c.emit_product-n.new.into c.emit_product-n.ensures _ _ c.start_of.ensures
      c.rows_behind.ensures (sym c.fits.ensures ∙ c.if-fits.false),
  as_lent _ c.requires.0 c.args.i c.requires.1 _ _ c.block_word-tall.ensures c.block_word-wide.ensures
      c.if-tall-wide.false _ c.bytes_beside-bytes.ensures c.args.into.now c.emit_product-n.result
      c.emit_product-n.new.into c.emit_product-n.ensures,
)
