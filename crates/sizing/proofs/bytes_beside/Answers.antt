-- `sizing::bytes_beside`: the whole, with the product's lines for those of the two.
use native.Mathlib.Omega.{arith}
use Rattle.layout.proofs.ImageIsSane.{count-below, image-is-sane}
use Rattle.sizing.proofs.MergedSums.{sum_low, sum-high, bytes-summed}
use Rattle.sizing.proofs.bytes_beside.Goals as goal

pub text_length-whole-requires : goal.text_length-whole-requires
text_length-whole-requires c = image-is-sane _ c.requires.0

pub comp_width-first-requires : goal.comp_width-first-requires
comp_width-first-requires c = (image-is-sane _ c.requires.0, omega (arith, c.requires.1, count-below _ c.requires.0))

pub overflow_add-i : goal.overflow_add-i
overflow_add-i c = omega (arith, c.requires.1, count-below _ c.requires.0)

pub comp_width-second-requires : goal.comp_width-second-requires
comp_width-second-requires c = (image-is-sane _ c.requires.0, omega (arith, c.requires.1, count-below _ c.requires.0))

pub overflow_add-i-2 : goal.overflow_add-i-2
overflow_add-i-2 c = omega (arith, c.requires.1, count-below _ c.requires.0)

pub head_width-requires : goal.head_width-requires
head_width-requires c = (c.requires.0, omega (arith, c.requires.1), c.requires.1)

pub overflow_add-result : goal.overflow_add-result
overflow_add-result c = omega (
  arith,
  sum_low _ c.requires.0 c.args.i c.requires.1 _ _ _ _ c.text_length-whole.ensures c.head_width.ensures
      c.comp_width-first.ensures c.comp_width-second.ensures,
)

pub overflow_sub-result : goal.overflow_sub-result
overflow_sub-result c = omega (
  arith,
  sum-high _ c.requires.0 c.args.i c.requires.1 _ _ _ _ c.text_length-whole.ensures c.head_width.ensures
      c.comp_width-first.ensures c.comp_width-second.ensures,
)

pub overflow_sub-result-2 : goal.overflow_sub-result-2
overflow_sub-result-2 c = omega (
  arith,
  sum-high _ c.requires.0 c.args.i c.requires.1 _ _ _ _ c.text_length-whole.ensures c.head_width.ensures
      c.comp_width-first.ensures c.comp_width-second.ensures,
)

pub returns : goal.returns
returns c = bytes-summed _ c.requires.0 c.args.i c.requires.1 _ _ _ _ c.text_length-whole.ensures c.head_width.ensures
    c.comp_width-first.ensures c.comp_width-second.ensures
