-- `measure::comp_width`: the lines beside the rows, and the rows.
use native.Mathlib.Omega.{arith}
use Rattle.layout.specs.Image.{comp_of}
use Rattle.measure.proofs.Lines.{rows-most}
use Rattle.measure.proofs.Bounds.{bare-most, rows_few, comp-counted}
use Rattle.measure.proofs.comp_width.Goals as goal

pub overflow_add-result : goal.overflow_add-result
overflow_add-result c = let t = c.args.t.now in
    let i = c.args.i in
    omega (
      arith,
      bare-most c.block_word-states.result c.block_word-start.result c.block_word-ins.result
          c.block_word-outs.result c.block_word-uins.result c.block_word-uouts.result
          c.block_word-clocks.result,
      rows-most (comp_of t i).rows,
      rows_few t c.requires.0 i c.requires.1,
    )

pub returns : goal.returns
returns c = comp-counted c.args.t.now c.args.i _ _ _ _ _ _ _ _ _ c.block_word-states.ensures c.block_word-start.ensures
    c.block_word-ins.ensures c.block_word-outs.ensures c.block_word-uins.ensures
    c.block_word-uouts.ensures c.block_word-clocks.ensures c.head_width.ensures
    c.states_width.ensures
