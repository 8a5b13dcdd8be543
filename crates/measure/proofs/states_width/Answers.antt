-- `measure::states_width`: what is counted and what is left make the whole.
use mathlib.Core.Path.{◌≡◌}
use mathlib.Core.List.{List}
use Prim.Native.Nat.{ℕ, ◌+◌, ◌-◌, ◌<◌}
use native.Mathlib.Omega.{arith}
use lib.ListN.{length}
use Rattle.laws.specs.Fold.{tab, spread}
use Rattle.model.specs.Text.{row_lines}
use Rattle.layout.specs.Layout.{first_of}
use Rattle.layout.specs.Image.{rows_leaving, row_in, comp_of}
use Rattle.measure.proofs.Lines.{rows-most, ranges-next, ranges-done}
use Rattle.measure.proofs.Bounds.{rows_few, leaving-is, all-leaving}
use Rattle.measure.proofs.states_width.Goals as goal

-- one turn: the rows that leave state s, and those behind them
turn : (t : List ℕ) (i s states lo hi : ℕ) → s < states → lo ≡ first_of t i s → hi ≡ first_of t i (s + 1)
    → length (row_lines (spread (rows_leaving t i) s (states - s))) ≡ length (row_lines (tab (row_in t s) lo (hi - lo))) + length
    (row_lines (spread (rows_leaving t i) (s + 1) (states - (s + 1))))
turn t i s states lo hi h p q = omega (arith, ranges-next (rows_leaving t i) s states h, leaving-is t i s lo hi p q)

pub block_word-states-requires : goal.block_word-states-requires
block_word-states-requires c = (c.requires.0.long, c.requires.1, omega arith)

pub loop-s-init : goal.loop-s-init
loop-s-init c = omega (arith, all-leaving c.args.t.now c.args.i c.block_word-states.result c.block_word-states.ensures)

pub first_of-lo-requires : goal.first_of-lo-requires
first_of-lo-requires c = let the-pre = c.requires in
    let args = c.args in
    (the-pre.0.long, the-pre.1, omega (arith, the-pre.0.states args.i the-pre.1))

pub overflow_add-s : goal.overflow_add-s
overflow_add-s c = omega arith

pub first_of-hi-requires : goal.first_of-hi-requires
first_of-hi-requires c = let the-pre = c.requires in
    let args = c.args in
    (the-pre.0.long, the-pre.1, omega (arith, the-pre.0.states args.i the-pre.1))

pub rows_width-sum-requires : goal.rows_width-sum-requires
rows_width-sum-requires c = let the-pre = c.requires in
    let args = c.args in
    let loop = c.loop-s in
    let i = args.i in
    (the-pre.0.long, omega (arith, the-pre.0.firsts i (loop.s + 1) the-pre.1 (omega (arith, the-pre.0.states i the-pre.1))))

pub overflow_add-sum : goal.overflow_add-sum
overflow_add-sum c = let t = c.args.t.now in
    let i = c.args.i in
    omega (
      arith,
      turn t i _ _ _ _ c.loop-s-test.true c.first_of-lo.ensures c.first_of-hi.ensures,
      rows-most (comp_of t i).rows,
      rows_few t c.requires.0 i c.requires.1,
    )

pub overflow_step-s : goal.overflow_step-s
overflow_step-s c = omega arith

pub loop-s-smaller : goal.loop-s-smaller
loop-s-smaller c = omega arith

pub loop-s-preserved : goal.loop-s-preserved
loop-s-preserved c = omega (
  arith,
  turn c.args.t.now c.args.i _ _ _ _ c.loop-s-test.true c.first_of-lo.ensures
      c.first_of-hi.ensures,
)

pub returns : goal.returns
returns c = let args = c.args in
    let block-word = c.block_word-states in
    omega (arith, ranges-done (rows_leaving args.t.now args.i) c.loop-s.s block-word.result c.loop-s-test.false)
