-- `table::states_climb`: what is left to test answers for the whole.
use mathlib.Core.Path.{◌≡◌, sym, ◌∙◌, ap}
use mathlib.Core.Bool.{Bool}
use mathlib.Core.List.{List}
use Prim.Native.Nat.{ℕ, ◌+◌, ◌-◌}
use native.Mathlib.Numerals.{add-one}
use native.Mathlib.Omega.{arith}
use Rattle.laws.specs.Fold.{all}
use Rattle.laws.proofs.FoldLaws.{all-fails, all-goes-on, all-passed}
use Rattle.layout.specs.Layout.{first_of}
use Rattle.table.specs.Rows.{climbs, state_climbs}
use Rattle.table.proofs.states_climb.Goals as goal
use Rattle.table.proofs.states_climb.Goals.{After-range_climbs}

climb-is : (t : List ℕ) (i s lo hi : ℕ) → lo ≡ first_of t i s → hi ≡ first_of t i (s + 1) → state_climbs t i s ≡ all (climbs t s) lo (hi - 1)
unfolding state_climbs
climb-is t i s lo hi p q = rw (p, q, add-one)

-- a state is tested: what the loop knew before it, and the test
module _ (c : After-range_climbs) where
  abbrev climbing : ℕ → Bool
  climbing = state_climbs c.args.t.now c.args.i

  abbrev state : ℕ
  state = c.loop-s.s

  tested : c.range_climbs.result ≡ climbing state
  tested =
      let args = c.args in
      let lo = c.first_of-lo in
      let hi = c.first_of-hi in
      c.range_climbs.ensures state ∙ sym (climb-is args.t.now args.i state lo.result hi.result lo.ensures hi.ensures)

pub block_word-states-requires : goal.block_word-states-requires
block_word-states-requires c = (c.requires.0.long, omega (arith, c.requires.1, c.requires.0.count), omega arith)

pub loop-s-init : goal.loop-s-init
loop-s-init c = ap (all (state_climbs c.args.t.now c.args.i) 0) c.block_word-states.ensures

pub first_of-lo-requires : goal.first_of-lo-requires
first_of-lo-requires c = let the-pre = c.requires in
    let args = c.args in
    (the-pre.0.long, omega (arith, the-pre.1, the-pre.0.count), omega (arith, the-pre.0.states args.i the-pre.1))

pub overflow_add-s : goal.overflow_add-s
overflow_add-s c = omega arith

pub first_of-hi-requires : goal.first_of-hi-requires
first_of-hi-requires c = let the-pre = c.requires in
    let args = c.args in
    (the-pre.0.long, omega (arith, the-pre.1, the-pre.0.count), omega (arith, the-pre.0.states args.i the-pre.1))

pub range_climbs-requires : goal.range_climbs-requires
range_climbs-requires c = let the-pre = c.requires in
    let args = c.args in
    let loop = c.loop-s in
    let i = args.i in
    let s = loop.s in (
      the-pre.0.long,
      omega (arith, the-pre.0.firsts i s the-pre.1 (omega (arith, the-pre.0.states i the-pre.1))),
      omega (arith, the-pre.0.firsts i (s + 1) the-pre.1 (omega (arith, the-pre.0.states i the-pre.1))),
    )

pub returns-then-not-range_climbs : goal.returns-then-not-range_climbs
returns-then-not-range_climbs c = let loop = c.loop-s in
    all-fails (climbing (goal.at.returns-then-not-range_climbs c).After-range_climbs) (state (goal.at.returns-then-not-range_climbs c).After-range_climbs) _ loop.invariant c.loop-s-test.true
    (sym (tested (goal.at.returns-then-not-range_climbs c).After-range_climbs) ∙ c.if-not-range_climbs.true)

pub overflow_step-s : goal.overflow_step-s
overflow_step-s c = omega arith

pub loop-s-smaller : goal.loop-s-smaller
loop-s-smaller c = omega arith

pub loop-s-preserved : goal.loop-s-preserved
loop-s-preserved c = let loop = c.loop-s in
    all-goes-on (climbing (goal.at.loop-s-preserved c).After-range_climbs) (state (goal.at.loop-s-preserved c).After-range_climbs) _ loop.invariant c.loop-s-test.true
    (sym (tested (goal.at.loop-s-preserved c).After-range_climbs) ∙ c.if-not-range_climbs.false)

pub returns : goal.returns
returns c = let args = c.args in
    let block-word = c.block_word-states in
    let loop = c.loop-s in
    all-passed (state_climbs args.t.now args.i) loop.s block-word.result loop.invariant c.loop-s-test.false
