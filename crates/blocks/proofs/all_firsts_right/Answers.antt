-- `blocks::all_firsts_right`: what is left to test answers for the whole, and the end is handed on.
use mathlib.Core.Path.{◌≡◌, refl, sym, ◌∙◌, ap}
use mathlib.Core.List.{List}
use Prim.Native.Nat.{ℕ, ◌+◌}
use native.Mathlib.Numerals.{add-one}
use native.Mathlib.Omega.{arith}
use Rattle.laws.proofs.FoldLaws.{all-fails, all-goes-on, all-passed}
use Rattle.layout.specs.Layout.{block_word, first_of}
use Rattle.blocks.specs.Blocks.{end_before, firsts_right}
use Rattle.blocks.proofs.all_firsts_right.Goals as goal

handed : (t : List ℕ) (i states : ℕ) {end : ℕ} → states ≡ block_word t i 0 → end ≡ first_of t i states → end ≡ end_before t (i + 1)
unfolding end_before
handed t i states p e = rw add-one (e ∙ ap (first_of t i) p)

pub loop-i-init : goal.loop-i-init
unfolding end_before
loop-i-init c = (refl, refl)

pub firsts_right-requires : goal.firsts_right-requires
firsts_right-requires c = (c.requires.0, omega arith, c.requires.2 c.loop-i.i c.loop-i-test.true, c.loop-i.invariant.1)

pub returns-then-not-firsts_right : goal.returns-then-not-firsts_right
returns-then-not-firsts_right c = let args = c.args in
    let loop = c.loop-i in
    let loop-test = c.loop-i-test in
    let firsts-right = c.firsts_right in
    let i = loop.i in
    all-fails (firsts_right args.t.now) i args.count loop.invariant.0 loop-test.true (sym firsts-right.ensures
    ∙ c.if-not-firsts_right.true)

pub block_word-states-requires : goal.block_word-states-requires
block_word-states-requires c = (c.requires.0, omega arith, omega arith)

pub first_of-end-requires : goal.first_of-end-requires
first_of-end-requires c = let the-pre = c.requires in
    let loop = c.loop-i in
    let loop-test = c.loop-i-test in
    (the-pre.0, omega arith, omega (arith, the-pre.2 loop.i loop-test.true))

pub overflow_step-i : goal.overflow_step-i
overflow_step-i c = omega arith

pub loop-i-smaller : goal.loop-i-smaller
loop-i-smaller c = omega arith

pub loop-i-preserved : goal.loop-i-preserved
loop-i-preserved c = let args = c.args in
    let loop = c.loop-i in
    let loop-test = c.loop-i-test in
    let firsts-right = c.firsts_right in
    let if1 = c.if-not-firsts_right in
    let block-word = c.block_word-states in
    let t = args.t.now in
    let i = loop.i in (
      all-goes-on (firsts_right t) i args.count loop.invariant.0 loop-test.true (sym firsts-right.ensures ∙ if1.false),
      handed t i block-word.result block-word.ensures c.first_of-end.ensures,
    )

pub returns : goal.returns
returns c = all-passed (firsts_right c.args.t.now) c.loop-i.i c.args.count c.loop-i.invariant.0 c.loop-i-test.false
