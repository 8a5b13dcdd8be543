-- `table::end_before`: the end of the component before, or 0.
use mathlib.Core.Path.{◌≡◌, sym, ◌∙◌, ap}
use mathlib.Core.List.{List}
use Prim.Native.Nat.{ℕ, zero, suc, ◌-◌, ◌<◌}
use native.Mathlib.Omega.{arith}
use Rattle.layout.specs.Layout.{block_word, first_of}
use Rattle.blocks.specs.Blocks.{end_before}
use Rattle.table.proofs.end_before.Goals as goal

end_is : (t : List ℕ) (i : ℕ) → 0 < i → first_of t (i - 1) (block_word t (i - 1) 0) ≡ end_before t i
unfolding end_before
end_is t zero h = absurd (omega arith)
end_is t (suc i) h = let e : suc i - 1 ≡ i = omega arith in rw e

pub block_word-states-requires : goal.block_word-states-requires
block_word-states-requires c = let the-pre = c.requires in (the-pre.0.long, omega (arith, the-pre.1, the-pre.0.count), omega arith)

pub first_of-requires : goal.first_of-requires
first_of-requires c = let the-pre = c.requires in
    (the-pre.0.long, omega (arith, the-pre.1, the-pre.0.count), omega (arith, the-pre.0.states (c.args.i - 1) (omega arith)))

pub returns-then-i-eq0 : goal.returns-then-i-eq0
unfolding end_before
returns-then-i-eq0 c = ap (end_before c.args.t.now) (sym c.if-i-eq0.true)

pub returns-else-i-eq0 : goal.returns-else-i-eq0
returns-else-i-eq0 c = let args = c.args in
    let i = args.i in
    let t = args.t.now in
    c.first_of.ensures ∙ ap (first_of t (i - 1)) c.block_word-states.ensures ∙ end_is t i (omega arith)
