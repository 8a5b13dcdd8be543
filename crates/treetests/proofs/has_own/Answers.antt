-- `treetests::has_own` meets its contract: no number passed is in its own set.
use mathlib.Core.Path.{refl, sym, ◌∙◌, ap}
use Prim.Native.Nat.{◌-◌}
use native.Mathlib.Omega.{arith}
use Rattle.laws.specs.Sets.{has}
use Rattle.laws.specs.Search.{when, is_some}
use Rattle.laws.proofs.SearchLaws.{seek-end, test-here, test-next}
use Rattle.marks.specs.Marks.{rows_of_marks}
use Rattle.treetests.proofs.has_own.Invariants.{own}
use Rattle.treetests.proofs.has_own.Goals as goal

pub loop-v-init : goal.loop-v-init
loop-v-init c = (omega arith, refl)

pub returns-then-has : goal.returns-then-has
returns-then-has c = let rows = c.args.rows.now in
    let here = test-here (own rows) c.loop-v.v rows_of_marks c.loop-v-test.true (sym c.has.ensures ∙ c.if-has.true) in
    sym (ap is_some (sym c.loop-v.invariant.1 ∙ here))

pub loop-v-preserved : goal.loop-v-preserved
loop-v-preserved c = let rows = c.args.rows.now in
    let next = test-next (own rows) c.loop-v.v rows_of_marks c.loop-v-test.true (sym c.has.ensures ∙ c.if-has.false) in
    (omega arith, sym next ∙ c.loop-v.invariant.1)

pub returns : goal.returns
returns c = sym (ap is_some (sym c.loop-v.invariant.1 ∙ seek-end (λ k. when (own c.args.rows.now k) k) c.loop-v.v rows_of_marks c.loop-v-test.false))
