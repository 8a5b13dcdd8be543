-- `settling::by_rule` meets its contract: the steps done, before what settling does with the rest of the budget, are what settling does.
use mathlib.Core.Path.{◌≡◌}
use Prim.Native.Nat.{ℕ}
use native.Mathlib.Omega.{arith}
use borrow.Author.Rules.{rules}
use Rattle.moves.proofs.Ready.{stands_at, lowest-of-state, resets-of, state-of}
use Rattle.settling.proofs.Onward.{begin, onward, ends, all-done}
use Rattle.settling.proofs.Reached.{reached-ready}
use Rattle.settling.proofs.Rests.{rests}
use Rattle.settling.proofs.by_rule.Goals as goal

pub loop-steps-init : goal.loop-steps-init
loop-steps-init c = (search rules, begin _ _ _ _ c.requires.0 (search rules) c.requires.1)

pub lowest_of-a-requires : goal.lowest_of-a-requires
lowest_of-a-requires c = let l = c.loop-steps in stands_at _ _ l.invariant.1.reached.standing l.invariant.0

pub ended-requires : goal.ended-requires
ended-requires c = reached-ready _ _ _ c.requires.0 c.loop-steps.invariant.1.reached

pub returns-then-a : goal.returns-then-a
returns-then-a c = let l = c.loop-steps in
    let r = c.requires.0 in
    let at = stands_at _ _ l.invariant.1.reached.standing l.invariant.0 in
    let st = rests _ _ (reached-ready _ _ _ r l.invariant.1.reached) _ (lowest-of-state _ _ _ at _ c.lowest_of-a.ensures)
    c.if-a.true in
    ends _ _ _ _ _ _ _ _ l.invariant.1 (λ f. let z : ◌≡◌ {A = ℕ} 0 1 = cc in absurd (omega arith)) _ c.ended.ensures

pub move_in-more-requires : goal.move_in-more-requires
move_in-more-requires c = let l = c.loop-steps in stands_at _ _ l.invariant.1.reached.standing l.invariant.0

pub bounds-trace-steps : goal.bounds-trace-steps
bounds-trace-steps c = let l = c.loop-steps in
    omega (arith, l.invariant.1.size, l.invariant.1.room)

pub loop-steps-preserved : goal.loop-steps-preserved
loop-steps-preserved c = let l = c.loop-steps in
    let m = c.move_in-more in
    let at = stands_at _ _ l.invariant.1.reached.standing l.invariant.0 in
    let low = lowest-of-state _ _ _ at _ c.lowest_of-a.ensures in (
      search rules,
      onward _ _ _ _ c.requires.0.conforming c.requires.0.joinable _ _ _ _ l.invariant.1 _ low (search rules) c.if-a.false _ _ _
          (state-of _ _ _ at _ _ m.ensures.1) (resets-of _ _ _ at _ _ m.ensures.0) c.union-resets.ensures,
    )

pub ended-requires-2 : goal.ended-requires-2
ended-requires-2 c = reached-ready _ _ _ c.requires.0 c.loop-steps.invariant.1.reached

pub returns : goal.returns
returns c = all-done _ _ _ _ _ _ _ _ c.loop-steps.invariant.1 (omega (arith, c.loop-steps.invariant.1.within)) _ c.ended-2.ensures
