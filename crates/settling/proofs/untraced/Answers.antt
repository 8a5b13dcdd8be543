-- `settling::untraced` meets its contract: its loop is that of `by_rule`, with some trace that nobody writes.
use mathlib.Core.Path.{◌≡◌}
use Prim.Native.Nat.{ℕ}
use native.Mathlib.Omega.{arith}
use borrow.Author.Rules.{rules}
use lib.ListN.{replicate, length-replicate}
use Rattle.moves.proofs.Ready.{stands_at, lowest-of-state, resets-of, state-of}
use Rattle.settling.proofs.Onward.{begin, onward, ends, all-done}
use Rattle.settling.proofs.Reached.{reached-ready}
use Rattle.settling.proofs.Rests.{rests}
use Rattle.settling.proofs.untraced.Goals as goal

pub loop-taken-init : goal.loop-taken-init
loop-taken-init c = (search rules, replicate c.args.budget 0, begin _ _ _ _ c.requires (search rules) (omega (arith, length-replicate {A = ℕ} c.args.budget 0)))

pub lowest_of-a-requires : goal.lowest_of-a-requires
lowest_of-a-requires c = let l = c.loop-taken in stands_at _ _ l.invariant.2.reached.standing l.invariant.0

pub ended-requires : goal.ended-requires
ended-requires c = reached-ready _ _ _ c.requires c.loop-taken.invariant.2.reached

pub returns-then-a : goal.returns-then-a
returns-then-a c = let v = c.loop-taken.invariant in
    let r = c.requires in
    let at = stands_at _ _ v.2.reached.standing v.0 in
    let st = rests _ _ (reached-ready _ _ _ r v.2.reached) _ (lowest-of-state _ _ _ at _ c.lowest_of-a.ensures) c.if-a.true in
    (ends _ _ _ _ _ _ _ _ v.2 (λ f. let z : ◌≡◌ {A = ℕ} 0 1 = cc in absurd (omega arith)) _ c.ended.ensures).0

pub move_in-reset-requires : goal.move_in-reset-requires
move_in-reset-requires c = let l = c.loop-taken in stands_at _ _ l.invariant.2.reached.standing l.invariant.0

pub loop-taken-preserved : goal.loop-taken-preserved
loop-taken-preserved c = let v = c.loop-taken.invariant in
    let r = c.requires in
    let at = stands_at _ _ v.2.reached.standing v.0 in
    let low = lowest-of-state _ _ _ at _ c.lowest_of-a.ensures in (
      search rules,
      _,
      onward _ _ _ _ r.conforming r.joinable _ _ _ _ v.2 _ low (search rules) c.if-a.false _ _ _
          (state-of _ _ _ at _ _ c.move_in-reset.ensures.1) (resets-of _ _ _ at _ _ c.move_in-reset.ensures.0) c.union-resets.ensures,
    )

pub ended-requires-2 : goal.ended-requires-2
ended-requires-2 c = reached-ready _ _ _ c.requires c.loop-taken.invariant.2.reached

pub returns : goal.returns
returns c = (all-done _ _ _ _ _ _ _ _ c.loop-taken.invariant.2 (omega (arith, c.loop-taken.invariant.2.within)) _ c.ended-2.ensures).0
