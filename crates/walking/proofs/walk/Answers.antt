-- `walking::walk` meets its contract: what is left of the path from here is what there was from the start.
use mathlib.Core.Path.{◌≡◌, sym, ◌∙◌, ap}
use Prim.Native.Nat.{ℕ, ◌+◌, ◌*◌, ◌/◌, ◌%◌, ◌<◌, ◌≤◌}
use native.Mathlib.Omega.{arith}
use lib.ListN.{length}
use Rattle.walking.specs.Walks.{not_possible_at}
use Rattle.walking.proofs.Going.{going-first, going_on, going-stopped, going-odd, going-through, says-stops, says-through}
use Rattle.walking.proofs.walk.Goals as goal

-- two bytes for each step, and one more at an odd end
two_there : (n i : ℕ) → i < n / 2 → 2 * i + 1 < n
two_there n i h = omega arith

half : (n i : ℕ) → i ≤ n / 2 → n / 2 ≤ i → i ≡ n / 2
half n i h k = omega arith

odd-end : (n i : ℕ) → i ≡ n / 2 → n % 2 ≡ 1 → 2 * i + 1 ≡ n
odd-end n i h k = omega arith

even-end : (n i : ℕ) → i ≡ n / 2 → (n % 2 ≡ 1 → ⊥) → 2 * i ≡ n
even-end n i h k = omega arith

pub loop-i-init : goal.loop-i-init
loop-i-init c = let p = c.requires in going-first _ _ p.0 p.1 _ c.start_state-cur.ensures

pub step-requires : goal.step-requires
step-requires c = c.loop-i.invariant.ready

pub returns-in_default : goal.returns-in_default
returns-in_default c = let two = two_there (length c.args.path.now) c.loop-i.i c.loop-i-test.true in
    says-stops _ _ (going-stopped _ _ _ _ c.loop-i.invariant two c.in_default.ensures) _ c.not_possible.ensures

pub loop-i-preserved : goal.loop-i-preserved
loop-i-preserved c = let two = two_there (length c.args.path.now) c.loop-i.i c.loop-i-test.true in
    going_on _ _ _ _ c.loop-i.invariant two _ c.in-Some.ensures

pub returns-then-path-eq1 : goal.returns-then-path-eq1
returns-then-path-eq1 c = let n = length c.args.path.now in
    let e = half n c.loop-i.i c.loop-i.auto.i-end c.loop-i-test.false in
    says-stops _ c.loop-i.i (going-odd _ _ _ _ c.loop-i.invariant (odd-end n c.loop-i.i e c.if-path-eq1.true)) _
    (c.not_possible-then-path-eq1.ensures ∙ ap not_possible_at (sym e))

pub returns : goal.returns
returns c = let n = length c.args.path.now in
    let e = half n c.loop-i.i c.loop-i.auto.i-end c.loop-i-test.false in
    says-through _ _ (going-through _ _ _ _ c.loop-i.invariant (even-end n c.loop-i.i e c.if-path-eq1.false)) c.loop-i.invariant.zeros
