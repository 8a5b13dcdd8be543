-- `distributions::hex` meets its contract.
use Prim.Native.Nat.{◌<◌}
use native.Mathlib.Omega.{arith}
use Rattle.distributions.proofs.HexLaws.{digits-none, digits-all, digits-end, digits-small, digits-stop, digits_more}
use Rattle.distributions.proofs.hex.Goals as goal
use Rattle.distributions.proofs.hex.Goals.{Else-d-ge16}

-- where a digit is read
small : (c : Else-d-ge16) → c.loop-k.n < 1152921504606846976
small c =
    digits-small _ _ _ _ _ c.loop-k.invariant c.loop-k-test.true

pub loop-k-init : goal.loop-k-init
loop-k-init c = digits-none _ _

pub returns-then-text-at : goal.returns-then-text-at
returns-then-text-at c = digits-end _ _ _ _ _ c.loop-k.invariant c.loop-k-test.true c.if-text-at.true

pub returns-then-d-ge16 : goal.returns-then-d-ge16
returns-then-d-ge16 c = digits-stop _ _ _ _ _ c.loop-k.invariant c.loop-k-test.true c.if-text-at.false _ c.digit_of-d.ensures c.if-d-ge16.true

pub overflow_mul-n : goal.overflow_mul-n
overflow_mul-n c = omega (arith, small c)

pub overflow_add-n : goal.overflow_add-n
overflow_add-n c = omega (arith, small c, c.if-d-ge16.false)

pub loop-k-preserved : goal.loop-k-preserved
loop-k-preserved c = digits_more _ _ _ _ _ c.loop-k.invariant c.loop-k-test.true c.if-text-at.false _ c.digit_of-d.ensures c.if-d-ge16.false

pub returns : goal.returns
returns c = digits-all _ _ _ _ _ c.loop-k.invariant c.loop-k-test.false
