-- `words::state_of` meets its contract: the places passed hold the numbers of the bytes.
use mathlib.Core.Path.{refl, ◌∙◌}
use native.Mathlib.Omega.{arith}
use lib.ListN.{length-set}
use Rattle.words.proofs.Filled.{filled, made}
use Rattle.words.proofs.state_of.Goals as goal

pub loop-i-init : goal.loop-i-init
loop-i-init c = (omega arith, refl, λ k l. absurd (omega arith))

pub loop-i-preserved : goal.loop-i-preserved
loop-i-preserved c = let at = c.loop-i in
    let bytes = c.args.bytes.now in (
      omega arith,
      length-set at.parts at.i c.part.result ∙ at.invariant.1,
      filled bytes at.parts at.i c.part.result (omega (arith, at.invariant.1)) c.part.ensures at.invariant.2,
    )

pub returns : goal.returns
returns c = let at = c.loop-i in
    made c.args.bytes.now at.parts at.i at.invariant.1 (omega arith) at.invariant.2
