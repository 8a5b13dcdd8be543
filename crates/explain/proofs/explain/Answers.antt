-- `explain::explain` meets its contract: 24, or what is printed at the front.
use native.Mathlib.Omega.{arith}
use Rattle.whys.specs.Explanation.{explanation_of}
use Rattle.explain.proofs.Called.{too_short_lem, filled, of-text}
use Rattle.explain.proofs.explain.Goals as goal

pub returns-then-out-lt-EXPLANATION : goal.returns-then-out-lt-EXPLANATION
returns-then-out-lt-EXPLANATION c = let text = c.args.text.now in
    let old = c.args.out.now in
    of-text text old old _ (too_short_lem old (explanation_of text) _ (omega (arith, c.if-out-lt-EXPLANATION.true)) c.too_short.ensures)

pub put_text-requires : goal.put_text-requires
put_text-requires c = omega (arith, c.if-out-lt-EXPLANATION.false)

pub returns : goal.returns
returns c = let text = c.args.text.now in
    let old = c.args.out.now in
    of-text text old _ _ (filled old (explanation_of text) _ _ (omega (arith, c.if-out-lt-EXPLANATION.false)) c.put_text.ensures)
