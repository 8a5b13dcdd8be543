-- `explain::explained` meets its contract: 24, or what is printed at the front.
use native.Mathlib.Omega.{arith}
use Rattle.layout.specs.Image.{model_of}
use Rattle.whys.specs.Explanation.{explain_model}
use Rattle.explain.proofs.Called.{too_short_lem, filled}
use Rattle.explain.proofs.explained.Goals as goal

pub returns-then-out-lt-EXPLANATION : goal.returns-then-out-lt-EXPLANATION
returns-then-out-lt-EXPLANATION c = too_short_lem c.args.out.now (explain_model (model_of c.args.t.now)) _ (omega (arith, c.if-out-lt-EXPLANATION.true)) c.too_short.ensures

pub put_model-requires : goal.put_model-requires
put_model-requires c = let p = c.requires in (p.0, p.1, omega (arith, c.if-out-lt-EXPLANATION.false))

pub returns : goal.returns
returns c = filled c.args.out.now (explain_model (model_of c.args.t.now)) _ _ (omega (arith, c.if-out-lt-EXPLANATION.false)) c.put_model.ensures
