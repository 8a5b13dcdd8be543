-- `orderly::check_passing` meets its contract: nothing where the test passes, and else what check 18 says.
use mathlib.Core.Path.{sym, ◌∙◌}
use Rattle.iosa.specs.Checks.{clash_among}
use Rattle.layout.specs.Image.{model_of}
use Rattle.parts.proofs.Saying.{says-fine, says-as}
use Rattle.orderly.proofs.Checking.{passed, failed}
use Rattle.orderly.proofs.check_passing.Goals as goal

pub returns-then-passes : goal.returns-then-passes
returns-then-passes c = let m = model_of c.args.t.now in
    says-fine _ (passed m (clash_among 0 m) (sym c.passes.ensures ∙ c.if-passes.true))

pub returns : goal.returns
returns c = let m = model_of c.args.t.now in
    says-as _ _ _ (failed m (clash_among 0 m) (sym c.passes.ensures ∙ c.if-passes.false)) c.check_meeting.ensures
