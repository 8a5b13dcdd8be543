-- `orderly::check_orderly` meets its contract: 45, then 18.
use Rattle.iosa.specs.Checks.{clash_among}
use Rattle.layout.specs.Image.{model_of}
use Rattle.parts.proofs.Saying.{exit-first, fine-next}
use Rattle.triggering.specs.Test.{open_fault, unless_passes}
use Rattle.orderly.proofs.check_orderly.Goals as goal

pub returns-in_err-check_closed : goal.returns-in_err-check_closed
returns-in_err-check_closed c = let m = model_of c.args.t.now in
    exit-first _ _ c.from_residual.ensures.1 (open_fault m) (unless_passes m (clash_among 0 m)) c.in_err-check_closed.ensures

pub returns : goal.returns
returns c = let m = model_of c.args.t.now in
    fine-next _ _ (open_fault m) (unless_passes m (clash_among 0 m)) c.check_closed.ensures c.in_ok-check_closed.was c.check_passing.ensures
