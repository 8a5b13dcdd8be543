-- `admit::check_model` meets its contract: 10 to 14 of each component in turn, then 15 to 17.
use Rattle.iosa.specs.Checks.{fault_from, compatible_of}
use Rattle.layout.specs.Image.{model_of}
use Rattle.parts.proofs.Saying.{says-as, exit-first, fine-next}
use Rattle.admit.proofs.EachInTurn.{accept-turn}
use Rattle.admit.proofs.check_model.Goals as goal

pub returns-in_err-check_components : goal.returns-in_err-check_components
returns-in_err-check_components c = let m = model_of c.args.t.now in
    says-as _ _ _ (accept-turn m) (exit-first _ _ c.from_residual.ensures.1 (fault_from 0 0 m) (compatible_of m) c.in_err-check_components.ensures)

pub returns : goal.returns
returns c = let m = model_of c.args.t.now in
    let each = c.check_components in
    says-as _ _ _ (accept-turn m) (fine-next _ _ (fault_from 0 0 m) (compatible_of m) each.ensures c.in_ok-check_components.was c.check_compatible.ensures)
