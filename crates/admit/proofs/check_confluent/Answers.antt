-- `admit::check_confluent` meets its contract: 10 to 17 of the model, then 18.
use Rattle.iosa.specs.Checks.{accept_of, clash_among, confluent_of}
use Rattle.layout.specs.Image.{model_of}
use Rattle.parts.proofs.Saying.{exit-first, fine-next, fine-none}
use Rattle.admit.proofs.check_confluent.Goals as goal

pub returns-in_err-check_model : goal.returns-in_err-check_model
unfolding confluent_of
returns-in_err-check_model c = let m = model_of c.args.t.now in
    exit-first _ _ c.from_residual.ensures.1 (accept_of m) (clash_among 0 m) c.in_err-check_model.ensures

pub check_meeting-requires : goal.check_meeting-requires
check_meeting-requires c = (c.requires, fine-none _ c.in_ok-check_model.ensures)

pub returns : goal.returns
unfolding confluent_of
returns c = let m = model_of c.args.t.now in
    fine-next _ _ (accept_of m) (clash_among 0 m) c.check_model.ensures c.in_ok-check_model.was c.check_meeting.ensures
