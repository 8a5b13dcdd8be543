-- `admit::check_compatible` meets its contract: 15, 16 and 17, each after those before it were fine.
use mathlib.Core.Option.{Option}
use Rattle.laws.specs.Search.{or_else}
use Rattle.answer.specs.Told.{Told}
use Rattle.answer.specs.Told.{Checked}
use Rattle.model.specs.Model.{Model}
use Rattle.iosa.specs.Checks.{compatible_of}
use Rattle.layout.specs.Image.{model_of}
use Rattle.pairs.specs.declared.Shared.TheVariants.{Outputs, Clocks, Urgency}
use Rattle.pairs.specs.Clashes.{shared_fault}
use Rattle.parts.specs.Faults.{Says}
use Rattle.parts.proofs.Saying.{says-as, exit-first, fine-next}
use Rattle.admit.proofs.EachInTurn.{compatible-turn}
use Rattle.admit.proofs.check_compatible.Goals as goal
use Rattle.admit.proofs.check_compatible.Goals.{In_ok-check_shared}

-- 16 and 17, and 15 before them
abbrev later : Model → Option Told
later m = or_else (shared_fault Clocks m) (shared_fault Urgency m)

asked : (m : Model) (r : Checked) → Says r (or_else (shared_fault Outputs m) (later m)) → Says r (compatible_of m)
asked m r s = says-as r _ _ (compatible-turn m) s

-- 15 has passed
past-15 : (c : In_ok-check_shared) (r : Checked) → Says r (later (model_of c.args.t.now)) → Says r (compatible_of (model_of c.args.t.now))
past-15 c r s =
    let m = model_of c.args.t.now in
    asked m r (fine-next _ r (shared_fault Outputs m) (later m) c.check_shared.ensures c.in_ok-check_shared.was s)

pub returns-in_err-check_shared : goal.returns-in_err-check_shared
returns-in_err-check_shared c = let m = model_of c.args.t.now in
    asked m _ (exit-first _ _ c.from_residual.ensures.1 (shared_fault Outputs m) (later m) c.in_err-check_shared.ensures)

pub returns-in_err-check_shared-2 : goal.returns-in_err-check_shared-2
returns-in_err-check_shared-2 c = let m = model_of c.args.t.now in
    past-15 (goal.at.returns-in_err-check_shared-2 c).In_ok-check_shared _
    (exit-first _ _ c.from_residual-in_err-check_shared-2.ensures.1 (shared_fault Clocks m) (shared_fault Urgency m) c.in_err-check_shared-2.ensures)

-- and 16
pub returns : goal.returns
returns c = let m = model_of c.args.t.now in
    past-15 (goal.at.returns c).In_ok-check_shared _
    (fine-next _ _ (shared_fault Clocks m) (shared_fault Urgency m) c.check_shared-2.ensures c.in_ok-check_shared-2.was c.check_shared-3.ensures)
