-- `orderly::check_else` meets its contract: 45, then the refusal of check 18 where the test fails, and else nothing.
use mathlib.Core.Path.{sym, ◌∙◌}
use Rattle.iosa.specs.Checks.{clash_among}
use Rattle.layout.specs.Image.{model_of}
use Rattle.parts.proofs.Saying.{says-fine, says-as, exit-first, fine-next}
use Rattle.triggering.specs.Test.{open_fault, unless_passes}
use Rattle.orderly.proofs.Checking.{passed, failed}
use Rattle.orderly.proofs.check_else.Goals as goal

pub returns-in_err-check_closed : goal.returns-in_err-check_closed
returns-in_err-check_closed c = let m = model_of c.args.table.now in
    exit-first _ _ c.from_residual.ensures.1 (open_fault m) (unless_passes m (clash_among 0 m)) c.in_err-check_closed.ensures

pub returns-then-not-passes : goal.returns-then-not-passes
returns-then-not-passes c = let m = model_of c.args.table.now in
    let same = failed m (clash_among 0 m) (sym c.passes.ensures ∙ c.if-not-passes.true) in
    fine-next _ _ (open_fault m) (unless_passes m (clash_among 0 m)) c.check_closed.ensures c.in_ok-check_closed.was (says-as _ _ _ same c.requires.2)

pub returns : goal.returns
returns c = let m = model_of c.args.table.now in
    let p = unless_passes m (clash_among 0 m) in
    let none = passed m (clash_among 0 m) (sym c.passes.ensures ∙ c.if-not-passes.false) in
    fine-next _ _ (open_fault m) p c.check_closed.ensures c.in_ok-check_closed.was (says-fine p none)
