-- `report::report` meets its contract.
use native.Mathlib.Omega.{arith}
use Rattle.report.proofs.Filled.{too_short_lem, filled}
use Rattle.report.proofs.report.Goals as goal

pub returns : goal.returns
returns c = filled c.args.input.now c.args.out.now _ _ (omega (arith, c.if-out-lt-REPORT.false)) c.put_report.ensures

pub returns-then-out-lt-REPORT : goal.returns-then-out-lt-REPORT
returns-then-out-lt-REPORT c = too_short_lem c.args.input.now c.args.out.now (omega (arith, c.if-out-lt-REPORT.true))
