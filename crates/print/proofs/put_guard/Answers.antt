-- `print::put_guard` meets its contract.
use mathlib.Core.Path.{sym, ap}
use native.Mathlib.Omega.{arith}
use lib.ListN.{length}
use Rattle.print.proofs.LaidLaws.{put_as}
use Rattle.print.proofs.PrintLaws.{no-guard, some-guard}
use Rattle.print.proofs.put_guard.Goals as goal

pub put_byte-requires : goal.put_byte-requires
put_byte-requires c = omega (arith, c.requires, ap length (no-guard c.args.g c.if-g-eq0.true))

pub returns-then-g-eq0 : goal.returns-then-g-eq0
returns-then-g-eq0 c = put_as c.put_byte.ensures _ (sym (no-guard c.args.g c.if-g-eq0.true))

pub put_decimal-requires : goal.put_decimal-requires
put_decimal-requires c = omega (arith, c.requires, ap length (some-guard c.args.g c.if-g-eq0.false))

pub returns : goal.returns
returns c = put_as c.put_decimal.ensures _ (sym (some-guard c.args.g c.if-g-eq0.false))
