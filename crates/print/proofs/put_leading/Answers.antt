-- `print::put_leading` meets its contract.
use mathlib.Core.Path.{refl, sym, ap}
use native.Mathlib.Omega.{arith}
use lib.ListN.{length}
use Rattle.print.proofs.LaidLaws.{nothing_put, put_as}
use Rattle.print.proofs.PrintLaws.{below, reaches}
use Rattle.print.proofs.put_leading.Goals as goal

pub returns-then-n-scale : goal.returns-then-n-scale
returns-then-n-scale c = put_as (nothing_put _ _) _ (sym (below _ _ c.if-n-scale.true))

pub put_byte-requires : goal.put_byte-requires
put_byte-requires c = omega (arith, c.requires.1, ap length (reaches c.args.n c.args.scale _ c.if-n-scale.false refl))

pub returns : goal.returns
returns c = put_as c.put_byte.ensures _ (sym (reaches c.args.n c.args.scale _ c.if-n-scale.false refl))
