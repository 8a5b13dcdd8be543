-- `names::put_number` meets its contract.
use mathlib.Core.Path.{sym, ap}
use native.Mathlib.Omega.{arith}
use lib.ListN.{length}
use Rattle.print.proofs.LaidLaws.{put_as, nothing_put}
use Rattle.cutlaws.specs.Cutting.{number_part}
use Rattle.names.proofs.put_number.Goals as goal

pub put_decimal-requires : goal.put_decimal-requires
put_decimal-requires c = omega (arith, c.requires, ap (λ a. length (number_part a)) c.in-Some.is)

pub returns-in-Some : goal.returns-in-Some
returns-in-Some c = put_as c.put_decimal.ensures _ (ap number_part (sym c.in-Some.is))

pub returns-in-None : goal.returns-in-None
returns-in-None c = let a = c.args in
    put_as (nothing_put a.out.now a.to) _ (ap number_part (sym c.in-None.is))
