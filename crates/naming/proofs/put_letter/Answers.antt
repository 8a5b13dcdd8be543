-- `naming::put_letter` meets its contract.
use mathlib.Core.Path.{◌≡◌, sym, ap}
use native.Mathlib.Omega.{arith}
use lib.ListN.{length}
use Rattle.print.proofs.LaidLaws.{put_as, nothing_put}
use Rattle.naminglaws.specs.Naming.{letter_part}
use Rattle.naminglaws.proofs.LineLaws.{letter-there}
use Rattle.naming.proofs.put_letter.Goals as goal

pub put_byte-requires : goal.put_byte-requires
put_byte-requires c = let t = c.if-place-gt0.true in
    omega (arith, c.requires, ap length (letter-there c.args.place (λ e. omega (arith, t))))

pub returns-then-place-gt0 : goal.returns-then-place-gt0
returns-then-place-gt0 c = let t = c.if-place-gt0.true in
    put_as c.put_byte.ensures _ (sym (letter-there c.args.place (λ e. omega (arith, t))))

pub returns : goal.returns
returns c = let a = c.args in
    let z : a.place ≡ 0 = omega (arith, c.if-place-gt0.false) in
    put_as (nothing_put a.out.now a.to) _ (ap letter_part (sym z))
