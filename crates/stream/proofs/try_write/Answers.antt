-- No more was written than was handed over.
use Rattle.std.proofs.Common.{rules, ◌<◌, ◌^◌, w64}
use Rattle.std.proofs.Math.Facts.{to_z_pos}
use Rattle.stream.proofs.Meanings.{at_most, none_moved}
use Rattle.stream.proofs.try_write.Goals as goal

pub returns-in-Ok : goal.returns-in-Ok
returns-in-Ok g c =
    let small : c.in-Ok.n < 2 ^ 63 = search rules in
    rw (c.meant.ensures, to_z_pos w64 small) (at_most _ _ _ (search rules))

pub returns-in-Err : goal.returns-in-Err
returns-in-Err g c = rw c.meant-in-Err.ensures (none_moved _ _ _)
