-- No more was read than fits, and what stands before the place stays.
use Rattle.std.proofs.Common.{rules, ◌-◌, ◌<◌, ◌^◌, length, w64}
use Rattle.std.proofs.Math.Facts.{to_z_pos}
use borrow.Rule.Slice.PartMut.{take_put}
use Rattle.stream.proofs.Meanings.{at_most, none_moved}
use Rattle.stream.proofs.try_read.Goals as goal

pub returns-in-Ok : goal.returns-in-Ok
returns-in-Ok g c =
    let small : c.in-Ok.n < 2 ^ 63 = search rules in
    record {
      most = rw (c.meant.ensures, to_z_pos w64 small) (at_most _ _ _ (search rules));
      kept = take_put c.args.from (length c.args.buf.now - c.args.from) c.args.buf.now c.read.new.buf c.requires;
    }

pub returns-in-Err : goal.returns-in-Err
returns-in-Err g c = record { most = rw c.meant-in-Err.ensures (none_moved _ _ _); kept = take_put c.args.from (length c.args.buf.now - c.args.from) c.args.buf.now c.read.new.buf c.requires }
