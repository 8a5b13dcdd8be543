-- `roundlines::put_long` meets its contract: the kit's digits are put.
use mathlib.Core.Path.{sym, ◌∙◌}
use Rattle.tell.proofs.TellLaws.{room_as, put_as}
use Rattle.roundlines.proofs.Digits.{long-digits}
use Rattle.roundlines.proofs.put_long.Goals as goal

pub put_word-requires : goal.put_word-requires
put_word-requires c = room_as c.args.out.now c.args.at (sym (c.decimal-k.ensures.digits ∙ long-digits _ c.args.n c.ranges.n.fits c.decimal-k.ensures.len)) c.requires

pub returns : goal.returns
returns c = put_as (c.decimal-k.ensures.digits ∙ long-digits _ c.args.n c.ranges.n.fits c.decimal-k.ensures.len) c.put_word.ensures
