-- `tell::put_verdict` meets its contract.
use mathlib.Core.Path.{sym}
use Rattle.tell.proofs.TellLaws.{room_as, put_as, verdict-stable, verdict-unsettled}
use Rattle.tell.proofs.put_verdict.Goals as goal

pub put_word-requires : goal.put_word-requires
put_word-requires c = room_as c.args.out.now c.args.at (verdict-stable c.args.stable c.if-stable.true) c.requires

pub returns-then-stable : goal.returns-then-stable
returns-then-stable c = put_as (sym (verdict-stable c.args.stable c.if-stable.true)) c.put_word.ensures

pub put_word-requires-2 : goal.put_word-requires-2
put_word-requires-2 c = room_as c.args.out.now c.args.at (verdict-unsettled c.args.stable c.if-stable.false) c.requires

pub returns : goal.returns
returns c = put_as (sym (verdict-unsettled c.args.stable c.if-stable.false)) c.put_word-2.ensures
