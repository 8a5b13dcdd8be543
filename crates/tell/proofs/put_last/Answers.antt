-- `tell::put_last` meets its contract: what is left of the line is known after each call.
use mathlib.Core.List.{◌∷◌}
use Rattle.model.specs.Text.{tab, decimal}
use Rattle.tell.specs.Tell.{verdict_word, ends_with}
use Rattle.print.proofs.LaidLaws.{left-parts, part_room, part-put, left-last, last-room}
use Rattle.tell.proofs.TellLaws.{last-parts}
use Rattle.tell.proofs.put_last.Goals as goal

pub put_verdict-count-requires : goal.put_verdict-count-requires
put_verdict-count-requires c =
    let l0 = left-parts c.args.out.now c.args.at _ (last-parts (ends_with c.args.stable c.args.steps c.args.resets c.args.x)) c.requires.1 in
    part_room (verdict_word c.args.stable) _ l0

pub put_behind-tail-requires : goal.put_behind-tail-requires
put_behind-tail-requires c =
    let l0 = left-parts c.args.out.now c.args.at _ (last-parts (ends_with c.args.stable c.args.steps c.args.resets c.args.x)) c.requires.1 in
    let l1 = part-put (verdict_word c.args.stable) _ l0 c.put_verdict-count.ensures in
    part_room (tab ∷ decimal c.args.steps) _ l1

pub put_tail-requires : goal.put_tail-requires
put_tail-requires c =
    let l0 = left-parts c.args.out.now c.args.at _ (last-parts (ends_with c.args.stable c.args.steps c.args.resets c.args.x)) c.requires.1 in
    let l1 = part-put (verdict_word c.args.stable) _ l0 c.put_verdict-count.ensures in
    let l2 = part-put (tab ∷ decimal c.args.steps) _ l1 c.put_behind-tail.ensures in
    (c.requires.0, last-room l2)

pub returns : goal.returns
returns c =
    let l0 = left-parts c.args.out.now c.args.at _ (last-parts (ends_with c.args.stable c.args.steps c.args.resets c.args.x)) c.requires.1 in
    let l1 = part-put (verdict_word c.args.stable) _ l0 c.put_verdict-count.ensures in
    let l2 = part-put (tab ∷ decimal c.args.steps) _ l1 c.put_behind-tail.ensures in
    left-last l2 c.put_tail.ensures
