-- `tell::put_step` meets its contract: what is left of the line is known after each call.
use mathlib.Core.List.{◌∷◌}
use Rattle.model.specs.Text.{tab, decimal}
use Rattle.answering.specs.Report.{step_word}
use Rattle.tell.specs.Tell.{gone_with}
use Rattle.print.proofs.LaidLaws.{left-parts, part_room, part-put, left-last, last-room}
use Rattle.tell.proofs.TellLaws.{step-parts}
use Rattle.tell.proofs.put_step.Goals as goal

pub put_word-count-requires : goal.put_word-count-requires
put_word-count-requires c =
    let l0 = left-parts c.args.out.now c.args.at _ (step-parts c.args.n c.args.action (gone_with c.args.resets c.args.x)) c.requires.1 in
    part_room step_word _ l0

pub put_behind-act-requires : goal.put_behind-act-requires
put_behind-act-requires c =
    let l0 = left-parts c.args.out.now c.args.at _ (step-parts c.args.n c.args.action (gone_with c.args.resets c.args.x)) c.requires.1 in
    let l1 = part-put step_word _ l0 c.put_word-count.ensures in
    part_room (tab ∷ decimal c.args.n) _ l1

pub put_behind-tail-requires : goal.put_behind-tail-requires
put_behind-tail-requires c =
    let l0 = left-parts c.args.out.now c.args.at _ (step-parts c.args.n c.args.action (gone_with c.args.resets c.args.x)) c.requires.1 in
    let l1 = part-put step_word _ l0 c.put_word-count.ensures in
    let l2 = part-put (tab ∷ decimal c.args.n) _ l1 c.put_behind-act.ensures in
    part_room (tab ∷ decimal c.args.action) _ l2

pub put_tail-requires : goal.put_tail-requires
put_tail-requires c =
    let l0 = left-parts c.args.out.now c.args.at _ (step-parts c.args.n c.args.action (gone_with c.args.resets c.args.x)) c.requires.1 in
    let l1 = part-put step_word _ l0 c.put_word-count.ensures in
    let l2 = part-put (tab ∷ decimal c.args.n) _ l1 c.put_behind-act.ensures in
    let l3 = part-put (tab ∷ decimal c.args.action) _ l2 c.put_behind-tail.ensures in
    (c.requires.0, last-room l3)

pub returns : goal.returns
returns c =
    let l0 = left-parts c.args.out.now c.args.at _ (step-parts c.args.n c.args.action (gone_with c.args.resets c.args.x)) c.requires.1 in
    let l1 = part-put step_word _ l0 c.put_word-count.ensures in
    let l2 = part-put (tab ∷ decimal c.args.n) _ l1 c.put_behind-act.ensures in
    let l3 = part-put (tab ∷ decimal c.args.action) _ l2 c.put_behind-tail.ensures in
    left-last l3 c.put_tail.ensures
