-- `writing::put_comp` meets its contract: "first its `act` lines, then `clk`, then `row`".
use Rattle.print.proofs.LaidLaws.{left-parts, part_room, part-put, left-last, last-room}
use Rattle.model.specs.Text.{comp_line}
use Rattle.layout.specs.Image.{comp_of}
use Rattle.measure.specs.Measure.{act_lines, clk_lines}
use Rattle.writing.proofs.Parts.{comp-parts}
use Rattle.writing.proofs.put_comp.Goals as goal

pub put_head-head-requires : goal.put_head-head-requires
put_head-head-requires c =
    let k = comp_of c.args.t.now c.args.i in
    let l0 = left-parts _ _ _ (comp-parts k) c.requires.2 in
    (c.requires.0.long, c.requires.1, part_room (comp_line k) _ l0)

pub put_acts-acts-requires : goal.put_acts-acts-requires
put_acts-acts-requires c =
    let k = comp_of c.args.t.now c.args.i in
    let l0 = left-parts _ _ _ (comp-parts k) c.requires.2 in
    let l1 = part-put (comp_line k) _ l0 c.put_head-head.ensures in
    (c.requires.0.long, c.requires.1, part_room (act_lines k) _ l1)

pub put_clks-clks-requires : goal.put_clks-clks-requires
put_clks-clks-requires c =
    let k = comp_of c.args.t.now c.args.i in
    let l0 = left-parts _ _ _ (comp-parts k) c.requires.2 in
    let l1 = part-put (comp_line k) _ l0 c.put_head-head.ensures in
    let l2 = part-put (act_lines k) _ l1 c.put_acts-acts.ensures in
    (c.requires.0.long, c.requires.1, part_room (clk_lines k) _ l2)

pub put_states-requires : goal.put_states-requires
put_states-requires c =
    let k = comp_of c.args.t.now c.args.i in
    let l0 = left-parts _ _ _ (comp-parts k) c.requires.2 in
    let l1 = part-put (comp_line k) _ l0 c.put_head-head.ensures in
    let l2 = part-put (act_lines k) _ l1 c.put_acts-acts.ensures in
    let l3 = part-put (clk_lines k) _ l2 c.put_clks-clks.ensures in
    (c.requires.0, c.requires.1, last-room l3)

pub returns : goal.returns
returns c =
    let k = comp_of c.args.t.now c.args.i in
    let l0 = left-parts _ _ _ (comp-parts k) c.requires.2 in
    let l1 = part-put (comp_line k) _ l0 c.put_head-head.ensures in
    let l2 = part-put (act_lines k) _ l1 c.put_acts-acts.ensures in
    let l3 = part-put (clk_lines k) _ l2 c.put_clks-clks.ensures in
    left-last l3 c.put_states.ensures
