-- `repair::repaired`: counted, then written.
use mathlib.Core.Path.{◌∙◌}
use native.Mathlib.Omega.{arith}
use Rattle.layout.proofs.ImageIsSane.{image-is-sane}
use Rattle.layout.proofs.RowsOfRange.{well-formed}
use Rattle.repair.proofs.Counted.{dry-roomy, dry-rows, dry-list, rows_fit, needed-is, room-there, no-room-there, wet-roomy, wet-list, size-there}
use Rattle.repair.proofs.Called.{no_room, too-big, fine-well, done}
use Rattle.repair.proofs.repaired.Goals as goal

pub text_length-bytes-requires : goal.text_length-bytes-requires
text_length-bytes-requires c = image-is-sane _ c.requires

pub walk-n-requires : goal.walk-n-requires
walk-n-requires c = let im = c.requires in
    (im, dry-roomy _ (well-formed _ im) _ _ c.text_length-bytes.ensures)

pub overflow_mul-needed : goal.overflow_mul-needed
overflow_mul-needed c = let im = c.requires in
    let wf = well-formed _ im in
    let n = c.walk-n.result in
    let eb = c.text_length-bytes.ensures in
    omega (arith, rows_fit _ wf _ _ eb n _ c.walk-n.ensures)

pub returns-then-list-needed : goal.returns-then-list-needed
returns-then-list-needed c = let im = c.requires in
    let wf = well-formed _ im in
    let n = c.walk-n.result in
    let eb = c.text_length-bytes.ensures in
    no_room _ _ im _ _ _ c.refused.ensures (needed-is _ wf _ _ eb n _ c.walk-n.ensures)
    (no-room-there _ wf _ _ eb n _ c.walk-n.ensures c.if-list-needed.true) (dry-list _ wf _ _ eb n _ c.walk-n.ensures)

pub overflow_add-rows : goal.overflow_add-rows
overflow_add-rows c = let im = c.requires in
    let wf = well-formed _ im in
    let n = c.walk-n.result in
    let eb = c.text_length-bytes.ensures in
    omega (arith, c.row_count.ensures, wf.rows, rows_fit _ wf _ _ eb n _ c.walk-n.ensures)

pub returns-then-too_large : goal.returns-then-too_large
returns-then-too_large c = let im = c.requires in
    let wf = well-formed _ im in
    let n = c.walk-n.result in
    let eb = c.text_length-bytes.ensures in
    let room = room-there _ wf _ _ eb n _ c.walk-n.ensures c.if-list-needed.false in
    too-big _ _ im room _ _ c.refused-then-too_large.ensures (size-there _ wf _ _ eb n _ c.walk-n.ensures _ _ c.row_count.ensures
    c.too_large.ensures ∙ c.if-too_large.true) (dry-list _ wf _ _ eb n _ c.walk-n.ensures)

pub walk-requires : goal.walk-requires
walk-requires c = let im = c.requires in
    let wf = well-formed _ im in
    let n = c.walk-n.result in
    let eb = c.text_length-bytes.ensures in
    (im, wet-roomy _ wf _ _ eb n _ c.walk-n.ensures c.if-list-needed.false)

pub mend-requires : goal.mend-requires
mend-requires c = let im = c.requires in
    let wf = well-formed _ im in
    let n = c.walk-n.result in
    let eb = c.text_length-bytes.ensures in
    let room = room-there _ wf _ _ eb n _ c.walk-n.ensures
    c.if-list-needed.false in
    let h = size-there _ wf _ _ eb n _ c.walk-n.ensures _ _ c.row_count.ensures
    c.too_large.ensures ∙ c.if-too_large.false in
    (im, fine-well _ c.args.list.now im room h, dry-rows _ wf _ _ eb n _ c.walk-n.ensures)

pub returns : goal.returns
returns c = let im = c.requires in
    let wf = well-formed _ im in
    let n = c.walk-n.result in
    let eb = c.text_length-bytes.ensures in
    let left = c.if-list-needed.false in
    let room = room-there _ wf _ _ eb n _ c.walk-n.ensures left in
    let h = size-there _ wf _ _ eb n _ c.walk-n.ensures _ _
    c.row_count.ensures
    c.too_large.ensures
    ∙ c.if-too_large.false in
    done _ _ im room h _ _ _ (dry-rows _ wf _ _ eb n _ c.walk-n.ensures) c.mend.ensures
    (wet-list _ wf _ _ eb n _ c.walk-n.ensures left _ _ c.walk.ensures)
