-- `treesize::line_size` meets its contract: the walk that counts.
use native.Mathlib.Omega.{arith}
use Rattle.elements.specs.Parts.{element_of}
use Rattle.treesize.proofs.SizeLaws.{bare-few, longer, as_lent}
use Rattle.treesize.proofs.line_size.Goals as goal

pub overflow_add-n : goal.overflow_add-n
overflow_add-n c = omega (arith, c.requires.4.bytes, c.line_bytes-b.ensures, bare-few c.args.words.now c.args.count (element_of c.args.e) c.args.k)

pub emit_states-requires : goal.emit_states-requires
emit_states-requires c = let p = c.requires in
    let few = bare-few c.args.words.now c.args.count (element_of c.args.e) c.args.k in
    let b = c.line_bytes-b.ensures in
    let r = p.4.rows in
    let y = p.4.bytes in
    (p.0, p.1, omega arith, p.2, p.3, record { rows = omega (arith, r); bytes = omega (arith, y, b, few); long = λ z. absurd (omega (arith, z)) })

pub returns : goal.returns
returns c = let a = c.args in (
  longer a.words.now a.count (element_of a.e) a.k _ a.n _ _ _ c.line_bytes-b.ensures c.emit_states.ensures,
  as_lent a.words.now a.count (element_of a.e) a.k _ a.n _ _ _ c.line_bytes-b.ensures c.emit_states.ensures,
)
