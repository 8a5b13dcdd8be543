-- `naming::new_length` meets its contract.
use native.Mathlib.Omega.{arith}
use Rattle.answer.specs.Limits.{max_actions}
use Rattle.naminglaws.proofs.SheetLaws.{sheet-most}
use Rattle.naminglaws.proofs.NewText.{new-long}
use Rattle.naming.proofs.new_length.Goals as goal

pub sum_lines-s-requires : goal.sum_lines-s-requires
sum_lines-s-requires c = c.requires

pub overflow_add-length : goal.overflow_add-length
overflow_add-length c = omega (arith, c.names_length-names.ensures, sheet-most c.sum_lines-s.result.declared max_actions)

pub overflow_add-length-2 : goal.overflow_add-length-2
overflow_add-length-2 c = let s = c.sum_lines-s in
    omega (arith, c.names_length-names.ensures, sheet-most s.result.declared max_actions, s.ensures.most, c.requires)

pub returns : goal.returns
returns c = let s = c.sum_lines-s in
    let t = c.args.text.now in
    (s.ensures.set, new-long t _ _ _ s.ensures c.names_length-names.ensures)
