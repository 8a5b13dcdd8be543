-- `marks::close_sets` meets its contract.
use Rattle.marks.proofs.Going.{closed-sets}
use borrow.Author.Rules.{rules}
use Rattle.marks.proofs.close_sets.Goals as goal

pub close-requires : goal.close-requires
close-requires c = (search rules, c.table_of-table.ensures.idle)

pub returns : goal.returns
returns c = closed-sets _ _ c.busy-w.ensures _ c.table_of-table.ensures _ c.close.ensures _ c.sets_of.ensures
