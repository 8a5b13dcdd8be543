-- `leads::learn_row` meets its contract.
use Rattle.leads.proofs.learn_row.Goals as goal

pub returns : goal.returns
returns c = let p = c.pair_of-p.ensures in rw (p.to, p.new) at c.cross.ensures
