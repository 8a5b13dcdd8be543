-- `reading::add_member` meets its contract.
use Rattle.reading.proofs.add_member.Goals as goal

pub returns : goal.returns
returns c = record { words = rw (c.union.ensures, c.single.ensures) }
