-- `firing::guarded_move` meets its contract: the row found in the state's range is the clock's row of the component.
use Rattle.moves.proofs.OneRow.{gone-as}
use Rattle.firing.proofs.GuardRow.{guard-found, guarded-by}
use Rattle.firing.proofs.guarded_move.Goals as goal

pub move_by-requires : goal.move_by-requires
move_by-requires c = (c.requires.0, guard-found _ c.requires.0 _ _ _ c.requires.1 c.requires.2 _ c.clock_row-f.ensures)

pub returns : goal.returns
returns c = gone-as (guarded-by _ c.requires.0 _ _ _ c.requires.1 c.requires.2 _ c.clock_row-f.ensures) c.move_by.ensures
