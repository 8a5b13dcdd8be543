-- `after::room_check` meets its contract.
use Rattle.after.proofs.Order.{room-short, room_fits}
use Rattle.after.proofs.room_check.Goals as goal

pub returns-then-room-budget : goal.returns-then-room-budget
returns-then-room-budget c = room-short _ _ c.if-room-budget.true _ c.short_trace.ensures

pub returns : goal.returns
returns c = room_fits _ _ c.if-room-budget.false
