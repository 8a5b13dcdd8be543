-- `roles::time_passes` meets its contract.
use mathlib.Core.Path.{ap}
use mathlib.Core.Option.{Option, some}
use Prim.Native.Nat.{ℕ}
use Rattle.roles.proofs.time_passes.Goals as goal

pub returns-then-st-y : goal.returns-then-st-y
returns-then-st-y c = rw c.if-st-y.true (ap {B = Option ℕ} some c.pand_state.ensures)

pub returns : goal.returns
returns c = rw c.if-st-y.false (ap {B = Option ℕ} some c.pand_state-2.ensures)
