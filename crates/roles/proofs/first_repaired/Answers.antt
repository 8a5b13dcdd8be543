-- `roles::first_repaired` meets its contract.
use mathlib.Core.Path.{ap}
use mathlib.Core.Option.{Option, some}
use Prim.Native.Nat.{ℕ}
use borrow.Author.Tests.{eq-eqb, ne_eqb}
use Rattle.roles.proofs.first_repaired.Goals as goal

pub returns-then-x-eq0 : goal.returns-then-x-eq0
returns-then-x-eq0 c = let a = c.args in rw (eq-eqb a.x 0 c.if-x-eq0.true) (ap {B = Option ℕ} some c.pand_state.ensures)

pub returns-then-st-eq1 : goal.returns-then-st-eq1
returns-then-st-eq1 c = let a = c.args in
    rw (ne_eqb a.x 0 c.if-x-eq0.false, eq-eqb a.st 1 c.if-st-eq1.true) (ap {B = Option ℕ} some c.pand_state-then-st-eq1.ensures)

pub returns : goal.returns
returns c = let a = c.args in
    rw (ne_eqb a.x 0 c.if-x-eq0.false, ne_eqb a.st 1 c.if-st-eq1.false) (ap {B = Option ℕ} some c.pand_state-2.ensures)
