-- `roles::first_fails` meets its contract.
use mathlib.Core.Path.{ap}
use mathlib.Core.Option.{Option, some}
use Prim.Native.Nat.{ℕ}
use borrow.Author.Tests.{eq-eqb, ne_eqb}
use Rattle.roles.proofs.first_fails.Goals as goal

pub returns-then-x-eq1 : goal.returns-then-x-eq1
returns-then-x-eq1 c = let a = c.args in rw (eq-eqb a.x 1 c.if-x-eq1.true) (ap {B = Option ℕ} some c.pand_state.ensures)

pub returns-then-st-y : goal.returns-then-st-y
returns-then-st-y c = let a = c.args in
    rw (ne_eqb a.x 1 c.if-x-eq1.false, c.if-st-y.true) (ap {B = Option ℕ} some c.pand_state-then-st-y.ensures)

pub returns : goal.returns
returns c = let a = c.args in
    rw (ne_eqb a.x 1 c.if-x-eq1.false, c.if-st-y.false) (ap {B = Option ℕ} some c.pand_state-2.ensures)
