-- `roles::second_fails` meets its contract.
use mathlib.Core.Path.{ap}
use mathlib.Core.Option.{Option, some}
use Prim.Native.Nat.{ℕ}
use borrow.Author.Tests.{eq-eqb, ne_eqb}
use Rattle.roles.proofs.second_fails.Goals as goal

pub returns-then-y-eq1 : goal.returns-then-y-eq1
returns-then-y-eq1 c = let a = c.args in rw (eq-eqb a.y 1 c.if-y-eq1.true) (ap {B = Option ℕ} some c.pand_state.ensures)

pub returns-then-st-x : goal.returns-then-st-x
returns-then-st-x c = let a = c.args in
    rw (ne_eqb a.y 1 c.if-y-eq1.false, c.if-st-x.true) (ap {B = Option ℕ} some c.pand_state-then-st-x.ensures)

pub returns-then-st-eq3 : goal.returns-then-st-eq3
returns-then-st-eq3 c = let a = c.args in
    rw (ne_eqb a.y 1 c.if-y-eq1.false, c.if-st-x.false, eq-eqb a.st 3 c.if-st-eq3.true)
    (ap {B = Option ℕ} some c.pand_state-then-st-eq3.ensures)

pub returns : goal.returns
returns c = let a = c.args in
    rw (ne_eqb a.y 1 c.if-y-eq1.false, c.if-st-x.false, ne_eqb a.st 3 c.if-st-eq3.false)
    (ap {B = Option ℕ} some c.pand_state-2.ensures)
