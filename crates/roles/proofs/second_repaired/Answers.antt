-- `roles::second_repaired` meets its contract.
use mathlib.Core.Path.{ap}
use mathlib.Core.Option.{Option, some}
use Prim.Native.Nat.{ℕ}
use borrow.Author.Tests.{eq-eqb, ne_eqb}
use Rattle.roles.proofs.second_repaired.Goals as goal

pub returns-then-y-eq0 : goal.returns-then-y-eq0
returns-then-y-eq0 c = let a = c.args in rw (eq-eqb a.y 0 c.if-y-eq0.true) (ap {B = Option ℕ} some c.pand_state.ensures)

pub returns-then-st : goal.returns-then-st
returns-then-st c = let a = c.args in
    rw (ne_eqb a.y 0 c.if-y-eq0.false, c.if-st.true) (ap {B = Option ℕ} some c.pand_state-then-st.ensures)

pub returns-then-st-eq2 : goal.returns-then-st-eq2
returns-then-st-eq2 c = let a = c.args in
    rw (ne_eqb a.y 0 c.if-y-eq0.false, c.if-st.false, eq-eqb a.st 2 c.if-st-eq2.true)
    (ap {B = Option ℕ} some c.pand_state-then-st-eq2.ensures)

pub returns : goal.returns
returns c = let a = c.args in
    rw (ne_eqb a.y 0 c.if-y-eq0.false, c.if-st.false, ne_eqb a.st 2 c.if-st-eq2.false)
    (ap {B = Option ℕ} some c.pand_state-2.ensures)
