-- `roles::be_move` meets its contract: one arm for each signal.
use mathlib.Core.Path.{◌≡◌, ◌∙◌}
use Prim.Native.Nat.{suc, ◌+◌, ◌*◌, ◌/◌, ◌%◌}
use native.Mathlib.Omega.{arith}
use Rattle.roles.proofs.MoveLaws.{move-when, be-told, be-mended}
use Rattle.roles.proofs.be_move.Goals as goal

pub returns-in-Fl : goal.returns-in-Fl
returns-in-Fl c = let a = c.args in let e : 2 * a.k + 1 ≡ suc (2 * a.k) = omega arith in move-when _ _ _ c.then_some.ensures ∙ rw (c.in-Fl.is, e)

pub returns-in-Up : goal.returns-in-Up
returns-in-Up c = let a = c.args in
    let e : 2 * a.k + 1 + 1 ≡ suc (2 * a.k + 1) = omega arith in
    move-when _ _ _ c.then_some-in-Up.ensures ∙ rw (c.in-Up.is, e, c.single-fc.ensures)

pub returns-in-F : goal.returns-in-F
returns-in-F c = let a = c.args in rw c.in-F.is (c.to.ensures ∙ be-told a.k (a.s / 3) (a.s % 3))

pub returns-in-U : goal.returns-in-U
returns-in-U c = let a = c.args in rw c.in-U.is (c.to-in-U.ensures ∙ be-mended a.k (a.s / 3) (a.s % 3))

pub returns-in-R : goal.returns-in-R
returns-in-R c = rw c.in-R.is c.ordered.ensures
