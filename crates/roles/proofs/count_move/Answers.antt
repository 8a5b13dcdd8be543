-- `roles::count_move` meets its contract: one arm for each role.
use mathlib.Core.Path.{◌∙◌, ap}
use mathlib.Core.Option.{some}
use Prim.Native.Nat.{◌/◌, ◌%◌}
use Rattle.trees.specs.Modules.{plain_move}
use Rattle.roles.proofs.MoveLaws.{tells-f, tells-u}
use Rattle.roles.proofs.count_move.Goals as goal

pub returns-in-OwnF : goal.returns-in-OwnF
returns-in-OwnF c = let a = c.args in
    rw (c.in_ok-r.was, c.in-OwnF.is) (c.to.ensures ∙ tells-f a.n (a.s / 6) (a.s / 3 % 2) (a.s % 3))

pub returns-in-OwnU : goal.returns-in-OwnU
returns-in-OwnU c = let a = c.args in
    rw (c.in_ok-r.was, c.in-OwnU.is) (c.to-in-OwnU.ensures ∙ tells-u a.n (a.s / 6) (a.s / 3 % 2) (a.s % 3))

pub returns-in-F0 : goal.returns-in-F0
returns-in-F0 c = rw (c.in_ok-r.was, c.in-F0.is) (c.to-in-F0.ensures ∙ ap (λ x. some (plain_move x)) c.one_more.ensures)

pub returns-in-U0 : goal.returns-in-U0
returns-in-U0 c = rw (c.in_ok-r.was, c.in-U0.is) (c.to-in-U0.ensures ∙ ap (λ x. some (plain_move x)) c.one_less.ensures)

pub returns-in-F1 : goal.returns-in-F1
returns-in-F1 c = rw (c.in_ok-r.was, c.in-F1.is) (c.to-in-F1.ensures ∙ ap (λ x. some (plain_move x)) c.one_more-in-F1.ensures)

pub returns-in-U1 : goal.returns-in-U1
returns-in-U1 c = rw (c.in_ok-r.was, c.in-U1.is) (c.to-in-U1.ensures ∙ ap (λ x. some (plain_move x)) c.one_less-in-U1.ensures)

pub returns-in-Tick : goal.returns-in-Tick
returns-in-Tick c = rw (c.in_ok-r.was, c.in-Tick.is) c.to-in-Tick.ensures

pub returns-in_err-r : goal.returns-in_err-r
returns-in_err-r c = rw (c.from_residual.ensures, c.in_err-r.was)
