-- `roles::box_move` meets its contract: one arm for each signal.
use mathlib.Core.Path.{◌≡◌, ◌∙◌, ap}
use mathlib.Core.Option.{some}
use Prim.Native.Nat.{◌-◌}
use Rattle.laws.specs.Sets.{◌∪◌, ◌∖◌, only}
use Rattle.trees.specs.Modules.{plain_move}
use Rattle.roles.proofs.box_move.Goals as goal
use Rattle.roles.proofs.box_move.Goals.{After-single-place}

place : (c : After-single-place) → c.single-place.result ≡ only (c.args.n - c.args.i)
place c = c.single-place.ensures ∙ ap only c.digit.ensures

pub returns-in-Fl : goal.returns-in-Fl
returns-in-Fl c = let p = place (goal.at.returns-in-Fl c).After-single-place in
    rw c.in-Fl.is (c.to.ensures ∙ ap (λ x. some (plain_move x))
    (c.union.ensures ∙ ap (λ x. c.args.s ∪ x) p))

pub returns-in-Up : goal.returns-in-Up
returns-in-Up c = let p = place (goal.at.returns-in-Up c).After-single-place in
    let one = c.minus.ensures ∙ ap (λ x. c.args.s ∖ x) p in
    rw c.in-Up.is (c.to-in-Up.ensures ∙ ap (λ x. some (plain_move x)) (c.minus-in-Up.ensures ∙ ap (λ x. x ∖ 1) one))

pub returns-in-F : goal.returns-in-F
returns-in-F c = rw c.in-F.is

pub returns-in-U : goal.returns-in-U
returns-in-U c = rw c.in-U.is

pub returns-in-R : goal.returns-in-R
returns-in-R c = rw c.in-R.is c.begins.ensures
