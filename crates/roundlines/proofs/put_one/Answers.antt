-- `roundlines::put_one` meets its contract.
use mathlib.Core.Path.{sym, ◌∙◌}
use mir.ValLaws.{to_z-of_z}
use mir.Syntax.{w64}
use Rattle.iosa.specs.TimedExactly.{value_of}
use Rattle.print.proofs.LaidLaws.{nothing_put}
use Rattle.tell.proofs.TellLaws.{room_as, put_as}
use Rattle.roundlines.proofs.RoundLaws.{no-clock, clock-as}
use Rattle.roundlines.proofs.put_one.Goals as goal

pub returns-then-not-has : goal.returns-then-not-has
returns-then-not-has c = let a = c.args in
    put_as (sym (no-clock a.d a.values.now a.x (sym c.has.ensures ∙ c.if-not-has.true))) (nothing_put _ _)

pub put_clock-requires : goal.put_clock-requires
put_clock-requires c = let a = c.args in
    let e = to_z-of_z w64 (value_of a.values.now a.x) (record { sfits = c.v-1.given }) in
    room_as a.out.now a.at
    (clock-as a.d a.values.now a.x (sym c.has.ensures ∙ c.if-not-has.false) _ c.size-n.result e c.size-n.ensures)
    c.requires.2

pub returns : goal.returns
returns c = let a = c.args in
    let e = to_z-of_z w64 (value_of a.values.now a.x) (record { sfits = c.v-1.given }) in
    put_as
    (sym (clock-as a.d a.values.now a.x (sym c.has.ensures ∙ c.if-not-has.false) _ c.size-n.result e c.size-n.ensures))
    c.put_clock.ensures
