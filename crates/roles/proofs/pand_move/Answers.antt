-- `roles::pand_move` meets its contract: one arm for each role.
use mathlib.Core.Path.{◌∙◌, ap}
use Prim.Native.Nat.{◌%◌}
use lib.Dec.{eqb}
use Rattle.laws.specs.Search.{map_some}
use Rattle.trees.specs.Modules.{plain_move}
use Rattle.roles.proofs.MoveLaws.{map-when}
use Rattle.roles.proofs.pand_move.Goals as goal

pub returns-in-OwnF : goal.returns-in-OwnF
returns-in-OwnF c = let a = c.args in
    rw (c.in_ok-r.was, c.in-OwnF.is) (c.to.ensures ∙ map-when (eqb (a.s % 5) 1) _ _ c.pand_state.ensures)

pub returns-in-OwnU : goal.returns-in-OwnU
returns-in-OwnU c = let a = c.args in
    rw (c.in_ok-r.was, c.in-OwnU.is) (c.to-in-OwnU.ensures ∙ map-when (eqb (a.s % 5) 3) _ _ c.pand_state-in-OwnU.ensures)

pub returns-in-F0 : goal.returns-in-F0
returns-in-F0 c = rw (c.in_ok-r.was, c.in-F0.is) (c.to-in-F0.ensures ∙ ap (map_some plain_move) c.first_fails.ensures)

pub returns-in-U0 : goal.returns-in-U0
returns-in-U0 c = rw (c.in_ok-r.was, c.in-U0.is) (c.to-in-U0.ensures ∙ ap (map_some plain_move) c.first_repaired.ensures)

pub returns-in-F1 : goal.returns-in-F1
returns-in-F1 c = rw (c.in_ok-r.was, c.in-F1.is) (c.to-in-F1.ensures ∙ ap (map_some plain_move) c.second_fails.ensures)

pub returns-in-U1 : goal.returns-in-U1
returns-in-U1 c = rw (c.in_ok-r.was, c.in-U1.is) (c.to-in-U1.ensures ∙ ap (map_some plain_move) c.second_repaired.ensures)

pub returns-in-Tick : goal.returns-in-Tick
returns-in-Tick c = rw (c.in_ok-r.was, c.in-Tick.is) (c.to-in-Tick.ensures ∙ ap (map_some plain_move) c.time_passes.ensures)

pub returns-in_err-r : goal.returns-in_err-r
returns-in_err-r c = rw (c.from_residual.ensures, c.in_err-r.was)
