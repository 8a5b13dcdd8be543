-- `roles::gate_role` meets its contract.
use mathlib.Core.Path.{◌∙◌, ap}
use Rattle.roles.specs.Roles.{gate_is}
use Rattle.roles.proofs.MoveLaws.{own-told, first-told, second-told, none_told}
use Rattle.roles.proofs.gate_role.Goals as goal

pub returns-then-of-number : goal.returns-then-of-number
returns-then-of-number c = let a = c.args in
    ap gate_is c.told.ensures ∙ own-told a.number a.first a.second a.of a.signal c.if-of-number.true

pub returns-then-of-first : goal.returns-then-of-first
returns-then-of-first c = let a = c.args in
    ap gate_is c.told-then-of-first.ensures ∙ first-told a.number a.first a.second a.of a.signal c.if-of-number.false
    c.if-of-first.true

pub returns-then-of-second : goal.returns-then-of-second
returns-then-of-second c = let a = c.args in
    ap gate_is c.told-then-of-second.ensures ∙ second-told a.number a.first a.second a.of a.signal c.if-of-number.false
    c.if-of-first.false c.if-of-second.true

pub returns : goal.returns
returns c = let a = c.args in
    none_told a.number a.first a.second a.of a.signal c.if-of-number.false c.if-of-first.false c.if-of-second.false
