-- `roles::pand_role` meets its contract: time first, else as any gate.
use mathlib.Core.Path.{◌∙◌}
use Rattle.roles.specs.Roles.{gate_of}
use Rattle.roles.proofs.MoveLaws.{ticks-fl, ticks-up, hears-f, hears-u, hears-r}
use Rattle.roles.proofs.pand_role.Goals as goal

pub returns-in-Fl : goal.returns-in-Fl
returns-in-Fl c = let a = c.args in rw c.in-Fl.is (ticks-fl (gate_of a.number a.first a.second) a.of)

pub returns-in-Up : goal.returns-in-Up
returns-in-Up c = let a = c.args in rw c.in-Up.is (ticks-up (gate_of a.number a.first a.second) a.of)

pub returns-in-F : goal.returns-in-F
returns-in-F c = let a = c.args in
    c.gate_role-role.ensures ∙ rw c.in-F.is (hears-f (gate_of a.number a.first a.second) a.of)

pub returns-in-U : goal.returns-in-U
returns-in-U c = let a = c.args in
    c.gate_role-role.ensures ∙ rw c.in-U.is (hears-u (gate_of a.number a.first a.second) a.of)

pub returns-in-R : goal.returns-in-R
returns-in-R c = let a = c.args in
    c.gate_role-role.ensures ∙ rw c.in-R.is (hears-r (gate_of a.number a.first a.second) a.of)
