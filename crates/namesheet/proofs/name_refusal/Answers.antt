-- `namesheet::name_refusal` meets its contract.
use Rattle.namelaws.proofs.NameTurns.{told-4, told-other}
use Rattle.namesheet.proofs.name_refusal.Goals as goal

pub returns-then-number-eq4 : goal.returns-then-number-eq4
returns-then-number-eq4 c = let a = c.args in told-4 a.number a.n c.if-number-eq4.true

pub returns : goal.returns
returns c = let a = c.args in told-other a.number a.n c.if-number-eq4.false
