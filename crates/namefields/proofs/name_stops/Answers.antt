-- `namefields::name_stops` meets its contract.
use mathlib.Core.Path.{◌∙◌}
use native.Mathlib.Omega.{arith}
use borrow.Author.Tests.{eq-eqb}
use Rattle.namefields.proofs.NameLaws.{stops_end, stops-tab, stops-other}
use Rattle.namefields.proofs.name_stops.Goals as goal

pub returns-then-text-at : goal.returns-then-text-at
returns-then-text-at c = stops_end c.args.text.now c.args.at c.if-text-at.true

pub returns-then-b-eq-TAB : goal.returns-then-b-eq-TAB
returns-then-b-eq-TAB c = let a = c.args in eq-eqb _ 9 c.if-b-eq-TAB.true ∙ stops-tab a.text.now a.at (omega arith) c.if-b-eq-TAB.true

pub returns-else-b-eq-TAB : goal.returns-else-b-eq-TAB
returns-else-b-eq-TAB c = let a = c.args in stops-other a.text.now a.at (omega arith) c.if-b-eq-TAB.false
