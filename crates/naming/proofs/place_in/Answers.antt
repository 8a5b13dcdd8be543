-- `naming::place_in` meets its contract.
use mathlib.Core.Path.{sym, ap}
use native.Mathlib.Omega.{arith}
use Rattle.measure.proofs.Fields.{width-most}
use Rattle.namelines.proofs.NamedLaws.{guard-most}
use Rattle.naminglaws.specs.Naming.{place_in}
use Rattle.naming.proofs.place_in.Goals as goal

pub overflow_add-result : goal.overflow_add-result
overflow_add-result c = omega (arith, c.width.ensures, width-most c.in-Row.from)

pub overflow_add-result-in-Row : goal.overflow_add-result-in-Row
overflow_add-result-in-Row c = omega (arith, c.width.ensures, c.guard_width.ensures, width-most c.in-Row.from, guard-most c.in-Row.guard)

pub returns-in-Comp : goal.returns-in-Comp
returns-in-Comp c = ap place_in (sym c.in-Comp.is)

pub returns-in-Act : goal.returns-in-Act
returns-in-Act c = ap place_in (sym c.in-Act.is)

pub returns-in-Clk : goal.returns-in-Clk
returns-in-Clk c = ap place_in (sym c.in-Clk.is)

pub returns-in-Row : goal.returns-in-Row
returns-in-Row c = omega (arith, c.width.ensures, c.guard_width.ensures, ap place_in c.in-Row.is)
