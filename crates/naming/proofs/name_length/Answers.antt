-- `naming::name_length` meets its contract.
use mathlib.Core.Path.{sym, ◌∙◌}
use native.Mathlib.Omega.{arith}
use Rattle.measure.proofs.Fields.{width-most}
use Rattle.naminglaws.proofs.SheetLaws.{name-there-long, name-none-long}
use Rattle.naming.proofs.name_length.Goals as goal

pub overflow_add-result : goal.overflow_add-result
overflow_add-result c = omega (arith, c.width-w.ensures, width-most c.args.a)

pub overflow_add-result-then-has : goal.overflow_add-result-then-has
overflow_add-result-then-has c = omega (arith, c.width-w.ensures, width-most c.args.a)

pub returns-then-has : goal.returns-then-has
returns-then-has c = let a = c.args in
    omega (arith, c.width-w.ensures, name-there-long a.set a.a (sym c.has.ensures ∙ c.if-has.true))

pub returns : goal.returns
returns c = let a = c.args in sym (name-none-long a.set a.a (sym c.has.ensures ∙ c.if-has.false))
