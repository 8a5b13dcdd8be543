-- `namelines::before_name` meets its contract.
use mathlib.Core.Path.{sym, ◌∙◌, ap, ap₂}
use Prim.Native.Nat.{◌+◌}
use native.Mathlib.Omega.{arith}
use Rattle.measure.proofs.Fields.{width-most}
use Rattle.namelines.specs.NamedLines.{before_name}
use Rattle.namelines.proofs.NamedLaws.{guard-most}
use Rattle.namelines.proofs.before_name.Goals as goal

pub overflow_add-result : goal.overflow_add-result
overflow_add-result c = omega (arith, c.width.ensures, width-most c.in-Name.number)

pub overflow_add-result-in-Row : goal.overflow_add-result-in-Row
overflow_add-result-in-Row c = omega (arith, c.width-in-Row.ensures, width-most c.in-Row.from)

pub overflow_add-result-in-Row-2 : goal.overflow_add-result-in-Row-2
overflow_add-result-in-Row-2 c = omega (arith, c.width-in-Row.ensures, c.guard_width.ensures, width-most c.in-Row.from, guard-most c.in-Row.guard)

pub returns-in-Form : goal.returns-in-Form
returns-in-Form c = sym (ap before_name c.in-Form.is)

pub returns-in-Name : goal.returns-in-Name
returns-in-Name c = ap (λ n. 6 + n) c.width.ensures ∙ sym (ap before_name c.in-Name.is)

pub returns-in-Act : goal.returns-in-Act
returns-in-Act c = sym (ap before_name c.in-Act.is)

pub returns-in-Row : goal.returns-in-Row
returns-in-Row c = ap₂ (λ m n. 6 + m + n) c.width-in-Row.ensures c.guard_width.ensures ∙ sym (ap before_name c.in-Row.is)

pub returns-in-Plain : goal.returns-in-Plain
returns-in-Plain c = sym (ap before_name c.in-Plain.is)
