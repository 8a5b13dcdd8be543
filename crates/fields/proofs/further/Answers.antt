-- `fields::further` meets its contract.
use Rattle.fields.proofs.FieldLaws.{further-on, not-further-on}
use Rattle.fields.proofs.further.Goals as goal

pub returns-then-a-b : goal.returns-then-a-b
returns-then-a-b c t = let a = c.args in further-on t a.a.at a.b.at c.if-a-b.true

pub returns-else-a-b : goal.returns-else-a-b
returns-else-a-b c t = let a = c.args in not-further-on t a.a.at a.b.at c.if-a-b.false
