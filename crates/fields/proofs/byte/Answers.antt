-- `fields::byte` meets its contract.
use mathlib.Core.Path.{sym}
use Rattle.fields.proofs.ScanLaws.{byte-here, byte-other, byte-end}
use Rattle.fields.proofs.byte.Goals as goal

pub returns-then-text-at : goal.returns-then-text-at
returns-then-text-at c = let a = c.args in
    sym (byte-here a.text.now a.c.at a.b c.if-at-text.true c.if-text-at.true)

pub returns-else-text-at : goal.returns-else-text-at
returns-else-text-at c = let a = c.args in
    sym (byte-other a.text.now a.c.at a.b c.if-at-text.true c.if-text-at.false)

pub returns-else-at-text : goal.returns-else-at-text
returns-else-at-text c = let a = c.args in sym (byte-end a.text.now a.c.at a.b c.if-at-text.false)
