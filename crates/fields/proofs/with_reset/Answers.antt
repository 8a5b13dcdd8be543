-- `fields::with_reset` meets its contract.
use mathlib.Core.Path.{◌≡◌, ◌∙◌}
use mathlib.Core.Bool.{◌&&◌}
use lib.Dec.{ltb}
use borrow.Author.Tests.{lt-ltb, le-ltb}
use Rattle.answer.specs.Limits.{max_clocks}
use Rattle.fields.proofs.with_reset.Goals as goal
use Rattle.fields.proofs.with_reset.Goals.{then-s, else-s}

pub returns-then-n : goal.returns-then-n
returns-then-n c = let ascends : c.if-s.ascend ≡ (c.args.s.ascend && ltb c.args.s.last c.args.n)
    = elim c.if-s.branch [ then-s w ↦ rw w.if-s.true w.ascend-is | else-s w ↦ rw w.if-s.false (w.ascend-is ∙ w.if-s.false) ] in
    rw (ascends, lt-ltb c.args.n max_clocks c.if-n.true, c.union.ensures, c.single.ensures)

pub returns-else-n : goal.returns-else-n
returns-else-n c = let ascends : c.if-s.ascend ≡ (c.args.s.ascend && ltb c.args.s.last c.args.n)
    = elim c.if-s.branch [ then-s w ↦ rw w.if-s.true w.ascend-is | else-s w ↦ rw w.if-s.false (w.ascend-is ∙ w.if-s.false) ] in
    rw (ascends, le-ltb c.args.n max_clocks c.if-n.false)
