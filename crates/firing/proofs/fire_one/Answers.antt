-- `firing::fire_one` meets its contract.
use mathlib.Core.Path.{sym, ap, ◌∙◌}
use native.Mathlib.Omega.{arith}
use borrow.Author.Rules.{rules}
use Rattle.laws.specs.Sets.{has}
use Rattle.layout.specs.Image.{comp_of}
use Rattle.layout.proofs.ImageIsSane.{image-long, count-below}
use Rattle.firing.proofs.GuardRow.{owner-fires, other-fires}
use Rattle.firing.proofs.fire_one.Goals as goal

pub block_word-requires : goal.block_word-requires
block_word-requires c = (image-long _ c.requires.0, omega (arith, count-below _ c.requires.0), search rules)

pub returns-then-has : goal.returns-then-has
unfolding comp_of
returns-then-has c = let h = ap (λ n. has n c.args.c) (sym c.block_word.ensures) ∙ sym c.has.ensures ∙ c.if-has.true in
    rw (owner-fires (comp_of c.args.t.now c.args.i) c.args.s c.args.c c.args.a h) c.guarded_move.ensures

pub returns-else-has : goal.returns-else-has
unfolding comp_of
returns-else-has c = let h = ap (λ n. has n c.args.c) (sym c.block_word.ensures) ∙ sym c.has.ensures ∙ c.if-has.false in
    rw (other-fires (comp_of c.args.t.now c.args.i) c.args.s c.args.c c.args.a h) c.move_one.ensures
