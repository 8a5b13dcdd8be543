-- `parts::again_at` meets its contract.
use mathlib.Core.Path.{sym, ap, ◌∙◌}
use mathlib.Core.Bool.{◌&&◌}
use borrow.Author.Tests.{eq-eqb, ne_eqb}
use Rattle.laws.specs.Sets.{has}
use Rattle.layout.specs.Layout.{action_at}
use Rattle.parts.specs.Faults.{again_at}
use Rattle.parts.proofs.again_at.Goals as goal

pub has-requires : goal.has-requires
has-requires c = rw c.action_at-a.ensures c.requires.3

pub returns-then-a-action_at : goal.returns-then-a-action_at
unfolding again_at
returns-then-a-action_at c = let a = c.action_at-a in
    let same = sym a.ensures ∙ c.if-a-action_at.true ∙ c.action_at.ensures in
    c.has.ensures ∙ ap (has c.args.calm) a.ensures ∙ ap (λ b. b && has c.args.calm (action_at c.args.t.now c.args.k))
    (sym (eq-eqb _ _ same))

pub returns-else-a-action_at : goal.returns-else-a-action_at
unfolding again_at
returns-else-a-action_at c =
    let n = ne_eqb (action_at c.args.t.now c.args.k) _ (λ e. c.if-a-action_at.false (c.action_at-a.ensures ∙ e ∙ sym c.action_at.ensures)) in
    ne_eqb _ _ c.if-a-action_at.false ∙ ap (λ b. b && has c.args.calm (action_at c.args.t.now c.args.k)) (sym n)
