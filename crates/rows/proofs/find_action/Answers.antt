-- `rows::find_action` meets its contract: what is left to search from k on is the whole search.
use mathlib.Core.Path.{sym, ap, ◌∙◌}
use borrow.Author.Rules.{rules}
use borrow.Author.Tests.{eq-eqb, ne_eqb}
use lib.Dec.{eqb}
use Rattle.laws.specs.Search.{when}
use Rattle.laws.proofs.SearchLaws.{test-here, test-next, seek-end}
use Rattle.layout.specs.Layout.{action_at}
use Rattle.rows.specs.Ranges.{found_of, by_action}
use Rattle.rows.proofs.find_action.Goals as goal

pub returns-then-action_at-a : goal.returns-then-action_at-a
unfolding found_of by_action
returns-then-action_at-a c = let l = c.loop-k in
    ap found_of (sym (test-here (λ k. eqb (action_at c.args.t.now k) c.args.a) l.k c.args.hi (search rules)
    (eq-eqb _ _ (sym c.action_at.ensures ∙ c.if-action_at-a.true))) ∙ l.invariant.1)

pub loop-k-preserved : goal.loop-k-preserved
unfolding by_action
loop-k-preserved c = let l = c.loop-k in (
  search rules,
  sym (test-next (λ k. eqb (action_at c.args.t.now k) c.args.a) l.k c.args.hi (search rules)
      (ne_eqb _ _ (λ e. c.if-action_at-a.false (c.action_at.ensures ∙ e)))) ∙ l.invariant.1,
)

pub returns : goal.returns
unfolding found_of by_action
returns c = let l = c.loop-k in
    ap found_of (sym (seek-end (λ k. when (eqb (action_at c.args.t.now k) c.args.a) k) l.k c.args.hi (search rules)) ∙ l.invariant.1)
