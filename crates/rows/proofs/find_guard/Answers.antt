-- `rows::find_guard` meets its contract: what is left to search from k on is the whole search.
use mathlib.Core.Path.{sym, ap, ◌∙◌}
use borrow.Author.Rules.{rules}
use borrow.Author.Tests.{eq-eqb, ne_eqb}
use lib.Dec.{eqb}
use Rattle.laws.specs.Search.{when}
use Rattle.laws.proofs.SearchLaws.{test-here, test-next, seek-end}
use Rattle.layout.specs.Layout.{guard_at}
use Rattle.rows.specs.Ranges.{found_of, by_guard}
use Rattle.rows.proofs.find_guard.Goals as goal

pub returns-then-guard_at-g : goal.returns-then-guard_at-g
unfolding found_of by_guard
returns-then-guard_at-g c = let l = c.loop-k in
    ap found_of (sym (test-here (λ k. eqb (guard_at c.args.t.now k) c.args.g) l.k c.args.hi (search rules)
    (eq-eqb _ _ (sym c.guard_at.ensures ∙ c.if-guard_at-g.true))) ∙ l.invariant.1)

pub loop-k-preserved : goal.loop-k-preserved
unfolding by_guard
loop-k-preserved c = let l = c.loop-k in (
  search rules,
  sym (test-next (λ k. eqb (guard_at c.args.t.now k) c.args.g) l.k c.args.hi (search rules)
      (ne_eqb _ _ (λ e. c.if-guard_at-g.false (c.guard_at.ensures ∙ e)))) ∙ l.invariant.1,
)

pub returns : goal.returns
unfolding found_of by_guard
returns c = let l = c.loop-k in
    ap found_of (sym (seek-end (λ k. when (eqb (guard_at c.args.t.now k) c.args.g) k) l.k c.args.hi (search rules)) ∙ l.invariant.1)
