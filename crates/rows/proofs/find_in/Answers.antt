-- `rows::find_in` meets its contract: what is left to search from k on is the whole search.
use mathlib.Core.Path.{sym, ap, ◌∙◌}
use borrow.Author.Rules.{rules}
use Rattle.laws.specs.Sets.{has}
use Rattle.laws.specs.Search.{when}
use Rattle.laws.proofs.SearchLaws.{test-here, test-next, seek-end}
use Rattle.layout.specs.Layout.{action_at}
use Rattle.rows.specs.Ranges.{found_of, by_set}
use Rattle.rows.proofs.find_in.Goals as goal

pub has-requires : goal.has-requires
has-requires c = let l = c.loop-k in
    rw c.action_at.ensures (c.requires.2.low l.k l.invariant.0 (search rules))

pub returns-then-has : goal.returns-then-has
unfolding found_of by_set
returns-then-has c = let l = c.loop-k in
    ap found_of (sym (test-here (λ k. has c.args.set (action_at c.args.t.now k)) l.k c.args.hi (search rules)
    (ap (has c.args.set) (sym c.action_at.ensures) ∙ sym c.has.ensures ∙ c.if-has.true)) ∙ l.invariant.1)

pub loop-k-preserved : goal.loop-k-preserved
unfolding by_set
loop-k-preserved c = let l = c.loop-k in (
  search rules,
  sym (test-next (λ k. has c.args.set (action_at c.args.t.now k)) l.k c.args.hi (search rules)
      (ap (has c.args.set) (sym c.action_at.ensures) ∙ sym c.has.ensures ∙ c.if-has.false)) ∙ l.invariant.1,
)

pub returns : goal.returns
unfolding found_of by_set
returns c = let l = c.loop-k in
    ap found_of (sym (seek-end (λ k. when (has c.args.set (action_at c.args.t.now k)) k) l.k c.args.hi (search rules)) ∙ l.invariant.1)
