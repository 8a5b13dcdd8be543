-- `ticks::any_outside` meets its contract: what is left to search from k on is the whole search.
use mathlib.Core.Path.{sym, ap, ◌∙◌}
use borrow.Author.Rules.{rules}
use Rattle.answer.specs.Limits.{max_clocks}
use Rattle.laws.specs.Search.{when, is_some}
use Rattle.laws.proofs.SearchLaws.{seek-end}
use Rattle.ticks.specs.Ticks.{outside, by_value}
use Rattle.ticks.proofs.ByValue.{value-here, value-next}
use Rattle.ticks.proofs.any_outside.Goals as goal

pub returns-then-is_outside : goal.returns-then-is_outside
returns-then-is_outside c = let l = c.loop-k in
    ap is_some (sym (value-here (outside c.args.d) c.args.values.now l.k (search rules)
    (record { sfits = c.z-1.given }) _ c.is_outside.ensures c.if-is_outside.true) ∙ l.invariant.1)

pub loop-k-preserved : goal.loop-k-preserved
loop-k-preserved c = let l = c.loop-k in (
  search rules,
  sym (value-next (outside c.args.d) c.args.values.now l.k (search rules)
      (record { sfits = c.z-1.given }) _ c.is_outside.ensures c.if-is_outside.false) ∙ l.invariant.1,
)

pub returns : goal.returns
returns c = let l = c.loop-k in
    ap is_some (sym (seek-end (λ k. when (by_value (outside c.args.d) c.args.values.now k) k) l.k max_clocks (search rules)) ∙ l.invariant.1)
