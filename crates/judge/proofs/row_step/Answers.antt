-- `judge::row_step` meets its contract.
use mathlib.Core.Path.{sym, ◌∙◌}
use lib.Dec.{ltb, leb}
use borrow.Author.Tests.{ltb-true, leb-true}
use Rattle.answer.specs.Limits.{max_actions, max_clocks}
use Rattle.laws.proofs.TestLaws.{and-true}
use Rattle.judge.specs.Judged.{in_range}
use Rattle.judge.proofs.row_step.Goals as goal

pub names_all-requires : goal.names_all-requires
unfolding in_range
names_all-requires c =
    let k = c.args.key in
    let n = c.args.p.states in
    let p = and-true (ltb k.from n) _ (sym c.in_range.ensures ∙ c.if-not-in_range.false) in
    let q = and-true (leb k.guard max_clocks) _ p.1 in
    (leb-true k.guard max_clocks q.0, ltb-true k.action max_actions (and-true (ltb k.action max_actions) _ q.1).0)
