-- `naming::line_set` meets its contract.
use mathlib.Core.Path.{sym, ◌∙◌, ap}
use mathlib.Core.Bool.{cond}
use borrow.Author.Tests.{lt-ltb, le-ltb}
use Rattle.laws.specs.Sets.{only}
use Rattle.answer.specs.Limits.{max_actions}
use Rattle.naminglaws.specs.Naming.{line_set}
use Rattle.naming.proofs.line_set.Goals as goal

pub returns-then-action : goal.returns-then-action
returns-then-action c = let a = c.in-Act.action in
    c.single.ensures ∙ ap (λ b. cond b (only a) 0) (sym (lt-ltb a max_actions c.if-action.true)) ∙ ap line_set (sym c.in-Act.is)

pub returns-in-Comp : goal.returns-in-Comp
returns-in-Comp c = ap line_set (sym c.in-Comp.is)

pub returns-else-action : goal.returns-else-action
returns-else-action c = let a = c.in-Act.action in
    ap (λ b. cond b (only a) 0) (sym (le-ltb a max_actions c.if-action.false)) ∙ ap line_set (sym c.in-Act.is)

pub returns-in-Clk : goal.returns-in-Clk
returns-in-Clk c = ap line_set (sym c.in-Clk.is)

pub returns-in-Row : goal.returns-in-Row
returns-in-Row c = ap line_set (sym c.in-Row.is)
