-- `samples::scan` meets its contract: the lists found so far, before those of the clocks to come, are all lists.
use mathlib.Core.Path.{refl, ap, subst}
use native.Mathlib.Omega.{arith}
use borrow.Author.Rules.{rules}
use Rattle.std.specs.Prelude.{Err}
use Rattle.samples.specs.Text.{TurnGives}
use Rattle.samples.proofs.TextLaws.{between_none, between_more, bad-here, bad-behind, all-good}
use Rattle.samples.proofs.scan.Goals as goal

pub loop-x-init : goal.loop-x-init
loop-x-init c = between_none _ _ _ (search rules)

pub turn_of-requires : goal.turn_of-requires
turn_of-requires c = (search rules, omega (arith, c.loop-x.invariant.line))

pub returns-in_default : goal.returns-in_default
returns-in_default c = let l = c.loop-x in
    let a = c.args in
    let g = subst (TurnGives a.d l.x a.text.now l.p) c.in_default.is c.turn_of.ensures in
    bad-here _ _ _ _ _ l.invariant c.loop-x-test.true g.0 g.1 _ (ap (λ e. Err e) c.bad_line.ensures)

pub loop-x-preserved : goal.loop-x-preserved
loop-x-preserved c = let l = c.loop-x in
    let a = c.args in
    between_more _ _ _ _ _ l.invariant c.loop-x-test.true _ _
    (subst (TurnGives a.d l.x a.text.now l.p) c.in-Ok.is c.turn_of.ensures)

pub returns-then-p-text : goal.returns-then-p-text
returns-then-p-text c = bad-behind _ _ _ _ _ c.loop-x.invariant c.loop-x-test.false c.if-p-text.true _ (ap (λ e. Err e) c.bad_line-then-p-text.ensures)

pub returns : goal.returns
returns c = all-good _ _ _ _ _ c.loop-x.invariant c.loop-x-test.false c.if-p-text.false _ refl
