-- `treetests::lowest_broken` meets its contract: behind each test the ones before it do not hold.
use mathlib.Core.Path.{◌≡◌, sym, ◌∙◌, ap}
use mathlib.Core.Option.{Option, some}
use mathlib.Core.Bool.{false, not}
use Prim.Native.Nat.{ℕ}
use borrow.Author.Tests.{eq-eqb, ne_eqb}
use Rattle.answer.specs.Told.{says_checked, Answer, refused}
use Rattle.trees.specs.ReadTree.{condition_told}
use Rattle.treetests.specs.Gathering.{broken_as}
use Rattle.treetests.proofs.ConditionLaws.{lowest-1, lowest-2, lowest-3, lowest-4, lowest-5, lowest-6, lowest-none}
use Rattle.treetests.proofs.lowest_broken.Goals as goal

-- what is told of a condition
tells : {a : Option (Answer (Unit {0}))} {o : Option ℕ} (n : ℕ) → a ≡ some (refused (condition_told n)) → o ≡ some n → a ≡ some (broken_as o)
tells n e q = e ∙ ap (λ x. some (broken_as x)) (sym q)

pub returns-then-cyclic : goal.returns-then-cyclic
returns-then-cyclic c = tells 1 c.broken.ensures (lowest-1 _ _ c.if-cyclic.true)

pub returns-then-not-one_top : goal.returns-then-not-one_top
returns-then-not-one_top c = tells 2 c.broken-then-not-one_top.ensures (lowest-2 _ _ c.if-cyclic.false (ap not (sym c.one_top.ensures ∙ c.if-not-one_top.true)))

pub returns-then-g : goal.returns-then-g
returns-then-g c = tells 3 c.broken-then-g.ensures (lowest-3 _ _ c.if-cyclic.false (ap not (sym c.one_top.ensures ∙ c.if-not-one_top.false)) c.if-g.true)

pub returns-then-g-ne0 : goal.returns-then-g-ne0
returns-then-g-ne0 c = tells 4 c.broken-then-g-ne0.ensures (lowest-4 _ _ c.if-cyclic.false (ap not (sym c.one_top.ensures ∙ c.if-not-one_top.false)) c.if-g.false (ap not (ne_eqb _ 0 c.if-g-ne0.true)))

pub returns-then-not-lies_in : goal.returns-then-not-lies_in
returns-then-not-lies_in c = tells 5 c.broken-then-not-lies_in.ensures (lowest-5 _ _ c.if-cyclic.false (ap not (sym c.one_top.ensures ∙ c.if-not-one_top.false)) c.if-g.false (ap not (eq-eqb _ 0 c.if-g-ne0.false))
    (ap not (sym c.lies_in.ensures ∙ c.if-not-lies_in.true)))

pub returns-then-g-2 : goal.returns-then-g-2
returns-then-g-2 c = tells 6 c.broken-then-g-2.ensures (lowest-6 _ _ c.if-cyclic.false (ap not (sym c.one_top.ensures ∙ c.if-not-one_top.false)) c.if-g.false (ap not (eq-eqb _ 0 c.if-g-ne0.false)) (ap not (sym c.lies_in.ensures ∙ c.if-not-lies_in.false)) c.if-g-2.true)

pub returns : goal.returns
unfolding says_checked
returns c = ap (λ o. some (broken_as o)) (sym (lowest-none _ _ c.if-cyclic.false (ap not (sym c.one_top.ensures ∙ c.if-not-one_top.false)) c.if-g.false (ap not (eq-eqb _ 0 c.if-g-ne0.false)) (ap not (sym c.lies_in.ensures ∙ c.if-not-lies_in.false)) c.if-g-2.false))
