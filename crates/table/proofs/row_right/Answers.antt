-- `table::row_right`: test by test.
use mathlib.Core.Path.{sym, ◌∙◌, ap}
use native.Mathlib.Omega.{arith}
use lib.Dec.{ltb}
use Rattle.laws.specs.Sets.{has, within}
use Rattle.laws.proofs.TestLaws.{both-no}
use Rattle.model.specs.Model.{guard_set}
use Rattle.layout.specs.Layout.{action_at}
use Rattle.table.specs.Rows.{row_right}
use Rattle.table.proofs.RowTests.{has-beyond}
use Rattle.blocks.proofs.CodeTests.{passed, failed}
use Rattle.table.proofs.row_right.Goals as goal

pub returns-then-action : goal.returns-then-action
unfolding row_right
returns-then-action c = let args = c.args in
    let fits = c.ranges in
    sym (both-no _ _ (has-beyond args.acts (action_at args.t.now args.r) fits.acts.fits (omega arith)))

pub returns-then-not-has : goal.returns-then-not-has
unfolding row_right
returns-then-not-has c = let args = c.args in
    let action-at = c.action_at-action in
    let the-has = c.has in
    sym (failed the-has.result _ (the-has.ensures ∙ ap (has args.acts) action-at.ensures) c.if-not-has.true)

pub returns-then-not-guard_right : goal.returns-then-not-guard_right
unfolding row_right
returns-then-not-guard_right c = let args = c.args in
    let action-at = c.action_at-action in
    let the-has = c.has in
    let if2 = c.if-not-has in
    let guard-at = c.guard_at in
    let guard-right = c.guard_right in
    sym (passed the-has.result (the-has.ensures ∙ ap (has args.acts) action-at.ensures) if2.false
    ∙ failed guard-right.result _ (guard-right.ensures ∙ ap (λ g. within (guard_set g) args.clocks) guard-at.ensures) c.if-not-guard_right.true)

pub returns-then-not-lies_in : goal.returns-then-not-lies_in
unfolding row_right
returns-then-not-lies_in c = let args = c.args in
    let action-at = c.action_at-action in
    let the-has = c.has in
    let if2 = c.if-not-has in
    let guard-at = c.guard_at in
    let guard-right = c.guard_right in
    let if3 = c.if-not-guard_right in
    let resets-at = c.resets_at in
    let lies_in = c.lies_in in
    let clocks = args.clocks in
    sym (passed the-has.result (the-has.ensures ∙ ap (has args.acts) action-at.ensures) if2.false
    ∙ passed guard-right.result (guard-right.ensures ∙ ap (λ g. within (guard_set g) clocks) guard-at.ensures) if3.false
    ∙ failed lies_in.result _ (lies_in.ensures ∙ ap (λ x. within x clocks) resets-at.ensures) c.if-not-lies_in.true)

pub returns : goal.returns
unfolding row_right
returns c = let args = c.args in
    let action-at = c.action_at-action in
    let the-has = c.has in
    let if2 = c.if-not-has in
    let guard-at = c.guard_at in
    let guard-right = c.guard_right in
    let if3 = c.if-not-guard_right in
    let resets-at = c.resets_at in
    let lies_in = c.lies_in in
    let clocks = args.clocks in
    ap (λ n. ltb n args.states) c.target_at.ensures
    ∙ sym (passed the-has.result (the-has.ensures ∙ ap (has args.acts) action-at.ensures) if2.false
    ∙ passed guard-right.result (guard-right.ensures ∙ ap (λ g. within (guard_set g) clocks) guard-at.ensures) if3.false
    ∙ passed lies_in.result (lies_in.ensures ∙ ap (λ x. within x clocks) resets-at.ensures) c.if-not-lies_in.false)
