-- `treelines::behind_word` meets its contract.
use mathlib.Core.Path.{◌≡◌, sym, ◌∙◌, ap, ap₂}
use native.Mathlib.Omega.{arith}
use lib.ListN.{drop}
use Rattle.trees.specs.TreeText.{inputs}
use Rattle.laws.proofs.Exits.{handed-on}
use Rattle.fields.specs.Fields.{past, got_number}
use Rattle.fields.specs.Resets.{valued}
use Rattle.treelines.specs.Elements.{no_inputs, with_more, got_inputs, got_element}
use Rattle.treelines.proofs.ElementLaws.{the_inputs, at-most-five, line-no-number, line-no-inputs, line-no-end, line-is}
use Rattle.treelines.proofs.behind_word.Goals as goal
use Rattle.treelines.proofs.behind_word.Goals.{After-all_inputs}

pub all_inputs-requires : goal.all_inputs-requires
all_inputs-requires c = let m = at-most-five c.args.sort in
    omega (arith, m)

-- the inputs behind the number
inputs-are : (c : After-all_inputs) → got_inputs c.args.text.now c.all_inputs.result ≡ the_inputs c.args.sort (drop c.in_ok-c1.c1.at c.args.text.now)
inputs-are c = c.all_inputs.ensures
    ∙ ap₂ (λ a b. valued (with_more no_inputs) (inputs a b (drop c.in_ok-c1.c1.at c.args.text.now))) c.fewest.ensures c.at_most_more.ensures

pub returns : goal.returns
returns c = let t = c.args.text.now in
    line-is c.args.sort _ (sym c.number_field.ensures ∙ ap (got_number t) c.in_ok-c1.was)
    (sym (inputs-are (goal.at.returns c).After-all_inputs) ∙ ap (got_inputs t) c.in_ok-c2.was) (sym c.byte.ensures ∙ ap (past t) c.in_ok-d.was)

pub returns-in_err-d : goal.returns-in_err-d
returns-in_err-d c = let t = c.args.text.now in
    ap (got_element t) (handed-on _ c.from_residual-in_err-d.ensures.1)
    ∙ line-no-end c.args.sort _ (sym c.number_field.ensures ∙ ap (got_number t) c.in_ok-c1.was)
    (sym (inputs-are (goal.at.returns-in_err-d c).After-all_inputs) ∙ ap (got_inputs t) c.in_ok-c2.was) (sym c.byte.ensures ∙ ap (past t) c.in_err-d.was)

pub returns-in_err-c2 : goal.returns-in_err-c2
returns-in_err-c2 c = let t = c.args.text.now in
    ap (got_element t) (handed-on _ c.from_residual-in_err-c2.ensures.1)
    ∙ line-no-inputs c.args.sort _ (sym c.number_field.ensures ∙ ap (got_number t) c.in_ok-c1.was)
    (sym (inputs-are (goal.at.returns-in_err-c2 c).After-all_inputs) ∙ ap (got_inputs t) c.in_err-c2.was)

pub returns-in_err-c1 : goal.returns-in_err-c1
returns-in_err-c1 c = let t = c.args.text.now in
    ap (got_element t) (handed-on _ c.from_residual.ensures.1)
    ∙ line-no-number c.args.sort _ (sym c.number_field.ensures ∙ ap (got_number t) c.in_err-c1.was)
