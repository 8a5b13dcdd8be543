-- `fields::resets_of` meets its contract.
use mathlib.Core.Path.{sym, ◌∙◌, ap}
use lib.ListN.{length, drop}
use Rattle.laws.proofs.Exits.{handed-on}
use Rattle.model.specs.Reading.{numbers_or_dash, more_numbers}
use Rattle.fields.specs.Fields.{past, got_number}
use Rattle.fields.specs.Resets.{valued, summary, with_all, got_resets}
use Rattle.fields.proofs.FieldLaws.{resets-dash, resets-numbers}
use Rattle.fields.proofs.ResetLaws.{no-resets, first-number}
use Rattle.fields.proofs.NumberLaws.{no_number}
use Rattle.fields.proofs.resets_of.Goals as goal

pub returns-in-Ok : goal.returns-in-Ok
returns-in-Ok c = let a = c.args in
    let t = a.text.now in
    let bs = drop a.c.at t in
    sym (no-resets (numbers_or_dash bs) (drop c.in-Ok.d.at t)
    (resets-dash bs (sym c.byte.ensures ∙ ap (past t) c.in-Ok.is)))

pub returns : goal.returns
returns c = let a = c.args in
    let t = a.text.now in
    let bs = drop a.c.at t in
    let cs = drop c.in_ok-end.end.at t in
    let d = resets-numbers bs (sym c.byte.ensures ∙ ap (past t) c.in_default.is) in
    let n = first-number bs cs c.in_ok-end.n (sym c.number.ensures ∙ ap (got_number t) c.in_ok-end.was) in
    c.more_resets.ensures ∙ ap (λ s. valued (with_all s) (more_numbers (length cs) cs)) c.first_reset.ensures ∙ sym (ap (valued summary) d ∙ n)

pub returns-in_err-end : goal.returns-in_err-end
returns-in_err-end c = let a = c.args in
    let t = a.text.now in
    let bs = drop a.c.at t in
    let d = resets-numbers bs (sym c.byte.ensures ∙ ap (past t) c.in_default.is) in
    ap (got_resets t) (handed-on _ c.from_residual.ensures.1) ∙ sym (ap (valued summary) (d ∙ no_number bs _ (sym c.number.ensures
    ∙ ap (got_number t) c.in_err-end.was)))
