-- `request::request_line` meets its contract.
use mathlib.Core.Path.{sym, ◌∙◌, ap}
use lib.ListN.{drop}
use Rattle.laws.proofs.Exits.{handed-on}
use Rattle.model.specs.Reading.{got, field, numbers}
use Rattle.fields.specs.Fields.{past, got_number}
use Rattle.fields.specs.Resets.{valued}
use Rattle.lines.proofs.LineLaws.{valued-stops, valued-is}
use Rattle.request.specs.Kept.{Kept, held, keep, got_parts, got_asked}
use Rattle.request.proofs.LineLaws.{line-no-1, line-no-2, line-no-3, line-no-4, line-is}
use Rattle.request.proofs.request_line.Goals as goal

pub returns-in_err-c1 : goal.returns-in_err-c1
returns-in_err-c1 c = let t = c.args.text.now in
    ap (got_asked t) (handed-on _ c.from_residual.ensures.1)
    ∙ sym (ap (valued keep) (line-no-1 t (sym c.word.ensures ∙ ap (past t) c.in_err-c1.was)))

pub returns-in_err-c2 : goal.returns-in_err-c2
returns-in_err-c2 c = let t = c.args.text.now in
    let e0 = sym c.word.ensures ∙ ap (past t) c.in_ok-c1.was in
    let e1 = valued-stops held (field numbers _) (sym c.parts_field.ensures ∙ ap (got_parts t) c.in_err-c2.was) in
    ap (got_asked t) (handed-on _ c.from_residual-in_err-c2.ensures.1) ∙ sym (ap (valued keep) (line-no-2 t e0 e1))

pub returns-in_err-c3 : goal.returns-in_err-c3
returns-in_err-c3 c = let t = c.args.text.now in
    let e0 = sym c.word.ensures ∙ ap (past t) c.in_ok-c1.was in
    let e1 = valued-is held (field numbers _) (sym c.parts_field.ensures ∙ ap (got_parts t) c.in_ok-c2.was) in
    let e2 = sym c.number_field.ensures ∙ ap (got_number t) c.in_err-c3.was in
    ap (got_asked t) (handed-on _ c.from_residual-in_err-c3.ensures.1) ∙ sym (ap (valued keep) (line-no-3 t e0 e1.1 e2))

pub returns-in_err-c4 : goal.returns-in_err-c4
returns-in_err-c4 c = let t = c.args.text.now in
    let e0 = sym c.word.ensures ∙ ap (past t) c.in_ok-c1.was in
    let e1 = valued-is held (field numbers _) (sym c.parts_field.ensures ∙ ap (got_parts t) c.in_ok-c2.was) in
    let e2 = sym c.number_field.ensures ∙ ap (got_number t) c.in_ok-c3.was in
    let e3 = sym c.byte.ensures ∙ ap (past t) c.in_err-c4.was in
    ap (got_asked t) (handed-on _ c.from_residual-in_err-c4.ensures.1) ∙ sym (ap (valued keep) (line-no-4 t e0 e1.1 e2 e3))

pub returns : goal.returns
returns c = let t = c.args.text.now in
    let e0 = sym c.word.ensures ∙ ap (past t) c.in_ok-c1.was in
    let e1 = valued-is held (field numbers _) (sym c.parts_field.ensures ∙ ap (got_parts t) c.in_ok-c2.was) in
    let e2 = sym c.number_field.ensures ∙ ap (got_number t) c.in_ok-c3.was in
    let e3 = sym c.byte.ensures ∙ ap (past t) c.in_ok-c4.was in
    sym (ap (valued keep) (line-is t e0 e1.1 e2 e3)
    ∙ ap (λ x. got {A = Kept} (record { state = x; budget = c.in_ok-c3.budget }) (drop c.in_ok-c4.c4.at t)) e1.2)
