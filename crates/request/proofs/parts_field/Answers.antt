-- `request::parts_field` meets its contract.
use mathlib.Core.Path.{sym, ◌∙◌, ap}
use lib.ListN.{drop, length}
use Rattle.laws.proofs.Exits.{handed-on}
use Rattle.model.specs.Text.{tab}
use Rattle.model.specs.Reading.{the_byte, more_numbers}
use Rattle.fields.specs.Fields.{got_number}
use Rattle.fields.specs.Resets.{valued}
use Rattle.request.specs.Kept.{with, with_all, got_parts}
use Rattle.request.proofs.LineLaws.{parts-missing, parts_all}
use Rattle.request.proofs.parts_field.Goals as goal

pub returns-in_err-d : goal.returns-in_err-d
returns-in_err-d c = let t = c.args.text.now in
    ap (got_parts t) (handed-on _ c.from_residual.ensures.1)
    ∙ sym (parts-missing (the_byte tab (drop c.args.c.at t)) (sym c.number_field.ensures ∙ ap (got_number t) c.in_err-d.was))

pub returns : goal.returns
returns c = let t = c.args.text.now in
    let v = c.in_ok-d in
    let cs = drop v.d.at t in
    c.more_parts.ensures
    ∙ ap (λ x. valued (with_all x) (more_numbers (length cs) cs)) (c.with_part.ensures ∙ ap (λ x. with x v.n) c.no_state.ensures)
    ∙ sym (parts_all (the_byte tab (drop c.args.c.at t)) v.n cs (sym c.number_field.ensures ∙ ap (got_number t) v.was))
