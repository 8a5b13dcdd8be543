-- `namelines::other_line` meets its contract.
use mathlib.Core.Path.{sym, ◌∙◌, ap}
use lib.ListN.{drop}
use Rattle.model.specs.Reading.{entry, got, stops, shorter}
use Rattle.lines.specs.Lines.{line_of, got_line}
use Rattle.lines.proofs.LineLaws.{valued-is, valued-stops}
use Rattle.namelines.specs.declared.NamedLine.TheVariants.{Plain}
use Rattle.namelines.proofs.NamedLaws.{other-is, other-no}
use Rattle.namelines.proofs.other_line.Goals as goal

pub returns-in-Ok : goal.returns-in-Ok
returns-in-Ok c = let a = c.args in
    let t = a.text.now in
    let v = valued-is line_of (entry (drop a.c.at t)) (sym c.line_at.ensures ∙ ap (got_line t) c.in-Ok.is) in
    ap (λ l. got (Plain l) (drop c.in-Ok.d.at t)) (sym v.2) ∙ other-is (drop a.c.at t) v.1

pub returns-in-Err : goal.returns-in-Err
returns-in-Err c = let a = c.args in
    let t = a.text.now in
    let bs = drop a.c.at t in
    let e = valued-stops line_of (entry bs) (sym c.line_at.ensures ∙ ap (got_line t) c.in-Err.is) in
    ap (λ l. stops l) (c.further-in-Err.ensures t ∙ ap (shorter _) (c.further.ensures t))
    ∙ other-no bs e c.stop_of-fo.ensures c.stop_of-na.ensures
