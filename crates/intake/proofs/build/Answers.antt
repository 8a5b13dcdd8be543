-- `intake::build` meets its contract. The loop's invariant: the table is that of the components before this line.
use mathlib.Core.Path.{sym, ◌∙◌, ap}
use mathlib.Core.List.{◌++◌}
use lib.ListN.{drop}
use Rattle.model.specs.Reading.{entry}
use Rattle.lines.specs.Lines.{line_of, got_line}
use Rattle.lines.proofs.LineLaws.{valued-stops}
use Rattle.layout.specs.Image.{image_of}
use Rattle.survey.proofs.Turns.{read-line, read-on}
use Rattle.intake.proofs.Built.{filled-rest, building-first, has-line, no-fault, built, turn-fits, turn-taken}
use Rattle.intake.proofs.build.Goals as goal

pub loop-at-init : goal.loop-at-init
loop-at-init c = let a = c.args in
    building-first a.text.now a.table.now _ _ c.requires.0 c.fill_words.ensures c.at_start-p.ensures

pub returns-in_default : goal.returns-in_default
returns-in_default c = let a = c.args in
    let l = c.loop-at in
    let e = valued-stops line_of (entry (drop l.at a.text.now)) (sym c.line_at.ensures ∙ ap (got_line a.text.now)
    c.in_default.is) in
    absurd (has-line l.invariant c.requires.1.0
    c.requires.1.1 _
    c.loop-at-test.true e)

pub returns-in_default-step : goal.returns-in_default-step
returns-in_default-step c = let a = c.args in
    let l = c.loop-at in
    let r = read-line a.text.now l.at c.in-Ok.line c.in-Ok.next.at (sym c.line_at.ensures ∙ ap (got_line a.text.now)
    c.in-Ok.is) in
    absurd (no-fault l.invariant c.requires.1.0 c.requires.1.1 c.in-Ok.line c.in-Ok.next.at r c.in_default-step.field-0
    (sym c.step.ensures ∙ c.in_default-step.is))

pub take_in-requires : goal.take_in-requires
take_in-requires c = let a = c.args in
    let l = c.loop-at in
    let r = read-line a.text.now l.at c.in-Ok.line c.in-Ok.next.at (sym c.line_at.ensures ∙ ap (got_line a.text.now)
    c.in-Ok.is) in
    turn-fits l.invariant c.in-Ok.line c.in-Ok.next.at r c.in-Ok-step.q (sym c.step.ensures ∙ c.in-Ok-step.is)

pub loop-at-smaller : goal.loop-at-smaller
loop-at-smaller c = let a = c.args in
    let l = c.loop-at in
    let r = read-line a.text.now l.at c.in-Ok.line c.in-Ok.next.at (sym c.line_at.ensures ∙ ap (got_line a.text.now)
    c.in-Ok.is) in
    read-on r

pub loop-at-preserved : goal.loop-at-preserved
loop-at-preserved c = let a = c.args in
    let l = c.loop-at in
    let r = read-line a.text.now l.at c.in-Ok.line c.in-Ok.next.at (sym c.line_at.ensures ∙ ap (got_line a.text.now)
    c.in-Ok.is) in
    turn-taken l.invariant c.in-Ok.line c.in-Ok.next.at r c.in-Ok-step.q (sym c.step.ensures ∙ c.in-Ok-step.is)
    c.take_in.new.table c.take_in.ensures

pub returns : goal.returns
returns c = let l = c.loop-at in
    let e = filled-rest c.args.table.now _ c.fill_words.ensures in
    (c.requires.1.0, c.requires.1.1, built l.invariant c.requires.1.0 c.requires.1.1 c.loop-at-test.false ∙ ap (λ v. image_of c.requires.1.0 ++ v) e)
