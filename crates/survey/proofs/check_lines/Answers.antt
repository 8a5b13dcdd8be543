-- `survey::check_lines` meets its contract. The loop's invariant: what the code keeps stands for what the definition keeps before this line.
use mathlib.Core.Path.{sym, ◌∙◌, ap}
use native.Mathlib.Omega.{arith}
use lib.ListN.{length, drop, length-drop}
use Rattle.std.specs.Prelude.{Err}
use Rattle.answer.specs.Told.{says_checked}
use Rattle.model.specs.Reading.{current, entry, lines_from, at_start}
use Rattle.lines.specs.Lines.{line_of, got_line}
use Rattle.lines.proofs.LineLaws.{valued-stops}
use Rattle.fields.specs.Resets.{valued}
use Rattle.judge.specs.Judged.{number_of, numbered}
use Rattle.survey.specs.Places.{allowed_of, column_in}
use Rattle.survey.proofs.Turns.{stands-first, read-line, read-on, no_line, at-end, line-fault, line-column, line_taken}
use Rattle.survey.proofs.Turns.{says-line, says-shape, says_none, says-fine}
use Rattle.survey.proofs.check_lines.Goals as goal

pub loop-at-init : goal.loop-at-init
loop-at-init c = let s = stands-first c.args.text.now in
    (at_start, record { kept = c.at_start-p.ensures ∙ s.kept; begun = s.begun; same = s.same; count = s.count })

pub faulty-requires : goal.faulty-requires
faulty-requires c = omega arith

pub returns-in-Err-step : goal.returns-in-Err-step
returns-in-Err-step c = let l = c.loop-at in
    let t = c.args.text.now in
    let line = c.in-Ok.line in
    let next = c.in-Ok.next.at in
    let scanned = sym c.line_at.ensures ∙ ap (got_line t) c.in-Ok.is in
    let here = read-line t l.at line next scanned in
    let f = number_of c.in-Err-step.fault in
    let e = ap numbered (sym c.step.ensures ∙ c.in-Err-step.is) in
    let w = line-fault l.invariant.1 line next here f e in
    let k = column_in t l.at (allowed_of l.p f) (valued line_of (entry (drop l.at t))) in
    let q = line-column l.invariant.1 line next here f k e (ap (column_in t l.at (allowed_of l.p f)) scanned) in
    ap (λ r. says_checked (Err r)) c.faulty.ensures
    ∙ says-line (current l.invariant.0) here.it f l.n k (lines_from (length t) 1 at_start t) w.0 w.1 w.2 q.0 q.1

pub overflow_add-n : goal.overflow_add-n
overflow_add-n c =
    omega (arith, c.loop-at.invariant.1.count, c.loop-at-test.true, length-drop c.loop-at.at c.args.text.now, c.well_formed)

pub loop-at-preserved : goal.loop-at-preserved
loop-at-preserved c = let l = c.loop-at in
    let t = c.args.text.now in
    let scanned = sym c.line_at.ensures ∙ ap (got_line t) c.in-Ok.is in
    let here = read-line t l.at c.in-Ok.line c.in-Ok.next.at scanned in
    (_, line_taken l.invariant.1 c.in-Ok.line c.in-Ok.next.at here c.in-Ok-step.q (sym c.step.ensures ∙ c.in-Ok-step.is))

pub loop-at-smaller : goal.loop-at-smaller
loop-at-smaller c = let t = c.args.text.now in
    read-on (read-line t c.loop-at.at c.in-Ok.line c.in-Ok.next.at (sym c.line_at.ensures ∙ ap (got_line t) c.in-Ok.is))

pub shapeless-requires : goal.shapeless-requires
shapeless-requires c = omega arith

pub returns-in-Err : goal.returns-in-Err
returns-in-Err c = let l = c.loop-at in
    let t = c.args.text.now in
    let e = valued-stops line_of (entry (drop l.at t)) (sym c.line_at.ensures ∙ ap (got_line t) c.in-Err.is) in
    ap (λ r. says_checked (Err r)) c.shapeless.ensures
    ∙ says-shape l.n _ (lines_from (length t) 1 at_start t) (no_line l.invariant.1 _ c.loop-at-test.true e)

pub returns-then-p-eq0 : goal.returns-then-p-eq0
returns-then-p-eq0 c = let t = c.args.text.now in
    let l = c.loop-at in
    says_none (lines_from (length t) 1 at_start t) l.invariant.0.comps (at-end l.invariant.1 c.loop-at-test.false)
    (sym (ap (λ p. p.components) l.invariant.1.kept) ∙ c.if-p-eq0.true)

pub returns : goal.returns
returns c = let t = c.args.text.now in
    let l = c.loop-at in
    says-fine (lines_from (length t) 1 at_start t) l.invariant.0.comps (at-end l.invariant.1 c.loop-at-test.false)
    (λ z. c.if-p-eq0.false (ap (λ p. p.components) l.invariant.1.kept ∙ z))
