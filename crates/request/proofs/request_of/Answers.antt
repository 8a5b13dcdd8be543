-- `request::request_of` meets its contract.
use mathlib.Core.Path.{sym, ◌∙◌, ap}
use lib.ListN.{drop}
use native.Mathlib.Omega.{arith}
use Rattle.answering.specs.Report.{request_line}
use Rattle.lines.proofs.LineLaws.{valued-stops, valued-is}
use Rattle.request.specs.Kept.{Kept, keep, there, kept, got_asked}
use Rattle.request.proofs.LineLaws.{no_line, too_long, short-enough, min-drop, ok-none, ok-some}
use Rattle.request.proofs.request_of.Goals as goal

pub returns-in_err-r : goal.returns-in_err-r
returns-in_err-r c = let t = c.args.text.now in
    let e = ok-none _ c.in_err-r.ensures.value in
    let gone = valued-stops keep (request_line t) (sym c.request_line.ensures ∙ ap (got_asked t) e.1) in
    rw c.from_residual.ensures (sym (ap (kept keep) (no_line t _ gone)), tt)

pub returns-then-at-gt-REQUEST : goal.returns-then-at-gt-REQUEST
returns-then-at-gt-REQUEST c = let t = c.args.text.now in
    let r = c.in_ok-r.r in
    let k = valued-is keep (request_line t) (sym c.request_line.ensures ∙ ap (got_asked t) (ok-some _ r c.in_ok-r.ensures.value)) in
    (sym (ap (kept keep) (too_long t r.at k.0 k.1 (omega (arith, c.if-at-gt-REQUEST.true, c.min-at.ensures)))), tt)

pub returns : goal.returns
returns c = let t = c.args.text.now in
    let r = c.in_ok-r.r in
    let k = valued-is keep (request_line t) (sym c.request_line.ensures ∙ ap (got_asked t) (ok-some _ r c.in_ok-r.ensures.value)) in
    let e = short-enough t r.at k.0 k.1 (omega (arith, c.if-at-gt-REQUEST.false, c.min-at.ensures)) in (
      sym (ap (kept keep) e ∙ ap (λ x. there x (drop r.at t)) k.2
          ∙ ap (λ l. there {A = Kept} (record { state = r.state; budget = r.budget }) l)
          (sym (min-drop t r.at) ∙ ap (λ k. drop k t) (sym c.min-at.ensures))),
      omega (arith, c.min-at.ensures),
    )
