-- `treecheck::check_lines` meets its contract. The loop's invariant: what the lines from here on answer is what all answer.
use mathlib.Core.Path.{sym, ◌∙◌, ap}
use mathlib.Core.List.{[], ◌∷◌}
use native.Mathlib.Omega.{arith}
use lib.ListN.{drop, length-drop}
use Rattle.answer.specs.Told.{tell, refused, done_of}
use Rattle.lines.proofs.LineLaws.{valued-stops}
use Rattle.trees.specs.TreeText.{element}
use Rattle.treelines.specs.Elements.{element_is, got_element}
use Rattle.treecheck.proofs.Turns.{whole, stands-first, read-line, read-on, few, number-below, line-out, line_low, line_taken}
use Rattle.treecheck.proofs.Turns.{no_line, at-end, says-2, says-4, says-6, says-fine}
use Rattle.treecheck.proofs.check_lines.Goals as goal

pub loop-at-init : goal.loop-at-init
loop-at-init c = stands-first _

pub column-k-requires : goal.column-k-requires
column-k-requires c =
    let here = read-line c.args.text.now c.loop-at.at c.in-Ok.e c.in-Ok.next.at (sym c.element_at.ensures ∙ ap (got_element c.args.text.now) c.in-Ok.is) in
    few c.in-Ok.e here

pub returns-then-not-all_in : goal.returns-then-not-all_in
returns-then-not-all_in c =
    let here = read-line c.args.text.now c.loop-at.at c.in-Ok.e c.in-Ok.next.at (sym c.element_at.ensures ∙ ap (got_element c.args.text.now) c.in-Ok.is) in
    let l = c.loop-at in
    let out = line-out c.in-Ok.e here l.invariant (sym c.all_in.ensures ∙ c.if-not-all_in.true) in
    says-4 l.n c.column-k.result (done_of (whole c.args.text.now)) (out ∙ ap (λ x. refused (tell 4 (l.n ∷ x ∷ []))) (sym c.column-k.ensures))

pub returns-then-number-low : goal.returns-then-number-low
returns-then-number-low c =
    let here = read-line c.args.text.now c.loop-at.at c.in-Ok.e c.in-Ok.next.at (sym c.element_at.ensures ∙ ap (got_element c.args.text.now) c.in-Ok.is) in
    let l = c.loop-at in
    says-6 l.n (done_of (whole c.args.text.now))
    (line_low c.in-Ok.e here l.invariant (sym c.all_in.ensures ∙ c.if-not-all_in.false) c.if-number-low.true)

pub overflow_add-low : goal.overflow_add-low
overflow_add-low c =
    let here = read-line c.args.text.now c.loop-at.at c.in-Ok.e c.in-Ok.next.at (sym c.element_at.ensures ∙ ap (got_element c.args.text.now) c.in-Ok.is) in
    let b = number-below c.in-Ok.e here (sym c.all_in.ensures ∙ c.if-not-all_in.false) in
    omega (arith, b)

pub overflow_add-n : goal.overflow_add-n
overflow_add-n c = omega (arith, c.loop-at.invariant.count, c.loop-at-test.true, length-drop c.loop-at.at c.args.text.now, c.well_formed)

pub loop-at-smaller : goal.loop-at-smaller
loop-at-smaller c =
    let here = read-line c.args.text.now c.loop-at.at c.in-Ok.e c.in-Ok.next.at (sym c.element_at.ensures ∙ ap (got_element c.args.text.now) c.in-Ok.is) in
    read-on here

pub loop-at-preserved : goal.loop-at-preserved
loop-at-preserved c =
    let here = read-line c.args.text.now c.loop-at.at c.in-Ok.e c.in-Ok.next.at (sym c.element_at.ensures ∙ ap (got_element c.args.text.now) c.in-Ok.is) in
    line_taken c.in-Ok.e here c.loop-at.invariant
    (sym c.all_in.ensures ∙ c.if-not-all_in.false) c.if-number-low.false

pub column_at-k-requires : goal.column_at-k-requires
column_at-k-requires c = omega arith

pub returns-in-Err : goal.returns-in-Err
returns-in-Err c = let l = c.loop-at in
    let t = c.args.text.now in
    let e = valued-stops element_is (element (drop l.at t)) (sym c.element_at.ensures ∙ ap (got_element t)
    c.in-Err.is) in
    let told = no_line l.invariant _ c.loop-at-test.true e in
    says-2 l.n c.column_at-k.result (done_of (whole t)) (told ∙ ap (λ k. refused (tell 2 (l.n ∷ k ∷ []))) (sym c.column_at-k.ensures))

pub returns : goal.returns
returns c = says-fine _ (at-end c.loop-at.invariant c.loop-at-test.false)
