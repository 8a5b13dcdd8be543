-- `namesheet::first_unused` meets its contract. The loop's invariant: no name of an action before this one is unused.
use mathlib.Core.Path.{refl, sym, ◌∙◌, subst}
use native.Mathlib.Omega.{arith}
use Rattle.namelaws.proofs.PlaceLaws.{Searched, searched-first, searched-here, searched-next, searched-end}
use borrow.Author.Rules.{rules}
use Rattle.namesheet.proofs.first_unused.Goals as goal

pub loop-a-init : goal.loop-a-init
loop-a-init c = (omega arith, searched-first c.args.declared c.args.places.now)

pub bounds-places-a : goal.bounds-places-a
bounds-places-a c = omega (arith, c.requires)

pub returns-then-is_unused : goal.returns-then-is_unused
returns-then-is_unused c = let l = c.loop-a in
    let a = c.args in
    searched-here a.declared a.places.now l.a l.line _ l.invariant.1 refl
    (sym c.is_unused.ensures ∙ c.if-is_unused.true) c.loop-a-test.true

pub loop-a-preserved : goal.loop-a-preserved
loop-a-preserved c = let l = c.loop-a in
    let a = c.args in
    let s = searched-next a.declared a.places.now l.a l.line _ l.invariant.1 refl
    (sym c.is_unused.ensures ∙ c.if-is_unused.false) in
    (search rules, subst (Searched a.declared a.places.now _) (sym c.line_after-line.ensures) s)

pub returns : goal.returns
returns c = let l = c.loop-a in
    let a = c.args in
    searched-end a.declared a.places.now l.a l.line l.invariant.1 (omega (arith, l.invariant.0, c.loop-a-test.false))
