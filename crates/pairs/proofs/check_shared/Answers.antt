-- `pairs::check_shared` meets its contract: the lowest member of what some two clash by, then the first two that do.
use mathlib.Core.Path.{refl, sym, ap, ◌∙◌}
use Prim.Native.Nat.{◌<◌}
use native.Mathlib.Omega.{arith}
use mathlib.Core.List.{[], ◌∷◌}
use Rattle.laws.specs.Search.{seek, map_some}
use Rattle.laws.proofs.SearchLaws.{seek-here, seek-next, seek-end}
use Rattle.answer.specs.Told.{tell}
use Rattle.sets.specs.Members.{lowest_of}
use Rattle.iosa.specs.Checks.{clash_in}
use Rattle.layout.specs.Layout.{count_of}
use Rattle.layout.specs.Image.{model_of}
use Rattle.layout.proofs.ImageIsSane.{image-long}
use Rattle.rows.proofs.FoundLaws.{at_some, nothing-none}
use Rattle.parts.proofs.Saying.{says-fine, says-as}
use Rattle.pairs.specs.Clashes.{number_of, partner_of}
use Rattle.pairs.proofs.Clashing.{test_of, partners, none-shared, lowest-below, lowest-pairs, lowest-shared}
use borrow.Author.Rules.{rules}
use Rattle.pairs.proofs.check_shared.Goals as goal

pub returns-then-all-eq0 : goal.returns-then-all-eq0
returns-then-all-eq0 c = says-fine _ (none-shared _ _ c.requires (sym c.clash_set-all.ensures ∙ c.if-all-eq0.true))

pub count_of-n-requires : goal.count_of-n-requires
count_of-n-requires c = image-long _ c.requires

pub loop-i-init : goal.loop-i-init
loop-i-init c = refl

pub partner-requires : goal.partner-requires
partner-requires c = (
  c.requires,
  omega (arith, c.count_of-n.ensures),
  lowest-below c.args.kind c.args.t.now c.requires c.lowest-x.result
      (c.lowest-x.ensures ∙ ap lowest_of c.clash_set-all.ensures)
      (λ z. c.if-all-eq0.false (c.clash_set-all.ensures ∙ z)),
)

pub returns-in-Some : goal.returns-in-Some
returns-in-Some c = let l = c.loop-i in
    let t = c.args.t.now in
    let k = c.args.kind in
    let x = c.lowest-x.result in
    let h : l.i < count_of t = omega (arith, c.count_of-n.ensures) in
    let j = at_some (partner_of k t x l.i) _ (sym c.partner.ensures ∙ c.in-Some.is) in
    let hit = partners k t c.requires x l.i h ∙ ap (map_some (λ j. x ∷ l.i ∷ j ∷ [])) j in
    says-as _ _ _ (sym (lowest-shared k t c.requires x (c.lowest-x.ensures ∙ ap lowest_of c.clash_set-all.ensures)
    (λ z. c.if-all-eq0.false (c.clash_set-all.ensures ∙ z))
    ∙ ap (map_some (tell (number_of k))) (ap (seek (clash_in (test_of k) (model_of t) x) 0) (sym c.count_of-n.ensures)
    ∙ sym l.invariant ∙ seek-here (clash_in (test_of k) (model_of t) x) l.i _ (search rules) hit)))
    c.refusal.ensures

pub loop-i-preserved : goal.loop-i-preserved
loop-i-preserved c = let l = c.loop-i in
    let t = c.args.t.now in
    let k = c.args.kind in
    let x = c.lowest-x.result in
    let h : l.i < count_of t = omega (arith, c.count_of-n.ensures) in
    let none = nothing-none (partner_of k t x l.i) (sym c.partner.ensures ∙ c.in_default.is) in
    sym (seek-next (clash_in (test_of k) (model_of t) x) l.i _ (search rules) (partners k t c.requires x l.i h
    ∙ ap (map_some (λ j. x ∷ l.i ∷ j ∷ [])) none)) ∙ l.invariant

pub returns : goal.returns
returns c = let l = c.loop-i in
    let t = c.args.t.now in
    let k = c.args.kind in
    let x = c.lowest-x.result in
    absurd (lowest-pairs k t c.requires x (c.lowest-x.ensures ∙ ap lowest_of c.clash_set-all.ensures)
    (λ z. c.if-all-eq0.false (c.clash_set-all.ensures ∙ z))
    (ap (seek (clash_in (test_of k) (model_of t) x) 0) (sym c.count_of-n.ensures) ∙ sym l.invariant
    ∙ seek-end (clash_in (test_of k) (model_of t) x) l.i _ (search rules)))
