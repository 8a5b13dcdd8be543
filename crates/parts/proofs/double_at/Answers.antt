-- `parts::double_at` meets its contract: what is left to search is the whole search.
use mathlib.Core.Path.{◌≡◌, refl, sym, ap, ◌∙◌}
use Prim.Native.Nat.{ℕ, suc, ◌+◌}
use native.Mathlib.Omega.{arith}
use native.Mathlib.Numerals.{add-one}
use mathlib.Core.List.{List, [], ◌∷◌}
use mathlib.Core.Option.{some}
use Rattle.laws.specs.Search.{seek, when}
use Rattle.laws.proofs.SearchLaws.{test-here, test-next, seek-end}
use Rattle.answer.specs.Told.{tell, told}
use Rattle.iosa.specs.Checks.{unclocked}
use Rattle.layout.specs.Layout.{first_of}
use Rattle.layout.specs.Image.{comp_of}
use Rattle.layout.proofs.ImageIsSane.{image-long, comp-ranges}
use Rattle.rows.proofs.Ready.{first-ready, next-ready, row-ready}
use Rattle.parts.specs.Faults.{again_at}
use Rattle.parts.proofs.Saying.{says-fine, says-refused}
use Rattle.parts.proofs.Doubling.{none-again, some-again}
use borrow.Author.Rules.{rules}
use Rattle.parts.proofs.double_at.Goals as goal

-- the search of the loop, by the words that it read
whole : (t : List ℕ) (i s calm lo hi : ℕ) → calm ≡ unclocked (comp_of t i) → lo ≡ first_of t i s → hi ≡ first_of t i (s + 1)
    → seek (λ r. when (again_at t (unclocked (comp_of t i)) r) r) (first_of t i s + 1) (first_of t i (suc s)) ≡ seek (λ r. when (again_at t calm r) r) (lo + 1) hi
whole t i s calm lo hi a e f = rw (a, e, f, add-one s)

pub first_of-second-requires : goal.first_of-second-requires
first_of-second-requires c = first-ready _ c.requires.0 _ c.requires.1 _ c.requires.2

pub overflow_add-second : goal.overflow_add-second
overflow_add-second c = omega (arith, (comp-ranges _ c.requires.0 _ c.requires.1).rows c.args.s (omega (arith, c.requires.2)), c.first_of-second.ensures)

pub overflow_add-s : goal.overflow_add-s
overflow_add-s c = omega (arith, (next-ready _ c.requires.0 _ c.requires.1 _ c.requires.2).2)

pub first_of-hi-requires : goal.first_of-hi-requires
first_of-hi-requires c = next-ready _ c.requires.0 _ c.requires.1 _ c.requires.2

pub loop-k-init : goal.loop-k-init
loop-k-init c = (search rules, refl)

pub again_at-requires : goal.again_at-requires
again_at-requires c = let l = c.loop-k in
    let r = row-ready _ c.requires.0 _ c.requires.1 _ c.requires.2 _ _ c.first_of-second.ensures
    c.first_of-hi.ensures l.k (omega (arith, l.invariant.0)) (search rules) in
    (image-long _ c.requires.0, omega (arith, l.invariant.0), r.place, r.action)

pub action_at-requires : goal.action_at-requires
action_at-requires c = let l = c.loop-k in
    let r = row-ready _ c.requires.0 _ c.requires.1 _ c.requires.2 _ _ c.first_of-second.ensures c.first_of-hi.ensures l.k
    (omega (arith, l.invariant.0)) (search rules) in
    (image-long _ c.requires.0, r.place)

pub returns-then-again_at : goal.returns-then-again_at
unfolding told
returns-then-again_at c = let l = c.loop-k in
    let t = c.args.t.now in
    let i = c.args.i in
    let s = c.args.s in
    let e = whole t i s _ _ _ c.unclocked-calm.ensures c.first_of-second.ensures c.first_of-hi.ensures
    ∙ sym l.invariant.1 ∙ test-here (again_at t c.unclocked-calm.result) l.k _ (search rules)
    (sym c.again_at.ensures ∙ c.if-again_at.true) in
    says-refused _ (tell 13 (i ∷ s ∷ c.action_at.result ∷ [])) _ refl (some-again t c.requires.0 i c.requires.1 s c.requires.2 l.k e
    ∙ ap (λ a. some (tell 13 (i ∷ s ∷ a ∷ []))) (sym c.action_at.ensures))

pub loop-k-preserved : goal.loop-k-preserved
loop-k-preserved c = let l = c.loop-k in
    let t = c.args.t.now in
    (search rules, sym (test-next (again_at t c.unclocked-calm.result) l.k _ (search rules) (sym c.again_at.ensures ∙ c.if-again_at.false)) ∙ l.invariant.1)

pub returns : goal.returns
returns c = let l = c.loop-k in
    let t = c.args.t.now in
    says-fine _ (none-again t c.requires.0 _ c.requires.1 _ c.requires.2
    (whole t _ _ _ _ _ c.unclocked-calm.ensures c.first_of-second.ensures c.first_of-hi.ensures
    ∙ sym l.invariant.1 ∙ seek-end (λ r. when (again_at t c.unclocked-calm.result r) r) l.k _ (search rules)))
