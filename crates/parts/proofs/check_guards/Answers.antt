-- `parts::check_guards` meets its contract: what is left to search is the whole search.
use mathlib.Core.Path.{◌≡◌, refl, sym, ap, ap₂, ◌∙◌}
use Prim.Native.Nat.{ℕ, ◌<◌}
use native.Mathlib.Omega.{arith}
use mathlib.Core.List.{List, [], ◌∷◌}
use Rattle.laws.specs.Search.{seek, when}
use Rattle.laws.proofs.SearchLaws.{seek-here, seek-next, seek-end}
use Rattle.answer.specs.Told.{tell, told}
use Rattle.iosa.specs.Checks.{unclocked}
use Rattle.layout.specs.Layout.{count_of, block_word, first_of}
use Rattle.layout.specs.Image.{Image, comp_of}
use Rattle.layout.proofs.ImageIsSane.{image-long, comp-ranges}
use Rattle.rows.proofs.Ready.{word-ready, states-ready}
use Rattle.parts.specs.Faults.{bad_guard_by, fault10}
use Rattle.parts.proofs.Saying.{says-fine, says-refused}
use Rattle.parts.proofs.Guarding.{guards-by-rows, any-row}
use borrow.Author.Rules.{rules}
use Rattle.parts.proofs.check_guards.Invariants.{at}
use Rattle.parts.proofs.check_guards.Goals as goal

-- the search of the loop, by the words that it read
whole : (t : List ℕ) (im : Image t) (i : ℕ) (h : i < count_of t) (calm outs states lo hi : ℕ) → calm ≡ unclocked (comp_of t i) → outs ≡ block_word t i 3
    → states ≡ block_word t i 0 → lo ≡ first_of t i 0 → hi ≡ first_of t i states
    → seek (at t calm outs) lo hi ≡ fault10 (first_of t i 0) (comp_of t i)
whole t im i h calm outs states lo hi a b d e f = rw (f, d, e, a, b) (guards-by-rows t im i h)

pub block_word-outs-requires : goal.block_word-outs-requires
block_word-outs-requires c = word-ready _ c.requires.0 _ c.requires.1 _ (omega arith)

pub block_word-states-requires : goal.block_word-states-requires
block_word-states-requires c = word-ready _ c.requires.0 _ c.requires.1 _ (omega arith)

pub first_of-lo-requires : goal.first_of-lo-requires
first_of-lo-requires c = states-ready _ c.requires.0 _ c.requires.1 0 (omega arith)

pub first_of-hi-requires : goal.first_of-hi-requires
first_of-hi-requires c = states-ready _ c.requires.0 _ c.requires.1 _ (omega (arith, c.block_word-states.ensures, (comp-ranges _ c.requires.0 _ c.requires.1).states))

pub loop-k-init : goal.loop-k-init
loop-k-init c = (search rules, refl)

pub action_at-requires : goal.action_at-requires
action_at-requires c = let r = any-row _ c.requires.0 _ c.requires.1 c.loop-k.k (omega (
  arith,
  c.first_of-lo.ensures,
  c.loop-k.invariant.0,
)) (omega (
  arith,
  c.first_of-hi.ensures,
  ap (first_of c.args.t.now c.args.i) c.block_word-states.ensures,
)) in
    (image-long _ c.requires.0, r.place)

pub guard_at-requires : goal.guard_at-requires
guard_at-requires c = let r = any-row _ c.requires.0 _ c.requires.1 c.loop-k.k (omega (arith, c.first_of-lo.ensures, c.loop-k.invariant.0))
    (omega (
      arith,
      c.first_of-hi.ensures,
      ap (first_of c.args.t.now c.args.i) c.block_word-states.ensures,
    )) in
    (image-long _ c.requires.0, r.place)

pub bad_guard-requires : goal.bad_guard-requires
bad_guard-requires c = let r = any-row _ c.requires.0 _ c.requires.1 c.loop-k.k (omega (
  arith,
  c.first_of-lo.ensures,
  c.loop-k.invariant.0,
))
    (omega (arith, c.first_of-hi.ensures, ap (first_of c.args.t.now c.args.i) c.block_word-states.ensures)) in
    rw c.action_at.ensures r.action

pub returns-then-bad_guard : goal.returns-then-bad_guard
unfolding told
returns-then-bad_guard c = let l = c.loop-k in
    let t = c.args.t.now in
    let i = c.args.i in
    let b = c.bad_guard.ensures ∙ ap₂ (bad_guard_by _ _) c.action_at.ensures c.guard_at.ensures in
    says-refused _ (tell 10 (l.k ∷ [])) _ refl
    (sym (whole t c.requires.0 i c.requires.1 _ _ _ _ _ c.unclocked-calm.ensures c.block_word-outs.ensures
    c.block_word-states.ensures c.first_of-lo.ensures c.first_of-hi.ensures)
    ∙ sym l.invariant.1 ∙ seek-here (at t _ _) l.k _ (search rules) (ap (λ v. when v (tell 10 (l.k ∷ []))) (sym b ∙ c.if-bad_guard.true)))

pub loop-k-preserved : goal.loop-k-preserved
loop-k-preserved c = let l = c.loop-k in
    let t = c.args.t.now in
    let b = c.bad_guard.ensures ∙ ap₂ (bad_guard_by _ _) c.action_at.ensures c.guard_at.ensures in
    (search rules, sym (seek-next (at t _ _) l.k _ (search rules) (ap (λ v. when v (tell 10 (l.k ∷ []))) (sym b ∙ c.if-bad_guard.false))) ∙ l.invariant.1)

pub returns : goal.returns
returns c = let l = c.loop-k in
    let t = c.args.t.now in
    let i = c.args.i in
    says-fine _ (sym (whole t c.requires.0 i c.requires.1 _ _ _ _ _ c.unclocked-calm.ensures c.block_word-outs.ensures
    c.block_word-states.ensures c.first_of-lo.ensures c.first_of-hi.ensures)
    ∙ sym l.invariant.1 ∙ seek-end (at t _ _) l.k _ (search rules))
