-- `parts::check_active` meets its contract: any greatest sets answer the test.
use mathlib.Core.Path.{◌≡◌, refl, sym, ap, ◌∙◌}
use mathlib.Core.List.{List, [], ◌∷◌}
use mathlib.Core.Bool.{true, false, not}
use Prim.Native.Nat.{ℕ, ◌≤◌, ◌<◌}
use native.Mathlib.Omega.{arith}
use lib.ListN.{get_or}
use Rattle.laws.specs.Sets.{within}
use Rattle.laws.specs.Search.{seek, when, is_some}
use Rattle.laws.proofs.SearchLaws.{test-here, test-next, seek-end}
use Rattle.answer.specs.Limits.{max_states}
use Rattle.answer.specs.Told.{tell, told}
use Rattle.iosa.specs.Checks.{check14}
use Rattle.iosa.proofs.Acceptance.Check14.{check14-by-greatest}
use Rattle.layout.specs.Layout.{count_of, block_word}
use Rattle.layout.specs.Image.{Image, comp_of}
use Rattle.layout.proofs.ImageIsSane.{comp-ranges}
use Rattle.layout.proofs.RowsOfRange.{well-comp}
use Rattle.rows.proofs.Ready.{word-ready}
use Rattle.parts.specs.Faults.{fault14}
use Rattle.parts.proofs.Saying.{says-fine, says-refused}
use borrow.Author.Rules.{rules}
use Rattle.parts.proofs.check_active.Invariants.{outside}
use Rattle.parts.proofs.check_active.Goals as goal
use Rattle.parts.proofs.check_active.Goals.{After-lies_in, After-solve}

-- ---- what is known once the sets are found
module _ (c : After-solve) where
  abbrev table : List ℕ
  table = c.args.t.now

  abbrev at : ℕ
  at = c.args.i

  abbrev states : ℕ
  states = c.block_word-states.result

  abbrev sets : List ℕ
  sets = c.solve.new.act

  image : Image table
  image = c.requires.0

  inside : at < count_of table
  inside = c.requires.1

  counted : states ≡ block_word table at 0
  counted = c.block_word-states.ensures

  few : states ≤ max_states
  few = omega (arith, counted, (comp-ranges table image at inside).states)

  -- the loop's test is that of 14
  decides : is_some (seek (λ s. when (outside table at sets s) s) 0 states) ≡ check14 (comp_of table at)
  unfolding comp_of
  decides =
      ap (λ n. is_some (seek (λ s. when (outside table at sets s) s) 0 n)) counted
      ∙ check14-by-greatest (comp_of table at) (well-comp table image at inside) (λ s. get_or sets s 0) c.solve.ensures

-- in a turn: the test of the state
tested : (c : After-lies_in) → outside c.args.t.now c.args.i c.solve.new.act c.loop-s.s ≡ not c.lies_in.result
tested c = ap not (sym (c.lies_in.ensures ∙ ap (λ e. within e (get_or c.solve.new.act c.loop-s.s 0)) c.enabling.ensures))

pub block_word-states-requires : goal.block_word-states-requires
block_word-states-requires c = word-ready _ c.requires.0 _ c.requires.1 _ (omega arith)

pub loop-s-init : goal.loop-s-init
loop-s-init c = refl

pub enabling-requires : goal.enabling-requires
enabling-requires c = (image (goal.at.enabling-requires c).After-solve, inside (goal.at.enabling-requires c).After-solve, omega (arith, counted (goal.at.enabling-requires c).After-solve))

pub offset_bounds-greatest-s : goal.offset_bounds-greatest-s
offset_bounds-greatest-s c = omega (arith, few (goal.at.offset_bounds-greatest-s c).After-solve)

pub bounds-greatest-s : goal.bounds-greatest-s
bounds-greatest-s c = omega (arith, few (goal.at.bounds-greatest-s c).After-solve)

pub returns-then-not-lies_in : goal.returns-then-not-lies_in
unfolding told fault14
returns-then-not-lies_in c = let l = c.loop-s in
    let hit = test-here (outside c.args.t.now c.args.i c.solve.new.act) l.s c.block_word-states.result (search rules) (tested (goal.at.returns-then-not-lies_in c).After-lies_in ∙ ap not c.if-not-lies_in.true) in
    let bad : check14 (comp_of c.args.t.now c.args.i) ≡ true = sym (decides (goal.at.returns-then-not-lies_in c).After-solve) ∙ ap is_some (sym l.invariant ∙ hit) in
    says-refused _ (tell 14 (c.args.i ∷ [])) _ refl (ap (λ v. when v (tell 14 (c.args.i ∷ []))) bad)

pub loop-s-preserved : goal.loop-s-preserved
loop-s-preserved c = let l = c.loop-s in
    sym (test-next (outside c.args.t.now c.args.i c.solve.new.act) l.s c.block_word-states.result (search rules) (tested (goal.at.loop-s-preserved c).After-lies_in ∙ ap not c.if-not-lies_in.false)) ∙ l.invariant

pub returns : goal.returns
unfolding fault14
returns c = let l = c.loop-s in
    let past = seek-end (λ s. when (outside c.args.t.now c.args.i c.solve.new.act s) s) l.s c.block_word-states.result (search rules) in
    let good : check14 (comp_of c.args.t.now c.args.i) ≡ false = sym (decides (goal.at.returns c).After-solve) ∙ ap is_some (sym l.invariant ∙ past) in
    says-fine _ (ap (λ v. when v (tell 14 (c.args.i ∷ []))) good)
