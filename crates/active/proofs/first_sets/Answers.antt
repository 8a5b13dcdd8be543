-- `active::first_sets` meets its contract: the places passed hold what is allowed.
use native.Mathlib.Omega.{arith}
use lib.ListN.{length-set}
use Rattle.iosa.specs.Checks.{allowed}
use Rattle.layout.specs.Image.{comp_of}
use Rattle.layout.proofs.ImageIsSane.{comp-ranges}
use Rattle.rows.proofs.Ready.{word-ready}
use Rattle.active.proofs.Passes.{filled}
use borrow.Author.Rules.{rules}
use Rattle.active.proofs.first_sets.Goals as goal

pub block_word-states-requires : goal.block_word-states-requires
block_word-states-requires c = word-ready _ c.requires.0 _ c.requires.1 _ (omega arith)

pub loop-s-init : goal.loop-s-init
loop-s-init c = (search rules, search rules, λ j h. absurd (omega arith))

pub first_set-requires : goal.first_set-requires
first_set-requires c = (c.requires.0, c.requires.1, omega (arith, c.block_word-states.ensures))

pub bounds-act-s : goal.bounds-act-s
bounds-act-s c = omega (arith, c.block_word-states.ensures, (comp-ranges _ c.requires.0 _ c.requires.1).states)

pub offset_bounds-act-s : goal.offset_bounds-act-s
offset_bounds-act-s c = omega (arith, c.block_word-states.ensures, (comp-ranges _ c.requires.0 _ c.requires.1).states)

pub loop-s-preserved : goal.loop-s-preserved
loop-s-preserved c = let l = c.loop-s in (
  search rules,
  simp length-set l.invariant.1,
  filled (allowed (comp_of c.args.t.now c.args.i)) l.act l.s _
      (omega (arith, l.invariant.1, bounds-act-s c)) c.first_set.ensures l.invariant.2,
)

pub returns : goal.returns
unfolding comp_of
returns c = let l = c.loop-s in
    record { places = l.invariant.1; first = λ s p. l.invariant.2 s (omega (arith, c.block_word-states.ensures)) }
