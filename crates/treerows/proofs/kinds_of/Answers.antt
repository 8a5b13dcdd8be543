-- `treerows::kinds_of` meets its contract: the actions so far.
use mathlib.Core.Path.{◌≡◌, ◌∙◌, ap}
use Prim.Native.Nat.{◌-◌}
use native.Mathlib.Omega.{arith}
use Rattle.roles.specs.Roles.{kind_is}
use Rattle.elements.specs.Parts.{element_of}
use Rattle.treerows.specs.KindSets.{kinds_below, word_kind}
use Rattle.treerows.proofs.KindLaws.{kinds-none, kinds-on}
use Rattle.treerows.proofs.kinds_of.Goals as goal

pub loop-a-init : goal.loop-a-init
loop-a-init c = let a = c.args in (omega arith, kinds-none (word_kind a.words.now (element_of a.e)))

pub bounds-words-a : goal.bounds-words-a
bounds-words-a c = omega (arith, c.loop-a-test.true, c.requires.1)

pub kind_of-kind-requires : goal.kind_of-kind-requires
kind_of-kind-requires c = c.requires.2

pub with_kind-next-requires : goal.with_kind-next-requires
with_kind-next-requires c = omega (arith, c.loop-a-test.true, c.requires.1)

pub loop-a-preserved : goal.loop-a-preserved
unfolding word_kind
loop-a-preserved c = let l = c.loop-a in
    let a = c.args in (
      omega (arith, c.loop-a-test.true),
      kinds-on (word_kind a.words.now (element_of a.e)) l.a l.h _ (kind_is c.kind_of-kind.result) l.invariant.1 c.kind_of-kind.ensures
          c.with_kind-next.ensures,
    )

pub returns : goal.returns
returns c = let l = c.loop-a in
    let a = c.args in
    let z : l.a ≡ a.count = omega (arith, l.invariant.0, c.loop-a-test.false) in
    l.invariant.1 ∙ ap (kinds_below (word_kind a.words.now (element_of a.e))) z
