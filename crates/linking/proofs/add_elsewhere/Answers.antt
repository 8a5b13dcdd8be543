-- `linking::add_elsewhere` meets its contract: the actions, one after the other.
use mathlib.Core.Path.{refl, ap, ◌∙◌}
use native.Mathlib.Omega.{arith}
use lib.ListN.{length}
use Rattle.triggering.specs.Test.{elsewhere}
use Rattle.leads.proofs.Standing.{crossed-length}
use Rattle.linking.proofs.Walking.{fold_next, fold_end}
use Rattle.linking.proofs.add_elsewhere.Invariants.{adds}
use Rattle.linking.proofs.add_elsewhere.Goals as goal

pub loop-a-init : goal.loop-a-init
loop-a-init c = (omega arith, c.requires.2, refl)

pub sharing-requires : goal.sharing-requires
sharing-requires c = (c.requires.1, omega arith)

pub own_of-requires : goal.own_of-requires
own_of-requires c = (c.requires.0, omega arith)

pub single-requires : goal.single-requires
single-requires c = omega arith

pub cross-requires : goal.cross-requires
cross-requires c = c.loop-a.invariant.1

pub loop-a-preserved : goal.loop-a-preserved
loop-a-preserved c = let l = c.loop-a in
    let a = c.args in
    let e = rw (
      c.single.ensures,
      c.minus-others.ensures,
      c.sharing.ensures,
      c.own_of.ensures,
    ) at c.cross.ensures in (
      omega arith,
      ap length c.cross.ensures
          ∙ crossed-length _ _ _,
      fold_next (adds a.t.now a.wakers.now) l.a _ l.table l.invariant.2 _ (omega arith) e,
    )

pub returns : goal.returns
unfolding elsewhere
returns c = let l = c.loop-a in
    let a = c.args in
    fold_end (adds a.t.now a.wakers.now) l.a _ l.table l.invariant.2 (omega arith)
