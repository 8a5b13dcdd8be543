-- `linking::add_led` meets its contract: the actions, one after the other.
use mathlib.Core.Path.{refl, ap, ◌∙◌}
use native.Mathlib.Omega.{arith}
use lib.ListN.{length}
use Rattle.leads.proofs.Standing.{crossed-length}
use Rattle.linking.specs.Linking.{led_from}
use Rattle.linking.proofs.Walking.{fold_next, fold_end}
use Rattle.linking.proofs.add_led.Invariants.{adds}
use Rattle.linking.proofs.add_led.Goals as goal

pub loop-a-init : goal.loop-a-init
loop-a-init c = (omega arith, c.requires.1, refl)

pub bounds-lead-a : goal.bounds-lead-a
bounds-lead-a c = omega (arith, c.requires.0)

pub bounds-table-a : goal.bounds-table-a
bounds-table-a c = omega (arith, c.loop-a.invariant.1)

pub spread-new-requires : goal.spread-new-requires
spread-new-requires c = c.requires.0

pub cross-requires : goal.cross-requires
cross-requires c = c.loop-a.invariant.1

pub loop-a-preserved : goal.loop-a-preserved
loop-a-preserved c = let l = c.loop-a in
    let a = c.args in
    let e = rw c.spread-new.ensures at c.cross.ensures in
    (omega arith, ap length c.cross.ensures ∙ crossed-length _ _ _, fold_next (adds a.lead.now) l.a _ l.table l.invariant.2 _ (omega arith) e)

pub returns : goal.returns
unfolding led_from
returns c = let l = c.loop-a in
    let a = c.args in
    fold_end (adds a.lead.now) l.a _ l.table l.invariant.2 (omega arith)
