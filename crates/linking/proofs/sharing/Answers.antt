-- `linking::sharing` meets its contract: the actions, one after the other.
use mathlib.Core.Path.{refl, ap, ◌∙◌}
use mathlib.Core.Bool.{not, cond}
use native.Mathlib.Omega.{arith}
use lib.ListN.{get_or}
use lib.Dec.{eqb}
use Rattle.laws.specs.Sets.{◌∪◌, ◌∩◌}
use Rattle.triggering.specs.Test.{sharing}
use Rattle.linking.proofs.Walking.{none-shared, fold_next, fold_end}
use Rattle.linking.proofs.sharing.Invariants.{joins}
use Rattle.linking.proofs.sharing.Goals as goal

pub bounds-table-a : goal.bounds-table-a
bounds-table-a c = omega (arith, c.requires.0)

pub returns-then-mine-eq0 : goal.returns-then-mine-eq0
returns-then-mine-eq0 c = let a = c.args in none-shared a.table.now a.a c.if-mine-eq0.true

pub loop-d-init : goal.loop-d-init
loop-d-init c = (omega arith, refl)

pub bounds-table-d : goal.bounds-table-d
bounds-table-d c = omega (arith, c.requires.0)

pub single-requires : goal.single-requires
single-requires c = omega arith

pub loop-d-preserved : goal.loop-d-preserved
loop-d-preserved c = let l = c.loop-d in
    let a = c.args in
    let e = c.pick.ensures
    ∙ ap (λ s. cond (not (eqb (get_or a.table.now a.a 0 ∩ get_or a.table.now l.d 0) 0)) s 0) c.single.ensures in
    (omega arith, fold_next (joins a.table.now a.a) l.d _ l.all l.invariant.1 _ (omega arith) (c.union-all.ensures ∙ ap (λ x. l.all ∪ x) e))

pub returns : goal.returns
unfolding sharing
returns c = let l = c.loop-d in let a = c.args in
    fold_end (joins a.table.now a.a) l.d _ l.all l.invariant.1 (omega arith)
