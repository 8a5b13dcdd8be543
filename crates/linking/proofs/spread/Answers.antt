-- `linking::spread` meets its contract: the actions, one after the other.
use mathlib.Core.Path.{refl, ap, ◌∙◌}
use mathlib.Core.Bool.{cond}
use native.Mathlib.Omega.{arith}
use lib.ListN.{get_or}
use Rattle.laws.specs.Sets.{◌∪◌}
use Rattle.triggering.specs.Test.{spread_by}
use Rattle.linking.proofs.Walking.{none-spread, fold_next, fold_end}
use Rattle.linking.proofs.spread.Invariants.{joins}
use Rattle.linking.proofs.spread.Goals as goal

pub returns-then-x-eq0 : goal.returns-then-x-eq0
returns-then-x-eq0 c = none-spread _ _ c.if-x-eq0.true

pub loop-d-init : goal.loop-d-init
loop-d-init c = (omega arith, refl)

pub has-requires : goal.has-requires
has-requires c = omega arith

pub bounds-lead-d : goal.bounds-lead-d
bounds-lead-d c = omega (arith, c.requires)

pub loop-d-preserved : goal.loop-d-preserved
loop-d-preserved c = let l = c.loop-d in
    let a = c.args in
    let e = c.pick.ensures ∙ ap (λ b. cond b (get_or a.lead.now l.d 0) 0) c.has.ensures in
    (omega arith, fold_next (joins a.lead.now a.x) l.d _ l.all l.invariant.1 _ (omega arith) (c.union-all.ensures ∙ ap (λ y. l.all ∪ y) e))

pub returns : goal.returns
unfolding spread_by
returns c = let l = c.loop-d in let a = c.args in
    fold_end (joins a.lead.now a.x) l.d _ l.all l.invariant.1 (omega arith)
