-- `firing::fire` meets its contract.
use mathlib.Core.Path.{ap₂, ◌∙◌}
use Rattle.answer.specs.State.{parts_of}
use Rattle.timing.specs.Timed.{aged_from}
use Rattle.layout.specs.Image.{model_of}
use Rattle.layout.proofs.RowsOfRange.{well-formed}
use Rattle.ticks.proofs.Falling.{tick-back, tick-through}
use Rattle.firing.proofs.Gives.{cast-fine, ticks-back, enabling-tick, fire-gives}
use Rattle.firing.proofs.fire.Goals as goal

pub age-requires : goal.age-requires
age-requires c = let p = c.requires in
    let m = model_of c.args.t.now in
    let z = enabling-tick m (well-formed _ p.0.standing.image) (parts_of c.args.x) c.args.c p.1.enables c.args.values.now p.0.ticking in
    (rw c.declared.ensures p.0.ticking, tick-through _ z)

pub overflow_cast-result : goal.overflow_cast-result
overflow_cast-result c = let p = c.requires in
    let m = model_of c.args.t.now in
    let z = enabling-tick m (well-formed _ p.0.standing.image) (parts_of c.args.x) c.args.c p.1.enables c.args.values.now p.0.ticking in
    cast-fine _ z p.1.from_zero

pub returns : goal.returns
returns c = let p = c.requires in
    let m = model_of c.args.t.now in
    let vs = c.args.values.now in
    let well = well-formed _ p.0.standing.image in
    let z = enabling-tick m well (parts_of c.args.x) c.args.c p.1.enables vs p.0.ticking in
    let f = c.fire_all-m in
    fire-gives m well (parts_of c.args.x) c.args.c p.1.enables p.0.conforming p.0.joinable p.0.standing.within vs c.args.x _ _ _ _ _
    (ticks-back _ z p.1.from_zero)
    c.action_of-a.ensures
    f.ensures.0
    f.ensures.1
    (c.age.ensures ∙ ap₂ (λ d v. aged_from d v 0 vs) c.declared.ensures (tick-back _ z))
