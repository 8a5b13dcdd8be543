-- `draw::ticks_of` meets its contract.
use Rattle.std.proofs.Common.{ap, ◌∙◌}
use lib.Ieee.{to_unsigned}
use Rattle.draw.specs.Draw.{held, ticks}
use Rattle.draw.proofs.Ends.{ends, held-well}
use Rattle.draw.proofs.Ticks.{castable}
use Rattle.draw.proofs.Cases.{held_by}
use Rattle.draw.proofs.ticks_of.Goals as goal

pub clamp-h-requires : goal.clamp-h-requires
clamp-h-requires c = (ends _ _ c.requires).ordered

pub truncating_f64_to_u64-requires : goal.truncating_f64_to_u64-requires
unfolding held
truncating_f64_to_u64-requires c =
    let h = held-well c.args.lower c.args.upper c.args.n c.requires in
    let k = castable _ h.finite h.below-most in
    rw (held_by _ _ _ _ _ c.unit_of-u.ensures c.clamp-h.ensures.value) (record { lower_bound = k.0; upper_bound = k.1 })

pub returns : goal.returns
unfolding ticks held
returns c = c.truncating_f64_to_u64.ensures ∙ ap (to_unsigned 64) (held_by _ _ _ _ _ c.unit_of-u.ensures c.clamp-h.ensures.value)
