-- `leads::woken` meets its contract.
use mathlib.Core.Path.{ap, ap₂, ◌∙◌}
use mathlib.Core.Bool.{◌&&◌, not, cond}
use Rattle.laws.specs.Sets.{has}
use Rattle.layout.specs.Image.{comp_of}
use Rattle.layout.proofs.ImageIsSane.{image-long}
use Rattle.triggering.specs.Test.{uouts_at, woken}
use Rattle.leads.proofs.Standing.{row_here}
use Rattle.leads.proofs.woken.Goals as goal

pub action_at-a-requires : goal.action_at-a-requires
action_at-a-requires c = let p = c.requires in (image-long _ p.state.image, (row_here p).place)

pub target_at-requires : goal.target_at-requires
target_at-requires c = let p = c.requires in (image-long _ p.state.image, (row_here p).place)

pub enabled_at-after-requires : goal.enabled_at-after-requires
enabled_at-after-requires c = let p = c.requires in
    (p.state.image, p.state.inside, rw c.target_at.ensures (row_here p).target)

pub has-urgent-requires : goal.has-urgent-requires
has-urgent-requires c = rw c.action_at-a.ensures (row_here c.requires).action

pub returns : goal.returns
unfolding woken
returns c = let k = comp_of c.args.t.now c.args.at.component in
    let urgent = c.has-urgent.ensures ∙ ap₂ (λ y z. has y z) c.urgent_of.ensures c.action_at-a.ensures in
    let after = c.enabled_at-after.ensures ∙ ap (uouts_at k) c.target_at.ensures in
    let calm = ap₂ (λ y z. not y && z) urgent (ap₂ (λ y z. y && not z) c.requires.state.counts c.is_unstable-unstable.ensures) in
    c.pick.ensures ∙ ap₂ (λ b s. cond b s 0) calm after
