-- `walking::urgently` meets its contract.
use mathlib.Core.Path.{sym, ◌∙◌, ap}
use Rattle.moves.proofs.StepsByOffers.{offered-step, no-offer-no-step}
use Rattle.paths.specs.Path.{after_of}
use Rattle.walking.proofs.Pacing.{trod-some, trod-none}
use Rattle.walking.proofs.urgently.Goals as goal

pub returns-then-not-offered : goal.returns-then-not-offered
returns-then-not-offered c = let r = c.requires in
    let e = no-offer-no-step _ r.conforming r.joinable _ r.standing.within _ (sym c.offered.ensures ∙ c.if-not-offered.true) in
    trod-none _ (ap after_of e) _

pub returns : goal.returns
returns c = let r = c.requires in
    let e = offered-step _ r.conforming r.joinable _ r.standing.within _ (sym c.offered.ensures ∙ c.if-not-offered.false) in
    trod-some _ _ (ap after_of e) _ _ c.move_all-m.ensures.1
