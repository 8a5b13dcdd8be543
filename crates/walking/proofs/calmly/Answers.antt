-- `walking::calmly` meets its contract.
use mathlib.Core.Path.{sym, ◌∙◌}
use Rattle.layout.proofs.RowsOfRange.{well-formed}
use Rattle.walking.proofs.Pacing.{waits-clock, calm-taken, calm-left, trod-some, trod-none}
use Rattle.walking.proofs.calmly.Goals as goal

pub returns-then-not-waits_for : goal.returns-then-not-waits_for
returns-then-not-waits_for c = let r = c.requires in
    let e = sym c.waits_for.ensures ∙ c.if-not-waits_for.true in
    trod-none _ (calm-left _ (well-formed _ r.standing.image) r.conforming r.joinable _ r.standing.within _ _ e) _

pub fire_all-m-requires : goal.fire_all-m-requires
fire_all-m-requires c = let r = c.requires in
    let e = sym c.waits_for.ensures ∙ c.if-not-waits_for.false in
    (r.standing, waits-clock _ (well-formed _ r.standing.image) r.conforming r.joinable _ r.standing.within _ _ e)

pub returns : goal.returns
returns c = let r = c.requires in
    let e = sym c.waits_for.ensures ∙ c.if-not-waits_for.false in
    let f = calm-taken _ (well-formed _ r.standing.image) r.conforming r.joinable _ r.standing.within _ _ e in
    trod-some _ _ f _ _ c.fire_all-m.ensures.1
