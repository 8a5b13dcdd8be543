-- `walking::waits_for` meets its contract: the tests in turn.
use mathlib.Core.Path.{sym}
use Rattle.layout.proofs.RowsOfRange.{well-formed}
use Rattle.settling.proofs.Rests.{rests, goes_on}
use Rattle.walking.proofs.Pacing.{unstable-waits, no-clock-waits, no-action-waits, action-waits}
use Rattle.walking.proofs.waits_for.Goals as goal

pub returns-then-lowest_all : goal.returns-then-lowest_all
returns-then-lowest_all c = let r = c.requires in
    let st = goes_on _ _ r _ c.lowest_all.ensures c.if-lowest_all.true in
    sym (unstable-waits _ (well-formed _ r.standing.image) r.conforming r.joinable _ r.standing.within _ _ st)

pub returns-then-c : goal.returns-then-c
returns-then-c c = let r = c.requires in
    sym (no-clock-waits _ (well-formed _ r.standing.image) r.conforming r.joinable _ r.standing.within _ _ c.if-c.true)

pub returns-then-a : goal.returns-then-a
returns-then-a c = let r = c.requires in
    sym (no-action-waits _ (well-formed _ r.standing.image) r.conforming r.joinable _ r.standing.within _ _ c.if-a.true)

pub returns : goal.returns
returns c = let r = c.requires in
    let st = rests _ _ r _ c.lowest_all.ensures c.if-lowest_all.false in
    action-waits _ (well-formed _ r.standing.image) r.conforming r.joinable _ r.standing.within _ _ st c.if-a.false _ c.action_of.ensures
