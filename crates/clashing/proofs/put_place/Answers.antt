-- `clashing::put_place` meets its contract: the place is a clash's, and no other.
use Rattle.tell.proofs.TellLaws.{put_as}
use Rattle.clashing.proofs.Meeting.{there, clash-at}
use Rattle.clashing.proofs.put_place.Goals as goal

pub unreachable-requires : goal.unreachable-requires
unreachable-requires c = let k = c.requires.1 in absurd (c.in_default.not-Clash k.component k.state k.lower k.higher k.here)

pub put_explanation-requires : goal.put_explanation-requires
put_explanation-requires c = let q = there c.args.t.now c.args.p c.requires.1 _ _ _ _ c.in-Clash.is in
    (c.requires.0, q.0, q.1, q.2, q.3, c.requires.2)

pub returns : goal.returns
returns c = let q = there c.args.t.now c.args.p c.requires.1 _ _ _ _ c.in-Clash.is in
    put_as (clash-at c.args.t.now c.args.p _ _ _ _ c.in-Clash.is q.0) c.put_explanation.ensures
