-- `rounds::close` meets its contract.
use Rattle.rounds.proofs.Ending.{closes-stable, closes-42}
use Rattle.rounds.proofs.close.Goals as goal

pub end-requires : goal.end-requires
end-requires c = (c.requires.0, c.requires.1.ticking.count)

pub returns-in-Stable : goal.returns-in-Stable
returns-in-Stable c =
    closes-stable _ c.args.s _ c.requires.1 _ c.untraced-d.ensures _ _ _ c.in-Stable.is _ c.union-resets.ensures _ _ _ _ c.end.ensures

pub returns-in-Unsettled : goal.returns-in-Unsettled
returns-in-Unsettled c = closes-42 _ c.args.s _ c.requires.1 _ c.untraced-d.ensures _ _ _ c.in-Unsettled.is c.requires.0
