-- `feed::take` meets its contract.
use Rattle.feed.proofs.Takes.{takes-listed}
use Rattle.feed.proofs.Draws.{takes-drawn}
use Rattle.feed.proofs.take.Goals as goal

pub returns-in-Lists : goal.returns-in-Lists
returns-in-Lists c = takes-listed _ _ _ _ _ _ c.in-Lists.is _ c.listed.ensures

pub returns-in-Draws : goal.returns-in-Draws
returns-in-Draws c = takes-drawn _ _ _ _ _ _ c.in-Draws.is _ c.drawn.ensures
