-- `firing::choose` meets its contract.
use Rattle.firing.proofs.Choosing.{choice-negative, choice-quiet, chosen-low, choice-shared, choice-fires}
use Rattle.firing.proofs.choose.Goals as goal

pub returns-in-Some : goal.returns-in-Some
returns-in-Some c = rw c.at_clock.ensures (choice-negative _ _ _ c.below_zero.ensures _ c.in-Some.is)

pub returns-in_default-least : goal.returns-in_default-least
returns-in_default-least c = choice-quiet _ _ _ c.below_zero.ensures c.in_default.is _ c.least.ensures c.in_default-least.is

pub has_rival-requires : goal.has_rival-requires
has_rival-requires c = (c.requires, chosen-low _ _ _ c.below_zero.ensures c.in_default.is _ c.least.ensures _ c.in-Some-least.is)

pub returns-then-has_rival : goal.returns-then-has_rival
returns-then-has_rival c = rw c.at_clock-then-has_rival.ensures (choice-shared _ _ _ c.below_zero.ensures c.in_default.is _ c.least.ensures _ c.in-Some-least.is _ c.has_rival.ensures c.if-has_rival.true)

pub returns : goal.returns
returns c = choice-fires _ _ _ c.below_zero.ensures c.in_default.is _ c.least.ensures _ c.in-Some-least.is _ c.has_rival.ensures c.if-has_rival.false
