-- `firing::action_in` meets its contract: the row found in the state's range is the clock's row of the component.
use mathlib.Core.Path.{sym, ap, ◌∙◌}
use Rattle.layout.proofs.ImageIsSane.{image-long}
use Rattle.firing.specs.Fired.{action_or}
use Rattle.firing.proofs.GuardRow.{guard-ranges, guard-row, no-guard-row}
use Rattle.firing.proofs.action_in.Goals as goal

pub action_at-requires : goal.action_at-requires
action_at-requires c = (image-long _ c.requires.0, (guard-ranges _ c.requires.0 _ _ _ c.requires.1 c.requires.2 _ c.clock_row-f.ensures _ c.in-Some.is).place)

pub returns-in-Some : goal.returns-in-Some
returns-in-Some c = c.action_at.ensures ∙ sym (ap action_or (guard-row _ c.requires.0 _ _ _ c.requires.1 c.requires.2 _ c.clock_row-f.ensures _ c.in-Some.is))

pub returns-in-None : goal.returns-in-None
returns-in-None c = sym (ap action_or (no-guard-row _ c.requires.0 _ _ _ c.requires.1 c.requires.2 _ c.clock_row-f.ensures c.in-None.is))
