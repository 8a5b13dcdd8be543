-- `lining::shown` meets its contract.
use Rattle.lining.proofs.Lined.{shown-low, shown-high}
use Rattle.lining.proofs.shown.Goals as goal

pub returns-then-action : goal.returns-then-action
returns-then-action c = shown-low _ c.if-action.true

pub returns : goal.returns
returns c = shown-high _ c.if-action.false
