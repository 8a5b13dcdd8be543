-- `measure::row_width`: the line of a row by its fields.
use mathlib.Core.Path.{◌∙◌}
use Rattle.measure.proofs.row_width.Goals as goal

pub returns : goal.returns
returns c = c.line_width.ensures ∙ rw (
  c.target_at-target.ensures,
  c.resets_at-resets.ensures,
  c.action_at-action.ensures,
  c.guard_at-guard.ensures,
)
