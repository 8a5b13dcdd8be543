-- `mending::move_row`: the words of one row put at another.
use mathlib.Core.Path.{◌∙◌}
use Prim.Native.Nat.{◌+◌, ◌*◌}
use Rattle.layout.specs.Layout.{row_words, rows_at}
use Rattle.mending.proofs.SetsAt.{row_words_lem}
use Rattle.mending.proofs.move_row.Goals as goal

pub returns : goal.returns
returns c = c.put_row.ensures ∙ row_words_lem c.args.t.now (rows_at + row_words * c.args.v) c.args.s c.args.r _ _ _ _ c.action_at-action.ensures
    c.guard_at-guard.ensures c.resets_at-resets.ensures c.target_at-target.ensures
