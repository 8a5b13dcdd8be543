-- `print::put_behind` meets its contract: the sign, then the number.
use mathlib.Core.List.{[], ◌∷◌}
use Rattle.print.proofs.LaidLaws.{left-all, part-put, left-last}
use Rattle.print.proofs.put_behind.Goals as goal

-- behind the sign the number is left
pub returns : goal.returns
returns c = left-last (part-put (c.args.sign ∷ []) _ (left-all _ _ _ c.requires) c.put_byte-next.ensures) c.put_decimal.ensures
