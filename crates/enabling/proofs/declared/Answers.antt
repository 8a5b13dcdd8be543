-- `enabling::declared` meets its contract: the clocks of all blocks are the system's.
use mathlib.Core.Path.{◌∙◌}
use borrow.Author.Rules.{rules}
use Rattle.layout.proofs.ImageIsSane.{image-long, count-below}
use Rattle.layout.proofs.JoinedInModel.{declared-joined}
use Rattle.enabling.proofs.declared.Goals as goal

pub joined-requires : goal.joined-requires
joined-requires c = let im = c.requires in (image-long _ im, count-below _ im, search rules)

pub returns : goal.returns
returns c = c.joined.ensures ∙ declared-joined c.args.t.now
