-- `orderly::check_walk` meets its contract: nothing where check 18 passes, and else 45, then 18.
use borrow.Author.Rules.{rules}
use Rattle.layout.specs.Image.{model_of}
use Rattle.orderly.proofs.Checking.{or-called}
use Rattle.orderly.proofs.check_walk.Goals as goal

pub returns : goal.returns
returns c = or-called (model_of c.args.t.now) _ _ c.check_meeting.ensures (search rules)
