-- `orderly::check_closed` meets its contract: 45 at the lowest open input, and none is 64.
use mathlib.Core.Path.{◌∙◌, ap}
use Rattle.sets.specs.Members.{lowest_of}
use Rattle.layout.specs.Image.{model_of}
use Rattle.parts.proofs.Saying.{says-fine}
use Rattle.orderly.proofs.Checking.{none_open, says-45}
use Rattle.orderly.proofs.check_closed.Goals as goal

pub returns-then-a : goal.returns-then-a
returns-then-a c = let m = model_of c.args.t.now in
    let low = c.lowest-a.ensures ∙ ap lowest_of c.open_inputs.ensures in
    says-45 m _ low _ c.if-a.true c.refused_at.ensures

pub returns : goal.returns
returns c = let m = model_of c.args.t.now in
    let low = c.lowest-a.ensures ∙ ap lowest_of c.open_inputs.ensures in
    says-fine _ (none_open m _ low c.if-a.false)
