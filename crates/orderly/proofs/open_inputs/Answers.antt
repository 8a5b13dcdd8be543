-- `orderly::open_inputs` meets its contract: two words of every block joined are the inputs, two more the outputs.
use mathlib.Core.Path.{◌≡◌, ◌∙◌, ap₂}
use Rattle.laws.specs.Sets.{◌∪◌, ◌∖◌}
use Rattle.layout.specs.Image.{model_of}
use Rattle.layout.proofs.ImageIsSane.{image-long, count-below}
use Rattle.triggering.specs.Test.{inputs_of}
use Rattle.orderly.proofs.Checking.{inputs-joined, outputs-joined}
use borrow.Author.Rules.{rules}
use Rattle.orderly.proofs.open_inputs.Goals as goal
use Rattle.orderly.proofs.open_inputs.Goals.{After-union-inputs}

-- the inputs are joined
inputs : (c : After-union-inputs) → c.union-inputs.result ≡ inputs_of (model_of c.args.t.now)
inputs c = c.union-inputs.ensures ∙ ap₂ ◌∪◌ c.joined.ensures c.joined-2.ensures ∙ inputs-joined c.args.t.now

pub joined-requires : goal.joined-requires
joined-requires c = let im = c.requires in (image-long _ im, count-below _ im, search rules)

pub joined-requires-2 : goal.joined-requires-2
joined-requires-2 c = let im = c.requires in (image-long _ im, count-below _ im, search rules)

pub joined-requires-3 : goal.joined-requires-3
joined-requires-3 c = let im = c.requires in (image-long _ im, count-below _ im, search rules)

pub joined-requires-4 : goal.joined-requires-4
joined-requires-4 c = let im = c.requires in (image-long _ im, count-below _ im, search rules)

pub returns : goal.returns
returns c = let outputs = c.union-outputs.ensures ∙ ap₂ ◌∪◌ c.joined-3.ensures c.joined-4.ensures in
    c.minus.ensures ∙ ap₂ ◌∖◌ (inputs (goal.at.returns c).After-union-inputs) (outputs ∙ outputs-joined c.args.t.now)
