-- `pairs::clashes` meets its contract: left meets right, or right meets left.
use mathlib.Core.Path.{ap, ap₂, ◌∙◌}
use Rattle.laws.specs.Sets.{has, ◌∪◌, ◌∩◌}
use Rattle.pairs.specs.Clashes.{clash_of}
use Rattle.pairs.proofs.clashes.Goals as goal

pub returns : goal.returns
unfolding clash_of
returns c = let a = c.sides_of-a in
    let b = c.sides_of-b in
    c.has.ensures ∙ ap (λ s. has s c.args.x) (ap₂ ◌∪◌ (ap₂ ◌∩◌ a.ensures.0 b.ensures.1) (ap₂ ◌∩◌ a.ensures.1 b.ensures.0))
