-- `admit::check_image` meets its contract.
use mathlib.Core.Path.{refl, ap}
use mathlib.Core.Bool.{not}
use mathlib.Core.Option.{none}
use Rattle.parts.proofs.Saying.{says-fine}
use Rattle.admit.proofs.Recognised.{says-20, says-of-model}
use Rattle.admit.proofs.check_image.Goals as goal

pub returns-then-not-recognise : goal.returns-then-not-recognise
returns-then-not-recognise c = let w = c.recognise in
    says-20 c.args.table.now w.result w.ensures (λ m. none) _ (ap not c.if-not-recognise.true) c.refused.ensures

pub returns : goal.returns
returns c = let w = c.recognise in
    says-of-model c.args.table.now w.result w.ensures (λ m. none) _ (ap not c.if-not-recognise.false) (says-fine none refl)
