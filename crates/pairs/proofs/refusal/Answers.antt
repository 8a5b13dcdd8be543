-- `pairs::refusal` meets its contract.
use mathlib.Core.Path.{refl, ap}
use mathlib.Core.List.{[], ◌∷◌}
use mathlib.Core.Option.{some}
use Rattle.answer.specs.Told.{tell, told}
use Rattle.parts.proofs.Saying.{says-refused}
use Rattle.pairs.specs.Clashes.{number_of}
use Rattle.pairs.proofs.refusal.Goals as goal

pub returns-in-Outputs : goal.returns-in-Outputs
unfolding told
returns-in-Outputs c = let a = c.args in
    says-refused _ (tell 15 (a.x ∷ a.i ∷ a.j ∷ [])) _ refl (ap (λ k. some (tell (number_of k) (a.x ∷ a.i ∷ a.j ∷ []))) c.in-Outputs.is)

pub returns-in-Clocks : goal.returns-in-Clocks
unfolding told
returns-in-Clocks c = let a = c.args in
    says-refused _ (tell 16 (a.x ∷ a.i ∷ a.j ∷ [])) _ refl (ap (λ k. some (tell (number_of k) (a.x ∷ a.i ∷ a.j ∷ []))) c.in-Clocks.is)

pub returns-in-Urgency : goal.returns-in-Urgency
unfolding told
returns-in-Urgency c = let a = c.args in
    says-refused _ (tell 17 (a.x ∷ a.i ∷ a.j ∷ [])) _ refl (ap (λ k. some (tell (number_of k) (a.x ∷ a.i ∷ a.j ∷ []))) c.in-Urgency.is)
