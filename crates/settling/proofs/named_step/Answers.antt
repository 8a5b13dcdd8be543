-- `settling::named_step` meets its contract.
use mathlib.Core.Path.{◌≡◌, sym, ap, ◌∙◌, subst}
use mathlib.Core.Option.{some}
use mathlib.Core.List.{[], ◌∷◌}
use Rattle.std.specs.Prelude.{Ok, Err}
use Rattle.answer.specs.Told.{Answer, tell, told}
use Rattle.answer.specs.State.{parts_of}
use Rattle.iosa.specs.Step.{taken_by, named}
use Rattle.iosa.specs.Stepped.{Stepping}
use Rattle.layout.specs.Image.{model_of}
use Rattle.moves.proofs.StepsByOffers.{offered-step, no-offer-no-step}
use Rattle.settling.specs.Gives.{StepAnswers}
use Rattle.settling.proofs.named_step.Goals as goal

pub returns : goal.returns
returns c = let r = c.requires in
    let a = c.args.a in
    let e = offered-step (model_of c.args.t.now) r.conforming r.joinable (parts_of c.args.x) r.standing.within a
    (sym c.offered.ensures ∙ c.if-not-offered.false) in
    subst (λ (v : Answer Stepping). StepAnswers v c.args.x (Ok c.moved_by.result)) (sym (ap (λ g. taken_by (named a g)) e))
    (record { outcome = c.moved_by.ensures.outcome; state = c.moved_by.ensures.state })

pub returns-then-not-offered : goal.returns-then-not-offered
unfolding told
returns-then-not-offered c = let r = c.requires in
    let a = c.args.a in
    let e = no-offer-no-step (model_of c.args.t.now) r.conforming r.joinable (parts_of c.args.x) r.standing.within a
    (sym c.offered.ensures ∙ c.if-not-offered.true) in
    let f : told c.not_enabled.result ≡ some (tell 23 (0 ∷ [])) = ap told c.not_enabled.ensures in
    subst (λ (v : Answer Stepping). StepAnswers v c.args.x (Err c.not_enabled.result)) (sym (ap (λ g. taken_by (named a g)) e)) f
