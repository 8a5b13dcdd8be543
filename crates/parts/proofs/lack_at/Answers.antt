-- `parts::lack_at` meets its contract: the lowest member of what the inputs have more than the actions that leave s.
use mathlib.Core.Path.{◌≡◌, refl, sym, ap, ap₂, ◌∙◌}
use native.Mathlib.Omega.{arith}
use mathlib.Core.List.{[], ◌∷◌}
use mathlib.Core.Option.{some}
use Rattle.laws.specs.Sets.{◌∪◌, ◌∖◌}
use Rattle.answer.specs.Told.{tell, told}
use Rattle.sets.specs.Members.{lowest_of}
use Rattle.model.specs.Model.{inputs}
use Rattle.layout.specs.Image.{comp_of}
use Rattle.rows.proofs.Ready.{word-ready}
use Rattle.parts.specs.Faults.{actions_in}
use Rattle.parts.proofs.Saying.{says-fine, says-refused}
use Rattle.parts.proofs.Lacking.{none-lacking, lowest-lacking}
use Rattle.parts.proofs.lack_at.Goals as goal

pub block_word-ins-requires : goal.block_word-ins-requires
block_word-ins-requires c = word-ready _ c.requires.0 _ c.requires.1 _ (omega arith)

pub block_word-uins-requires : goal.block_word-uins-requires
block_word-uins-requires c = word-ready _ c.requires.0 _ c.requires.1 _ (omega arith)

pub returns-then-lacking-eq0 : goal.returns-then-lacking-eq0
unfolding comp_of
returns-then-lacking-eq0 c = let t = c.args.t.now in
    let i = c.args.i in
    let e : c.minus-lacking.result ≡ inputs (comp_of t i) ∖ actions_in t i c.args.s = c.minus-lacking.ensures
    ∙ ap₂ ◌∖◌ (c.union.ensures ∙ ap₂ ◌∪◌ c.block_word-ins.ensures c.block_word-uins.ensures)
    c.actions_at.ensures in
    says-fine _ (none-lacking t c.requires.0 i c.requires.1 _ c.requires.2 (sym e ∙ c.if-lacking-eq0.true))

pub returns : goal.returns
unfolding comp_of told
returns c = let t = c.args.t.now in
    let i = c.args.i in
    let s = c.args.s in
    let e : c.minus-lacking.result ≡ inputs (comp_of t i) ∖ actions_in t i s = c.minus-lacking.ensures
    ∙ ap₂ ◌∖◌ (c.union.ensures ∙ ap₂ ◌∪◌ c.block_word-ins.ensures c.block_word-uins.ensures)
    c.actions_at.ensures in
    says-refused _ (tell 12 (i ∷ s ∷ c.lowest.result ∷ [])) _ refl
    (lowest-lacking t c.requires.0 i c.requires.1 s c.requires.2 (λ z. c.if-lacking-eq0.false (e ∙ z)) ∙ ap (λ x. some (tell 12 (i ∷ s ∷ x ∷ [])))
    (sym (c.lowest.ensures ∙ ap lowest_of e)))
