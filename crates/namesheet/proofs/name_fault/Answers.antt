-- `namesheet::name_fault` meets its contract.
use mathlib.Core.Path.{◌≡◌, refl, sym, ◌∙◌, ap}
use mathlib.Core.Bool.{Bool, true}
use Rattle.std.specs.Prelude as Answered
use Rattle.std.specs.Prelude.{Some, None}
use Rattle.laws.specs.Search.{is_some}
use Rattle.named.specs.NamedText.{good_name}
use Rattle.namefields.specs.NameFields.{name_from, number_by, Found, found_is}
use Rattle.namelaws.proofs.NameTurns.{fault-4, fault-6, fault-bad, fault-again, fault-no}
use Rattle.namesheet.proofs.name_fault.Goals as goal
use Rattle.namesheet.proofs.name_fault.Goals.{After-good_name, Else-not-good_name}

some-found : (r : Found) → is_some (found_is r) ≡ Answered.is_some r
some-found None = refl
some-found (Some a) = refl

-- ---- behind the test of the name
abbrev good : After-good_name → Bool
good c = let a = c.args in good_name (name_from a.text.now a.at)

abbrev again : After-good_name → Bool
again c =
    let a = c.args in
    is_some (number_by a.text.now a.places.now (name_from a.text.now a.at))

fine : (c : Else-not-good_name) → good (goal.at.Else-not-good_name c).After-good_name ≡ true
fine c = sym c.good_name.ensures ∙ c.if-not-good_name.false

pub returns-then-number : goal.returns-then-number
returns-then-number c = let a = c.args in
    let t = a.text.now in
    fault-4 a.number a.low (good_name (name_from t a.at)) (is_some (number_by t a.places.now (name_from t a.at))) c.if-number.true

pub returns-then-number-low : goal.returns-then-number-low
returns-then-number-low c = let a = c.args in
    let t = a.text.now in
    fault-6 a.number a.low (good_name (name_from t a.at)) (is_some (number_by t a.places.now (name_from t a.at)))
    c.if-number.false c.if-number-low.true

pub returns-then-not-good_name : goal.returns-then-not-good_name
returns-then-not-good_name c = let a = c.args in
    fault-bad a.number a.low (good (goal.at.returns-then-not-good_name c).After-good_name) (again (goal.at.returns-then-not-good_name c).After-good_name) c.if-number.false c.if-number-low.false
    (sym c.good_name.ensures ∙ c.if-not-good_name.true)

pub returns-then-is_some : goal.returns-then-is_some
returns-then-is_some c = let a = c.args in
    fault-again a.number a.low (good (goal.at.returns-then-is_some c).After-good_name) (again (goal.at.returns-then-is_some c).After-good_name) c.if-number.false c.if-number-low.false (fine (goal.at.returns-then-is_some c).Else-not-good_name)
    (sym (ap is_some c.action_named.ensures) ∙ some-found c.action_named.result ∙ sym c.is_some.ensures ∙ c.if-is_some.true)

pub returns : goal.returns
returns c = let a = c.args in
    fault-no a.number a.low (good (goal.at.returns c).After-good_name) (again (goal.at.returns c).After-good_name) c.if-number.false c.if-number-low.false (fine (goal.at.returns c).Else-not-good_name)
    (sym (ap is_some c.action_named.ensures) ∙ some-found c.action_named.result ∙ sym c.is_some.ensures ∙ c.if-is_some.false)
