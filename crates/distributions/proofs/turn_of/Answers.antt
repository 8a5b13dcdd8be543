-- `distributions::turn_of` meets its contract.
use mathlib.Core.Path.{refl, sym, ◌∙◌, subst}
use native.Mathlib.Nat.{le_refl}
use native.Mathlib.Numerals.{add-one}
use Rattle.laws.proofs.Exits.{handed-on}
use Rattle.distributions.specs.Found.{LineGives}
use Rattle.distributions.specs.Text.{TurnGives, in-line, no_line}
use Rattle.distributions.proofs.LineLaws.{none-stands}
use Rattle.distributions.proofs.turn_of.Goals as goal

pub returns : goal.returns
returns c = let a = c.args in
    in-line (sym c.has.ensures ∙ c.if-not-has.false) (add-one a.p.line)
    (subst (LineGives a.x a.text.now a.p.at) c.in_ok-end.was c.line_of.ensures)

pub returns-in_err-end : goal.returns-in_err-end
returns-in_err-end c = let a = c.args in
    subst (TurnGives a.d a.x a.text.now a.p) (sym (handed-on _ c.from_residual.ensures.1))
    (sym c.has.ensures ∙ c.if-not-has.false, subst (LineGives a.x a.text.now a.p.at) c.in_err-end.was c.line_of.ensures)

pub returns-then-not-has : goal.returns-then-not-has
returns-then-not-has c = no_line (sym c.has.ensures ∙ c.if-not-has.true) refl (none-stands c.args.text.now _ (le_refl _))
