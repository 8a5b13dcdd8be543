-- `namefields::good_name` meets its contract.
use mathlib.Core.Path.{◌≡◌, sym, ◌∙◌}
use mathlib.Core.Bool.{true}
use native.Mathlib.Omega.{arith}
use lib.ListN.{get_or}
use Rattle.named.specs.NamedText.{is_letter}
use Rattle.namefields.proofs.NameLaws.{inside, name-over, name-on, good_none, good-first, good-long, good-as}
use Rattle.namefields.proofs.good_name.Goals as goal
use Rattle.namefields.proofs.good_name.Goals.{Else-not-is_letter}

-- its first byte is a letter
letter : (c : Else-not-is_letter) → is_letter (get_or c.args.text.now c.args.at 0) ≡ true
letter c = sym c.is_letter.ensures ∙ c.if-not-is_letter.false

pub returns-then-name_stops : goal.returns-then-name_stops
returns-then-name_stops c = let a = c.args in
    good_none _ (name-over a.text.now a.at (sym c.name_stops.ensures ∙ c.if-name_stops.true))

pub bounds-text-at : goal.bounds-text-at
bounds-text-at c = inside _ _ (sym c.name_stops.ensures ∙ c.if-name_stops.false)

pub returns-then-not-is_letter : goal.returns-then-not-is_letter
returns-then-not-is_letter c = good-first _ _ _ (name-on c.args.text.now c.args.at (sym c.name_stops.ensures ∙ c.if-name_stops.false)) (sym c.is_letter.ensures ∙ c.if-not-is_letter.true)

pub returns-then-name_end-at-gt-LONGEST : goal.returns-then-name_end-at-gt-LONGEST
returns-then-name_end-at-gt-LONGEST c = good-long _ _ _ (name-on c.args.text.now c.args.at (sym c.name_stops.ensures ∙ c.if-name_stops.false)) (letter (goal.at.returns-then-name_end-at-gt-LONGEST c).Else-not-is_letter) (omega (arith, c.name_end.ensures, c.if-name_end-at-gt-LONGEST.true))

pub overflow_add-at : goal.overflow_add-at
overflow_add-at c = let h = inside c.args.text.now c.args.at (sym c.name_stops.ensures ∙ c.if-name_stops.false) in omega arith

pub returns : goal.returns
returns c = c.letters_or_digits.ensures
    ∙ good-as _ _ _ (name-on c.args.text.now c.args.at (sym c.name_stops.ensures ∙ c.if-name_stops.false)) (letter (goal.at.returns c).Else-not-is_letter) (omega (arith, c.name_end.ensures, c.if-name_end-at-gt-LONGEST.false))
