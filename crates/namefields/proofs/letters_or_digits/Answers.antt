-- `namefields::letters_or_digits` meets its contract. The loop's invariant: what the bytes from here on say is what all of them say.
use mathlib.Core.Path.{refl, sym, ◌∙◌}
use native.Mathlib.Omega.{arith}
use Rattle.namefields.proofs.NameLaws.{inside, name-over, name-on, letters-over, letters-on, letters-bad}
use Rattle.namefields.proofs.letters_or_digits.Goals as goal

pub loop-at-init : goal.loop-at-init
loop-at-init c = refl

pub bounds-text-i : goal.bounds-text-i
bounds-text-i c = inside _ _ (sym c.name_stops.ensures ∙ c.loop-at-test.true)

pub is_letter_or_digit-requires : goal.is_letter_or_digit-requires
is_letter_or_digit-requires c = tt

pub returns-then-not-is_letter_or_digit : goal.returns-then-not-is_letter_or_digit
returns-then-not-is_letter_or_digit c = let e = sym c.is_letter_or_digit.ensures ∙ c.if-not-is_letter_or_digit.true in
    letters-bad _ _ _ (name-on c.args.text.now c.loop-at.i (sym c.name_stops.ensures ∙ c.loop-at-test.true)) e ∙ c.loop-at.invariant

pub overflow_add-i : goal.overflow_add-i
overflow_add-i c = let h = inside c.args.text.now c.loop-at.i (sym c.name_stops.ensures ∙ c.loop-at-test.true) in omega arith

pub loop-at-smaller : goal.loop-at-smaller
loop-at-smaller c = let h = inside c.args.text.now c.loop-at.i (sym c.name_stops.ensures ∙ c.loop-at-test.true) in omega arith

pub loop-at-preserved : goal.loop-at-preserved
loop-at-preserved c = let e = sym c.is_letter_or_digit.ensures ∙ c.if-not-is_letter_or_digit.false in
    letters-on _ _ _ (name-on c.args.text.now c.loop-at.i (sym c.name_stops.ensures ∙ c.loop-at-test.true)) e ∙ c.loop-at.invariant

pub returns : goal.returns
returns c = let t = c.args.text.now in
    let l = c.loop-at in
    let e = sym c.name_stops.ensures ∙ c.loop-at-test.false in
    letters-over _ (name-over t l.i e) ∙ l.invariant
