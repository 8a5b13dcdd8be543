-- `fields::number` meets its contract.
use mathlib.Core.Path.{◌≡◌, sym, ◌∙◌, ap}
use mathlib.Core.Bool.{true}
use Prim.Native.Nat.{ℕ, ◌≤◌, ◌<◌}
use native.Mathlib.Omega.{arith}
use lib.ListN.{get_or}
use Rattle.model.specs.Reading.{is, is_digit}
use Rattle.fields.proofs.ScanLaws.{number-end, number-not, number-nought, number-on, is_digit_lem}
use Rattle.fields.proofs.number.Goals as goal
use Rattle.fields.proofs.number.Goals.{Else-not-is_digit}

abbrev read : Else-not-is_digit → ℕ
read c = get_or c.args.text.now c.args.c.at 0

is_one : (c : Else-not-is_digit) → is_digit (read c) ≡ true
is_one c = sym c.is_digit.ensures ∙ c.if-not-is_digit.false

digit : (c : Else-not-is_digit) → (48 ≤ read c) × (read c < 58)
digit c = is_digit_lem (read c) (is_one c)

pub returns-then-text-at : goal.returns-then-text-at
returns-then-text-at c = let a = c.args in sym (number-end a.text.now a.c.at c.if-text-at.true)

pub returns-then-not-is_digit : goal.returns-then-not-is_digit
returns-then-not-is_digit c = let a = c.args in
    sym (number-not a.text.now a.c.at c.if-text-at.false (sym c.is_digit.ensures ∙ c.if-not-is_digit.true))

pub returns : goal.returns
returns c = let a = c.args in
    ap is c.more_digits.ensures ∙ sym (number-on a.text.now a.c.at c.if-text-at.false (is_one (goal.at.returns c).Else-not-is_digit) c.if-b-eq-ZERO.false)

pub returns-then-b-eq-ZERO : goal.returns-then-b-eq-ZERO
returns-then-b-eq-ZERO c = let a = c.args in
    sym (number-nought a.text.now a.c.at c.if-text-at.false (is_one (goal.at.returns-then-b-eq-ZERO c).Else-not-is_digit) c.if-b-eq-ZERO.true)

pub overflow_sub-b : goal.overflow_sub-b
overflow_sub-b c = (digit (goal.at.overflow_sub-b c).Else-not-is_digit).0

pub overflow_cast-b : goal.overflow_cast-b
overflow_cast-b c = omega (arith, digit (goal.at.overflow_cast-b c).Else-not-is_digit)

pub more_digits-requires : goal.more_digits-requires
more_digits-requires c = omega (arith, digit (goal.at.more_digits-requires c).Else-not-is_digit)
