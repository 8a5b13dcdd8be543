-- `samples::sample` meets its contract.
use mathlib.Core.Path.{◌≡◌, sym, ◌∙◌}
use mathlib.Core.Bool.{true}
use Prim.Native.Nat.{ℕ, ◌≤◌, ◌<◌}
use native.Mathlib.Omega.{arith}
use lib.ListN.{get_or}
use borrow.Author.Tests.{le-leb, lt-leb}
use Rattle.model.specs.Reading.{is_digit}
use Rattle.fields.proofs.ScanLaws.{is_digit_lem}
use Rattle.samples.proofs.SampleLaws.{sample-end, sample-not, sample-nought, sample-on}
use Rattle.samples.proofs.sample.Goals as goal
use Rattle.samples.proofs.sample.Goals.{Else-not-is_digit}

abbrev read : Else-not-is_digit → ℕ
read c = let a = c.args in get_or a.text.now a.c.at 0

is_one : (c : Else-not-is_digit) → is_digit (read c) ≡ true
is_one c = sym c.is_digit.ensures ∙ c.if-not-is_digit.false

digit : (c : Else-not-is_digit) → (48 ≤ read c) × (read c < 58)
digit c = is_digit_lem (read c) (is_one c)

pub returns-then-text-at : goal.returns-then-text-at
returns-then-text-at c = let a = c.args in sample-end a.text.now a.c.at c.if-text-at.true

pub returns-then-not-is_digit : goal.returns-then-not-is_digit
returns-then-not-is_digit c = let a = c.args in
    sample-not a.text.now a.c.at c.if-text-at.false (sym c.is_digit.ensures ∙ c.if-not-is_digit.true)

pub returns-then-b-eq-ZERO : goal.returns-then-b-eq-ZERO
returns-then-b-eq-ZERO c = let a = c.args in
    sample-nought a.text.now a.c.at c.if-text-at.false (is_one (goal.at.returns-then-b-eq-ZERO c).Else-not-is_digit) c.if-b-eq-ZERO.true

pub overflow_sub-b : goal.overflow_sub-b
overflow_sub-b c = (digit (goal.at.overflow_sub-b c).Else-not-is_digit).0

pub overflow_cast-b : goal.overflow_cast-b
overflow_cast-b c = omega (arith, digit (goal.at.overflow_cast-b c).Else-not-is_digit)

pub more_digits-n-requires : goal.more_digits-n-requires
more_digits-n-requires c = (omega (arith, digit (goal.at.more_digits-n-requires c).Else-not-is_digit), omega arith, omega arith)

pub returns-then-n : goal.returns-then-n
returns-then-n c = let t = c.args.text.now in
    let e = sample-on t c.args.c.at c.if-text-at.false (is_one (goal.at.returns-then-n c).Else-not-is_digit) c.if-b-eq-ZERO.false in
    rw (← e, ← c.more_digits-n.ensures, le-leb _ _ c.if-n.true)

pub returns-else-n : goal.returns-else-n
returns-else-n c = let t = c.args.text.now in
    let e = sample-on t c.args.c.at c.if-text-at.false (is_one (goal.at.returns-else-n c).Else-not-is_digit) c.if-b-eq-ZERO.false in
    rw (← e, ← c.more_digits-n.ensures, lt-leb _ _ c.if-n.false)
