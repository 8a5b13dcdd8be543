-- `fields::more_digits` meets its contract. The loop's invariant: what the digits from here on make of n is what all of them make of the first;
use mathlib.Core.Path.{◌≡◌, refl, sym, ◌∙◌}
use mathlib.Core.Bool.{true}
use Prim.Native.Nat.{ℕ, ◌+◌, ◌-◌, ◌≤◌, ◌<◌}
use native.Mathlib.Omega.{arith}
use lib.ListN.{drop, get_or}
use Rattle.model.specs.Reading.{is_digit}
use Rattle.fields.proofs.ScanLaws.{more-full, digits-end, digits-stop, digits-on, is_digit_lem, digits-room, digits-few}
use Rattle.fields.proofs.more_digits.Goals as goal
use Rattle.fields.proofs.more_digits.Goals.{Else-not-is_digit}

abbrev read : Else-not-is_digit → ℕ
read c =
    get_or c.args.text.now c.loop-k.at 0

is_one : (c : Else-not-is_digit) → is_digit (read c) ≡ true
is_one c = sym c.is_digit.ensures ∙ c.if-not-is_digit.false

digit : (c : Else-not-is_digit) → (48 ≤ read c) × (read c < 58)
digit c = is_digit_lem (read c) (is_one c)

pub loop-k-init : goal.loop-k-init
loop-k-init c = (omega arith, omega arith, omega arith, refl)

pub returns-then-text-at : goal.returns-then-text-at
returns-then-text-at c = let a = c.args in
    let l = c.loop-k in
    (sym (digits-end a.text.now (a.most - l.k) l.n l.at c.if-text-at.true) ∙ l.invariant.3)

pub bounds-text-at : goal.bounds-text-at
bounds-text-at c = omega arith

pub is_digit-requires : goal.is_digit-requires
is_digit-requires c = tt

pub returns-then-not-is_digit : goal.returns-then-not-is_digit
returns-then-not-is_digit c = let a = c.args in
    let l = c.loop-k in
    let e = sym c.is_digit.ensures ∙ c.if-not-is_digit.true in
    (sym (digits-stop a.text.now (a.most - l.k) l.n l.at (omega arith) e) ∙ l.invariant.3)

pub overflow_mul-n : goal.overflow_mul-n
overflow_mul-n c = let l = c.loop-k in omega (arith, digits-few l.k l.n (omega arith) l.invariant.2)

pub overflow_sub-n : goal.overflow_sub-n
overflow_sub-n c = (digit c).0

pub overflow_cast-n : goal.overflow_cast-n
overflow_cast-n c = omega (arith, digit c)

pub overflow_add-n : goal.overflow_add-n
overflow_add-n c = let l = c.loop-k in omega (arith, digits-few l.k l.n (omega arith) l.invariant.2, digit c)

pub overflow_add-at : goal.overflow_add-at
overflow_add-at c = omega arith

pub loop-k-preserved : goal.loop-k-preserved
loop-k-preserved c = let a = c.args in
    let l = c.loop-k in
    let b = get_or a.text.now l.at 0 in
    let d = digit c in
    let e = digits-on a.text.now (a.most - l.k) l.n l.at (a.most - (l.k + 1)) (omega arith) (is_one c) (omega arith) in
    (omega arith, omega arith, digits-room l.k l.n (b - 48) l.invariant.2 (omega arith), sym e ∙ l.invariant.3)

pub returns : goal.returns
returns c = let a = c.args in
    let l = c.loop-k in
    (sym (more-full (a.most - l.k) l.n (drop l.at a.text.now) (omega arith)) ∙ l.invariant.3)
