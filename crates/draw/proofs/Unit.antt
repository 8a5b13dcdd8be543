-- u is the top 53 bits over 2^53, with nothing rounded away.
use Rattle.std.proofs.Common.{◌≡◌, ℕ, ◌+◌, ◌*◌, ◌/◌, ◌^◌, ◌<◌, ◌≤◌, true, false, pos, sym, ap, ◌∙◌, true≢false, lt_of_lt_of_le, le_of_lt, mod-lt, mod-eq_of_lt, zero-lt-suc, mul_assoc, div-lt_iff_lt-mul, mul-pos, mul_right_comm, lit≤, pow_pos, pow_mono, pow-add, shl_lt}
use lib.Ieee.{Float, nan, inf, fin, binary64, low, up, down, round, div, of_int}
use lib.Ieee.Fits.{down_pos}
use lib.Ieee.Exact.{HasValue, round_exact}
use lib.Ieee.Back.{round_whole}
use lib.Ieee.Scale.{round_same}
use Rattle.draw.specs.Draw.{top_bits, unit}

pub top_lt : (n : ℕ) → top_bits n < 2 ^ 53
top_lt n = mod-lt (n / 2048) (pow_pos 53)

-- of a 64-bit number nothing stands above them
pub top-is : (n : ℕ) → n < 2 ^ 64 → top_bits n ≡ n / 2048
top-is n h = mod-eq_of_lt ((div-lt_iff_lt-mul (zero-lt-suc 2047)).1 h)

pub unit-exact : (n : ℕ) → HasValue (unit n) false (top_bits n) (2 ^ 53)
unfolding unit
unit-exact n =
    let q = top_bits n in
    round_exact binary64 false q (2 ^ 53) q 1021 (pow_pos 53) (top_lt n)
    (lt_of_lt_of_le (shl_lt 53 1021 (top_lt n)) (pow_mono {i = 53 + 1021} {j = low binary64 + 1024} (lit≤ tt)))
    (ap (λ (x : ℕ). q * x) (pow-add 2 1021 53) ∙ sym (mul_assoc q (2 ^ 1021) (2 ^ 53)))

-- ---- as the code divides
by-2^53 : (x : Float) (a : ℕ) → HasValue x false a 1 → div binary64 x (fin false 1 (pos 53)) ≡ round binary64 false a (2 ^ 53)
unfolding div
by-2^53 nan a h = absurd h
by-2^53 (inf s) a h = absurd h
by-2^53 (fin true m e) a h = absurd (true≢false h.0)
by-2^53 (fin false m e) a h =
    round_same binary64 false (m * up e * 1) (1 * 2 ^ 53 * down e) a (2 ^ 53) (mul-pos (pow_pos 53) (down_pos e)) (pow_pos 53)
    (ap (λ (z : ℕ). z * 2 ^ 53) h.1 ∙ mul_right_comm a (down e) (2 ^ 53) ∙ mul_assoc a (2 ^ 53) (down e))

pub unit-by-division : (n : ℕ) → n < 2 ^ 64 → div binary64 (of_int binary64 (pos (n / 2048))) (fin false 1 (pos 53)) ≡ unit n
unfolding unit of_int
unit-by-division n h =
    ap (λ (q : ℕ). div binary64 (round binary64 false q 1) (fin false 1 (pos 53))) (sym (top-is n h))
    ∙ by-2^53 (round binary64 false (top_bits n) 1) (top_bits n) (round_whole binary64 false (top_bits n) (le_of_lt (top_lt n)))

pub top-fits : (n : ℕ) → n < 2 ^ 64 → n / 2048 ≤ 2 ^ 53
top-fits n h = le_of_lt ((div-lt_iff_lt-mul (zero-lt-suc 2047)).1 h)
