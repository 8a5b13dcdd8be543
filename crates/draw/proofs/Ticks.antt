-- The ticks of a draw are the whole part of what is held: the largest whole number not above it, 1 or more, and not above the upper end.
use Rattle.std.proofs.Common.{◌≡◌, ℕ, ◌+◌, ◌-◌, ◌*◌, ◌/◌, ◌^◌, ◌<◌, ◌≤◌, min, true, false, T, pos, sym, subst, le_trans, le_of_eq, lt_of_lt_of_le, lt_of_le_of_lt, mul-le-mul_right, div-lt_iff_lt-mul, mul-lt-mul_of_pos_right, one-mul, le-div_iff_mul-le, mul-one, mul_right_comm, div-mul-le_self, le_of_mul-le-mul_right, arith, lit<, lit≤, lt→ltb}
use lib.Ieee.{Float, nan, inf, fin, up, down, lt, le, to_unsigned}
use lib.Ieee.Fits.{down_pos}
use lib.Ieee.Positive.{num, den, positive, den_pos, le→cross}
use Rattle.draw.specs.Draw.{most, held_of, ticks, ranged, Floor, Between}
use Rattle.draw.proofs.Ends.{at_most, at_least, ends, held-well}

one-above : (a : ℕ) → a < a + 1
one-above a = omega arith

uncapped : (a c : ℕ) → a < c → min a (c - 1) ≡ a
uncapped a c h = omega arith

-- ---- the whole part of a positive value up to 2^40
whole-small : (x : Float) → T (positive x) → T (le x most) → num x / den x < 2 ^ 40 + 1
whole-small x p h =
    (div-lt_iff_lt-mul (den_pos x)).1 (lt_of_le_of_lt (at_most x p h) (mul-lt-mul_of_pos_right (one-above (2 ^ 40)) (den_pos x)))

whole_is : (x : Float) → T (positive x) → num x / den x < 2 ^ 64 → to_unsigned 64 x ≡ num x / den x
unfolding to_unsigned
whole_is nan p h = absurd p
whole_is (inf s) p h = absurd p
whole_is (fin true m e) p h = absurd p
whole_is (fin false m e) p h = uncapped (m * up e / down e) (2 ^ 64) h

whole_of : (x : Float) → T (positive x) → T (le x most) → to_unsigned 64 x ≡ num x / den x
whole_of x p h = whole_is x p (lt_of_lt_of_le (whole-small x p h) (lit≤ tt))

next-lt : (a d : ℕ) → 0 < d → a < (a / d + 1) * d
next-lt a d h = (div-lt_iff_lt-mul h).0 (one-above (a / d))

-- what the cast to an integer asks
pub castable : (x : Float) → T (positive x) → T (le x most) → T (lt (fin true 1 (pos 0)) x) × T (lt x (fin false 1 (pos 64)))
unfolding lt
castable nan p h = absurd p
castable (inf s) p h = absurd p
castable (fin true m e) p h = absurd p
castable (fin false m e) p h =
    let a : m * up e ≤ 2 ^ 40 * down e = at_most (fin false m e) p h in (
      lt→ltb 0 (1 * 1 * down e + m * up e * 1) (some-pos (down e) (m * up e * 1) (down_pos e)),
      lt→ltb (m * up e * 1) (1 * 2 ^ 64 * down e)
          (lt_of_le_of_lt (le_trans (le_of_eq (mul-one (m * up e))) a) (mul-lt-mul_of_pos_right (lit< tt) (down_pos e))),
    )
  where
    some-pos : (a b : ℕ) → 0 < a → 0 < 1 * 1 * a + b
    some-pos a b q = omega arith

-- ---- the ticks of a draw
module _ (lo hi : Float) (n : ℕ) (r : T (ranged lo hi)) where
  ticks-is : ticks lo hi n ≡ num (held_of lo hi n) / den (held_of lo hi n)
  unfolding ticks
  ticks-is = let h = held-well lo hi n r in whole_of (held_of lo hi n) h.finite h.below-most

  -- "the ticks are the largest whole number not above it"
  pub ticks-floor : Floor (held_of lo hi n) (ticks lo hi n)
  ticks-floor =
      let x = held_of lo hi n in
      subst (λ (t : ℕ). Floor x t) (sym ticks-is) (record { not-above = div-mul-le_self (num x) (den x); largest = next-lt (num x) (den x) (den_pos x) })

  -- "lie between 1 and the upper end"
  pub ticks-between : Between hi (ticks lo hi n)
  ticks-between =
      let x = held_of lo hi n in
      let h = held-well lo hi n r in
      let e = ends lo hi r in
      subst (λ (t : ℕ). Between hi t) (sym ticks-is)
      (record {
        one-at-least = (le-div_iff_mul-le (den_pos x)).1 (le_trans (le_of_eq (one-mul (den x))) (at_least x h.finite h.above-one));
        not-above-the-end = under-end (num x) (den x) (num hi) (den hi) (den_pos x) (le→cross x hi h.finite e.high-positive h.below-high);
        in-ticks = within-most (num x / den x) (whole-small x h.finite h.below-most);
      })
    where
      within-most : (a : ℕ) → a < 2 ^ 40 + 1 → a ≤ 1099511627776
      within-most a q = omega arith

      under-end : (a b c d : ℕ) → 0 < b → a * d ≤ c * b → a / b * d ≤ c
      under-end a b c d B q =
          le_of_mul-le-mul_right (le_trans (le_of_eq (mul_right_comm (a / b) d b)) (le_trans (mul-le-mul_right d (div-mul-le_self a b)) q)) B
