-- The digits of a number, one after the other.
use mathlib.Core.Path.{◌≡◌, refl, sym, ◌∙◌, ap}
use mathlib.Core.Bool.{Bool, true, false, cond}
use mathlib.Core.List.{List, [], ◌∷◌}
use Prim.Native.Nat.{ℕ, zero, suc, ◌+◌, ◌*◌, ◌-◌, ◌^◌, ◌≤◌, ◌<◌}
use native.Mathlib.Nat.{pow-le-pow_right}
use native.Mathlib.Numerals.{add-one}
use native.Mathlib.Omega.{arith}
use borrow.Author.Tests.{leb-true, ltb-true}
use lib.Dec.{leb, ltb}
use lib.ListN.{length, get_or, drop, drop_of_length-le}
use Rattle.laws.proofs.TestLaws.{and-true}
use Rattle.model.specs.Text.{byte0}
use Rattle.model.specs.Reading.{stops, got, is_digit}
use Rattle.fields.proofs.ScanLaws.{front, is_digit_lem, then_is, then-stops}
use Rattle.drawing.specs.File.{byte_a, hex_digits, is_letter, hex_next, hex_at}
use Rattle.drawing.proofs.Hex.{hex-below}
use Rattle.distributions.specs.Found.{digit_of}

-- ---- one byte
pub is-letter : (b : ℕ) → is_letter b ≡ true → (97 ≤ b) × (b < 103)
is-letter b e = let p = and-true (leb byte_a b) (ltb b (byte_a + 6)) e in (leb-true byte_a b p.0, ltb-true b 103 p.1)

next-nil : (n : ℕ) → hex_next n [] ≡ stops []
unfolding hex_next
next-nil n = refl

module _ (n b : ℕ) (bs : List ℕ) where
  next-digit : digit_of b < 16 → hex_next n (b ∷ bs) ≡ got (n * 16 + digit_of b) bs
  unfolding hex_next digit_of
  next-digit h = go (is_digit b) (is_letter b) h
    where
      go : (t u : Bool) → cond t (b - byte0) (cond u (b - byte_a + 10) 16) < 16
          → cond t (got (n * 16 + (b - byte0)) bs) (cond u (got (n * 16 + (b - byte_a + 10)) bs) (stops (b ∷ bs)))
          ≡ got (n * 16 + cond t (b - byte0) (cond u (b - byte_a + 10) 16)) bs
      go true u h = refl
      go false true h = refl
      go false false h = absurd (omega arith)

  next-other : 16 ≤ digit_of b → hex_next n (b ∷ bs) ≡ stops (b ∷ bs)
  unfolding hex_next digit_of
  next-other h = go (is_digit b) refl (is_letter b) refl h
    where
      go : (t : Bool) → is_digit b ≡ t → (u : Bool) → is_letter b ≡ u → 16 ≤ cond t (b - byte0) (cond u (b - byte_a + 10) 16)
          → cond t (got (n * 16 + (b - byte0)) bs) (cond u (got (n * 16 + (b - byte_a + 10)) bs) (stops (b ∷ bs))) ≡ stops (b ∷ bs)
      go true e u f h = absurd (omega (arith, is_digit_lem b e))
      go false e true f h = absurd (omega (arith, is-letter b f))
      go false e false f h = refl

-- ---- the loop: k digits are read
pub record Digits (t : List ℕ) (at₀ k n at : ℕ) : Type 0 where
  pub below : k ≤ hex_digits
  pub same : hex_at k (drop at₀ t) ≡ got n (drop at t)

pub digits-none : (t : List ℕ) (at : ℕ) → Digits t at 0 0 at
unfolding hex_at
digits-none t at = record { below = omega arith; same = refl }

stays : (j i : ℕ) (bs cs : List ℕ) → hex_at i bs ≡ stops cs → hex_at (j + i) bs ≡ stops cs
unfolding hex_at
stays zero i bs cs e = ap (λ k. hex_at k bs) (let o : 0 + i ≡ i = omega arith in o) ∙ e
stays (suc j) i bs cs e = ap (λ k. hex_at k bs) (let o : suc j + i ≡ suc (j + i) = omega arith in o) ∙ then-stops hex_next (stays j i bs cs e)

module _ (t : List ℕ) (at₀ k n at : ℕ) (w : Digits t at₀ k n at) where
  pub digits-all : hex_digits ≤ k → got n (drop at t) ≡ hex_at hex_digits (drop at₀ t)
  digits-all h = let e : k ≡ hex_digits = omega (arith, w.below) in sym w.same ∙ ap (λ j. hex_at j (drop at₀ t)) e

  module _ (h : k < hex_digits) where
    next : hex_at (suc k) (drop at₀ t) ≡ hex_next n (drop at t)
    unfolding hex_at
    next = then_is hex_next w.same

    stopped : hex_next n (drop at t) ≡ stops (drop at t) → stops (drop at t) ≡ hex_at hex_digits (drop at₀ t)
    stopped e =
        let o : hex_digits - suc k + suc k ≡ hex_digits = omega arith in
        sym (stays (hex_digits - suc k) (suc k) (drop at₀ t) (drop at t) (next ∙ e)) ∙ ap (λ j. hex_at j (drop at₀ t)) o

    pub digits-end : length t ≤ at → stops (drop at t) ≡ hex_at hex_digits (drop at₀ t)
    digits-end l = stopped (rw (drop_of_length-le t l) (next-nil n))

    pub digits-small : n < 1152921504606846976
    digits-small = let l : k ≤ 15 = omega arith in let p : 16 ^ k ≤ 16 ^ 15 = pow-le-pow_right (omega arith) l in omega (arith, hex-below k (drop at₀ t) n (drop at t) w.same)

    module _ (l : at < length t) (d : ℕ) (e : d ≡ digit_of (get_or t at 0)) where
      pub digits-stop : 16 ≤ d → stops (drop at t) ≡ hex_at hex_digits (drop at₀ t)
      digits-stop q = stopped (rw (front t at l) (next-other n (get_or t at 0) (drop (at + 1) t) (omega arith)))

      pub digits_more : d < 16 → Digits t at₀ (k + 1) (n * 16 + d) (at + 1)
      digits_more q = record {
        below = omega arith;
        same =
            ap (λ j. hex_at j (drop at₀ t)) (add-one k) ∙ next ∙ ap (hex_next n) (front t at l)
            ∙ next-digit n (get_or t at 0) (drop (at + 1) t) (omega arith) ∙ ap (λ y. got (n * 16 + y) (drop (at + 1) t)) (sym e);
      }
