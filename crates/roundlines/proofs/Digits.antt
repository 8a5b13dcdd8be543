-- The fewest digits that hold a number, as the kit's `io` puts them, are its digits with no needless zero in front; and a value by its sign.
use mathlib.Core.Path.{◌≡◌, refl, sym, ◌∙◌, ap, ap₂, subst}
use mathlib.Core.Bool.{Bool, true, false, cond, true≢false}
use mathlib.Core.List.{List, [], ◌∷◌, ◌++◌}
use Prim.Native.Nat.{ℕ, zero, suc, ◌+◌, ◌*◌, ◌-◌, ◌/◌, ◌%◌, ◌^◌, ◌≤◌, ◌<◌}
use native.Mathlib.Nat.{pow-suc}
use native.Mathlib.Omega.{arith}
use lib.Dec.{T, ltb}
use lib.IntN.{ℤ, pos, negsuc, nat_abs, sub_ℕ, ◌-ℤ◌}
use lib.Signed.{lt_z, non_neg}
use mir.Val.{Fits, SFits, to_z, of_z}
use mir.ValLaws.{to_z-of_z}
use mir.Syntax.{w64}
use borrow.Author.Tests.{ltb-true, ltb-false}
use Rattle.model.specs.Text.{byte0, digits_of}
use mathlib.Core.Logic.{by_cases}
use native.Mathlib.Decide.{dec_lt}
use Rattle.roundlines.specs.Lines.{long, long_digits}
use Rattle.io.specs.Digits.{hex_digit_ascii, last_digits, IsDigitCount}

glyph-digit : (d : ℕ) → d < 10 → hex_digit_ascii d ≡ byte0 + d
glyph-digit d h = go (ltb d 10) refl
  where
    go : (b : Bool) → ltb d 10 ≡ b → cond b (48 + d) (87 + d) ≡ byte0 + d
    go true e = refl
    go false e = absurd (omega (arith, ltb-false d 10 e))

one-digit : (k n : ℕ) → n < 10 → digits_of (suc k) n ≡ (byte0 + n) ∷ []
unfolding digits_of
one-digit k n h = go (ltb n 10) refl
  where
    go : (b : Bool) → ltb n 10 ≡ b → elim b as (λ _. List ℕ) [ true ↦ (byte0 + n) ∷ [] | false ↦ digits_of k (n / 10) ++ (byte0 + n % 10) ∷ [] ] ≡ (byte0 + n) ∷ []
    go true e = refl
    go false e = absurd (omega (arith, ltb-false n 10 e))

more-digits : (k n : ℕ) → 10 ≤ n → digits_of (suc k) n ≡ digits_of k (n / 10) ++ (byte0 + n % 10) ∷ []
unfolding digits_of
more-digits k n h = go (ltb n 10) refl
  where
    go : (b : Bool) → ltb n 10 ≡ b
        → elim b as (λ _. List ℕ) [ true ↦ (byte0 + n) ∷ [] | false ↦ digits_of k (n / 10) ++ (byte0 + n % 10) ∷ [] ] ≡ digits_of k (n / 10) ++ (byte0 + n % 10) ∷ []
    go true e = absurd (omega (arith, ltb-true n 10 e))
    go false e = refl

-- ten times as much for one digit more
tenfold : (r : ℕ) → 10 ^ suc r ≡ 10 ^ r * 10
tenfold r = pow-suc 10 r

-- r digits, of at most k
digits_are : (k r n : ℕ) → r ≤ k → 1 ≤ r → n < 10 ^ r → (1 < r → 10 ^ (r - 1) ≤ n) → last_digits 10 r n ≡ digits_of k n
digits_are zero r n h one below least = absurd (omega arith)
digits_are (suc k) zero n h one below least = absurd (omega arith)
digits_are (suc k) (suc zero) n h one below least =
    let z : n % 10 ≡ n = omega (arith, below) in
    ap (λ d. d ∷ []) (glyph-digit (n % 10) (omega arith) ∙ ap (λ d. byte0 + d) z) ∙ sym (one-digit k n (omega (arith, below)))
digits_are (suc k) (suc (suc r)) n h one below least =
    let t = tenfold (suc r) in
    let u = tenfold r in
    let m = least (omega arith) in
    let e : suc (suc r) - 1 ≡ suc r = omega arith in
    let o : suc r - 1 ≡ r = omega arith in
    let at_least : 10 ^ suc r ≤ n = subst (λ i. 10 ^ i ≤ n) e m in
    let tenth : 10 ^ r ≤ n / 10 = omega (arith, at_least, u) in
    ap₂ (λ ds d. ds ++ d ∷ [])
    (digits_are k (suc r) (n / 10) (omega arith) (omega arith) (omega (arith, below, t)) (λ q. subst (λ i. 10 ^ i ≤ n / 10) (sym o) tenth))
    (glyph-digit (n % 10) (omega arith))
    ∙ sym (more-digits k n (omega (arith, at_least, u, ten-some r)))
  where
    ten-some : (r : ℕ) → 1 ≤ 10 ^ r
    ten-some zero = omega arith
    ten-some (suc r) = omega (arith, ten-some r, tenfold r)

pub fewest-are : (k r n : ℕ) → r ≤ k → IsDigitCount 10 1 n r → last_digits 10 r n ≡ digits_of k n
fewest-are k r n h f = digits_are k r n h f.0 f.1 f.2

-- ---- a value below zero
less_one : (n : ℕ) → sub_ℕ (suc n) 1 ≡ pos n
less_one n = go (ltb (suc n) 1) refl
  where
    go : (b : Bool) → ltb (suc n) 1 ≡ b → cond b (negsuc (1 - suc (suc n))) (pos (suc n - 1)) ≡ pos n
    go true e = absurd (omega (arith, ltb-true (suc n) 1 e))
    go false e = let z : suc n - 1 ≡ n = omega arith in ap pos z

-- -1 less a value below zero, through a machine's word: m, where the value's size is m + 1
pub record Below (z : ℤ) : Type 0 where
  pub most : ℕ
  pub fits : most < 2 ^ 63
  pub size : nat_abs z ≡ suc most
  pub differs : negsuc 0 -ℤ to_z w64 (of_z w64 z) ≡ pos most
  pub back : to_z w64 (of_z w64 (negsuc 0 -ℤ to_z w64 (of_z w64 z))) ≡ pos most

module _ (z : ℤ) (f : SFits w64 z) where
  pub below_by : lt_z z (pos 0) ≡ true → Below z
  below_by h = go z f h
    where
      go : (z : ℤ) → SFits w64 z → lt_z z (pos 0) ≡ true → Below z
      go (pos n) f h = absurd (omega (arith, ltb-true n 0 h))
      go (negsuc n) f h =
          let small : n < 2 ^ 63 = omega (arith, f.sfits) in
          let d : negsuc 0 -ℤ to_z w64 (of_z w64 (negsuc n)) ≡ pos n = ap (λ (y : ℤ). negsuc 0 -ℤ y) (to_z-of_z w64 (negsuc n) f) ∙ less_one n in
          record {
            most = n;
            fits = small;
            size = refl;
            differs = d;
            back = ap (λ (y : ℤ). to_z w64 (of_z w64 y)) d ∙ to_z-of_z w64 (pos n) (record { sfits = omega (arith, small) });
          }

  pub own_sign : lt_z z (pos 0) ≡ false → T (non_neg z)
  own_sign h = go z h
    where
      go : (z : ℤ) → lt_z z (pos 0) ≡ false → T (non_neg z)
      go (pos n) h = tt
      go (negsuc n) h = absurd (true≢false h)

  pub own-fits : lt_z z (pos 0) ≡ false → Fits w64 (nat_abs z)
  own-fits h = go z f h
    where
      go : (z : ℤ) → SFits w64 z → lt_z z (pos 0) ≡ false → Fits w64 (nat_abs z)
      go (pos n) f h = record { fits = omega (arith, f.sfits) }
      go (negsuc n) f h = absurd (true≢false h)

-- ---- any number of a machine's word
ten-more : (a d : ℕ) → 10 ^ a ≤ 10 ^ (d + a)
ten-more a zero = let e : 0 + a ≡ a = omega arith in omega (arith, ap (λ k. 10 ^ k) e)
ten-more a (suc d) = let e : suc d + a ≡ suc (d + a) = omega arith in omega (arith, ap (λ k. 10 ^ k) e, ten-more a d, tenfold (d + a))

few : (r n : ℕ) → n < 2 ^ 64 → (1 < r → 10 ^ (r - 1) ≤ n) → r ≤ 20
few r n h least = by_cases (dec_lt 20 r) (λ q.
    let e : (r - 21) + 20 ≡ r - 1 = omega arith in
    let m = ten-more 20 (r - 21) in
    let l = least (omega arith) in
    absurd (omega (arith, rw e at m, l))) (λ q. omega arith)

pub long-digits : (r n : ℕ) → n < 2 ^ 64 → IsDigitCount 10 1 n r → last_digits 10 r n ≡ long n
unfolding long
long-digits r n h f = fewest-are long_digits r n (few r n h f.2) f
