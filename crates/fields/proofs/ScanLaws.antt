-- A scan at a cursor goes by the byte there: the bytes from a cursor on are that byte and the bytes from the next cursor on.
use mathlib.Core.Path.{◌≡◌, refl, sym, ◌∙◌, ap}
use mathlib.Core.List.{List, [], ◌∷◌}
use mathlib.Core.Bool.{true, false}
use Prim.Native.Nat.{ℕ, zero, suc, ◌+◌, ◌*◌, ◌-◌, ◌^◌, ◌≤◌, ◌<◌}
use native.Mathlib.Numerals.{add-one}
use native.Mathlib.Nat.{pow-le-pow_right}
use native.Mathlib.Omega.{arith}
use lib.ListN.{length, get_or, drop, drop_of_length-le}
use lib.Seq.{drop-cons}
use lib.Dec.{leb, ltb}
use borrow.Author.Tests.{eq-eqb, ne_eqb, leb-true, ltb-true}
use Rattle.laws.proofs.TestLaws.{and-true}
use Rattle.model.specs.Text.{byte0}
use Rattle.answer.specs.Limits.{max_digits}
use Rattle.model.specs.Reading.{Scan, is, stops, got, then, exactly, the_byte, is_digit, more_digits, number}

pub front : (t : List ℕ) (at : ℕ) → at < length t → drop at t ≡ get_or t at 0 ∷ drop (at + 1) t
front t at h = rw (add-one) (drop-cons t at 0 h)

pub exactly-nil : (bs : List ℕ) → exactly [] bs ≡ got tt bs
unfolding exactly
exactly-nil bs = refl

pub exactly-end : (w : ℕ) (ws : List ℕ) → exactly (w ∷ ws) [] ≡ stops []
unfolding exactly
exactly-end w ws = refl

pub exactly-go : (w b : ℕ) (ws bs : List ℕ) → w ≡ b → exactly (w ∷ ws) (b ∷ bs) ≡ exactly ws bs
unfolding exactly
exactly-go w b ws bs e = rw (eq-eqb w b e, exactly)

pub exactly-stop : (w b : ℕ) (ws bs : List ℕ) → (w ≡ b → ⊥) → exactly (w ∷ ws) (b ∷ bs) ≡ stops (b ∷ bs)
unfolding exactly
exactly-stop w b ws bs e = rw (ne_eqb w b e, exactly)

pub byte-here : (t : List ℕ) (at b : ℕ) → at < length t → get_or t at 0 ≡ b → the_byte b (drop at t) ≡ got tt (drop (at + 1) t)
byte-here t at b h e = rw (front t at h) (exactly-go b (get_or t at 0) [] (drop (at + 1) t) (sym e) ∙ exactly-nil (drop (at + 1) t))

pub byte-other : (t : List ℕ) (at b : ℕ) → at < length t → (get_or t at 0 ≡ b → ⊥) → the_byte b (drop at t) ≡ stops (drop at t)
byte-other t at b h e = rw (front t at h) (exactly-stop b (get_or t at 0) [] (drop (at + 1) t) (λ q. e (sym q)))

pub byte-end : (t : List ℕ) (at b : ℕ) → length t ≤ at → the_byte b (drop at t) ≡ stops (drop at t)
byte-end t at b h = rw (drop_of_length-le t h) (exactly-end b [])

-- ---- a word, byte by byte
module _ (w t : List ℕ) (i at : ℕ) where
  pub word-done : length w ≤ i → exactly (drop i w) (drop at t) ≡ got tt (drop at t)
  word-done h = rw (drop_of_length-le w h) (exactly-nil (drop at t))

  pub word-short : i < length w → length t ≤ at → exactly (drop i w) (drop at t) ≡ stops (drop at t)
  word-short h k = rw (front w i h, drop_of_length-le t k) (exactly-end (get_or w i 0) (drop (i + 1) w))

  pub word-other : i < length w → at < length t → (get_or w i 0 ≡ get_or t at 0 → ⊥) → exactly (drop i w) (drop at t) ≡ stops (drop at t)
  word-other h k e = rw (front w i h, front t at k) (exactly-stop (get_or w i 0) (get_or t at 0) (drop (i + 1) w) (drop (at + 1) t) e)

  pub word_on : i < length w → at < length t → get_or w i 0 ≡ get_or t at 0 → exactly (drop i w) (drop at t) ≡ exactly (drop (i + 1) w) (drop (at + 1) t)
  word_on h k e = rw (front w i h, front t at k) (exactly-go (get_or w i 0) (get_or t at 0) (drop (i + 1) w) (drop (at + 1) t) e)

-- ---- the digits behind the first
pub more-full : (j n : ℕ) (bs : List ℕ) → j ≡ 0 → more_digits j n bs ≡ record { value = n; rest = bs }
unfolding more_digits
more-full j n bs e = rw (e, more_digits)

pub more-end : (j n : ℕ) → more_digits j n [] ≡ record { value = n; rest = [] }
unfolding more_digits
more-end zero n = refl
more-end (suc j) n = refl

more-stop : (j n b : ℕ) (bs : List ℕ) → is_digit b ≡ false → more_digits j n (b ∷ bs) ≡ record { value = n; rest = b ∷ bs }
unfolding more_digits
more-stop zero n b bs e = refl
more-stop (suc j) n b bs e = rw (e, more_digits)

more-on : (j n b : ℕ) (bs : List ℕ) → is_digit b ≡ true → more_digits (suc j) n (b ∷ bs) ≡ more_digits j (n * 10 + (b - byte0)) bs
unfolding more_digits
more-on j n b bs e = rw (e, more_digits)

module _ (t : List ℕ) (j n at : ℕ) where
  pub digits-end : length t ≤ at → more_digits j n (drop at t) ≡ record { value = n; rest = drop at t }
  digits-end h = rw (drop_of_length-le t h) (more-end j n)

  pub digits-stop : at < length t → is_digit (get_or t at 0) ≡ false → more_digits j n (drop at t) ≡ record { value = n; rest = drop at t }
  digits-stop h e = rw (front t at h) (more-stop j n (get_or t at 0) (drop (at + 1) t) e)

  pub digits-on : (i : ℕ) → at < length t → is_digit (get_or t at 0) ≡ true → j ≡ suc i
      → more_digits j n (drop at t) ≡ more_digits i (n * 10 + (get_or t at 0 - byte0)) (drop (at + 1) t)
  digits-on i h e q = rw (front t at h, q) (more-on i n (get_or t at 0) (drop (at + 1) t) e)

pub is_digit_lem : (b : ℕ) → is_digit b ≡ true → (48 ≤ b) × (b < 58)
is_digit_lem b e = let p = and-true (leb byte0 b) (ltb b (byte0 + 10)) e in (leb-true byte0 b p.0, ltb-true b 58 p.1)

-- k digits and one more
pub digits-room : (k n d : ℕ) → n < 10 ^ k → d < 10 → n * 10 + d < 10 ^ (k + 1)
digits-room k n d h l = rw add-one (omega arith)

pub digits-few : (k n : ℕ) → k ≤ 18 → n < 10 ^ k → n < 1000000000000000000
digits-few k n h l = let p : 10 ^ k ≤ 10 ^ 18 = pow-le-pow_right (omega arith) h in omega arith

-- ---- a number
number-none : (b : ℕ) (bs : List ℕ) → is_digit b ≡ false → number (b ∷ bs) ≡ stops (b ∷ bs)
unfolding number
number-none b bs e = rw (e, number)

number-zero : (b : ℕ) (bs : List ℕ) → is_digit b ≡ true → b ≡ byte0 → number (b ∷ bs) ≡ got 0 bs
unfolding number
number-zero b bs e z = rw (e, eq-eqb b byte0 z, number)

number_more : (b : ℕ) (bs : List ℕ) → is_digit b ≡ true → (b ≡ byte0 → ⊥) → number (b ∷ bs) ≡ is (more_digits (max_digits - 1) (b - byte0) bs)
unfolding number
number_more b bs e z = rw (e, ne_eqb b byte0 z, number)

number-nil : number [] ≡ stops []
unfolding number
number-nil = refl

module _ (t : List ℕ) (at : ℕ) where
  pub number-end : length t ≤ at → number (drop at t) ≡ stops (drop at t)
  number-end h = rw (drop_of_length-le t h) number-nil

  pub number-not : at < length t → is_digit (get_or t at 0) ≡ false → number (drop at t) ≡ stops (drop at t)
  number-not h e = rw (front t at h) (number-none (get_or t at 0) (drop (at + 1) t) e)

  pub number-nought : at < length t → is_digit (get_or t at 0) ≡ true → get_or t at 0 ≡ byte0 → number (drop at t) ≡ got 0 (drop (at + 1) t)
  number-nought h e z = rw (front t at h) (number-zero (get_or t at 0) (drop (at + 1) t) e z)

  pub number-on : at < length t → is_digit (get_or t at 0) ≡ true → (get_or t at 0 ≡ byte0 → ⊥)
      → number (drop at t) ≡ is (more_digits (max_digits - 1) (get_or t at 0 - byte0) (drop (at + 1) t))
  number-on h e z = rw (front t at h) (number_more (get_or t at 0) (drop (at + 1) t) e z)

-- ---- one scan, then another
pub then-stops : {A B : Type 0} {o : Scan A} {cs : List ℕ} (f : A → List ℕ → Scan B) → o ≡ stops cs → then o f ≡ stops cs
then-stops {A} {B} f e = ap (λ o. then o f) e

pub then_is : {A B : Type 0} {o : Scan A} {x : A} {bs : List ℕ} (f : A → List ℕ → Scan B) → o ≡ got x bs → then o f ≡ f x bs
then_is {A} {B} f e = ap (λ o. then o f) e
