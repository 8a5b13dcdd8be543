-- A number printed is scanned back, and what is scanned as a number is that number printed.
use mathlib.Core.Path.{◌≡◌, refl, sym, ◌∙◌, ap, ap₂}
use mathlib.Core.Bool.{Bool, true, false}
use mathlib.Core.List.{List, [], ◌∷◌, ◌++◌, append_assoc}
use Prim.Native.Nat.{ℕ, zero, suc, ◌+◌, ◌*◌, ◌-◌, ◌/◌, ◌%◌, ◌^◌, ◌≤◌, ◌<◌}
use native.Mathlib.Omega.{arith}
use native.Mathlib.Decide.{ℕ_discrete, dec_lt}
use lib.ListN.{length, length-append}
use lib.Dec.{eqb, ltb, leb}
use borrow.Author.Tests.{ltb-true, leb-true, lt-ltb, le-ltb, le-leb, eqb-true, eqb-false, ne_eqb}
use Rattle.laws.proofs.TestLaws.{and-true}
use Rattle.answer.specs.Limits.{max_digits}
use Rattle.model.specs.Text.{byte0, digits_of, decimal}
use Rattle.model.specs.Reading.{Got, Scan, is, stops, got, is_digit, more_digits, number}
use Rattle.model.proofs.Reading.Scans.{is-inj, no-is}

-- the bytes do not begin with a digit
abbrev pub NoDigit : List ℕ → Type 0
NoDigit [] = Unit {0}
NoDigit (b ∷ bs) = is_digit b ≡ false

-- the digits ds behind a number that is d so far make it n
pub data Behind (d : ℕ) : List ℕ → ℕ → Type 0 where
  none-behind : Behind d [] d
  one_more : {ds : List ℕ} {n : ℕ} (c : ℕ) → Behind d ds n → c < 10 → Behind d (ds ++ (byte0 + c) ∷ []) (n * 10 + c)

pub digit-is : (c : ℕ) → c < 10 → is_digit (byte0 + c) ≡ true
digit-is c h = rw (le-leb byte0 (byte0 + c) (omega arith), lt-ltb (byte0 + c) (byte0 + 10) (omega arith))

pub is_digit_lem : (b : ℕ) → is_digit b ≡ true → (byte0 ≤ b) × (b < byte0 + 10)
is_digit_lem b e = let p = and-true (leb byte0 b) (ltb b (byte0 + 10)) e in (leb-true byte0 b p.0, ltb-true b (byte0 + 10) p.1)

-- ---- digits printed
digits_step : (k n : ℕ) → 10 ≤ n → digits_of (suc k) n ≡ digits_of k (n / 10) ++ (byte0 + n % 10) ∷ []
unfolding digits_of
digits_step k n h = rw (le-ltb n 10 h, digits_of)

digits_last : (k n : ℕ) → n < 10 → digits_of (suc k) n ≡ (byte0 + n) ∷ []
unfolding digits_of
digits_last k n h = rw (lt-ltb n 10 h, digits_of)

-- a number with its first digit apart
pub record Digits (k n : ℕ) : Type 0 where
  pub lead : ℕ
  pub more : List ℕ
  pub here : digits_of k n ≡ (byte0 + lead) ∷ more
  pub digit : lead < 10
  pub some : 1 ≤ n → 1 ≤ lead
  pub fits : length more < k
  pub worth : Behind lead more n

one-digit : (k n : ℕ) → n < 10 → Digits (suc k) n
one-digit k n h = record { lead = n; more = []; here = digits_last k n h; digit = h; some = λ p. p; fits = omega arith; worth = none-behind }

pub digits_of_lem : (k n : ℕ) → n < 10 ^ suc k → Digits (suc k) n
digits_of_lem zero n h = one-digit zero n h
digits_of_lem (suc k) n h = go (digits_of_lem k (n / 10) (omega arith)) (dec_lt n 10)
  where
    go : Digits (suc k) (n / 10) → Dec (n < 10) → Digits (suc (suc k)) n
    go d (yes p) = one-digit (suc k) n p
    go d (no p) =
        record {
          lead = d.lead;
          more = d.more ++ (byte0 + n % 10) ∷ [];
          here = digits_step (suc k) n (omega arith) ∙ ap (λ (l : List ℕ). l ++ (byte0 + n % 10) ∷ []) d.here;
          digit = d.digit;
          some = λ q. d.some (omega arith);
          fits = rw length-append (omega (arith, d.fits));
          worth = rw (let e : n / 10 * 10 + n % 10 ≡ n = omega arith in e) at (one_more (n % 10) d.worth (omega arith));
        }

-- ---- digits scanned
-- the digits behind are taken, and the scan goes on
pub digits-taken : (j d : ℕ) {ds : List ℕ} {n : ℕ} (bs : List ℕ) → Behind d ds n → length ds ≤ j → more_digits j d (ds ++ bs) ≡ more_digits (j - length ds) n bs
unfolding more_digits
digits-taken j d bs none-behind h = let e : j ≡ j - 0 = omega arith in ap (λ k. more_digits k d bs) e
digits-taken j d bs (one_more {ds} {n} c w l) h =
    ap (more_digits j d) (append_assoc ds ((byte0 + c) ∷ []) bs)
    ∙ digits-taken j d ((byte0 + c) ∷ bs) w (omega (arith, length-append ds ((byte0 + c) ∷ [])))
    ∙ ap (λ k. more_digits k n ((byte0 + c) ∷ bs)) (let e : j - length ds ≡ suc (j - length (ds ++ (byte0 + c) ∷ [])) = omega (
      arith,
      length-append ds ((byte0 + c) ∷ []),
    ) in e)
    ∙ step (j - length (ds ++ (byte0 + c) ∷ []))
  where
    step : (k : ℕ) → more_digits (suc k) n ((byte0 + c) ∷ bs) ≡ more_digits k (n * 10 + c) bs
    step k = rw (digit-is c l, more_digits) (let e : n * 10 + (byte0 + c - byte0) ≡ n * 10 + c = omega arith in ap (λ m. more_digits k m bs) e)

-- where no digit follows, the scan ends
pub digits-end : (j n : ℕ) (bs : List ℕ) → NoDigit bs → more_digits j n bs ≡ record { value = n; rest = bs }
unfolding more_digits
digits-end zero n bs h = refl
digits-end (suc j) n [] h = refl
digits-end (suc j) n (b ∷ bs) h = rw (h, more_digits)

-- a lead of digits ahead of digits behind it
more-behind : {d : ℕ} (c : ℕ) {ds : List ℕ} {n : ℕ} → c < 10 → Behind (d * 10 + c) ds n → Behind d ((byte0 + c) ∷ ds) n
more-behind c h none-behind = one_more c none-behind h
more-behind c h (one_more b w l) = one_more b (more-behind c h w) l

-- the digits that a scan took
pub record Taken (j d : ℕ) (bs : List ℕ) (g : Got ℕ) : Type 0 where
  pub digits : List ℕ
  pub fits : length digits ≤ j
  pub front : bs ≡ digits ++ g.rest
  pub worth : Behind d digits g.value

nothing-taken : (j n : ℕ) (bs : List ℕ) → Taken j n bs (record { value = n; rest = bs })
nothing-taken j n bs = record { digits = []; fits = omega arith; front = refl; worth = none-behind }

pub taken : (j d : ℕ) (bs : List ℕ) → Taken j d bs (more_digits j d bs)
unfolding more_digits
taken zero d bs = nothing-taken zero d bs
taken (suc j) d [] = nothing-taken (suc j) d []
taken (suc j) d (b ∷ bs) = go (taken j (d * 10 + (b - byte0)) bs) (is_digit b) refl
  where
    go : Taken j (d * 10 + (b - byte0)) bs (more_digits j (d * 10 + (b - byte0)) bs) → (t : Bool) → is_digit b ≡ t
        → Taken (suc j) d (b ∷ bs) (more_digits (suc j) d (b ∷ bs))
    go r false e = rw (e, more_digits) (nothing-taken (suc j) d (b ∷ bs))
    go r true e = rw (e, more_digits) (
        let h = is_digit_lem b e in
        let at : byte0 + (b - byte0) ≡ b = omega arith in
        record {
          digits = b ∷ r.digits;
          fits = omega (arith, r.fits);
          front = ap {B = List ℕ} (λ l. b ∷ l) r.front;
          worth = rw at at (more-behind {d = d} (b - byte0) (omega arith) r.worth);
        })

pub behind-least : {d : ℕ} {ds : List ℕ} {n : ℕ} → Behind d ds n → d ≤ n
behind-least none-behind = omega arith
behind-least (one_more c w l) = omega (arith, behind-least w)

pow-ten : (k : ℕ) → 1 ≤ 10 ^ k
pow-ten zero = omega arith
pow-ten (suc k) = omega (arith, pow-ten k)

-- digits that were scanned are those printed
digits-behind : {d : ℕ} {ds : List ℕ} {n : ℕ} → Behind d ds n → (k : ℕ) → 1 ≤ d → d < 10 → length ds ≤ k
    → (digits_of (suc k) n ≡ (byte0 + d) ∷ ds) × (n < 10 ^ suc k)
digits-behind {d = d} none-behind k p h l = (digits_last k d h, omega (arith, pow-ten k))
digits-behind (one_more {ds} c w q) zero p h l = absurd (omega (arith, length-append ds ((byte0 + c) ∷ [])))
digits-behind (one_more {ds} {n} c w q) (suc k) p h l =
    let r = digits-behind w k p h (omega (arith, length-append ds ((byte0 + c) ∷ []))) in
    let e : (n * 10 + c) / 10 ≡ n = omega arith in
    let f : (n * 10 + c) % 10 ≡ c = omega arith in
    (digits_step (suc k) (n * 10 + c) (omega (arith, behind-least w)) ∙ rw (e, f, r.0), omega (arith, r.1))

pub digits-back : (k d : ℕ) {ds : List ℕ} {n : ℕ} → 1 ≤ d → d < 10 → Behind d ds n → length ds ≤ k → (digits_of (suc k) n ≡ (byte0 + d) ∷ ds) × (n < 10 ^ suc k)
digits-back k d p h w l = digits-behind w k p h l

-- ---- a number
number-zero : (bs : List ℕ) → number (byte0 ∷ bs) ≡ got 0 bs
unfolding number
number-zero bs = refl

number-lead : (d : ℕ) (bs : List ℕ) → 1 ≤ d → d < 10 → number ((byte0 + d) ∷ bs) ≡ is (more_digits (max_digits - 1) d bs)
unfolding number
number-lead d bs p h =
    let e : byte0 + d - byte0 ≡ d = omega arith in
    rw (digit-is d h, number) (rw (ne_eqb (byte0 + d) byte0 (omega arith)) (ap {B = Scan ℕ} (λ n. is (more_digits (max_digits - 1) n bs)) e))

pub number-printed : (n : ℕ) (bs : List ℕ) → n < 10 ^ max_digits → NoDigit bs → number (decimal n ++ bs) ≡ got n bs
unfolding decimal digits_of
number-printed n bs h e = go (digits_of_lem (max_digits - 1) n h) (ℕ_discrete n 0)
  where
    go : Digits max_digits n → Dec (n ≡ 0) → number (decimal n ++ bs) ≡ got n bs
    go d (yes z) = rw z (number-zero bs)
    go d (no z) =
        ap (λ (l : List ℕ). number (l ++ bs)) d.here
        ∙ number-lead d.lead (d.more ++ bs) (d.some (omega arith)) d.digit
        ∙ ap {B = Scan ℕ} is (
        digits-taken (max_digits - 1) d.lead bs d.worth (omega (arith, d.fits)) ∙ digits-end (max_digits - 1 - length d.more) n bs e)

pub number-scanned : (bs : List ℕ) (g : Got ℕ) → number bs ≡ is g → (bs ≡ decimal g.value ++ g.rest) × (g.value < 10 ^ max_digits)
unfolding number decimal digits_of
number-scanned [] g e = absurd (no-is refl e)
number-scanned (b ∷ bs) g e = go (is_digit b) refl (eqb b byte0) refl e
  where
    go : (t : Bool) → is_digit b ≡ t → (z : Bool) → eqb b byte0 ≡ z
        → (elim t as (λ _. Scan ℕ) [
          | true ↦ elim z as (λ _. Scan ℕ) [
            | true ↦ got 0 bs
            | false ↦ is (more_digits (max_digits - 1)
                (b - byte0) bs)
          ]
          | false ↦ stops (b ∷ bs)
        ]) ≡ is g
        → (b ∷ bs ≡ decimal g.value ++ g.rest) × (g.value < 10 ^ max_digits)
    go false d z w e = absurd (no-is refl e)
    go true d true w e =
        let q = is-inj e in
        rw (← q) (ap {B = List ℕ} (λ n. n ∷ bs) (eqb-true b byte0 w), omega arith)
    go true d false w e =
        let q = is-inj e in
        let h = is_digit_lem b d in
        let ne = eqb-false b byte0 w in
        let r = taken (max_digits - 1) (b - byte0) bs in
        let s = digits-back (max_digits - 1) (b - byte0) (omega arith) (omega arith) r.worth r.fits in
        let at : b ≡ byte0 + (b - byte0) = omega arith in
        rw (← q) (ap₂ {C = List ℕ} (λ n l. n ∷ l) at r.front ∙ ap (λ (l : List ℕ). l ++ (more_digits (max_digits - 1) (b - byte0) bs).rest) (sym s.0), s.1)
