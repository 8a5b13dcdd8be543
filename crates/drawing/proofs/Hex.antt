-- A number in hexadecimal digits, and a number of binary64 by its bits, is read exactly where it is printed.
use mathlib.Core.Path.{◌≡◌, refl, sym, ◌∙◌, ap, ap₂, subst}
use mathlib.Core.Bool.{Bool, true, false, not, cond}
use mathlib.Core.List.{List, [], ◌∷◌, ◌++◌, append_assoc}
use Prim.Native.Nat.{ℕ, zero, suc, ◌+◌, ◌*◌, ◌-◌, ◌/◌, ◌%◌, ◌^◌, ◌≤◌, ◌<◌}
use native.Mathlib.Nat.{lt_of_lt_of_le}
use native.Mathlib.Omega.{arith}
use borrow.Author.Tests.{le-leb, lt-ltb, le-ltb, leb-true, ltb-true, ltb-false}
use lib.Dec.{T, leb, ltb, lit≤}
use lib.Ieee.{Float, binary64, of_bits, to_bits, nan_bits, is_nan}
use lib.Ieee.Bits.{is_false, of_bits-to_bits, to_bits-lt, of_bits-fits, to_bits-of_bits, nan_bits_is}
use Rattle.laws.proofs.TestLaws.{and-true}
use Rattle.model.specs.Text.{byte0}
use Rattle.model.specs.Reading.{Got, is, stops, got, then, is_digit}
use Rattle.model.specs.Line.{Ends, Exact}
use Rattle.model.proofs.Reading.Scans.{is-inj, no-is, then_is}
use Rattle.model.proofs.Reading.Number.{digit-is, is_digit_lem}
use Rattle.drawing.specs.File.{byte_a, hex_digits, is_letter, hex_next, hex_at, hex_byte, hex_of, real_at, real_text, Real}

-- ---- one digit
no_digit : (e : ℕ) → is_digit (byte_a + e) ≡ false
no_digit e = rw (le-leb byte0 (byte_a + e) (omega arith), le-ltb (byte_a + e) (byte0 + 10) (omega arith))

letter : (e : ℕ) → e < 6 → is_letter (byte_a + e) ≡ true
letter e h = rw (le-leb byte_a (byte_a + e) (omega arith), lt-ltb (byte_a + e) (byte_a + 6) (omega arith))

next-printed : (n d : ℕ) (bs : List ℕ) → d < 16 → hex_next n (hex_byte d ∷ bs) ≡ got (n * 16 + d) bs
unfolding hex_next hex_byte
next-printed n d bs h = go (ltb d 10) refl
  where
    go : (t : Bool) → ltb d 10 ≡ t → hex_next n (cond t (byte0 + d) (byte_a + (d - 10)) ∷ bs) ≡ got (n * 16 + d) bs
    go true e =
        let o : byte0 + d - byte0 ≡ d = omega arith in
        rw (digit-is d (ltb-true d 10 e), hex_next) (ap (λ y. got (n * 16 + y) bs) o)
    go false e =
        let l : 10 ≤ d = ltb-false d 10 e in
        let o : byte_a + (d - 10) - byte_a + 10 ≡ d = omega arith in
        rw (no_digit (d - 10), letter (d - 10) (omega arith), hex_next) (ap (λ y. got (n * 16 + y) bs) o)

record NextIs (n : ℕ) (bs : List ℕ) (g : Got ℕ) : Type 0 where
  digit : ℕ
  below : digit < 16
  byte : bs ≡ hex_byte digit ∷ g.rest
  value : g.value ≡ n * 16 + digit

next-scanned : (n : ℕ) (bs : List ℕ) (g : Got ℕ) → hex_next n bs ≡ is g → NextIs n bs g
unfolding hex_next hex_byte
next-scanned n [] g e = absurd (no-is refl e)
next-scanned n (b ∷ bs) g e = go (is_digit b) refl (is_letter b) refl e
  where
    go : (t : Bool) → is_digit b ≡ t → (u : Bool) → is_letter b ≡ u
        → cond t (got (n * 16 + (b - byte0)) bs) (cond u (got (n * 16 + (b - byte_a + 10)) bs) (stops (b ∷ bs))) ≡ is g → NextIs n (b ∷ bs) g
    go true d u l e =
        let h = is_digit_lem b d in
        let q = is-inj e in
        let o : b ≡ byte0 + (b - byte0) = omega arith in
        record {
          digit = b - byte0;
          below = omega arith;
          byte = ap₂ {C = List ℕ} (λ y r. y ∷ r) (o ∙ sym (rw (lt-ltb (b - byte0) 10 (omega arith)))) (ap (λ (r : Got ℕ). r.rest) q);
          value = sym (ap (λ (r : Got ℕ). r.value) q);
        }
    go false d true l e =
        let p = and-true (leb byte_a b) (ltb b (byte_a + 6)) l in
        let low : byte_a ≤ b = leb-true byte_a b p.0 in
        let high : b < byte_a + 6 = ltb-true b (byte_a + 6) p.1 in
        let q = is-inj e in
        let o : b ≡ byte_a + (b - byte_a + 10 - 10) = omega arith in
        record {
          digit = b - byte_a + 10;
          below = omega arith;
          byte = ap₂ {C = List ℕ} (λ y r. y ∷ r) (o ∙ sym (rw (le-ltb (b - byte_a + 10) 10 (omega arith)))) (ap (λ (r : Got ℕ). r.rest) q);
          value = sym (ap (λ (r : Got ℕ). r.value) q);
        }
    go false d false l e = absurd (no-is refl e)

-- ---- k of them
hex-printed : (k n : ℕ) (bs : List ℕ) → n < 16 ^ k → hex_at k (hex_of k n ++ bs) ≡ got n bs
unfolding hex_at hex_of
hex-printed zero n bs h = let e : 0 ≡ n = omega arith in ap (λ y. got y bs) e
hex-printed (suc k) n bs h =
    let o : n / 16 * 16 + n % 16 ≡ n = omega arith in
    ap (λ (l : List ℕ). then (hex_at k l) hex_next) (append_assoc (hex_of k (n / 16)) (hex_byte (n % 16) ∷ []) bs)
    ∙ ap (λ s. then s hex_next) (hex-printed k (n / 16) (hex_byte (n % 16) ∷ bs) (omega arith))
    ∙ next-printed (n / 16) (n % 16) bs (omega arith)
    ∙ ap (λ y. got y bs) o

hex-scanned : (k : ℕ) (bs : List ℕ) (g : Got ℕ) → hex_at k bs ≡ is g → (bs ≡ hex_of k g.value ++ g.rest) × (g.value < 16 ^ k)
unfolding hex_at hex_of
hex-scanned zero bs g e = let q = is-inj e in (ap (λ (r : Got ℕ). r.rest) q, let o : 0 ≡ g.value = ap (λ (r : Got ℕ). r.value) q in omega arith)
hex-scanned (suc k) bs g e =
    let t = then_is (hex_at k bs) hex_next e in
    let r = hex-scanned k bs t.0 t.1 in
    let s = next-scanned t.0.value t.0.rest g t.2 in
    let high : t.0.value ≡ g.value / 16 = omega (arith, s.value, s.below) in
    let low : s.digit ≡ g.value % 16 = omega (arith, s.value, s.below) in (
      r.0 ∙ ap₂ {C = List ℕ} (λ y l. hex_of k y ++ l) high (s.byte ∙ ap (λ y. hex_byte y ∷ g.rest) low)
          ∙ sym (append_assoc (hex_of k (g.value / 16)) (hex_byte (g.value % 16) ∷ []) g.rest),
      omega (arith, s.value, s.below, r.1),
    )

pub hex-below : (k : ℕ) (bs : List ℕ) (n : ℕ) (cs : List ℕ) → hex_at k bs ≡ got n cs → n < 16 ^ k
hex-below k bs n cs e = (hex-scanned k bs (record { value = n; rest = cs }) e).1

-- ---- a number by its bits
real-printed : (x : Float) (bs : List ℕ) → Real x → real_at (real_text x ++ bs) ≡ got x bs
unfolding real_at real_text
real-printed x bs h =
    let n = to_bits binary64 x in
    let all = real_text x ++ bs in
    let back : of_bits binary64 n ≡ x = of_bits-to_bits binary64 x h.0 in
    let no : nan_bits binary64 n ≡ false = nan_bits_is binary64 n ∙ ap is_nan back ∙ is_false (is_nan x) h.1 in
    ap (λ s. then s (λ m cs. cond (nan_bits binary64 m) (stops all) (got (of_bits binary64 m) cs)))
    (hex-printed hex_digits n bs (lt_of_lt_of_le (to_bits-lt binary64 x h.0) (lit≤ tt)))
    ∙ rw no (ap (λ (y : Float). got y bs) back)

real-scanned : (bs : List ℕ) (g : Got Float) → real_at bs ≡ is g → (bs ≡ real_text g.value ++ g.rest) × Real g.value
unfolding real_at real_text
real-scanned bs g e =
    let t = then_is (hex_at hex_digits bs) (λ n cs. cond (nan_bits binary64 n) (stops bs) (got (of_bits binary64 n) cs)) e in
    go t.0 (hex-scanned hex_digits bs t.0 t.1) (nan_bits binary64 t.0.value) refl t.2
  where
    go : (h : Got ℕ) → (bs ≡ hex_of hex_digits h.value ++ h.rest) × (h.value < 16 ^ hex_digits) → (b : Bool) → nan_bits binary64 h.value ≡ b
        → cond b (stops bs) (got (of_bits binary64 h.value) h.rest) ≡ is g → (bs ≡ real_text g.value ++ g.rest) × Real g.value
    go h r true q e = absurd (no-is refl e)
    go h r false q e =
        let n = h.value in
        let no : T (not (is_nan (of_bits binary64 n))) = subst (λ (b : Bool). T (not b)) (sym q ∙ nan_bits_is binary64 n) tt in
        let same = to_bits-of_bits binary64 n (lt_of_lt_of_le r.1 (lit≤ tt)) no in
        rw (← is-inj e) (r.0 ∙ ap (λ y. hex_of hex_digits y ++ h.rest) (sym same), (of_bits-fits binary64 n, no))

pub real-exact : Exact real_at real_text Real Ends
real-exact = record { printed = λ x bs h e. real-printed x bs h; scanned = real-scanned }
