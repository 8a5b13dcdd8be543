-- A sample at a cursor, by the byte there.
use mathlib.Core.Path.{◌≡◌, refl, sym}
use mathlib.Core.Bool.{Bool, true, false, cond}
use mathlib.Core.List.{List, [], ◌∷◌}
use Prim.Native.Nat.{ℕ, zero, suc, ◌+◌, ◌*◌, ◌-◌, ◌≤◌, ◌<◌}
use native.Mathlib.Omega.{arith}
use lib.ListN.{length, get_or, drop, drop_of_length-le}
use lib.Dec.{eqb, leb}
use borrow.Author.Tests.{eq-eqb, ne_eqb, leb-true, eqb-false}
use Rattle.answer.specs.Limits.{max_ticks, max_tick_digits}
use Rattle.model.specs.Text.{byte0, tab}
use Rattle.model.specs.Reading.{Got, Scan, is, stops, got, then, exactly, field, is_digit, more_digits}
use Rattle.fields.proofs.ScanLaws.{front, is_digit_lem}
use Rattle.fields.proofs.NumberLaws.{more-shortens}
use Rattle.simulation.specs.Samples.{ticking, sample_at}

sample-nil : sample_at [] ≡ stops []
unfolding sample_at
sample-nil = refl

sample-none : (b : ℕ) (bs : List ℕ) → is_digit b ≡ false → sample_at (b ∷ bs) ≡ stops (b ∷ bs)
unfolding sample_at
sample-none b bs e = rw (e, sample_at)

sample-zero : (b : ℕ) (bs : List ℕ) → is_digit b ≡ true → b ≡ byte0 → sample_at (b ∷ bs) ≡ stops (b ∷ bs)
unfolding sample_at
sample-zero b bs e z = rw (e, eq-eqb b byte0 z, sample_at)

sample-digit : (b : ℕ) (bs : List ℕ) → is_digit b ≡ true → (b ≡ byte0 → ⊥)
    → sample_at (b ∷ bs) ≡ ticking (more_digits (max_tick_digits - 1) (b - byte0) bs) (b ∷ bs)
unfolding sample_at
sample-digit b bs e z = rw (e, ne_eqb b byte0 z, sample_at)

module _ (t : List ℕ) (at : ℕ) where
  pub sample-end : length t ≤ at → stops (drop at t) ≡ sample_at (drop at t)
  sample-end h = rw (drop_of_length-le t h) (sym sample-nil)

  pub sample-not : at < length t → is_digit (get_or t at 0) ≡ false → stops (drop at t) ≡ sample_at (drop at t)
  sample-not h e = rw (front t at h) (sym (sample-none (get_or t at 0) (drop (at + 1) t) e))

  pub sample-nought : at < length t → is_digit (get_or t at 0) ≡ true → get_or t at 0 ≡ byte0 → stops (drop at t) ≡ sample_at (drop at t)
  sample-nought h e z = rw (front t at h) (sym (sample-zero (get_or t at 0) (drop (at + 1) t) e z))

  pub sample-on : at < length t → is_digit (get_or t at 0) ≡ true → (get_or t at 0 ≡ byte0 → ⊥)
      → ticking (more_digits (max_tick_digits - 1) (get_or t at 0 - byte0) (drop (at + 1) t)) (drop at t) ≡ sample_at (drop at t)
  sample-on h e z = rw (front t at h) (sym (sample-digit (get_or t at 0) (drop (at + 1) t) e z))

-- ---- a sample's range
in-ticks : (g : Got ℕ) (bs : List ℕ) (h : Got ℕ) → ticking g bs ≡ is h → (h ≡ g) × (g.value ≤ max_ticks)
in-ticks g bs h e = go (leb g.value max_ticks) refl e
  where
    go : (b : Bool) → leb g.value max_ticks ≡ b → ◌≡◌ {A = Scan ℕ} (cond b (is g) (stops bs)) (is h) → (h ≡ g) × (g.value ≤ max_ticks)
    go true l e = (let q : h ≡ g = cc in q, leb-true g.value max_ticks l)
    go false l e = let z : ◌≡◌ {A = ℕ} 0 1 = cc in absurd (omega arith)

-- the digits behind the first make a number no less
grows : (k n : ℕ) (bs : List ℕ) → 1 ≤ n → 1 ≤ (more_digits k n bs).value
unfolding more_digits
grows zero n bs h = h
grows (suc k) n [] h = h
grows (suc k) n (b ∷ bs) h = go (is_digit b) (grows k (n * 10 + (b - byte0)) bs (omega arith))
  where
    go : (d : Bool) → 1 ≤ (more_digits k (n * 10 + (b - byte0)) bs).value
        → 1 ≤ (elim d as (λ _. Got ℕ) [ true ↦ more_digits k (n * 10 + (b - byte0)) bs | false ↦ record { value = n; rest = b ∷ bs } ]).value
    go true r = r
    go false r = h

-- a sample that was scanned: 1 to 2^40, and it took a byte at least
pub record Sampled (bs : List ℕ) (g : Got ℕ) : Type 0 where
  pub least : 1 ≤ g.value
  pub most : g.value ≤ max_ticks
  pub shorter : length g.rest < length bs

pub sample-is : (bs : List ℕ) (g : Got ℕ) → sample_at bs ≡ is g → Sampled bs g
unfolding sample_at
sample-is [] g e = let z : ◌≡◌ {A = ℕ} 0 1 = cc in absurd (omega arith)
sample-is (b ∷ bs) g e = go (is_digit b) refl (eqb b byte0) refl e
  where
    digits : Got ℕ
    digits = more_digits (max_tick_digits - 1) (b - byte0) bs

    go : (d : Bool) → is_digit b ≡ d → (z : Bool) → eqb b byte0 ≡ z
        → ◌≡◌ {A = Scan ℕ} (cond d (cond z (stops (b ∷ bs)) (ticking (more_digits (max_tick_digits - 1) (b - byte0) bs) (b ∷ bs))) (stops (b ∷ bs))) (is g)
        → Sampled (b ∷ bs) g
    go true d true z e = let y : ◌≡◌ {A = ℕ} 0 1 = cc in absurd (omega arith)
    go false d z q e = let y : ◌≡◌ {A = ℕ} 0 1 = cc in absurd (omega arith)
    go true d false z e =
        let q = in-ticks (more_digits (max_tick_digits - 1) (b - byte0) bs) (b ∷ bs) g e in
        let above : (b ≡ byte0 → ⊥) = eqb-false b byte0 z in
        let first : 1 ≤ b - byte0 = omega (arith, is_digit_lem b d, above) in
        rw q.0 (record {
          least = grows (max_tick_digits - 1) (b - byte0) bs first;
          most = q.1;
          shorter = omega (arith, more-shortens (max_tick_digits - 1) (b - byte0) bs);
        })

-- the same behind a tab
pub field_is : (bs : List ℕ) (n : ℕ) (cs : List ℕ) → field sample_at bs ≡ got n cs → Sampled bs (record { value = n; rest = cs })
unfolding exactly
field_is [] n cs e = let z : ◌≡◌ {A = ℕ} 0 1 = cc in absurd (omega arith)
field_is (b ∷ bs) n cs e = go (eqb tab b) e
  where
    go : (x : Bool)
        → then {A = Unit {0}} {B = ℕ} (elim x as (λ _. Scan (Unit {0})) [ true ↦ exactly [] bs | false ↦ stops (b ∷ bs) ]) (λ _ ds. sample_at ds) ≡ got n cs
        → Sampled (b ∷ bs) (record { value = n; rest = cs })
    go true e = let s = sample-is bs (record { value = n; rest = cs }) e in record { least = s.least; most = s.most; shorter = omega (arith, s.shorter) }
    go false e = let z : ◌≡◌ {A = ℕ} 0 1 = cc in absurd (omega arith)

pub sample-shortens : (bs : List ℕ) (n : ℕ) (cs : List ℕ) → field sample_at bs ≡ got n cs → length cs < length bs
sample-shortens bs n cs e = (field_is bs n cs e).shorter
