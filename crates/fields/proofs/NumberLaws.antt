-- Numbers behind commas, gathered from left to right into any kind of value.
use mathlib.Core.Path.{◌≡◌, refl, ap}
use mathlib.Core.List.{List, [], ◌∷◌}
use mathlib.Core.Bool.{Bool, true, false}
use Prim.Native.Nat.{ℕ, zero, suc, ◌+◌, ◌*◌, ◌-◌, ◌≤◌, ◌<◌}
use native.Mathlib.Omega.{arith}
use lib.ListN.{length, get_or, drop, drop_of_length-le, length-drop}
use lib.Dec.{eqb}
use borrow.Author.Tests.{eq-eqb, ne_eqb}
use Rattle.model.specs.Text.{comma, byte0}
use Rattle.answer.specs.Limits.{max_digits}
use Rattle.model.specs.Reading.{Got, Scan, is, stops, got, then, is_digit, more_digits, number, more_numbers, numbers}
use Rattle.fields.specs.Resets.{valued}
use Rattle.fields.proofs.ScanLaws.{front}

-- ---- a number takes a byte at least
pub more-shortens : (k n : ℕ) (bs : List ℕ) → length (more_digits k n bs).rest ≤ length bs
unfolding more_digits
more-shortens zero n bs = omega arith
more-shortens (suc k) n [] = omega arith
more-shortens (suc k) n (b ∷ bs) = go (is_digit b) (more-shortens k (n * 10 + (b - byte0)) bs)
  where
    go : (d : Bool) → length (more_digits k (n * 10 + (b - byte0)) bs).rest ≤ length bs
        → length (elim d as (λ _. Got ℕ) [ true ↦ more_digits k (n * 10 + (b - byte0)) bs | false ↦ record { value = n; rest = b ∷ bs } ]).rest
        ≤ length (b ∷ bs)
    go true h = omega arith
    go false h = omega arith

pub number-shortens : (bs : List ℕ) (g : Got ℕ) → number bs ≡ is g → length g.rest < length bs
unfolding number
number-shortens [] g e = let z : ◌≡◌ {A = ℕ} 0 1 = cc in absurd (omega arith)
number-shortens (b ∷ bs) g e = go (is_digit b) (eqb b byte0) e
  where
    go : (d z : Bool)
        → ◌≡◌ {A = Scan ℕ} (elim d as (λ _. Scan ℕ) [
          | true ↦ elim z as (λ _. Scan ℕ) [ true ↦ got 0 bs | false ↦ is (more_digits (max_digits - 1) (b - byte0) bs) ]
          | false ↦ stops (b ∷ bs)
        ]) (is g)
        → length g.rest < length (b ∷ bs)
    go true true e = let q : bs ≡ g.rest = cc in omega (arith, ap length q)
    go true false e =
        let q : more_digits (max_digits - 1) (b - byte0) bs ≡ g = cc in
        omega (arith, ap (λ (h : Got ℕ). length h.rest) q, more-shortens (max_digits - 1) (b - byte0) bs)
    go false z e = let z : ◌≡◌ {A = ℕ} 0 1 = cc in absurd (omega arith)

-- ---- one turn: at the end, before another byte, and behind a comma
more-nil : (k : ℕ) → more_numbers k [] ≡ got [] []
unfolding more_numbers
more-nil zero = refl
more-nil (suc k) = refl

more-other : (k b : ℕ) (bs : List ℕ) → (b ≡ comma → ⊥) → more_numbers k (b ∷ bs) ≡ got [] (b ∷ bs)
unfolding more_numbers
more-other zero b bs e = refl
more-other (suc k) b bs e = rw (ne_eqb b comma e, more_numbers)

more-comma : (k b : ℕ) (bs : List ℕ) → b ≡ comma
    → more_numbers (suc k) (b ∷ bs) ≡ then (number bs) (λ n cs. then (more_numbers k cs) (λ ns ds. got (n ∷ ns) ds))
unfolding more_numbers
more-comma k b bs e = rw (eq-eqb b comma e, more_numbers)

-- all gathers what with adds one by one
module _ {A : Type 0} (with : A → ℕ → A) (all : A → List ℕ → A) (nothing : (s : A) → all s [] ≡ s) (one : (s : A) (n : ℕ) (ns : List ℕ)
    → all s (n ∷ ns) ≡ all (with s n) ns) where
  behind : (s : A) (n : ℕ) (o : Scan (List ℕ)) → valued (all s) (then o (λ ns ds. got (n ∷ ns) ds)) ≡ valued (all (with s n)) o
  behind s n (stops cs) = refl
  behind s n (is g) = ap (λ x. got x g.rest) (one s n g.value)

  module _ (t : List ℕ) (s : A) (at k : ℕ) where
    pub numbers-end : length t ≤ at → valued (all s) (more_numbers k (drop at t)) ≡ got s (drop at t)
    numbers-end h = rw (drop_of_length-le t h, more-nil k, nothing s)

    pub numbers-other : at < length t → (get_or t at 0 ≡ comma → ⊥) → valued (all s) (more_numbers k (drop at t)) ≡ got s (drop at t)
    numbers-other h e = rw (front t at h, more-other k (get_or t at 0) (drop (at + 1) t) e, nothing s)

    pub numbers-missing : at < length t → get_or t at 0 ≡ comma → length (drop at t) ≤ k → {cs : List ℕ} → number (drop (at + 1) t) ≡ stops cs
        → valued (all s) (more_numbers k (drop at t)) ≡ stops cs
    numbers-missing h e l {cs} n = go k (omega (arith, length-drop at t))
      where
        go : (k : ℕ) → 0 < k → valued (all s) (more_numbers k (drop at t)) ≡ stops cs
        go zero z = absurd (omega arith)
        go (suc j) z = rw (front t at h, more-comma j (get_or t at 0) (drop (at + 1) t) e, n)

    pub numbers_more : (n next : ℕ) → at < length t → get_or t at 0 ≡ comma → length (drop at t) ≤ k → number (drop (at + 1) t) ≡ got n (drop next t)
        → (j : ℕ) × (length (drop next t) ≤ j) × (valued (all s) (more_numbers k (drop at t)) ≡ valued (all (with s n)) (more_numbers j (drop next t)))
    numbers_more n next h e l g = go k l
      where
        go : (k : ℕ) → length (drop at t) ≤ k
            → (j : ℕ) × (length (drop next t) ≤ j) × (valued (all s) (more_numbers k (drop at t)) ≡ valued (all (with s n)) (more_numbers j (drop next t)))
        go zero z = absurd (omega (arith, length-drop at t))
        go (suc j) z = (
          j,
          omega (arith, number-shortens (drop (at + 1) t) (record { value = n; rest = drop next t }) g, length-drop at t, length-drop (at + 1) t),
          rw (front t at h, more-comma j (get_or t at 0) (drop (at + 1) t) e, g) (behind s n (more_numbers j (drop next t))),
        )

  -- all of them, the first too
  pub numbers-all : (s : A) (bs cs : List ℕ) (n : ℕ) → number bs ≡ got n cs → valued (all s) (numbers bs) ≡ valued (all (with s n)) (more_numbers (length cs) cs)
  unfolding numbers
  numbers-all s bs cs n e = rw (e, numbers) (behind s n (more_numbers (length cs) cs))

pub no_number : (bs cs : List ℕ) → number bs ≡ stops cs → numbers bs ≡ stops cs
unfolding numbers
no_number bs cs e = rw (e, numbers)
