-- A scan either has its value or stops, and not both.
use mathlib.Core.Path.{◌≡◌, refl, sym, ◌∙◌, ap}
use mathlib.Core.List.{List}
use Prim.Native.Nat.{ℕ}
use native.Mathlib.Omega.{arith}
use Rattle.model.specs.Reading.{Got, Scan, is, stops, then}

pub is-inj : {A : Type 0} {g h : Got A} → is g ≡ is h → g ≡ h
is-inj {A} {g} e = ap (λ s. elim s as (λ _. Got A) [ is k ↦ k | stops cs ↦ g ]) e

pub stops-inj : {A : Type 0} {cs ds : List ℕ} → ◌≡◌ {A = Scan A} (stops cs) (stops ds) → cs ≡ ds
stops-inj {A} {cs} e = ap (λ (s : Scan A). elim s as (λ _. List ℕ) [ is k ↦ cs | stops c ↦ c ]) e

pub no-is : {A : Type 0} {s : Scan A} {cs : List ℕ} {g : Got A} → s ≡ stops cs → s ≡ is g → ⊥
no-is {A} p q = let z : ◌≡◌ {A = ℕ} 0 1 = ap (λ (s : Scan A). elim s as (λ _. ℕ) [ is k ↦ 1 | stops c ↦ 0 ]) (sym p ∙ q) in omega arith

-- ---- scans one after the other
pub then_is : {A B : Type 0} (o : Scan A) (f : A → List ℕ → Scan B) {g : Got B} → then o f ≡ is g → (h : Got A) × (o ≡ is h) × (f h.value h.rest ≡ is g)
then_is (stops cs) f e = absurd (no-is refl e)
then_is (is h) f e = (h, refl, e)
