-- Filling a list place by place; the marks of a row as a set.
use mathlib.Core.Path.{◌≡◌, refl, sym, ◌∙◌, ap}
use mathlib.Core.Logic.{◌≢◌}
use mathlib.Core.Bool.{Bool, true, false, ◌||◌, cond}
use mathlib.Core.List.{List}
use Prim.Native.Nat.{ℕ, ◌+◌, ◌≤◌, ◌<◌}
use native.Mathlib.Omega.{arith}
use native.Mathlib.Decide.{ℕ_discrete}
use lib.ListN.{length, get_or, set}
use lib.Seq.{get_or-set_same, get_or-set_other}
use Rattle.laws.specs.Sets.{has, ◌∪◌, only}
use Rattle.laws.proofs.SetLaws.{has-or, in_one, one_in, none_in}
use Rattle.laws.proofs.TestLaws.{not_so}

-- what holds of each place passed, and of this one
pub place-more {ℓ} : {A : Type ℓ} (P : ℕ → A → Type 0) (d : A) (l : List A) (j : ℕ) (v : A) → j < length l → ((i : ℕ) → i < j → P i (get_or l i d)) → P j v
    → (i : ℕ) → i < j + 1 → P i (get_or (set l j v) i d)
place-more P d l j v h g p i k = elim (ℕ_discrete i j) [
  | yes e ↦ rw (e, get_or-set_same l j v d h) p
  | no e ↦ rw (get_or-set_other l j i v d e) (g i (omega arith))
]

-- ---- the numbers below j with the test f as a set
pub record Members (f : ℕ → Bool) (j s : ℕ) : Type 0 where
  pub below : (b : ℕ) → b < j → f b ≡ has s b
  pub above : (b : ℕ) → j ≤ b → has s b ≡ false

pub no-members : (f : ℕ → Bool) → Members f 0 0
no-members f = record { below = λ b h. absurd (omega arith); above = λ b h. not_so (has 0 b) (none_in b) }

pub one-member : (f : ℕ → Bool) (j s : ℕ) → Members f j s → Members f (j + 1) (s ∪ cond (f j) (only j) 0)
one-member f j s m = record {
  below = λ b h. elim (ℕ_discrete b j) [
    | yes p ↦ rw p (sym (here (f j)))
    | no p ↦ m.below b (omega arith) ∙ sym (there (f j) b p)
  ];
  above = λ b h. there (f j) b (λ e. omega (arith, e)) ∙ m.above b (omega arith);
}
  where
    new : (x : Bool) → has (cond x (only j) 0) j ≡ x
    new true = in_one j
    new false = not_so (has 0 j) (none_in j)

    here : (x : Bool) → has (s ∪ cond x (only j) 0) j ≡ x
    here x = has-or s (cond x (only j) 0) j ∙ ap (λ y. y || has (cond x (only j) 0) j) (m.above j (omega arith)) ∙ new x

    other : (x : Bool) (b : ℕ) → b ≢ j → has (cond x (only j) 0) b ≡ false
    other true b p = not_so (has (only j) b) (λ e. p (one_in j b e))
    other false b p = not_so (has 0 b) (none_in b)

    plain : (x : Bool) → (x || false) ≡ x
    plain true = refl
    plain false = refl

    there : (x : Bool) (b : ℕ) → b ≢ j → has (s ∪ cond x (only j) 0) b ≡ has s b
    there x b p = has-or s (cond x (only j) 0) b ∙ ap (λ y. has s b || y) (other x b p) ∙ plain (has s b)
