-- Laws of sets that are joined and of tables of sets that are crossed: who is a member.
use mathlib.Core.Path.{◌≡◌, refl, sym, ◌∙◌, ap}
use mathlib.Core.Logic.{◌≢◌, ◌↔◌, ◌⊎◌, inl, inr, ⊎_elim}
use mathlib.Core.Bool.{Bool, true, false, cond, true≢false, false≢true}
use mathlib.Core.List.{List}
use Prim.Native.Nat.{ℕ, zero, suc, ◌^◌, ◌<◌}
use native.Mathlib.Omega.{arith}
use native.Mathlib.Nat.{pow-suc}
use native.Mathlib.Numerals.{add-one}
use native.Mathlib.Decide.{ℕ_discrete}
use lib.ListN.{get_or}
use Rattle.laws.specs.Sets.{has, ◌∪◌, ◌∈◌}
use Rattle.laws.specs.Search.{any}
use Rattle.laws.specs.Fold.{over, tab}
use Rattle.laws.proofs.SetLaws.{in-or, or-in-l, or-in-r, none_in, in-below, same-members}
use Rattle.laws.proofs.SearchLaws.{any-true, any_false, true-any}
use Rattle.laws.proofs.FoldLaws.{over-end, tab-at}
use Rattle.laws.proofs.UnionLaws.{over_last, has-joined}
use Rattle.answer.specs.Limits.{max_actions}
use Rattle.triggering.specs.Test.{joined, crossed, nothing}

-- ---- sets
pub cond-in : (b : Bool) (s x : ℕ) → (x ∈ cond b s 0) ↔ (b ≡ true) × (x ∈ s)
cond-in true s x = (λ h. (refl, h), λ p. p.1)
cond-in false s x = (λ h. absurd (none_in x h), λ p. absurd (false≢true p.0))

-- a member of sets joined is one of some set
pub in-joined : (f : ℕ → ℕ) (n x : ℕ) → (x ∈ joined f n) ↔ ((k : ℕ) × (k < n) × (x ∈ f k))
in-joined f n x = (
  λ h. any-true (λ k. has (f k) x) n (sym (has-joined f x 0 n) ∙ h),
  λ p. has-joined f x 0 n ∙ true-any (λ k. has (f k) x) n p.0 p.1 p.2,
)

-- ---- tables
pub tab-here : (f : ℕ → ℕ) (n a : ℕ) → a < n → get_or (tab f 0 n) a 0 ≡ f a
tab-here f n a h = tab-at f 0 0 n a h ∙ ap f (omega arith)

-- f takes b into the set of a exactly if P a b
pub record Grows (f : List ℕ → List ℕ) (P : ℕ → ℕ → Type 0) : Type 0 where
  pub at : (T : List ℕ) (a b : ℕ) → a < max_actions → (b ∈ get_or (f T) a 0) ↔ (b ∈ get_or T a 0) ⊎ P a b

pub grows-as : {f : List ℕ → List ℕ} {P Q : ℕ → ℕ → Type 0} → ((a b : ℕ) → a < max_actions → P a b ↔ Q a b) → Grows f P → Grows f Q
grows-as e g = record {
  at = λ T a b h. (
    λ x. ⊎_elim inl (λ p. inr ((e a b h).0 p)) ((g.at T a b h).0 x),
    λ x. (g.at T a b h).1 (⊎_elim inl (λ p. inr ((e a b h).1 p)) x),
  );
}

pub grows-crossed : (X Y : ℕ) → Grows (crossed X Y) (λ a b. (a ∈ X) × (b ∈ Y))
unfolding crossed
grows-crossed X Y = record {
  at = λ T a b h.
      let e : get_or (tab (λ a. get_or T a 0 ∪ cond (has X a) Y 0) 0 max_actions) a 0 ≡ get_or T a 0 ∪ cond (has X a) Y 0 =
      tab-here (λ a. get_or T a 0 ∪ cond (has X a) Y 0) max_actions a h in
      rw e (
        λ x. ⊎_elim inl (λ p. inr ((cond-in (has X a) Y b).0 p)) (in-or (get_or T a 0) (cond (has X a) Y 0) b x),
        ⊎_elim (λ x. or-in-l (get_or T a 0) (cond (has X a) Y 0) b x) (λ p. or-in-r (get_or T a 0) (cond (has X a) Y 0) b ((cond-in (has X a) Y b).1 p)),
      );
}

-- one after the other
module _ (f : ℕ → List ℕ → List ℕ) (P : ℕ → ℕ → ℕ → Type 0) where
  module _ (n : ℕ) (last : Grows (f n) (P n)) (ih : Grows (over f 0 n) (λ a b. (k : ℕ) × (k < n) × P k a b)) where
    new : (T : List ℕ) (a b : ℕ) → a < max_actions → (k : ℕ) → k < suc n → P k a b → b ∈ get_or (f n (over f 0 n T)) a 0
    new T a b h k l p = elim (ℕ_discrete k n) [
      | yes q ↦ (last.at (over f 0 n T) a b h).1 (inr (rw q at p))
      | no q ↦ (last.at (over f 0 n T) a b h).1 (inl ((ih.at T a b h).1 (inr (k, omega arith, p))))
    ]

    old : (T : List ℕ) (a b : ℕ) → a < max_actions → b ∈ get_or (over f 0 n T) a 0 → (b ∈ get_or T a 0) ⊎ ((k : ℕ) × (k < suc n) × P k a b)
    old T a b h y = ⊎_elim inl (λ p. inr (p.0, omega (arith, p.1), p.2)) ((ih.at T a b h).0 y)

    grows-last : Grows (over f 0 (suc n)) (λ a b. (k : ℕ) × (k < suc n) × P k a b)
    grows-last = record {
      at = λ T a b h.
          let e : over f 0 (suc n) T ≡ f n (over f 0 n T) = rw add-one at (over_last f 0 n T (omega arith)) in
          rw e (
            λ x. ⊎_elim (old T a b h) (λ p. inr (n, omega arith, p)) ((last.at (over f 0 n T) a b h).0 x),
            ⊎_elim (λ x. (last.at (over f 0 n T) a b h).1 (inl ((ih.at T a b h).1 (inl x)))) (λ p. new T a b h p.0 p.1 p.2),
          );
    }

  pub grows-over : (n : ℕ) → ((k : ℕ) → k < n → Grows (f k) (P k)) → Grows (over f 0 n) (λ a b. (k : ℕ) × (k < n) × P k a b)
  grows-over zero g = record {
    at = λ T a b h. rw (over-end f 0 0 T (omega arith)) (inl, ⊎_elim (λ x. x) (λ p. absurd (omega (arith, p.1))));
  }
  grows-over (suc n) g = grows-last n (g n (omega arith)) (grows-over n (λ k l. g k (omega arith)))

pub in-nothing : (a b : ℕ) → a < max_actions → b ∈ get_or nothing a 0 → ⊥
unfolding nothing
in-nothing a b h x = none_in b (rw (tab-here (λ a. 0) max_actions a h) at x)

-- a table that is begun with nothing
pub grown : {f : List ℕ → List ℕ} {P : ℕ → ℕ → Type 0} → Grows f P → (a b : ℕ) → a < max_actions → (b ∈ get_or (f nothing) a 0) ↔ P a b
grown g a b h = (λ x. ⊎_elim (λ y. absurd (in-nothing a b h y)) (λ p. p) ((g.at nothing a b h).0 x), λ p. (g.at nothing a b h).1 (inr p))

-- ---- a set that is not empty has a member
under-power : (n : ℕ) → n < 2 ^ n
under-power zero = omega arith
under-power (suc n) = omega (arith, under-power n, pow-suc 2 n)

pub some-member : (s : ℕ) → s ≢ 0 → (x : ℕ) × (x ∈ s)
some-member s ne = go (any (has s) s) refl
  where
    go : (b : Bool) → any (has s) s ≡ b → (x : ℕ) × (x ∈ s)
    go true e = let p = any-true (has s) s e in (p.0, p.2)
    go false e = absurd (ne (same-members s 0
        (λ x h. absurd (true≢false (sym h ∙ any_false (has s) s e x (in-below s s x (under-power s) h))))
        (λ x h. absurd (none_in x h))))
