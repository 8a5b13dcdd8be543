-- Laws of unions over a range of numbers: who is a member, and how the union so far grows.
use mathlib.Core.Path.{◌≡◌, refl, ◌∙◌, ap}
use mathlib.Core.Option.{Option, none, some}
use mathlib.Core.Bool.{Bool, true, false, ◌||◌}
use Prim.Native.Nat.{ℕ, zero, suc, ◌+◌, ◌-◌, ◌≤◌, ◌<◌}
use native.Mathlib.Omega.{arith}
use Rattle.laws.specs.Sets.{has, ◌∪◌}
use Rattle.laws.specs.Search.{first_from, seek, when, is_some}
use Rattle.laws.specs.Fold.{over_from, over}
use Rattle.laws.proofs.SetLaws.{has-or, none_in}
use Rattle.laws.proofs.TestLaws.{not_so}
use Rattle.laws.proofs.RangeLaws.{over-split}
use Rattle.laws.proofs.FoldLaws.{over-next, over-end}

-- the range with one place more at its end
pub over_last : {A : Type 0} (f : ℕ → A → A) (lo hi : ℕ) (x : A) → lo ≤ hi → over f lo (hi + 1) x ≡ f hi (over f lo hi x)
over_last f lo hi x h =
    over-split f lo hi (hi + 1) x h (omega arith) ∙ over-next f hi (hi + 1) (over f lo hi x) (omega arith) ∙ over-end f (hi + 1) (hi + 1)
    (f hi (over f lo hi x)) (omega arith)

-- what each step keeps, the fold keeps
pub over-keeps : {A : Type 0} (f : ℕ → A → A) (P : A → Type 0) (lo hi : ℕ) (x : A) → ((k : ℕ) (y : A) → lo ≤ k → k < hi → P y → P (f k y)) → P x
    → P (over f lo hi x)
unfolding over over_from
over-keeps {A} f P lo hi x s p = go (hi - lo) lo x (λ k y a b q. s k y a (omega arith) q) p
  where
    go : (n k : ℕ) (y : A) → ((j : ℕ) (z : A) → k ≤ j → j < k + n → P z → P (f j z)) → P y → P (over_from f n k y)
    go zero k y s p = p
    go (suc n) k y s p = go n (suc k) (f k y) (λ j z a b q. s j z (omega arith) (omega arith) q) (s k y (omega arith) (omega arith) p)

-- ---- the sets g k, joined
abbrev pub join_all : (ℕ → ℕ) → ℕ → ℕ → ℕ
join_all g = λ k s. s ∪ g k

module _ (g : ℕ → ℕ) (x : ℕ) where
  from-joined : (n k s : ℕ) → has (over_from (join_all g) n k s) x ≡ (has s x || is_some (first_from (λ k. when (has (g k) x) k) n k))
  unfolding over_from first_from
  from-joined zero k s = go (has s x)
    where
      go : (b : Bool) → b ≡ (b || false)
      go true = refl
      go false = refl
  from-joined (suc n) k s =
      from-joined n (suc k) (s ∪ g k) ∙ ap (λ b. b || is_some (first_from (λ k. when (has (g k) x) k) n (suc k))) (has-or s (g k) x)
      ∙ go (has s x) (has (g k) x)
    where
      go : (a b : Bool) → ((a || b) || is_some (first_from (λ k. when (has (g k) x) k) n (suc k)))
          ≡ (a || is_some {A = ℕ} (elim (when b k) as (λ o. Option ℕ) [ none ↦ first_from (λ k. when (has (g k) x) k) n (suc k) | some y ↦ some y ]))
      go true b = refl
      go false true = refl
      go false false = refl

  -- a member of the union is one of some set
  pub has-joined : (lo hi : ℕ) → has (over (join_all g) lo hi 0) x ≡ is_some (seek (λ k. when (has (g k) x) k) lo hi)
  unfolding over seek
  has-joined lo hi = from-joined (hi - lo) lo 0 ∙ nothing
    where
      nothing : (has 0 x || is_some (first_from (λ k. when (has (g k) x) k) (hi - lo) lo)) ≡ is_some (first_from (λ k. when (has (g k) x) k) (hi - lo) lo)
      nothing = ap (λ b. b || is_some (first_from (λ k. when (has (g k) x) k) (hi - lo) lo)) zero_has
        where
          zero_has : has 0 x ≡ false
          zero_has = not_so (has 0 x) (none_in x)
