-- "`row` lines ascend strictly": the order of rows is a strict order, so that of two rows of a component the later one is the greater.
use mathlib.Core.Path.{◌≡◌, refl, sym, ◌∙◌, ap}
use mathlib.Core.Logic.{◌≢◌, ◌⊎◌, inl, inr}
use mathlib.Core.Bool.{Bool, true, false, true≢false, false≢true}
use mathlib.Core.List.{List, [], ◌∷◌}
use Prim.Native.Nat.{ℕ, zero, suc, ◌+◌, ◌-◌, ◌<◌}
use native.Mathlib.Omega.{arith}
use lib.ListN.{length}
use lib.Dec.{eqb, ltb}
use borrow.Author.Tests.{eqb-true, eq-eqb, ne_eqb, ltb-true, lt-ltb, le-ltb}
use Rattle.model.specs.Model.{Row, Comp, row_at}
use Rattle.model.specs.WellFormed.{lower, order, before, WellComp}

pub lower-irreflexive : (xs : List ℕ) → lower xs xs ≡ false
unfolding lower
lower-irreflexive [] = refl
lower-irreflexive (x ∷ xs) = rw (eq-eqb x x refl, lower) (lower-irreflexive xs)

abbrev Decides : Bool → List ℕ → List ℕ → ℕ → ℕ → Bool
Decides b xs ys x y = elim b as (λ _. Bool) [ true ↦ lower xs ys | false ↦ ltb x y ]

pub lower-transitive : (xs ys zs : List ℕ) → lower xs ys ≡ true → lower ys zs ≡ true → lower xs zs ≡ true
unfolding lower
lower-transitive [] ys zs e f = absurd (false≢true e)
lower-transitive (x ∷ xs) [] zs e f = absurd (false≢true e)
lower-transitive (x ∷ xs) (y ∷ ys) [] e f = absurd (false≢true f)
lower-transitive (x ∷ xs) (y ∷ ys) (z ∷ zs) e f = go (lower-transitive xs ys zs) (eqb x y) refl (eqb y z) refl e f
  where
    go : (lower xs ys ≡ true → lower ys zs ≡ true → lower xs zs ≡ true) → (b : Bool) → eqb x y ≡ b → (d : Bool) → eqb y z ≡ d
        → Decides b xs ys x y ≡ true → Decides d ys zs y z ≡ true → Decides (eqb x z) xs zs x z ≡ true
    go ih true p true q e f = rw (eq-eqb x z (eqb-true x y p ∙ eqb-true y z q)) (ih e f)
    go ih true p false q e f = rw (eqb-true x y p) (rw q f)
    go ih false p true q e f = rw (sym (eqb-true y z q)) (rw p e)
    go ih false p false q e f =
        let h = ltb-true x y e in
        let k = ltb-true y z f in
        rw (ne_eqb x z (λ w. omega (arith, h, k, w))) (lt-ltb x z (omega (arith, h, k)))

pub before-irreflexive : (r : Row) → before r r ≡ false
unfolding before
before-irreflexive r = lower-irreflexive (order r)

pub before-transitive : (r q p : Row) → before r q ≡ true → before q p ≡ true → before r p ≡ true
unfolding before
before-transitive r q p e f = lower-transitive (order r) (order q) (order p) e f

module _ (c : Comp) (w : WellComp c) where
  climbs : (j d k : ℕ) → j + d ≡ k → suc k < length c.rows → before (row_at c j) (row_at c (suc k)) ≡ true
  climbs j zero k e h = let p : j ≡ k = omega arith in rw p (w.ascend k h)
  climbs j (suc d) zero e h = absurd (omega arith)
  climbs j (suc d) (suc k) e h =
      before-transitive (row_at c j) (row_at c (suc k)) (row_at c (suc (suc k))) (climbs j d k (omega arith) (omega arith)) (w.ascend (suc k) h)

  -- of two rows the later one is the greater
  pub rows-ascend : (j k : ℕ) → j < k → k < length c.rows → before (row_at c j) (row_at c k) ≡ true
  rows-ascend j zero h n = absurd (omega arith)
  rows-ascend j (suc k) h n = climbs j (k - j) k (omega arith) n

  -- no two rows are equal
  pub rows-differ : (j k : ℕ) → j < k → k < length c.rows → row_at c j ≢ row_at c k
  rows-differ j k h n e = true≢false (sym (rows-ascend j k h n) ∙ ap (λ r. before r (row_at c k)) e ∙ before-irreflexive (row_at c k))

-- ---- the first number that differs decides
pub lower-less : (x y : ℕ) (xs ys : List ℕ) → x < y → lower (x ∷ xs) (y ∷ ys) ≡ true
unfolding lower
lower-less x y xs ys h = rw (ne_eqb x y (λ e. omega arith), lower) (lt-ltb x y h)

pub lower-same : (x y : ℕ) (xs ys : List ℕ) → x ≡ y → lower (x ∷ xs) (y ∷ ys) ≡ lower xs ys
unfolding lower
lower-same x y xs ys e = rw (eq-eqb x y e, lower)

pub lower-here : (x y : ℕ) (xs ys : List ℕ) → (x ≡ y → ⊥) → lower (x ∷ xs) (y ∷ ys) ≡ ltb x y
unfolding lower
lower-here x y xs ys e = rw (ne_eqb x y e, lower)

pub lower_last : (x y : ℕ) → lower (x ∷ []) (y ∷ []) ≡ ltb x y
unfolding lower
lower_last x y = go (eqb x y) refl
  where
    go : (b : Bool) → eqb x y ≡ b → lower (x ∷ []) (y ∷ []) ≡ ltb x y
    go true e = rw (e, lower) (sym (le-ltb x y (omega (arith, eqb-true x y e))))
    go false e = rw (e, lower)

pub lower-cases : (x y : ℕ) (xs ys : List ℕ) → lower (x ∷ xs) (y ∷ ys) ≡ true → (x < y) ⊎ ((x ≡ y) × (lower xs ys ≡ true))
unfolding lower
lower-cases x y xs ys h = go (eqb x y) refl h
  where
    go : (b : Bool) → eqb x y ≡ b → (elim b as (λ _. Bool) [ true ↦ lower xs ys | false ↦ ltb x y ]) ≡ true → (x < y) ⊎ ((x ≡ y) × (lower xs ys ≡ true))
    go true e h = inr (eqb-true x y e, h)
    go false e h = inl (ltb-true x y h)
