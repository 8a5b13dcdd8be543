-- Laws of ranges: a fold or a search over a range, over another range, and over a list.
use mathlib.Core.Path.{◌≡◌, refl, sym, ◌∙◌, ap}
use mathlib.Core.Option.{Option, none, some}
use mathlib.Core.Bool.{Bool, true, false}
use mathlib.Core.List.{List, [], ◌∷◌, ◌++◌}
use Prim.Native.Nat.{ℕ, zero, suc, ◌+◌, ◌-◌, ◌≤◌, ◌<◌}
use native.Mathlib.Omega.{arith}
use native.Mathlib.Decide.{ℕ_discrete}
use lib.ListN.{length, get_or}
use Rattle.laws.specs.Search.{first_from, seek, when, is_some, or_else, map_some}
use Rattle.laws.specs.Fold.{over_from, over, tab, spread}

-- ---- folds
module _ {A : Type 0} where
  from-ext : (f g : ℕ → A → A) (n k : ℕ) (x : A) → ((j : ℕ) (y : A) → k ≤ j → j < k + n → f j y ≡ g j y) → over_from f n k x ≡ over_from g n k x
  unfolding over_from
  from-ext f g zero k x h = refl
  from-ext f g (suc n) k x h =
      from-ext f g n (suc k) (f k x) (λ j y p q. h j y (omega arith) (omega arith)) ∙ ap (over_from g n (suc k)) (h k x (omega arith) (omega arith))

  from-shift : (f : ℕ → A → A) (d n k : ℕ) (x : A) → over_from f n (d + k) x ≡ over_from (λ j. f (d + j)) n k x
  unfolding over_from
  from-shift f d zero k x = refl
  from-shift f d (suc n) k x = let e : suc (d + k) ≡ d + suc k = omega arith in rw e (from-shift f d n (suc k) (f (d + k) x))

  from_next : (f : ℕ → A → A) (n k : ℕ) (x : A) → over_from f n (suc k) x ≡ over_from (λ j. f (suc j)) n k x
  unfolding over_from
  from_next f zero k x = refl
  from_next f (suc n) k x = from_next f n (suc k) (f (suc k) x)

  from-split : (f : ℕ → A → A) (n m k : ℕ) (x : A) → over_from f (n + m) k x ≡ over_from f m (k + n) (over_from f n k x)
  unfolding over_from
  from-split f zero m k x =
      let e : k + 0 ≡ k = omega arith in
      let w : 0 + m ≡ m = omega arith in
      rw (e, w)
  from-split f (suc n) m k x =
      let e : k + suc n ≡ suc k + n = omega arith in
      let w : suc n + m ≡ suc (n + m) = omega arith in
      rw (e, w) (from-split f n m (suc k) (f k x))

  pub over-ext : (f g : ℕ → A → A) (lo hi : ℕ) (x : A) → ((j : ℕ) (y : A) → lo ≤ j → j < hi → f j y ≡ g j y) → over f lo hi x ≡ over g lo hi x
  unfolding over
  over-ext f g lo hi x h = from-ext f g (hi - lo) lo x (λ j y p q. h j y p (omega arith))

  pub over-shift : (f : ℕ → A → A) (d lo hi : ℕ) (x : A) → over f (d + lo) (d + hi) x ≡ over (λ j. f (d + j)) lo hi x
  unfolding over
  over-shift f d lo hi x = let e : d + hi - (d + lo) ≡ hi - lo = omega arith in rw e (from-shift f d (hi - lo) lo x)

  pub over-split : (f : ℕ → A → A) (lo mid hi : ℕ) (x : A) → lo ≤ mid → mid ≤ hi → over f lo hi x ≡ over f mid hi (over f lo mid x)
  unfolding over
  over-split f lo mid hi x p q =
      let e : hi - lo ≡ mid - lo + (hi - mid) = omega arith in
      let w : lo + (mid - lo) ≡ mid = omega arith in
      rw e (from-split f (mid - lo) (hi - mid) lo x ∙ ap (λ k. over_from f (hi - mid) k (over_from f (mid - lo) lo x)) w)

  from-still : (f : ℕ → A → A) (n k : ℕ) (x : A) → ((j : ℕ) (y : A) → k ≤ j → j < k + n → f j y ≡ y) → over_from f n k x ≡ x
  unfolding over_from
  from-still f zero k x h = refl
  from-still f (suc n) k x h = from-still f n (suc k) (f k x) (λ j y p q. h j y (omega arith) (omega arith)) ∙ h k x (omega arith) (omega arith)

  -- a range in which nothing happens
  pub over-still : (f : ℕ → A → A) (lo hi : ℕ) (x : A) → ((j : ℕ) (y : A) → lo ≤ j → j < hi → f j y ≡ y) → over f lo hi x ≡ x
  unfolding over
  over-still f lo hi x h = from-still f (hi - lo) lo x (λ j y p q. h j y p (omega arith))

-- ---- ranges one after the other, from p 0 to p n
module _ {A : Type 0} (g : ℕ → A → A) (p : ℕ → ℕ) where
  nest-from : (n s : ℕ) (x : A) → ((u : ℕ) → s ≤ u → u < s + n → p u ≤ p (suc u))
      → (p s ≤ p (s + n)) × (over_from (λ u. over g (p u) (p (suc u))) n s x ≡ over g (p s) (p (s + n)) x)
  unfolding over_from
  nest-from zero s x up =
      let e : s + 0 ≡ s = omega arith in
      rw e (omega arith, sym (over-still g (p s) (p s) x (λ j y a b. absurd (omega arith))))
  nest-from (suc n) s x up =
      let e : s + suc n ≡ suc s + n = omega arith in
      let h = up s (omega arith) (omega arith) in
      let ih = nest-from n (suc s) (over g (p s) (p (suc s)) x) (λ u a b. up u (omega arith) (omega arith)) in
      rw e (omega (arith, ih.0), ih.1 ∙ sym (over-split g (p s) (p (suc s)) (p (suc s + n)) x h ih.0))

  pub over-nest : (n : ℕ) (x : A) → ((u : ℕ) → u < n → p u ≤ p (suc u)) → over (λ u. over g (p u) (p (suc u))) 0 n x ≡ over g (p 0) (p n) x
  unfolding over
  over-nest n x up =
      let e : 0 + n ≡ n = omega arith in
      let d : n - 0 ≡ n = omega arith in
      rw d (rw e at (nest-from n 0 x (λ u a b. up u (omega arith))).1)

-- ---- folds of a list
abbrev pub folded : {A B : Type 0} → (A → B → B) → List A → B → B
folded g [] x = x
folded g (r ∷ rs) x = folded g rs (g r x)

module _ {A B : Type 0} (g : A → B → B) where
  pub folded-append : (xs ys : List A) (x : B) → folded g (xs ++ ys) x ≡ folded g ys (folded g xs x)
  folded-append [] ys x = refl
  folded-append (r ∷ rs) ys x = folded-append rs ys (g r x)

  tab-from : (h : ℕ → A) (n k : ℕ) (x : B) → folded g (tab h k n) x ≡ over_from (λ j. g (h j)) n k x
  unfolding over_from
  tab-from h zero k x = refl
  tab-from h (suc n) k x = tab-from h n (suc k) (g (h k) x)

  pub folded-tab : (h : ℕ → A) (lo hi : ℕ) (x : B) → folded g (tab h lo (hi - lo)) x ≡ over (λ j. g (h j)) lo hi x
  unfolding over
  folded-tab h lo hi x = tab-from h (hi - lo) lo x

  -- every list but one leaves the value alone
  spread-still : (h : ℕ → List A) (k n : ℕ) (x : B) → ((j : ℕ) (y : B) → k ≤ j → j < k + n → folded g (h j) y ≡ y) → folded g (spread h k n) x ≡ x
  spread-still h k zero x e = refl
  spread-still h k (suc n) x e =
      folded-append (h k) (spread h (suc k) n) x
      ∙ spread-still h (suc k) n (folded g (h k) x) (λ j y p q. e j y (omega arith) (omega arith))
      ∙ e k x (omega arith) (omega arith)

  pub folded-spread : (h : ℕ → List A) (k n s : ℕ) (x : B) → k ≤ s → s < k + n → ((j : ℕ) (y : B) → (j ≡ s → ⊥) → folded g (h j) y ≡ y)
      → folded g (spread h k n) x ≡ folded g (h s) x
  folded-spread h k zero s x p q e = absurd (omega arith)
  folded-spread h k (suc n) s x p q e = folded-append (h k) (spread h (suc k) n) x ∙ go (ℕ_discrete k s) (λ a b. folded-spread h (suc k) n s x a b e)
    where
      go : Dec (k ≡ s) → (suc k ≤ s → s < suc k + n → folded g (spread h (suc k) n) x ≡ folded g (h s) x)
          → folded g (spread h (suc k) n) (folded g (h k) x) ≡ folded g (h s) x
      go (yes w) ih = spread-still h (suc k) n (folded g (h k) x) (λ j y a b. e j y (λ v. omega arith)) ∙ ap (λ j. folded g (h j) x) w
      go (no w) ih = rw (e k x w) (ih (omega arith) (omega arith))

  list-from : (d : A) (rs : List A) (x : B) → over_from (λ k. g (get_or rs k d)) (length rs) 0 x ≡ folded g rs x
  unfolding over_from
  list-from d [] x = refl
  list-from d (r ∷ rs) x = from_next (λ k. g (get_or (r ∷ rs) k d)) (length rs) 0 (g r x) ∙ list-from d rs (g r x)

  -- a list by its places
  pub over-list : (d : A) (rs : List A) (x : B) → over (λ k. g (get_or rs k d)) 0 (length rs) x ≡ folded g rs x
  unfolding over
  over-list d rs x = let e : length rs - 0 ≡ length rs = omega arith in rw e (list-from d rs x)

-- ---- searches
-- the search as a fold that keeps its first answer
abbrev pub keep : {A : Type 0} → (ℕ → Option A) → ℕ → Option A → Option A
keep f k o = or_else o (f k)

pub else-none : {A : Type 0} (o : Option A) → or_else o none ≡ o
else-none none = refl
else-none (some x) = refl

module _ {A : Type 0} where
  keep_some : (f : ℕ → Option A) (n k : ℕ) (x : A) → over_from (keep f) n k (some x) ≡ some x
  unfolding over_from
  keep_some f zero k x = refl
  keep_some f (suc n) k x = keep_some f n (suc k) x

  keep-first : (f : ℕ → Option A) (n k : ℕ) → over_from (keep f) n k none ≡ first_from f n k
  unfolding over_from first_from
  keep-first f zero k = refl
  keep-first f (suc n) k = go (f k) (keep-first f n (suc k))
    where
      go : (o : Option A) → over_from (keep f) n (suc k) none ≡ first_from f n (suc k) → over_from (keep f) n (suc k) o
          ≡ (elim o as (λ p. Option A) [ none ↦ first_from f n (suc k) | some x ↦ some x ])
      go none e = e
      go (some x) e = keep_some f n (suc k) x

  pub over-seek : (f : ℕ → Option A) (lo hi : ℕ) → over (keep f) lo hi none ≡ seek f lo hi
  unfolding over seek
  over-seek f lo hi = keep-first f (hi - lo) lo

  pub over-keep : (f : ℕ → Option A) (lo hi : ℕ) (o : Option A) → over (keep f) lo hi o ≡ or_else o (seek f lo hi)
  unfolding over
  over-keep f lo hi none = over-seek f lo hi
  over-keep f lo hi (some x) = keep_some f (hi - lo) lo x

  pub seek-ext : (f g : ℕ → Option A) (lo hi : ℕ) → ((j : ℕ) → lo ≤ j → j < hi → f j ≡ g j) → seek f lo hi ≡ seek g lo hi
  seek-ext f g lo hi h = sym (over-seek f lo hi) ∙ over-ext (keep f) (keep g) lo hi none (λ j o p q. ap (or_else o) (h j p q)) ∙ over-seek g lo hi

  pub seek-shift : (f : ℕ → Option A) (d lo hi : ℕ) → seek f (d + lo) (d + hi) ≡ seek (λ j. f (d + j)) lo hi
  seek-shift f d lo hi = sym (over-seek f (d + lo) (d + hi)) ∙ over-shift (keep f) d lo hi none ∙ over-seek (λ j. f (d + j)) lo hi

-- what is answered where a test holds
pub seek-map : {A : Type 0} (p : ℕ → Bool) (g : ℕ → A) (lo hi : ℕ) → seek (λ k. when (p k) (g k)) lo hi ≡ map_some g (seek (λ k. when (p k) k) lo hi)
unfolding seek first_from
seek-map {A} p g lo hi = from (hi - lo) lo
  where
    from : (n k : ℕ) → first_from (λ k. when (p k) (g k)) n k ≡ map_some g (first_from (λ k. when (p k) k) n k)
    from zero k = refl
    from (suc n) k = go (p k) (from n (suc k))
      where
        go : (b : Bool) → first_from (λ k. when (p k) (g k)) n (suc k) ≡ map_some g (first_from (λ k. when (p k) k) n (suc k))
            → (elim (when b (g k)) as (λ o. Option A) [ none ↦ first_from (λ k. when (p k) (g k)) n (suc k) | some x ↦ some x ])
            ≡ map_some g (elim (when b k) as (λ o. Option ℕ) [ none ↦ first_from (λ k. when (p k) k) n (suc k) | some x ↦ some x ])
        go true e = refl
        go false e = e

pub some-map : {A B : Type 0} (g : A → B) (o : Option A) → is_some (map_some g o) ≡ is_some o
some-map g none = refl
some-map g (some x) = refl

-- whether there is one does not depend on what is answered
pub seek-any : {A B : Type 0} (p : ℕ → Bool) (g : ℕ → A) (h : ℕ → B) (lo hi : ℕ) → is_some (seek (λ k. when (p k) (g k)) lo hi)
    ≡ is_some (seek (λ k. when (p k) (h k)) lo hi)
seek-any p g h lo hi =
    ap is_some (seek-map p g lo hi)
    ∙ some-map g (seek (λ k. when (p k) k) lo hi)
    ∙ sym (some-map h (seek (λ k. when (p k) k) lo hi))
    ∙ ap is_some (sym (seek-map p h lo hi))

-- what is made of an answer
pub map-when : {A B : Type 0} (g : A → B) (b : Bool) (x : A) → map_some g (when b x) ≡ when b (g x)
map-when g true x = refl
map-when g false x = refl

pub map-seek : {A B : Type 0} (g : A → B) (f : ℕ → Option A) (lo hi : ℕ) → map_some g (seek f lo hi) ≡ seek (λ k. map_some g (f k)) lo hi
unfolding seek first_from
map-seek {A} {B} g f lo hi = from (hi - lo) lo
  where
    from : (n k : ℕ) → map_some g (first_from f n k) ≡ first_from (λ k. map_some g (f k)) n k
    from zero k = refl
    from (suc n) k = go (f k) (from n (suc k))
      where
        go : (o : Option A) → map_some g (first_from f n (suc k)) ≡ first_from (λ k. map_some g (f k)) n (suc k)
            → map_some g (elim o as (λ p. Option A) [ none ↦ first_from f n (suc k) | some x ↦ some x ])
            ≡ (elim (map_some g o) as (λ p. Option B) [ none ↦ first_from (λ k. map_some g (f k)) n (suc k) | some x ↦ some x ])
        go none e = e
        go (some x) e = refl
