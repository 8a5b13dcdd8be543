-- Every state where a component can get has a path from the start, of fewer rows than there are states.
use mathlib.Core.Path.{◌≡◌, refl, sym, ◌∙◌, ap, subst}
use mathlib.Core.Logic.{◌⊎◌, inl, inr, by_cases}
use mathlib.Core.Option.{Option, none, some}
use mathlib.Core.Bool.{Bool, true, false, cond, true≢false}
use mathlib.Core.List.{List, [], ◌∷◌, ◌++◌}
use Prim.Native.Nat.{ℕ, zero, suc, ◌+◌, ◌≤◌, ◌<◌}
use native.Mathlib.Omega.{arith}
use native.Mathlib.Decide.{ℕ_discrete}
use lib.ListN.{length}
use Rattle.laws.specs.Search.{least}
use Rattle.laws.proofs.SearchLaws.{least-some, least-none}
use Rattle.model.specs.Model.{Comp, row_at}
use Rattle.model.specs.WellFormed.{WellComp}
use Rattle.iosa.specs.Automaton.{auto_of, Reachable, at-start, by_row}
use Rattle.whys.specs.Way.{Goes, Way, there, onward, near, far_of, way_of, TheWay}
use Rattle.whys.proofs.Walking.{Far, Nearer, nearer, still-near, zero-near, near-cases, way-near, walk-is-the-way, walk-long}

-- ---- how many numbers below n pass a test
count : (ℕ → Bool) → ℕ → ℕ
count f zero = 0
count f (suc n) = count f n + cond (f n) 1 0

count_most : (f : ℕ → Bool) (n : ℕ) → count f n ≤ n
unfolding count
count_most f zero = omega arith
count_most f (suc n) = go (f n) (count_most f n)
  where
    go : (b : Bool) → count f n ≤ n → count f n + cond b 1 0 ≤ suc n
    go true h = omega arith
    go false h = omega arith

count-grows : (f g : ℕ → Bool) (n : ℕ) → ((j : ℕ) → j < n → f j ≡ true → g j ≡ true) → count f n ≤ count g n
unfolding count
count-grows f g zero h = omega arith
count-grows f g (suc n) h = go (count-grows f g n (λ j p. h j (omega arith))) (f n) (g n) refl refl
  where
    go : count f n ≤ count g n → (a b : Bool) → f n ≡ a → g n ≡ b → count f n + cond a 1 0 ≤ count g n + cond b 1 0
    go i true true e d = omega arith
    go i true false e d = absurd (true≢false (sym (h n (omega arith) e) ∙ d))
    go i false b e d = omega arith

count-more : (f g : ℕ → Bool) (n : ℕ) → ((j : ℕ) → j < n → f j ≡ true → g j ≡ true) → (i : ℕ) → i < n → f i ≡ false → g i ≡ true → count f n < count g n
unfolding count
count-more f g zero h i p e d = absurd (omega arith)
count-more f g (suc n) h i p e d =
    by_cases (ℕ_discrete i n) (λ q. here q (f n) (g n) refl refl)
    (λ q. go (count-more f g n (λ j p. h j (omega arith)) i (omega (arith, q)) e d) (f n) (g n) refl refl)
  where
    here : i ≡ n → (a b : Bool) → f n ≡ a → g n ≡ b → count f n + cond a 1 0 < count g n + cond b 1 0
    here q true b x y = absurd (true≢false (sym x ∙ ap f (sym q) ∙ e))
    here q false true x y = omega (arith, count-grows f g n (λ j p. h j (omega arith)))
    here q false false x y = absurd (true≢false (sym d ∙ ap g q ∙ y))

    go : count f n < count g n → (a b : Bool) → f n ≡ a → g n ≡ b → count f n + cond a 1 0 < count g n + cond b 1 0
    go z true true x y = omega arith
    go z true false x y = absurd (true≢false (sym (h n (omega arith) x) ∙ y))
    go z false b x y = omega arith

count-some : (f : ℕ → Bool) (n i : ℕ) → i < n → f i ≡ true → 0 < count f n
unfolding count
count-some f zero i p e = absurd (omega arith)
count-some f (suc n) i p e = by_cases (ℕ_discrete i n) (λ q. go (f n) (sym (ap f q) ∙ e)) (λ q. omega (arith, count-some f n i (omega (arith, q)) e))
  where
    go : (b : Bool) → b ≡ true → 0 < count f n + cond b 1 0
    go true d = omega arith
    go false d = absurd (true≢false (sym d))

module _ (c : Comp) (w : WellComp c) (t : ℕ) where
  -- ---- a pass that brings nobody nearer is the last that does
  abbrev Full : ℕ → Type 0
  Full k = (s : ℕ) → s < c.states → near c t (suc k) s ≡ true → near c t k s ≡ true

  later : (k n s : ℕ) → k ≤ n → near c t k s ≡ true → near c t n s ≡ true
  later k zero s h e = subst (λ z. near c t z s ≡ true) (omega arith) e
  later k (suc n) s h e =
      by_cases (ℕ_discrete k (suc n)) (λ q. subst (λ z. near c t z s ≡ true) q e) (λ q. still-near c w t n s (later k n s (omega (arith, q)) e))

  -- what a further row would bring nearer is near already
  full-on : (k : ℕ) → Full k → Full (suc k)
  full-on k f s h n = elim (near-cases c w t (suc k) s n) [
    | inl e ↦ e
    | inr p ↦ brought p
  ]
    where
      brought : Nearer c w t (suc k) s → near c t (suc k) s ≡ true
      brought p = nearer c w t k s p.row p.inside p.led (f (row_at c p.row).target (w.rows p.row p.inside).target p.rest)

  full-all : (k : ℕ) → Full k → (n : ℕ) → Full (k + n)
  full-all k f zero = subst Full (omega arith) f
  full-all k f (suc n) = subst Full (omega arith) (full-on (k + n) (full-all k f n))

  full-near : (k : ℕ) → Full k → (n s : ℕ) → s < c.states → near c t (k + n) s ≡ true → near c t k s ≡ true
  full-near k f zero s h e = subst (λ z. near c t z s ≡ true) (omega arith) e
  full-near k f (suc n) s h e = full-near k f n s h (full-all k f n s h (subst (λ z. near c t z s ≡ true) (omega arith) e))

  -- ---- one of the first passes is full, since each other brings a state nearer
  abbrev Grown : ℕ → Type 0
  Grown k = ((j : ℕ) × (j < k) × Full j) ⊎ (k < count (near c t k) c.states)

  full-or-more : (k n : ℕ) → ((s : ℕ) → s < n → near c t (suc k) s ≡ true → near c t k s ≡ true)
      ⊎ ((s : ℕ) × (s < n) × (near c t k s ≡ false) × (near c t (suc k) s ≡ true))
  full-or-more k zero = inl (λ s h. absurd (omega arith))
  full-or-more k (suc n) = elim (full-or-more k n) [
    | inr p ↦ inr (p.0, omega (arith, p.1), p.2, p.3)
    | inl f ↦ here f (near c t k n) (near c t (suc k) n) refl refl
  ]
    where
      here : ((s : ℕ) → s < n → near c t (suc k) s ≡ true → near c t k s ≡ true) → (a b : Bool) → near c t k n ≡ a → near c t (suc k) n ≡ b
          → ((s : ℕ) → s < suc n → near c t (suc k) s ≡ true → near c t k s ≡ true)
          ⊎ ((s : ℕ) × (s < suc n) × (near c t k s ≡ false) × (near c t (suc k) s ≡ true))
      here f true b e d = inl (λ s h x. by_cases (ℕ_discrete s n) (λ q. rw q e) (λ q. f s (omega (arith, q, h)) x))
      here f false true e d = inr (n, omega arith, e, d)
      here f false false e d = inl (λ s h x. by_cases (ℕ_discrete s n) (λ q. absurd (true≢false (sym x ∙ rw q d))) (λ q. f s (omega (arith, q, h)) x))

  grown : t < c.states → (k : ℕ) → Grown k
  grown h zero = inr (count-some (near c t 0) c.states t h (zero-near c w t t refl))
  grown h (suc k) = elim (grown h k) [
    | inl p ↦ inl (p.0, omega (arith, p.1), p.2)
    | inr m ↦ elim (full-or-more k c.states) [
      | inl f ↦ inl (k, omega arith, f)
      | inr p ↦ inr (omega (arith, m, count-more (near c t k) (near c t (suc k)) c.states (λ j q e. still-near c w t k j e) p.0 p.1 p.2 p.3))
    ]
  ]

  -- a state that is near at all is so within fewer rows than there are states
  near-soon : t < c.states → (n s : ℕ) → s < c.states → near c t n s ≡ true → (k : ℕ) × (k < c.states) × (near c t k s ≡ true)
  near-soon h n s b e = elim (grown h c.states) [
    | inr m ↦ absurd (omega (arith, m, count_most (near c t c.states) c.states))
    | inl p ↦ (p.0, p.1, full-near p.0 p.2 n s b (later n (p.0 + n) s (omega arith) e))
  ]

  -- ---- how far, exactly
  far-of : (s k : ℕ) → far_of c t s ≡ some k → Far c t s k
  unfolding far_of
  far-of s k e = let l = least-some (λ i. near c t i s) c.states k e in record { enough = l.here; least = l.before }

  far-there : t < c.states → (n s : ℕ) → s < c.states → near c t n s ≡ true → (k : ℕ) × (far_of c t s ≡ some k) × (k < c.states)
  unfolding far_of
  far-there h n s b e = go (near-soon h n s b e) (least (λ i. near c t i s) c.states) refl
    where
      go : (k : ℕ) × (k < c.states) × (near c t k s ≡ true) → (o : Option ℕ) → least (λ i. near c t i s) c.states ≡ o
          → (k : ℕ) × (least (λ i. near c t i s) c.states ≡ some k) × (k < c.states)
      go p none f = absurd (true≢false (sym p.2 ∙ least-none (λ i. near c t i s) c.states f p.0 p.1))
      go p (some k) f = (k, f, (least-some (λ i. near c t i s) c.states k f).below)

  -- the path that is printed
  pub the-way : t < c.states → (s : ℕ) → s < c.states → (l : List ℕ) → Way c t s l → TheWay c s t (way_of c t s) × (length (way_of c t s) < c.states)
  unfolding way_of
  the-way h s b l v =
      let p = far-there h (length l) s b (way-near c w t (length l) v (omega arith)) in
      let f = far-of s p.0 p.1 in
      rw (p.1, way_of) (walk-is-the-way c w t p.0 s f, omega (arith, walk-long c w t p.0 s f, p.2))

-- ---- where a component can get, a path leads
module _ (c : Comp) (w : WellComp c) where
  way_on : {t u s j : ℕ} {l : List ℕ} → Way c t s l → Goes c t j u → Way c u s (l ++ j ∷ [])
  way_on there g = onward g there
  way_on (onward e v) g = onward e (way_on v g)

  pub reached-by-a-way : {t : ℕ} → Reachable (auto_of c) t → (l : List ℕ) × Way c t c.start l
  reached-by-a-way at-start = ([], there)
  reached-by-a-way (by_row r a row) =
      let p = reached-by-a-way r in
      let j = row.place in
      (_, way_on p.1 (record { inside = row.inside; from = row.from; target = row.target; allowed = rw row.action a }))
