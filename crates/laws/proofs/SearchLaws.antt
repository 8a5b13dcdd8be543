-- Laws of the search for the least place: what an answer tells, and how a loop that searches goes on.
use mathlib.Core.Path.{◌≡◌, refl, sym, ◌∙◌, ap}
use mathlib.Core.Logic.{◌↔◌}
use mathlib.Core.Option.{Option, none, some, some_inj}
use mathlib.Core.Bool.{Bool, true, false, true≢false, false≢true}
use Prim.Native.Nat.{ℕ, zero, suc, ◌+◌, ◌-◌, ◌≤◌, ◌<◌}
use native.Mathlib.Numerals.{add-one}
use native.Mathlib.Omega.{arith}
use native.Mathlib.Decide.{ℕ_discrete}
use Rattle.laws.specs.Search.{first_from, seek, when, is_some, or_else, map_some, least, any, least2, Found, Least}

pub no-some {ℓ} : {A : Type ℓ} {o : Option A} {x : A} → o ≡ none → o ≡ some x → ⊥
no-some p q = let z : ◌≡◌ {A = ℕ} 0 1 = cc in omega arith

-- a case of a search: the answer is here, or further on
abbrev Else : {A : Type 0} → Option A → Option A → Option A
Else {A} o r = elim o as (λ p. Option A) [ none ↦ r | some x ↦ some x ]

module _ {A : Type 0} (f : ℕ → Option A) where
  first_some : (n k : ℕ) (x : A) → first_from f n k ≡ some x → Found f k (k + n) x
  unfolding first_from
  first_some zero k x e = absurd (no-some refl e)
  first_some (suc n) k x e = go (first_some n (suc k) x) (f k) refl e
    where
      go : (first_from f n (suc k) ≡ some x → Found f (suc k) (suc k + n) x) → (o : Option A) → f k ≡ o → Else o (first_from f n (suc k)) ≡ some x
          → Found f k (k + suc n) x
      go ih (some y) h e = record { place = k; from = omega arith; below = omega arith; here = h ∙ e; least = λ j p q. absurd (omega arith) }
      go ih none h e =
          let r = ih e in
          record {
            place = r.place;
            from = omega arith;
            below = omega arith;
            here = r.here;
            least = λ j p q. elim (ℕ_discrete j k) [ yes w ↦ ap f w ∙ h | no w ↦ r.least j (omega arith) q ];
          }

  first-none : (n k : ℕ) → first_from f n k ≡ none → (j : ℕ) → k ≤ j → j < k + n → f j ≡ none
  unfolding first_from
  first-none zero k e j p q = absurd (omega arith)
  first-none (suc n) k e j p q = go (first-none n (suc k)) (f k) refl e
    where
      go : (first_from f n (suc k) ≡ none → (i : ℕ) → suc k ≤ i → i < suc k + n → f i ≡ none) → (o : Option A) → f k ≡ o
          → Else o (first_from f n (suc k)) ≡ none → f j ≡ none
      go ih (some y) h e = absurd (no-some refl (sym e))
      go ih none h e = elim (ℕ_discrete j k) [ yes w ↦ ap f w ∙ h | no w ↦ ih e j (omega arith) (omega arith) ]

  none_first : (n k : ℕ) → ((j : ℕ) → k ≤ j → j < k + n → f j ≡ none) → first_from f n k ≡ none
  unfolding first_from
  none_first zero k h = refl
  none_first (suc n) k h = rw (h k (omega arith) (omega arith), first_from) (none_first n (suc k) (λ j p q. h j (omega arith) (omega arith)))

  -- ---- what an answer of `seek` tells
  pub seek-some : (lo hi : ℕ) (x : A) → seek f lo hi ≡ some x → Found f lo hi x
  unfolding seek
  seek-some lo hi x e =
      let r = first_some (hi - lo) lo x e in
      record { place = r.place; from = r.from; below = omega (arith, r.below, r.from); here = r.here; least = r.least }

  pub seek-none : (lo hi : ℕ) → seek f lo hi ≡ none → (j : ℕ) → lo ≤ j → j < hi → f j ≡ none
  unfolding seek
  seek-none lo hi e j p q = first-none (hi - lo) lo e j p (omega arith)

  pub none-seek : (lo hi : ℕ) → ((j : ℕ) → lo ≤ j → j < hi → f j ≡ none) → seek f lo hi ≡ none
  unfolding seek
  none-seek lo hi h = none_first (hi - lo) lo (λ j p q. h j p (omega arith))

  -- ---- how a loop goes on
  pub seek-here : (lo hi : ℕ) {x : A} → lo < hi → f lo ≡ some x → seek f lo hi ≡ some x
  unfolding seek first_from
  seek-here lo hi h e = let p : hi - lo ≡ suc (hi - suc lo) = omega arith in rw p (rw (e, first_from))

  pub seek-next : (lo hi : ℕ) → lo < hi → f lo ≡ none → seek f lo hi ≡ seek f (lo + 1) hi
  unfolding seek first_from
  seek-next lo hi h e = let p : hi - lo ≡ suc (hi - suc lo) = omega arith in rw (add-one, p) (rw (e, first_from))

  pub seek-end : (lo hi : ℕ) → hi ≤ lo → seek f lo hi ≡ none
  unfolding seek first_from
  seek-end lo hi h = let p : hi - lo ≡ 0 = omega arith in rw p

  -- the answer at the first place that has one
  pub some-seek : (lo hi : ℕ) {x : A} → Found f lo hi x → seek f lo hi ≡ some x
  some-seek lo hi {x} r = go (seek f lo hi) refl
    where
      go : (o : Option A) → seek f lo hi ≡ o → seek f lo hi ≡ some x
      go none e = absurd (no-some (seek-none lo hi e r.place r.from r.below) r.here)
      go (some y) e =
          let q = seek-some lo hi y e in
          elim (ℕ_discrete q.place r.place) [
            | yes w ↦ e ∙ sym q.here ∙ ap f w ∙ r.here
            | no w ↦ absurd (apart q w)
          ]
        where
          apart : (q : Found f lo hi y) → (q.place ≡ r.place → ⊥) → ⊥
          apart q w = elim (lower q.place r.place w) [
            | yes h ↦ no-some (r.least q.place q.from h) q.here
            | no h ↦ no-some (q.least r.place r.from (omega arith)) r.here
          ]
            where
              lower : (a b : ℕ) → (a ≡ b → ⊥) → Dec (a < b)
              lower a b w = native.Mathlib.Decide.dec_lt a b

-- ---- searches by a test
pub when-some {ℓ} : {A : Type ℓ} (b : Bool) (x : A) {y : A} → when b x ≡ some y → (b ≡ true) × (x ≡ y)
when-some true x e = (refl, some_inj.0 e)
when-some false x e = absurd (no-some refl e)

pub when-none {ℓ} : {A : Type ℓ} (b : Bool) (x : A) → when b x ≡ none → b ≡ false
when-none true x e = absurd (no-some e refl)
when-none false x e = refl

-- a refusal whose test decides P by its failure: none where P holds, given where not
module _ {A P : Type 0} (bad : Bool) (d : (bad ≡ false) ↔ P) (t : A) where
  pub when-fine : P → when bad t ≡ none
  when-fine p = rw (d.1 p)

  pub when-faulty : (P → ⊥) → when bad t ≡ some t
  when-faulty n = go bad refl
    where
      go : (b : Bool) → bad ≡ b → when b t ≡ some t
      go true e = refl
      go false e = absurd (n (d.0 e))

pub is-some {ℓ} : {A : Type ℓ} (o : Option A) → is_some o ≡ true → (x : A) × (o ≡ some x)
is-some none e = absurd (false≢true e)
is-some (some x) e = (x, refl)

pub is_none {ℓ} : {A : Type ℓ} (o : Option A) → is_some o ≡ false → o ≡ none
is_none none e = refl
is_none (some x) e = absurd (true≢false e)

pub or_else_none {ℓ} : {A : Type ℓ} (o p : Option A) → or_else o p ≡ none → (o ≡ none) × (p ≡ none)
or_else_none none p e = (refl, e)
or_else_none (some x) p e = absurd (no-some refl (sym e))

pub map-none {ℓ ℓ'} : {A : Type ℓ} {B : Type ℓ'} (f : A → B) (o : Option A) → map_some f o ≡ none → o ≡ none
map-none f none e = refl
map-none f (some x) e = absurd (no-some refl (sym e))

pub map-some {ℓ ℓ'} : {A : Type ℓ} {B : Type ℓ'} (f : A → B) (o : Option A) (y : B) → map_some f o ≡ some y → (x : A) × (o ≡ some x) × (f x ≡ y)
map-some f none y e = absurd (no-some refl e)
map-some f (some x) y e = (x, refl, some_inj.0 e)

pub least-none : (f : ℕ → Bool) (n : ℕ) → least f n ≡ none → (k : ℕ) → k < n → f k ≡ false
least-none f n e k h = when-none (f k) k (seek-none (λ k. when (f k) k) 0 n e k (omega arith) h)

pub none-least : (f : ℕ → Bool) (n : ℕ) → ((k : ℕ) → k < n → f k ≡ false) → least f n ≡ none
none-least f n h = none-seek (λ k. when (f k) k) 0 n (λ k p q. rw (h k q))

pub least-some : (f : ℕ → Bool) (n k : ℕ) → least f n ≡ some k → Least f n k
least-some f n k e =
    let p = seek-some (λ k. when (f k) k) 0 n k e in
    let w = when-some (f p.place) p.place p.here in
    record {
      below = omega (arith, w.1, p.below);
      here = rw w.1 at w.0;
      before = λ j h. when-none (f j) j (p.least j (omega arith) (omega (arith, w.1)));
    }

pub some-least : (f : ℕ → Bool) (n k : ℕ) → Least f n k → least f n ≡ some k
some-least f n k l =
    some-seek (λ k. when (f k) k) 0 n (record {
      place = k;
      from = omega arith;
      below = l.below;
      here = rw l.here;
      least = λ j p q. rw (l.before j q);
    })

pub any-true : (f : ℕ → Bool) (n : ℕ) → any f n ≡ true → (k : ℕ) × (k < n) × (f k ≡ true)
any-true f n e = go (least f n) refl e
  where
    go : (o : Option ℕ) → least f n ≡ o → is_some o ≡ true → (k : ℕ) × (k < n) × (f k ≡ true)
    go none h e = absurd (false≢true e)
    go (some k) h e = let l = least-some f n k h in (k, l.below, l.here)

pub any_false : (f : ℕ → Bool) (n : ℕ) → any f n ≡ false → (k : ℕ) → k < n → f k ≡ false
any_false f n e = least-none f n (is_none (least f n) e)

pub true-any : (f : ℕ → Bool) (n k : ℕ) → k < n → f k ≡ true → any f n ≡ true
true-any f n k h e = go (any f n) refl
  where
    go : (b : Bool) → any f n ≡ b → b ≡ true
    go true g = refl
    go false g = absurd (true≢false (sym e ∙ any_false f n g k h))

-- tests that agree below n
pub any_same : (f g : ℕ → Bool) (n : ℕ) → ((k : ℕ) → k < n → f k ≡ g k) → any f n ≡ any g n
any_same f g n h = go (any f n) refl (any g n) refl
  where
    go : (a : Bool) → any f n ≡ a → (b : Bool) → any g n ≡ b → a ≡ b
    go true e true d = refl
    go true e false d = let p = any-true f n e in absurd (true≢false (sym p.2 ∙ h p.0 p.1 ∙ any_false g n d p.0 p.1))
    go false e true d = let p = any-true g n d in absurd (true≢false (sym p.2 ∙ sym (h p.0 p.1) ∙ any_false f n e p.0 p.1))
    go false e false d = refl

-- ---- pairs: the lowest s, then the lowest a
module _ {A : Type 0} (f : ℕ → ℕ → Bool) (x : ℕ → ℕ → A) (n m : ℕ) where
  pub least2-none : least2 f x n m ≡ none → (s a : ℕ) → s < n → a < m → f s a ≡ false
  least2-none e s a h k =
      when-none (f s a) (x s a)
      (seek-none (λ a. when (f s a) (x s a)) 0 m
      (seek-none (λ s. seek (λ a. when (f s a) (x s a)) 0 m) 0 n e s (omega arith) h) a (omega arith) k)

  pub none-least2 : ((s a : ℕ) → s < n → a < m → f s a ≡ false) → least2 f x n m ≡ none
  none-least2 h =
      none-seek (λ s. seek (λ a. when (f s a) (x s a)) 0 m) 0 n
      (λ s p q. none-seek (λ a. when (f s a) (x s a)) 0 m (λ a u v. rw (h s a q v)))

-- ---- how a loop that tests goes on
module _ (g : ℕ → Bool) (lo hi : ℕ) (h : lo < hi) where
  pub test-here : g lo ≡ true → seek (λ k. when (g k) k) lo hi ≡ some lo
  test-here e = seek-here (λ k. when (g k) k) lo hi h (rw e)

  pub test-next : g lo ≡ false → seek (λ k. when (g k) k) lo hi ≡ seek (λ k. when (g k) k) (lo + 1) hi
  test-next e = seek-next (λ k. when (g k) k) lo hi h (rw e)
