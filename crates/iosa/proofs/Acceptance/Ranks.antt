-- A search that answers the fault of the least rank: of one place, of a range, of one search after another.
use mathlib.Core.Path.{◌≡◌, refl, sym, ◌∙◌, ap, subst}
use mathlib.Core.Logic.{◌↔◌, ◌⊎◌, inl, inr, ⊎_elim}
use mathlib.Core.Bool.{Bool, true, false, true≢false, false≢true}
use mathlib.Core.Option.{Option, none, some}
use mathlib.Core.List.{List, [], ◌∷◌}
use Prim.Native.Nat.{ℕ, ◌≤◌, ◌<◌}
use native.Mathlib.Omega.{arith}
use lib.Dec.{eqb, ltb}
use borrow.Author.Tests.{eqb-true, eq-eqb, ne_eqb, ltb-true, lt-ltb}
use Rattle.laws.specs.Search.{seek, when, or_else, map_some}
use Rattle.laws.proofs.SearchLaws.{no-some, seek-some, seek-none, some-seek, when-some, map-none, map-some}
use Rattle.model.specs.WellFormed.{lower}
use Rattle.iosa.specs.Faults.{First}
use Rattle.iosa.proofs.Acceptance.Order.{lower-irreflexive, lower-transitive}

-- ---- the order of ranks
pub lower-head : (x y : ℕ) (xs ys : List ℕ) → x < y → lower (x ∷ xs) (y ∷ ys) ≡ true
unfolding lower
lower-head x y xs ys h = rw (ne_eqb x y (λ e. omega arith), lower) (lt-ltb x y h)

pub lower-tail : (x : ℕ) (xs ys : List ℕ) → lower xs ys ≡ true → lower (x ∷ xs) (x ∷ ys) ≡ true
unfolding lower
lower-tail x xs ys h = rw (eq-eqb x x refl, lower) h

pub lower-parts : (x y : ℕ) (xs ys : List ℕ) → lower (x ∷ xs) (y ∷ ys) ≡ true → (x < y) ⊎ ((x ≡ y) × (lower xs ys ≡ true))
unfolding lower
lower-parts x y xs ys e = go (eqb x y) refl e
  where
    go : (b : Bool) → eqb x y ≡ b → (elim b as (λ _. Bool) [ true ↦ lower xs ys | false ↦ ltb x y ]) ≡ true → (x < y) ⊎ ((x ≡ y) × (lower xs ys ≡ true))
    go true p e = inr (eqb-true x y p, e)
    go false p e = inl (ltb-true x y e)

lower-nil : (xs : List ℕ) → lower xs [] ≡ true → ⊥
unfolding lower
lower-nil [] e = false≢true e
lower-nil (x ∷ xs) e = false≢true e

lower-asym : (xs ys : List ℕ) → lower xs ys ≡ true → lower ys xs ≡ true → ⊥
lower-asym xs ys e f = true≢false (sym (lower-transitive xs ys xs e f) ∙ lower-irreflexive xs)

lower-under : (n : ℕ) (q r q' r' : List ℕ) → q ≡ n ∷ q' → r ≡ n ∷ r' → lower q r ≡ true → lower q' r' ≡ true
lower-under n q r q' r' e f l =
    let k : lower (n ∷ q') (n ∷ r') ≡ true = rw (e, f) at l in
    ⊎_elim (λ h. absurd (omega (arith, h))) (λ p. p.1) (lower-parts n n q' r' k)

-- ---- an answer that is the first fault
pub record Decides {A : Type 0} (F : List ℕ → A → Type 0) (o : Option A) : Type 0 where
  pub found : (t : A) → o ≡ some t → First F t
  pub first : (t : A) → First F t → o ≡ some t
  pub nowhere : o ≡ none → (q : List ℕ) (t : A) → F q t → ⊥

module _ {A : Type 0} where
  pub decided-exactly : {F : List ℕ → A → Type 0} {o : Option A} → Decides F o → (t : A) → (o ≡ some t) ↔ First F t
  decided-exactly d t = (d.found t, d.first t)

  pub decided-none : {F : List ℕ → A → Type 0} {o : Option A} → Decides F o → (o ≡ none) ↔ ((q : List ℕ) (t : A) → F q t → ⊥)
  decided-none {F} {o} d = (d.nowhere, λ f. go f o refl)
    where
      go : ((q : List ℕ) (t : A) → F q t → ⊥) → (v : Option A) → o ≡ v → v ≡ none
      go f none e = refl
      go f (some t) e = let p = d.found t e in absurd (f p.rank t p.here)

  -- the same faults by other words
  pub decides-as : {F G : List ℕ → A → Type 0} {o : Option A} → ((q : List ℕ) (t : A) → F q t ↔ G q t) → Decides F o → Decides G o
  decides-as f d = record {
    found = λ t e. let p = d.found t e in record { rank = p.rank; here = (f p.rank t).0 p.here; before = λ q u l g. p.before q u l ((f q u).1 g) };
    first = λ t p. d.first t (record { rank = p.rank; here = (f p.rank t).1 p.here; before = λ q u l g. p.before q u l ((f q u).0 g) });
    nowhere = λ e q t g. d.nowhere e q t ((f q t).1 g);
  }

  -- one place, by a test
  pub record Here (P : Type 0) (x : A) (q : List ℕ) (t : A) : Type 0 where
    pub rank : q ≡ []
    pub told : t ≡ x
    pub holds : P

  pub decides-when : {P : Type 0} (b : Bool) (x : A) → (b ≡ true → P) → (P → b ≡ true) → Decides (Here P x) (when b x)
  decides-when true x f g = record {
    found = λ t e. record { rank = []; here = record { rank = refl; told = sym (when-some true x e).1; holds = f refl }; before = λ q u l h. lower-nil q l };
    first = λ t p. ap some (sym p.here.told);
    nowhere = λ e. absurd (no-some e refl);
  }
  decides-when false x f g = record {
    found = λ t e. absurd (no-some refl e);
    first = λ t p. absurd (false≢true (g p.here.holds));
    nowhere = λ e q t h. false≢true (g h.holds);
  }

  -- a number before the rank
  pub record Under (n : ℕ) (F : List ℕ → A → Type 0) (q : List ℕ) (t : A) : Type 0 where
    pub tail : List ℕ
    pub split : q ≡ n ∷ tail
    pub there : F tail t

  pub decides-under : (n : ℕ) {F : List ℕ → A → Type 0} {o : Option A} → Decides F o → Decides (Under n F) o
  decides-under n d = record {
    found = λ t e.
        let p = d.found t e in
        record {
          rank = n ∷ p.rank;
          here = record { tail = p.rank; split = refl; there = p.here };
          before = λ q u l g. p.before g.tail u (lower-under n q (n ∷ p.rank) g.tail p.rank g.split refl l) g.there;
        };
    first = λ t p. d.first t (record {
      rank = p.here.tail;
      here = p.here.there;
      before = λ q u l g. p.before (n ∷ q) u (rw p.here.split (lower-tail n q p.here.tail l)) (record { tail = q; split = refl; there = g });
    });
    nowhere = λ e q t g. d.nowhere e g.tail t g.there;
  }

  -- one search after another
  pub decides-else : {G H : List ℕ → A → Type 0} {o p : Option A} → Decides G o → Decides H p
      → ((q r : List ℕ) (t u : A) → G q t → H r u → lower q r ≡ true) → Decides (λ q t. G q t ⊎ H q t) (or_else o p)
  decides-else {G} {H} {o} {p} d e up = go o refl
    where
      Both : List ℕ → A → Type 0
      Both q t = G q t ⊎ H q t

      left : (t : A) → First G t → First Both t
      left t f = record {
        rank = f.rank;
        here = inl f.here;
        before = λ q u l. ⊎_elim (f.before q u l) (λ h. lower-asym q f.rank l (up f.rank q t u f.here h));
      }

      go : (v : Option A) → o ≡ v → Decides Both (or_else v p)
      go none z = record {
        found = λ t k. let f = e.found t k in record { rank = f.rank; here = inr f.here; before = λ q u l. ⊎_elim (d.nowhere z q u) (f.before q u l) };
        first =
            λ t f. e.first t (record {
              rank = f.rank;
              here = ⊎_elim (λ g. absurd (d.nowhere z f.rank t g)) (λ h. h) f.here;
              before = λ q u l h. f.before q u l (inr h);
            });
        nowhere = λ k q t. ⊎_elim (d.nowhere z q t) (e.nowhere k q t);
      }
      go (some x) z = record {
        found = λ t k. left t (d.found t (z ∙ k));
        first = λ t f. sym z ∙ d.first t (record {
          rank = f.rank;
          here =
              ⊎_elim (λ g. g) (λ h. let k = d.found x z in absurd (f.before k.rank x (up k.rank f.rank x t k.here h) (inl k.here)))
              f.here;
          before = λ q u l g. f.before q u l (inl g);
        });
        nowhere = λ k. absurd (no-some k refl);
      }

  -- a range of places
  pub record Among (F : ℕ → List ℕ → A → Type 0) (lo hi : ℕ) (q : List ℕ) (t : A) : Type 0 where
    pub place : ℕ
    pub tail : List ℕ
    pub from : lo ≤ place
    pub below : place < hi
    pub split : q ≡ place ∷ tail
    pub there : F place tail t

  pub decides-seek : {F : ℕ → List ℕ → A → Type 0} (f : ℕ → Option A) (lo hi : ℕ) → ((k : ℕ) → lo ≤ k → k < hi → Decides (F k) (f k))
      → Decides (Among F lo hi) (seek f lo hi)
  decides-seek {F} f lo hi d = record {
    found = λ t e.
        let s = seek-some f lo hi t e in
        let p = (d s.place s.from s.below).found t s.here in
        record {
          rank = s.place ∷ p.rank;
          here = record { place = s.place; tail = p.rank; from = s.from; below = s.below; split = refl; there = p.here };
          before = λ q u l g. ⊎_elim
              (λ h. (d g.place g.from g.below).nowhere (s.least g.place g.from h) g.tail u g.there)
              (λ h. p.before g.tail u h.1 (subst (λ k. F k g.tail u) h.0 g.there))
              (lower-parts g.place s.place g.tail p.rank (rw g.split at l));
        };
    first = λ t p. some-seek f lo hi (there t p p.here);
    nowhere = λ e q t g. (d g.place g.from g.below).nowhere (seek-none f lo hi e g.place g.from g.below) g.tail t g.there;
  }
    where
      there : (t : A) (p : First (Among F lo hi) t) (g : Among F lo hi p.rank t) → Rattle.laws.specs.Search.Found f lo hi t
      there t p g = record {
        place = g.place;
        from = g.from;
        below = g.below;
        here = (d g.place g.from g.below).first t (record {
          rank = g.tail;
          here = g.there;
          before =
              λ q u l h. p.before (g.place ∷ q) u (rw g.split (lower-tail g.place q g.tail l))
              (record { place = g.place; tail = q; from = g.from; below = g.below; split = refl; there = h });
        });
        least = λ j h k. none_of j h k (f j) refl;
      }
        where
          none_of : (j : ℕ) → lo ≤ j → j < g.place → (v : Option A) → f j ≡ v → f j ≡ none
          none_of j h k none e = e
          none_of j h k (some u) e =
              let b : j < hi = omega (arith, g.below) in
              let s = (d j h b).found u e in
              absurd (p.before (j ∷ s.rank) u (rw g.split (lower-head j g.place s.rank g.tail k))
              (record { place = j; tail = s.rank; from = h; below = b; split = refl; there = s.here }))

-- an answer in other words
pub record Retold {A B : Type 0} (g : A → B) (F : List ℕ → A → Type 0) (q : List ℕ) (t : B) : Type 0 where
  pub value : A
  pub told : t ≡ g value
  pub there : F q value

pub decides-map : {A B : Type 0} (g : A → B) {F : List ℕ → A → Type 0} {o : Option A} → Decides F o → Decides (Retold g F) (map_some g o)
decides-map {A} {B} g {F} {o} d = record {
  found = λ t e.
      let x = map-some g o t e in
      let p = d.found x.0 x.1 in
      record { rank = p.rank; here = record { value = x.0; told = sym x.2; there = p.here }; before = λ q u l h. p.before q h.value l h.there };
  first = λ t p.
      let h = p.here in
      ap (map_some g) (d.first h.value (record {
        rank = p.rank;
        here = h.there;
        before = λ q u l k. p.before q (g u) l (record { value = u; told = refl; there = k });
      })) ∙ ap some (sym h.told);
  nowhere = λ e q t h. d.nowhere (map-none g o e) q h.value h.there;
}
