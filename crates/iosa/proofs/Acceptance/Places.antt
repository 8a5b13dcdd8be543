-- The searches of the checks answer the least place: of one number, of a pair, of three.
use mathlib.Core.Path.{◌≡◌, refl, sym, ◌∙◌, ap}
use mathlib.Core.Logic.{◌⊎◌, ⊎_elim}
use mathlib.Core.Bool.{Bool, true}
use mathlib.Core.Option.{Option}
use mathlib.Core.List.{List, [], ◌∷◌}
use Prim.Native.Nat.{ℕ, suc, ◌≤◌, ◌<◌}
use native.Mathlib.Omega.{arith}
use Rattle.laws.specs.Search.{seek, when, or_else, least, least2}
use Rattle.iosa.proofs.Acceptance.Ranks.{Decides, decides-as, decides-when, decides-seek, decides-else, lower-head, Here, Among, Under, Retold}

-- ---- the places
pub record AtOne (P : ℕ → Type 0) (q : List ℕ) (t : ℕ) : Type 0 where
  pub rank : q ≡ t ∷ []
  pub holds : P t

pub record AtTwo (P : ℕ → ℕ → Type 0) (q t : List ℕ) : Type 0 where
  pub one : ℕ
  pub two : ℕ
  pub rank : q ≡ one ∷ two ∷ []
  pub told : t ≡ one ∷ two ∷ []
  pub holds : P one two

pub record AtThree (P : ℕ → ℕ → ℕ → Type 0) (q t : List ℕ) : Type 0 where
  pub one : ℕ
  pub two : ℕ
  pub three : ℕ
  pub rank : q ≡ one ∷ two ∷ three ∷ []
  pub told : t ≡ one ∷ two ∷ three ∷ []
  pub holds : P one two three

pub decides-one : (P : ℕ → Type 0) (f : ℕ → Bool) (n : ℕ) → ((k : ℕ) → k < n → f k ≡ true → P k) → ((k : ℕ) → P k → f k ≡ true)
    → ((k : ℕ) → P k → k < n) → Decides (AtOne P) (least f n)
decides-one P f n to from below =
    decides-as (λ q t. (there q t, back q t)) (decides-seek {F = λ k. Here (P k) k} (λ k. when (f k) k) 0 n
    (λ k h l. decides-when (f k) k (to k l) (from k)))
  where
    there : (q : List ℕ) (t : ℕ) → Among (λ k. Here (P k) k) 0 n q t → AtOne P q t
    there q t a =
        record {
          rank = a.split ∙ ap (λ r. a.place ∷ r) a.there.rank ∙ ap (λ k. k ∷ []) (sym a.there.told);
          holds = rw a.there.told a.there.holds;
        }

    back : (q : List ℕ) (t : ℕ) → AtOne P q t → Among (λ k. Here (P k) k) 0 n q t
    back q t a =
        record {
          place = t;
          tail = [];
          from = omega arith;
          below = below t a.holds;
          split = a.rank;
          there = record { rank = refl; told = refl; holds = a.holds };
        }

module _ (P : ℕ → ℕ → Type 0) (f : ℕ → ℕ → Bool) (n m : ℕ) where
  abbrev Cells : ℕ → List ℕ → List ℕ → Type 0
  Cells s = Among (λ a. Here (P s a) (s ∷ a ∷ [])) 0 m

  pub decides-two : ((s a : ℕ) → s < n → a < m → f s a ≡ true → P s a) → ((s a : ℕ) → P s a → f s a ≡ true) → ((s a : ℕ) → P s a → (s < n) × (a < m))
      → Decides (AtTwo P) (least2 f (λ s a. s ∷ a ∷ []) n m)
  decides-two to from below = decides-as (λ q t. (there q t, back q t)) (
      decides-seek {F = Cells} (λ s. seek (λ a. when (f s a) (s ∷ a ∷ [])) 0 m) 0 n (λ s h l.
      decides-seek {F =
      λ a. Here (P s a) (s ∷ a ∷ [])} (λ a. when (f s a) (s ∷ a ∷ [])) 0 m (λ a h k. decides-when (f s a) (s ∷ a ∷ []) (to s a l k) (from s a))))
    where
      there : (q t : List ℕ) → Among Cells 0 n q t → AtTwo P q t
      there q t a =
          let b = a.there in
          record { one = a.place; two = b.place; rank = rw (a.split, b.split, b.there.rank) refl; told = b.there.told; holds = b.there.holds }

      back : (q t : List ℕ) → AtTwo P q t → Among Cells 0 n q t
      back q t a =
          let k = below a.one a.two a.holds in
          record {
            place = a.one;
            tail = a.two ∷ [];
            from = omega arith;
            below = k.0;
            split = a.rank;
            there =
                record {
                  place = a.two;
                  tail = [];
                  from = omega arith;
                  below = k.1;
                  split = refl;
                  there = record { rank = refl; told = a.told; holds = a.holds };
                };
          }

-- the third above the second
abbrev pub least3 : (ℕ → ℕ → ℕ → Bool) → ℕ → ℕ → Option (List ℕ)
least3 f n m = seek (λ x. seek (λ i. seek (λ j. when (f x i j) (x ∷ i ∷ j ∷ [])) (suc i) m) 0 m) 0 n

module _ (P : ℕ → ℕ → ℕ → Type 0) (f : ℕ → ℕ → ℕ → Bool) (n m : ℕ) where
  abbrev Thirds : ℕ → ℕ → List ℕ → List ℕ → Type 0
  Thirds x i = Among (λ j. Here (P x i j) (x ∷ i ∷ j ∷ [])) (suc i) m

  abbrev Seconds : ℕ → List ℕ → List ℕ → Type 0
  Seconds x = Among (Thirds x) 0 m

  pub decides-three : ((x i j : ℕ) → x < n → i < j → j < m → f x i j ≡ true → P x i j) → ((x i j : ℕ) → P x i j → f x i j ≡ true)
      → ((x i j : ℕ) → P x i j → (x < n) × (i < j) × (j < m))
      → Decides (AtThree P) (least3 f n m)
  decides-three to from below = decides-as (λ q t. (there q t, back q t)) (
      decides-seek {F = Seconds} (λ x. seek (λ i. seek (λ j. when (f x i j) (x ∷ i ∷ j ∷ [])) (suc i) m) 0 m) 0 n (λ x h k.
      decides-seek {F = Thirds x} (λ i. seek (λ j. when (f x i j) (x ∷ i ∷ j ∷ [])) (suc i) m) 0 m (λ i u v.
      decides-seek {F = λ j. Here (P x i j) (x ∷ i ∷ j ∷ [])} (λ j. when (f x i j) (x ∷ i ∷ j ∷ [])) (suc i) m (λ j y z.
      decides-when (f x i j) (x ∷ i ∷ j ∷ []) (to x i j k y z) (from x i j)))))
    where
      there : (q t : List ℕ) → Among Seconds 0 n q t → AtThree P q t
      there q t a =
          let b = a.there in
          let c = b.there in
          record {
            one = a.place;
            two = b.place;
            three = c.place;
            rank = rw (a.split, b.split, c.split, c.there.rank) refl;
            told = c.there.told;
            holds = c.there.holds;
          }

      back : (q t : List ℕ) → AtThree P q t → Among Seconds 0 n q t
      back q t a =
          let k = below a.one a.two a.three a.holds in
          record {
            place = a.one;
            tail = a.two ∷ a.three ∷ [];
            from = omega arith;
            below = k.0;
            split = a.rank;
            there = record {
              place = a.two;
              tail = a.three ∷ [];
              from = omega arith;
              below = omega (arith, k.1, k.2);
              split = refl;
              there =
                  record {
                    place = a.three;
                    tail = [];
                    from = k.1;
                    below = k.2;
                    split = refl;
                    there = record { rank = refl; told = a.told; holds = a.holds };
                  };
            };
          }

-- ---- searches one after another, by ascending numbers at the head of the rank
abbrev pub Heads : {A : Type 0} → ℕ → (List ℕ → A → Type 0) → Type 0
Heads {A} lo F = (q : List ℕ) (t : A) → F q t → (k : ℕ) × (r : List ℕ) × (q ≡ k ∷ r) × (lo ≤ k)

abbrev pub Headed : {A : Type 0} → ℕ → (List ℕ → A → Type 0) → Type 0
Headed {A} n F = (q : List ℕ) (t : A) → F q t → (r : List ℕ) × (q ≡ n ∷ r)

module _ {A : Type 0} (n : ℕ) {G H : List ℕ → A → Type 0} (g : Headed n G) (h : Heads (suc n) H) where
  pub decides-next : {o p : Option A} → Decides G o → Decides H p → Decides (λ q t. G q t ⊎ H q t) (or_else o p)
  decides-next d e = decides-else d e (λ q r t u x y.
      let a = g q t x in
      let b = h r u y in
      rw (a.1, b.2) (lower-head n b.0 a.0 b.1 b.3))

  pub heads-next : Heads n (λ q t. G q t ⊎ H q t)
  heads-next q t = ⊎_elim
      (λ x. let a = g q t x in (n, a.0, a.1, omega arith))
      (λ y. let b = h q t y in (b.0, b.1, b.2, omega (arith, b.3)))

-- ---- a number, and what is told of a place
abbrev pub Numbered : {A B : Type 0} → ℕ → (A → B) → (List ℕ → A → Type 0) → List ℕ → B → Type 0
Numbered n g F = Under n (Retold g F)

pub headed : {A : Type 0} (n : ℕ) (F : List ℕ → A → Type 0) → Headed n (Under n F)
headed n F q t u = (u.tail, u.split)

pub heads : {A : Type 0} (n : ℕ) (F : List ℕ → A → Type 0) → Heads n (Under n F)
heads n F q t u = (n, u.tail, u.split, omega arith)
