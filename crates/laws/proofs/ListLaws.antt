-- Laws of lists: their members, lists in which every earlier member stands in a relation to every later one, and lists put together.
use mathlib.Core.Path.{◌≡◌, refl, sym, ◌∙◌, ap}
use mathlib.Core.Logic.{◌⊎◌, inl, inr, ⊎_elim}
use mathlib.Core.List.Memᴰ.{head as here}
use mathlib.Core.List.Memᴰ.{tail as there}
use mathlib.Core.List.{List, [], ◌∷◌, ◌++◌, map, reverse_aux, Memᴰ as In}
use mathlib.Core.List.Memᴰ.{append_cases}
use mathlib.Core.List.Memᴰ.{append_left as in_left}
use mathlib.Core.List.Memᴰ.{not-nil as in-none}
use mathlib.Core.List.Memᴰ.{append_right as in_right}
use Prim.Native.Nat.{ℕ, zero, suc, ◌+◌, ◌-◌, ◌≤◌, ◌<◌}
use native.Mathlib.Omega.{arith}
use native.Mathlib.Decide.{ℕ_discrete}
use lib.ListN.{length, get_or, take, drop, length-append, length-drop, get_or-append}
use lib.Seq.{get_or_at, get_or-append-add, get_or-take, get_or-drop, length-take-le}
use Rattle.laws.specs.Fold.{spread}

-- ---- members
module _ {A : Type 0} where
  pub in-at : (d : A) (xs : List A) (k : ℕ) → k < length xs → In (get_or xs k d) xs
  in-at d [] k h = absurd (omega arith)
  in-at d (x ∷ xs) zero h = here refl
  in-at d (x ∷ xs) (suc k) h = there (in-at d xs k (omega arith))

  pub at_in : (d : A) {x : A} (xs : List A) → In x xs → (k : ℕ) × (k < length xs) × (get_or xs k d ≡ x)
  at_in d (x ∷ xs) (here e) = (0, omega arith, sym e)
  at_in d (x ∷ xs) (there m) = let r = at_in d xs m in (suc r.0, omega (arith, r.1), r.2)
  at_in d [] x'' = elim x'' [ ]

  -- the lists of f from k on, of n places: a member is one of some f j
  pub in-spread : (f : ℕ → List A) {x : A} (k n j : ℕ) → k ≤ j → j < k + n → In x (f j) → In x (spread f k n)
  in-spread f k zero j p q m = absurd (omega arith)
  in-spread f {x} k (suc n) j p q m = elim (ℕ_discrete j k) [
    | yes e ↦ in_left {s = f k} (spread f (suc k) n) (rw (← e) m)
    | no e ↦ in_right (f k) (in-spread f (suc k) n j (omega arith) (omega arith) m)
  ]

  pub spread-in : (f : ℕ → List A) {x : A} (k n : ℕ) → In x (spread f k n) → (j : ℕ) × (k ≤ j) × (j < k + n) × In x (f j)
  spread-in f k zero m = absurd (in-none m)
  spread-in f {x} k (suc n) m = go (spread-in f (suc k) n) (append_cases (f k) m)
    where
      go : (In x (spread f (suc k) n) → (j : ℕ) × (suc k ≤ j) × (j < suc k + n) × In x (f j)) → In x (f k) ⊎ In x (spread f (suc k) n)
          → (j : ℕ) × (k ≤ j) × (j < k + suc n) × In x (f j)
      go ih (inl m) = (k, omega arith, omega arith, m)
      go ih (inr m) = let r = ih m in (r.0, omega (arith, r.1), omega (arith, r.2), r.3)

module _ {A B : Type 0} (f : A → B) where
  pub in_map : {x : A} (xs : List A) → In x xs → In (f x) (map f xs)
  in_map (x ∷ xs) (here e) = here (ap f e)
  in_map (x ∷ xs) (there m) = there (in_map xs m)
  in_map [] x'' = elim x'' [ ]

  pub map-in : {y : B} (xs : List A) → In y (map f xs) → (x : A) × In x xs × (y ≡ f x)
  map-in [] m = absurd (in-none m)
  map-in (x ∷ xs) (here e) = (x, here refl, e)
  map-in (x ∷ xs) (there m) = let r = map-in xs m in (r.0, there r.1, r.2)

-- ---- every member stands in R to every later one
abbrev pub Pairwise : {A : Type 0} → (A → A → Type 0) → List A → Type 0
Pairwise R [] = Unit {0}
Pairwise {A} R (x ∷ xs) = ((y : A) → In y xs → R x y) × Pairwise R xs

module _ {A : Type 0} (R : A → A → Type 0) where
  pub pairwise_append : (xs ys : List A) → Pairwise R xs → Pairwise R ys → ((x y : A) → In x xs → In y ys → R x y) → Pairwise R (xs ++ ys)
  pairwise_append [] ys p q h = q
  pairwise_append (x ∷ xs) ys p q h =
      (λ y m. ⊎_elim (p.0 y) (h x y (here refl)) (append_cases xs m), pairwise_append xs ys p.1 q (λ z y m. h z y (there m)))

  pub pairwise-spread : (f : ℕ → List A) (k n : ℕ) → ((j : ℕ) → k ≤ j → j < k + n → Pairwise R (f j))
      → ((i j : ℕ) (x y : A) → k ≤ i → i < j → j < k + n → In x (f i) → In y (f j) → R x y) → Pairwise R (spread f k n)
  pairwise-spread f k zero p h = tt
  pairwise-spread f k (suc n) p h =
      pairwise_append (f k) (spread f (suc k) n) (p k (omega arith) (omega arith))
      (pairwise-spread f (suc k) n (λ j a b. p j (omega arith) (omega arith)) (λ i j x y a b c. h i j x y (omega arith) b (omega arith)))
      (λ x y m l. let r = spread-in f (suc k) n l in h k r.0 x y (omega arith) r.1 (omega (arith, r.2)) m r.3)

  -- what holds of neighbours holds of all, if R goes on from one to the next
  pub pairwise-from : (d : A) → ((x y z : A) → R x y → R y z → R x z) → (xs : List A)
      → ((k : ℕ) → suc k < length xs → R (get_or xs k d) (get_or xs (suc k) d)) → Pairwise R xs
  pairwise-from d tr [] h = tt
  pairwise-from d tr (x ∷ xs) h = go xs (λ k q. h (suc k) (omega arith)) (pairwise-from d tr xs (λ k q. h (suc k) (omega arith))) (h 0)
    where
      go : (ys : List A) → ((k : ℕ) → suc k < length ys → R (get_or ys k d) (get_or ys (suc k) d)) → Pairwise R ys
          → (1 < suc (length ys) → R x (get_or ys 0 d)) → Pairwise R (x ∷ ys)
      go [] g p e = (λ y m. absurd (in-none m), tt)
      go (y ∷ ys) g p e = (λ z m. first z m, p)
        where
          first : (z : A) → In z (y ∷ ys) → R x z
          first z (here w) = rw w (e (omega arith))
          first z (there m) = tr x y z (e (omega arith)) (p.0 z m)

  pub pairwise-next : (d : A) (xs : List A) → Pairwise R xs → (k : ℕ) → suc k < length xs → R (get_or xs k d) (get_or xs (suc k) d)
  pairwise-next d [] p k h = absurd (omega arith)
  pairwise-next d (x ∷ xs) p zero h = p.0 (get_or xs 0 d) (in-at d xs 0 (omega arith))
  pairwise-next d (x ∷ xs) p (suc k) h = pairwise-next d xs p.1 k (omega arith)

  -- two members: the same place, or one of them comes first
  pub pairwise-two : {x y : A} (xs : List A) → Pairwise R xs → In x xs → In y xs → (x ≡ y) ⊎ (R x y ⊎ R y x)
  pairwise-two (z ∷ zs) p (here e) (here f) = inl (e ∙ sym f)
  pairwise-two {x} {y} (z ∷ zs) p (here e) (there m) = inr (inl (rw e (p.0 y m)))
  pairwise-two {x} {y} (z ∷ zs) p (there l) (here f) = inr (inr (rw f (p.0 x l)))
  pairwise-two (z ∷ zs) p (there l) (there m) = pairwise-two zs p.1 l m
  pairwise-two {x = x} {y = y} [] p x4 _ = elim x4 [ ]

pub pairwise_map : {A B : Type 0} (R : A → A → Type 0) (S : B → B → Type 0) (f : A → B) (xs : List A) → Pairwise R xs
    → ((x y : A) → In x xs → In y xs → R x y → S (f x) (f y)) → Pairwise S (map f xs)
pairwise_map R S f [] p h = tt
pairwise_map {A} {B} R S f (x ∷ xs) p h = (later, pairwise_map R S f xs p.1 (λ y z l m. h y z (there l) (there m)))
  where
    later : (y : B) → In y (map f xs) → S (f x) y
    later y m = let r = map-in f xs m in rw r.2 (h x r.0 (here refl) (there r.1) (p.0 r.0 r.1))

-- ---- one element put in the place of two
module _ {A : Type 0} (d x : A) (l : List A) (i : ℕ) (h : suc i < length l) where
  abbrev pub joined_at : List A
  joined_at = take i l ++ x ∷ drop (suc (suc i)) l

  front : length (take i l) ≡ i
  front = length-take-le i l (omega arith)

  pub joined_length : suc (length joined_at) ≡ length l
  joined_length = omega (arith, length-append (take i l) (x ∷ drop (suc (suc i)) l), front, length-drop (suc (suc i)) l)

  pub joined-before : (j : ℕ) → j < i → get_or joined_at j d ≡ get_or l j d
  joined-before j q = get_or-append (take i l) (x ∷ drop (suc (suc i)) l) d j (omega (arith, front)) ∙ get_or-take i l j d q

  pub joined-here : get_or joined_at i d ≡ x
  joined-here = get_or_at (take i l) x (drop (suc (suc i)) l) d i front

  pub joined-after : (j : ℕ) → i < j → get_or joined_at j d ≡ get_or l (suc j) d
  joined-after j q =
      let e : j ≡ length (take i l) + suc (j - suc i) = omega (arith, front) in
      let f : suc (suc i) + (j - suc i) ≡ suc j = omega arith in
      ap (λ n. get_or joined_at n d) e ∙ get_or-append-add (take i l) (x ∷ drop (suc (suc i)) l) (suc (j - suc i)) d ∙ get_or-drop (suc (suc i)) l
      (j - suc i) d ∙ ap (λ n. get_or l n d) f

  -- a count over the list, of f for each element
  pub joined-count : (f : A → ℕ) (count : List A → ℕ) → ((x : A) (xs : List A) → count (x ∷ xs) ≡ f x + count xs)
      → count joined_at + (f (get_or l i d) + f (get_or l (suc i) d)) ≡ count l + f x
  joined-count f count step = go i l h
    where
      go : (i : ℕ) (l : List A) → suc i < length l → count (take i l ++ x ∷ drop (suc (suc i)) l) + (f (get_or l i d) + f (get_or l (suc i) d)) ≡ count l + f x
      go i [] h = absurd (omega arith)
      go i (y ∷ []) h = absurd (omega arith)
      go zero (y ∷ z ∷ l) h = omega (arith, step x l, step y (z ∷ l), step z l)
      go (suc i) (y ∷ z ∷ l) h = omega (arith, step y (take i (z ∷ l) ++ x ∷ drop (suc (suc i)) (z ∷ l)), step y (z ∷ l), go i (z ∷ l) (omega arith))

-- ---- what holds of every member
abbrev pub All : {A : Type 0} → (A → Type 0) → List A → Type 0
All P [] = Unit {0}
All P (x ∷ xs) = P x × All P xs

module _ {A : Type 0} (P : A → Type 0) where
  pub all-at : (d : A) (xs : List A) → All P xs → (i : ℕ) → i < length xs → P (get_or xs i d)
  all-at d [] h i l = absurd (omega arith)
  all-at d (x ∷ xs) h zero l = h.0
  all-at d (x ∷ xs) h (suc i) l = all-at d xs h.1 i (omega arith)

  pub at_all : (d : A) (xs : List A) → ((i : ℕ) → i < length xs → P (get_or xs i d)) → All P xs
  at_all d [] h = tt
  at_all d (x ∷ xs) h = (h 0 (omega arith), at_all d xs (λ i l. h (suc i) (omega arith)))

  pub all-reverse : (xs ys : List A) → All P xs → All P ys → All P (reverse_aux xs ys)
  all-reverse [] ys h k = k
  all-reverse (x ∷ xs) ys h k = all-reverse xs (x ∷ ys) h.1 (h.0, k)
