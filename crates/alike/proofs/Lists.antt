-- Lists of lists, of which all but one are empty; and every member of one list with every one of another.
use mathlib.Core.Path.{◌≡◌, refl, sym, ◌∙◌, ap, ap₂}
use mathlib.Core.List.{List, [], ◌∷◌, ◌++◌, map, append_assoc, append-nil, map-map, map-append}
use Prim.Native.Nat.{ℕ, zero, suc, ◌+◌, ◌≤◌, ◌<◌}
use native.Mathlib.Omega.{arith}
use Rattle.laws.specs.Fold.{spread}
use Rattle.laws.proofs.TestLaws.{apart-cases}

module _ {A : Type 0} where
  spread-empty : (f : ℕ → List A) (k n : ℕ) → ((j : ℕ) → k ≤ j → j < k + n → f j ≡ []) → spread f k n ≡ []
  spread-empty f k zero h = refl
  spread-empty f k (suc n) h = ap₂ ◌++◌ (h k (omega arith) (omega arith)) (spread-empty f (suc k) n (λ j p q. h j (omega arith) (omega arith)))

  -- where all lists but the one at j are empty
  pub spread-one : (f : ℕ → List A) (k n j : ℕ) → k ≤ j → j < k + n → ((x : ℕ) → k ≤ x → x < k + n → (x ≡ j → ⊥) → f x ≡ []) → spread f k n ≡ f j
  spread-one f k zero j p q h = absurd (omega arith)
  spread-one f k (suc n) j p q h =
      apart-cases k j
      (λ e. ap₂ ◌++◌ (ap f e) (spread-empty f (suc k) n (λ x a b. h x (omega arith) (omega arith) (λ z. omega arith))) ∙ append-nil (f j))
      (λ l. ap₂ ◌++◌ (h k (omega arith) (omega arith) (λ z. omega arith))
      (spread-one f (suc k) n j (omega arith) (omega arith) (λ x a b z. h x (omega arith) (omega arith) z)))
      (λ l. absurd (omega arith))

-- ---- every member of one list with every one of another
unfoldable pub every : {A B C : Type 0} → (A → B → C) → List A → List B → List C
every f [] ys = []
every f (x ∷ xs) ys = map (f x) ys ++ every f xs ys

module _ {A B C : Type 0} where
  pub every-map-left : {D : Type 0} (f : A → B → C) (g : D → A) (xs : List D) (ys : List B) → every f (map g xs) ys ≡ every (λ x. f (g x)) xs ys
  unfolding every
  every-map-left f g [] ys = refl
  every-map-left f g (x ∷ xs) ys = ap (λ l. map (f (g x)) ys ++ l) (every-map-left f g xs ys)

  pub every-map-right : {D : Type 0} (f : A → B → C) (g : D → B) (xs : List A) (ys : List D) → every f xs (map g ys) ≡ every (λ x y. f x (g y)) xs ys
  unfolding every
  every-map-right f g [] ys = refl
  every-map-right f g (x ∷ xs) ys = ap₂ ◌++◌ (map-map (f x) g ys) (every-map-right f g xs ys)

  pub map-every : {D : Type 0} (h : C → D) (f : A → B → C) (xs : List A) (ys : List B) → map h (every f xs ys) ≡ every (λ x y. h (f x y)) xs ys
  unfolding every
  map-every h f [] ys = refl
  map-every h f (x ∷ xs) ys = map-append h (map (f x) ys) (every f xs ys) ∙ ap₂ ◌++◌ (map-map h (f x) ys) (map-every h f xs ys)

  every_append : (f : A → B → C) (xs zs : List A) (ys : List B) → every f (xs ++ zs) ys ≡ every f xs ys ++ every f zs ys
  unfolding every
  every_append f [] zs ys = refl
  every_append f (x ∷ xs) zs ys = ap (λ l. map (f x) ys ++ l) (every_append f xs zs ys) ∙ sym (append_assoc (map (f x) ys) (every f xs ys) (every f zs ys))

-- of three lists: the first two first, or the last two
pub every-regroups : {A B C D E F : Type 0} (f : D → C → F) (g : A → B → D) (h : A → E → F) (k : B → C → E)
    → ◌≡◌ {A = A → B → C → F} (λ x y z. f (g x y) z) (λ x y z. h x (k y z)) → (xs : List A) (ys : List B) (zs : List C)
    → every f (every g xs ys) zs ≡ every h xs (every k ys zs)
unfolding every
every-regroups f g h k e [] ys zs = refl
every-regroups f g h k e (x ∷ xs) ys zs =
    every_append f (map (g x) ys) (every g xs ys) zs
    ∙ ap₂ ◌++◌ (every-map-left f (g x) ys zs ∙ ap (λ q. every (q x) ys zs) e ∙ sym (map-every (h x) k ys zs))
    (every-regroups f g h k e xs ys zs)
