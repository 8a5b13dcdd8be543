-- The ranks of faults: of two faults one comes before the other, or they are one. So there is at most one first fault; where there is a fault, there is one.
use mathlib.Core.Path.{◌≡◌, refl, sym, ◌∙◌, ap}
use mathlib.Core.Logic.{◌⊎◌, inl, inr}
use mathlib.Core.Bool.{true, false}
use mathlib.Core.Option.{Option, none, some}
use mathlib.Core.List.{List, [], ◌∷◌}
use Prim.Native.Nat.{ℕ, ◌+◌, ◌<◌}
use native.Mathlib.Omega.{arith}
use lib.ListN.{length, take}
use lib.Dec.{ltb}
use Rattle.laws.proofs.TestLaws.{apart-cases}
use Rattle.answer.specs.Told.{Told, tell}
use Rattle.model.specs.Model.{Comp, Model, row_count}
use Rattle.model.specs.WellFormed.{WellFormed, lower}
use Rattle.iosa.specs.Checks.{accept_of}
use Rattle.iosa.specs.Faults.{FaultAt, guarded, repeated, lacking, doubled, inactive, Fault, inside, output-shared, clock-shared, urgency-differs}
use Rattle.iosa.specs.Faults.{Clash, clash, First}
use Rattle.iosa.proofs.Acceptance.Ranks.{lower-head, lower-tail}
use Rattle.iosa.proofs.Acceptance.Refused.{refused-exactly, unrefused-exactly}

-- ---- the order of ranks: one is lower, or they are equal and so is what is told
abbrev Ordered : List ℕ → Told → List ℕ → Told → Type 0
Ordered q t r u = (lower q r ≡ true) ⊎ ((lower r q ≡ true) ⊎ ((q ≡ r) × (t ≡ u)))

-- the first number decides, or what follows it does
head-decides : {t u : Told} (x y : ℕ) (xs ys : List ℕ) → (x ≡ y → Ordered xs t ys u) → Ordered (x ∷ xs) t (y ∷ ys) u
head-decides {t} {u} x y xs ys f = apart-cases x y (λ e. rw e (below (f e))) (λ h. inl (lower-head x y xs ys h)) (λ h. inr (inl (lower-head y x ys xs h)))
  where
    below : Ordered xs t ys u → Ordered (y ∷ xs) t (y ∷ ys) u
    below (inl l) = inl (lower-tail y xs ys l)
    below (inr (inl l)) = inr (inl (lower-tail y ys xs l))
    below (inr (inr p)) = inr (inr (ap (λ l. y ∷ l) p.0, p.1))

-- what is told is a function of the rank, and ranks with one number are equally long
same_length : (f : List ℕ → Told) (xs ys : List ℕ) {t u : Told} → length xs ≡ length ys → t ≡ f xs → u ≡ f ys → Ordered xs t ys u
same_length f [] [] e p q = inr (inr (refl, p ∙ sym q))
same_length f [] (y ∷ ys) e p q = absurd (omega arith)
same_length f (x ∷ xs) [] e p q = absurd (omega arith)
same_length f (x ∷ xs) (y ∷ ys) e p q = head-decides x y xs ys (λ d. same_length (λ l. f (y ∷ l)) xs ys (omega arith) (p ∙ ap (λ n. f (n ∷ xs)) d) q)

-- a number n, then a place of k numbers
record Shape (f : ℕ → List ℕ → Told) (k : ℕ → ℕ) (q : List ℕ) (t : Told) : Type 0 where
  number : ℕ
  place : List ℕ
  rank : q ≡ number ∷ place
  size : length place ≡ k number
  told : t ≡ f number place

shapes-in-order : (f : ℕ → List ℕ → Told) (k : ℕ → ℕ) {q r : List ℕ} {t u : Told} → Shape f k q t → Shape f k r u → Ordered q t r u
shapes-in-order f k x y = rw (x.rank, y.rank) (head-decides x.number y.number x.place y.place (λ e.
    same_length (f y.number) x.place y.place (x.size ∙ ap k e ∙ sym y.size) (x.told ∙ ap (λ n. f n x.place) e) y.told))

-- ---- 10 to 14 of a component
size : ℕ → ℕ
size h = elim (ltb h 12) [ true ↦ 1 | false ↦ elim (ltb h 14) [ true ↦ 2 | false ↦ 0 ] ]

row : ℕ → List ℕ → List ℕ
row n [] = []
row n (k ∷ r) = (n + k) ∷ r

says : ℕ → ℕ → ℕ → List ℕ → Told
says i n h r = elim (ltb h 12) [ true ↦ tell h (row n r) | false ↦ tell h (i ∷ r) ]

at-shape : {c : Comp} (i n : ℕ) {q : List ℕ} {t : Told} → FaultAt c i n q t → Shape (says i n) size q t
unfolding size says row
at-shape i n (guarded {k} b) = record { number = 10; place = k ∷ []; rank = refl; size = refl; told = refl }
at-shape i n (repeated {k} b) = record { number = 11; place = k ∷ []; rank = refl; size = refl; told = refl }
at-shape i n (lacking {s} {a} b) = record { number = 12; place = s ∷ a ∷ []; rank = refl; size = refl; told = refl }
at-shape i n (doubled {s} {a} b) = record { number = 13; place = s ∷ a ∷ []; rank = refl; size = refl; told = refl }
at-shape i n (inactive b) = record { number = 14; place = []; rank = refl; size = refl; told = refl }

-- ---- of a system
record Within (m : Model) (q : List ℕ) (t : Told) : Type 0 where
  component : ℕ
  below : component < length m
  tail : List ℕ
  rank : q ≡ component ∷ tail
  shape : Shape (says component (row_count (take component m))) size tail t

record Across (m : Model) (q : List ℕ) (t : Told) : Type 0 where
  tail : List ℕ
  rank : q ≡ length m ∷ tail
  shape : Shape tell (λ h. 3) tail t

across : (m : Model) (n x i j : ℕ) → Across m (length m ∷ n ∷ x ∷ i ∷ j ∷ []) (tell n (x ∷ i ∷ j ∷ []))
across m n x i j = record {
  tail = n ∷ x ∷ i ∷ j ∷ [];
  rank = refl;
  shape = record { number = n; place = x ∷ i ∷ j ∷ []; rank = refl; size = refl; told = refl };
}

fault-shape : (m : Model) {q : List ℕ} {t : Told} → Fault m q t → Within m q t ⊎ Across m q t
fault-shape m (inside {i} {q = q} h f) = inl (record { component = i; below = h; tail = q; rank = refl; shape = at-shape i (row_count (take i m)) f })
fault-shape m (output-shared {a} {i} {j} b) = inr (across m 15 a i j)
fault-shape m (clock-shared {x} {i} {j} b) = inr (across m 16 x i j)
fault-shape m (urgency-differs {a} {i} {j} b) = inr (across m 17 a i j)

pub faults-are-in-order : (m : Model) {q r : List ℕ} {t u : Told} → Fault m q t → Fault m r u → (lower q r ≡ true) ⊎ ((lower r q ≡ true) ⊎ ((q ≡ r) × (t ≡ u)))
faults-are-in-order m f g = go (fault-shape m f) (fault-shape m g)
  where
    go : {q r : List ℕ} {t u : Told} → Within m q t ⊎ Across m q t → Within m r u ⊎ Across m r u → Ordered q t r u
    go (inl x) (inl y) = rw (x.rank, y.rank) (head-decides x.component y.component x.tail y.tail (λ e.
        shapes-in-order (says y.component (row_count (take y.component m))) size (rw e at x.shape) y.shape))
    go (inl x) (inr y) = rw (x.rank, y.rank) (inl (lower-head x.component (length m) x.tail y.tail x.below))
    go (inr x) (inl y) = rw (x.rank, y.rank) (inr (inl (lower-head y.component (length m) y.tail x.tail y.below)))
    go (inr x) (inr y) = rw (x.rank, y.rank) (
        head-decides (length m) (length m) x.tail y.tail (λ e. shapes-in-order tell (λ h. 3) x.shape y.shape))

pub clashes-are-in-order : (m : Model) {q r : List ℕ} {t u : Told} → Clash m q t → Clash m r u → (lower q r ≡ true) ⊎ ((lower r q ≡ true) ⊎ ((q ≡ r) × (t ≡ u)))
clashes-are-in-order m (clash {i} {s} {a} {b} h x) (clash {i = j} {s = t} {a = d} {b = e} k y) =
    same_length (tell 18) (i ∷ s ∷ a ∷ b ∷ []) (j ∷ t ∷ d ∷ e ∷ []) refl refl refl

-- ---- the first
one-first : {F : List ℕ → Told → Type 0} {t u : Told} (p : First F t) (q : First F u) → Ordered p.rank t q.rank u → t ≡ u
one-first {t} {u} p q (inl l) = absurd (q.before p.rank t l p.here)
one-first {t} {u} p q (inr (inl l)) = absurd (p.before q.rank u l q.here)
one-first {t} {u} p q (inr (inr e)) = e.1

pub first-fault-is-one : (m : Model) {t u : Told} → First (Fault m) t → First (Fault m) u → t ≡ u
first-fault-is-one m p q = one-first p q (faults-are-in-order m p.here q.here)

pub first-clash-is-one : (m : Model) {t u : Told} → First (Clash m) t → First (Clash m) u → t ≡ u
first-clash-is-one m p q = one-first p q (clashes-are-in-order m p.here q.here)

-- where a condition is broken, something is the first fault
pub a-fault-has-a-first : (m : Model) → WellFormed m → {q : List ℕ} {t : Told} → Fault m q t → (u : Told) × First (Fault m) u
a-fault-has-a-first m w {q} {t} f = go (accept_of m) refl
  where
    go : (o : Option Told) → accept_of m ≡ o → (u : Told) × First (Fault m) u
    go none e = absurd ((unrefused-exactly m w).0 e q t f)
    go (some u) e = (u, (refused-exactly m w u).0 e)
