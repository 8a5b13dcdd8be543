-- Rows that ascend by the state they leave: how many leave a state below s says which ones do.
use mathlib.Core.Path.{◌≡◌, refl}
use mathlib.Core.Logic.{⊎_elim}
use mathlib.Core.Bool.{Bool, true, false, cond}
use mathlib.Core.List.{List, [], ◌∷◌}
use Prim.Native.Nat.{ℕ, zero, suc, ◌+◌, ◌≤◌, ◌<◌}
use native.Mathlib.Omega.{arith}
use native.Mathlib.Decide.{ℕ_discrete}
use lib.ListN.{length, get_or}
use lib.Dec.{ltb}
use borrow.Author.Tests.{ltb-true, ltb-false, lt-ltb, le-ltb}
use Rattle.model.specs.Model.{Row, Comp, no_row, row_at}
use Rattle.model.specs.WellFormed.{lower, before, WellComp}
use Rattle.iosa.proofs.Acceptance.Order.{rows-ascend}
use Rattle.iosa.proofs.Acceptance.Order.{lower-cases}
use Rattle.layout.specs.Image.{leave_below}

-- ---- what the order of two rows tells
-- the first number is no greater, and where it is the same the rest decides
lower-head : (x y : ℕ) (xs ys : List ℕ) → lower (x ∷ xs) (y ∷ ys) ≡ true → (x ≤ y) × (x ≡ y → lower xs ys ≡ true)
lower-head x y xs ys e = ⊎_elim (λ h. (omega arith, λ p. absurd (omega arith))) (λ h. (omega (arith, h.0), λ p. h.1)) (lower-cases x y xs ys e)

pub before-from : (r q : Row) → before r q ≡ true → r.from ≤ q.from
unfolding before
before-from r q e = (lower-head r.from q.from (r.action ∷ r.guard ∷ r.resets ∷ r.target ∷ []) (q.action ∷ q.guard ∷ q.resets ∷ q.target ∷ []) e).0

pub before-action : (r q : Row) → before r q ≡ true → r.from ≡ q.from → r.action ≤ q.action
unfolding before
before-action r q e p =
    (lower-head r.action q.action (r.guard ∷ r.resets ∷ r.target ∷ []) (q.guard ∷ q.resets ∷ q.target ∷ [])
    ((lower-head r.from q.from (r.action ∷ r.guard ∷ r.resets ∷ r.target ∷ []) (q.action ∷ q.guard ∷ q.resets ∷ q.target ∷ []) e).1 p)).0

-- of two rows of a component the later one leaves no lower state
pub froms-ascend : (c : Comp) → WellComp c → (j k : ℕ) → j ≤ k → k < length c.rows → (row_at c j).from ≤ (row_at c k).from
froms-ascend c w j k h p = elim (ℕ_discrete j k) [
  | yes e ↦ rw e (omega arith)
  | no e ↦ before-from (row_at c j) (row_at c k) (rows-ascend c w j k (omega arith) p)
]

-- ---- how many leave a state below s
pub below-le : (rs : List Row) (s : ℕ) → leave_below rs s ≤ length rs
unfolding leave_below
below-le [] s = omega arith
below-le (r ∷ rs) s = go (ltb r.from s) (below-le rs s)
  where
    go : (b : Bool) → leave_below rs s ≤ length rs → cond b 1 0 + leave_below rs s ≤ suc (length rs)
    go true h = omega arith
    go false h = omega arith

pub none_below : (rs : List Row) (s : ℕ) → ((k : ℕ) → k < length rs → s ≤ (get_or rs k no_row).from) → leave_below rs s ≡ 0
unfolding leave_below
none_below [] s h = refl
none_below (r ∷ rs) s h = rw (le-ltb r.from s (h 0 (omega arith)), none_below rs s (λ k p. h (suc k) (omega arith)))

pub all-below : (rs : List Row) (s : ℕ) → ((k : ℕ) → k < length rs → (get_or rs k no_row).from < s) → leave_below rs s ≡ length rs
unfolding leave_below
all-below [] s h = refl
all-below (r ∷ rs) s h = rw (lt-ltb r.from s (h 0 (omega arith)), all-below rs s (λ k p. h (suc k) (omega arith))) (omega arith)

pub below_up : (rs : List Row) (s u : ℕ) → s ≤ u → leave_below rs s ≤ leave_below rs u
unfolding leave_below
below_up [] s u h = omega arith
below_up (r ∷ rs) s u h = go (ltb r.from s) refl (ltb r.from u) refl (below_up rs s u h)
  where
    go : (b : Bool) → ltb r.from s ≡ b → (d : Bool) → ltb r.from u ≡ d → leave_below rs s ≤ leave_below rs u
        → cond b 1 0 + leave_below rs s ≤ cond d 1 0 + leave_below rs u
    go true p true q ih = omega arith
    go true p false q ih = absurd (omega (arith, ltb-true r.from s p, ltb-false r.from u q))
    go false p true q ih = omega arith
    go false p false q ih = omega arith

-- ---- and which ones, where they ascend
abbrev pub Ascends : List Row → Type 0
Ascends rs = (j k : ℕ) → j ≤ k → k < length rs → (get_or rs j no_row).from ≤ (get_or rs k no_row).from

pub below-leaves : (rs : List Row) (s : ℕ) → Ascends rs → (k : ℕ) → k < leave_below rs s → (get_or rs k no_row).from < s
unfolding leave_below
below-leaves [] s up k h = absurd (omega arith)
below-leaves (r ∷ rs) s up k h = go (ltb r.from s) refl k (below-leaves rs s (λ i j p q. up (suc i) (suc j) (omega arith) (omega arith))) h
  where
    go : (b : Bool) → ltb r.from s ≡ b → (k : ℕ) → ((j : ℕ) → j < leave_below rs s → (get_or rs j no_row).from < s) → k < cond b 1 0 + leave_below rs s
        → (get_or (r ∷ rs) k no_row).from < s
    go true e zero ih h = ltb-true r.from s e
    go true e (suc k) ih h = ih k (omega arith)
    go false e k ih h =
        absurd (omega (
          arith,
          ltb-false r.from s e,
          none_below rs s (λ j p. let a : r.from ≤ (get_or rs j no_row).from = up 0 (suc j) (omega arith) (omega arith) in omega (
            arith,
            ltb-false r.from s e,
          )),
        ))

pub leaves-below : (rs : List Row) (s : ℕ) → Ascends rs → (k : ℕ) → k < length rs → (get_or rs k no_row).from < s → k < leave_below rs s
unfolding leave_below
leaves-below [] s up k h p = absurd (omega arith)
leaves-below (r ∷ rs) s up k h p = go (ltb r.from s) refl k h p (leaves-below rs s (λ i j a b. up (suc i) (suc j) (omega arith) (omega arith)))
  where
    go : (b : Bool) → ltb r.from s ≡ b → (k : ℕ) → k < suc (length rs) → (get_or (r ∷ rs) k no_row).from < s
        → ((j : ℕ) → j < length rs → (get_or rs j no_row).from < s → j < leave_below rs s) → k < cond b 1 0 + leave_below rs s
    go true e zero h p ih = omega arith
    go true e (suc k) h p ih = let q = ih k (omega arith) p in omega arith
    go false e k h p ih = let a : r.from ≤ (get_or (r ∷ rs) k no_row).from = up 0 k (omega arith) (omega arith) in absurd (omega (arith, ltb-false r.from s e))
