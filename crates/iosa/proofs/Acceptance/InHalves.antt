-- 10 to 17 in two halves (02, 10/13): the first refusal of the components by themselves, in turn, and then of their compatibility.
use mathlib.Core.Path.{◌≡◌, refl, ap}
use mathlib.Core.Bool.{not}
use mathlib.Core.Option.{Option, none, some}
use mathlib.Core.List.{[], ◌∷◌}
use Prim.Native.Nat.{ℕ, suc, ◌+◌, ◌-◌, ◌≤◌, ◌<◌}
use native.Mathlib.Omega.{arith}
use lib.ListN.{length, take}
use lib.Dec.{ltb}
use borrow.Author.Tests.{lt-ltb, le-ltb, ltb-true, not-false}
use Rattle.laws.specs.Search.{first_from, seek, or_else}
use Rattle.laws.proofs.SearchLaws.{when-none, or_else_none}
use Rattle.answer.specs.Told.{Told, tell}
use Rattle.model.specs.Model.{Model, comp_at, row_count}
use Rattle.iosa.specs.Checks.{fault_at, fault_from, index_fault, component_of, compatible_of, accept_of}

-- ---- a component that is there has its own faults, and 25 is told of every other
module _ (m : Model) (i : ℕ) where
  pub there-own : i < length m → component_of m i ≡ fault_at i (row_count (take i m)) (comp_at m i)
  unfolding component_of index_fault
  there-own h = rw (lt-ltb i (length m) h)

  pub nowhere-25 : length m ≤ i → component_of m i ≡ some (tell 25 (0 ∷ []))
  unfolding component_of index_fault
  nowhere-25 h = rw (le-ltb i (length m) h)

  pub faultless-there : component_of m i ≡ none → i < length m
  unfolding component_of index_fault
  faultless-there e =
      let p = or_else_none (index_fault m i) (fault_at i (row_count (take i m)) (comp_at m i)) e in
      ltb-true i (length m) (not-false (ltb i (length m)) (when-none (not (ltb i (length m))) (tell 25 (0 ∷ [])) p.0))

-- ---- in turn
from-seek : (f : ℕ → Option Told) (i n : ℕ) (m : Model) → ((j : ℕ) → j < length m → f (i + j) ≡ fault_at (i + j) (n + row_count (take j m)) (comp_at m j))
    → fault_from i n m ≡ first_from f (length m) i
unfolding fault_from first_from row_count
from-seek f i n [] own = refl
from-seek f i n (c ∷ cs) own =
    let p : i + 0 ≡ i = omega arith in
    let q : n + 0 ≡ n = omega arith in
    go (f i) (rw (p, q) at (own 0 (omega arith))) (from-seek f (suc i) (n + length c.rows) cs (λ j h. next j (own (suc j) (omega arith))))
  where
    next : (j : ℕ) → f (i + suc j) ≡ fault_at (i + suc j) (n + (length c.rows + row_count (take j cs))) (comp_at cs j)
        → f (suc i + j) ≡ fault_at (suc i + j) (n + length c.rows + row_count (take j cs)) (comp_at cs j)
    next j e =
        let p : i + suc j ≡ suc i + j = omega arith in
        let q : n + (length c.rows + row_count (take j cs)) ≡ n + length c.rows + row_count (take j cs) = omega arith in
        rw (p, q) at e

    go : (o : Option Told) → o ≡ fault_at i n c → fault_from (suc i) (n + length c.rows) cs ≡ first_from f (length cs) (suc i)
        → ◌≡◌ {A = Option Told} (elim (fault_at i n c) as (λ p. Option Told) [ none ↦ fault_from (suc i) (n + length c.rows) cs | some t ↦ some t ])
        (elim o as (λ p. Option Told) [ none ↦ first_from f (length cs) (suc i) | some t ↦ some t ])
    go none e ih = rw (← e) ih
    go (some t) e ih = rw (← e)

pub faults-in-turn : (m : Model) → fault_from 0 0 m ≡ seek (component_of m) 0 (length m)
unfolding seek
faults-in-turn m =
    let e : length m - 0 ≡ length m = omega arith in
    rw e (from-seek (component_of m) 0 0 m own)
  where
    own : (j : ℕ) → j < length m → component_of m (0 + j) ≡ fault_at (0 + j) (0 + row_count (take j m)) (comp_at m j)
    own j h =
        let p : 0 + j ≡ j = omega arith in
        let q : 0 + row_count (take j m) ≡ row_count (take j m) = omega arith in
        rw (p, q) (there-own m j h)

-- and then 15 to 17
pub accept-in-turn : (m : Model) → accept_of m ≡ or_else (seek (component_of m) 0 (length m)) (compatible_of m)
unfolding accept_of
accept-in-turn m = ap (λ o. or_else o (compatible_of m)) (faults-in-turn m)
