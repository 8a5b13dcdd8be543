-- The numbers of a state by index, and the state with other numbers.
use mathlib.Core.Path.{◌≡◌, refl, sym, ◌∙◌, ap}
use mathlib.Core.List.{List, ◌++◌}
use Prim.Native.Nat.{ℕ, zero, suc, ◌+◌, ◌≤◌, ◌<◌}
use native.Mathlib.Omega.{arith}
use lib.ListN.{length, get_or, take, drop, take-append-drop, get_or-append}
use lib.Seq.{ext_get_or, get_or-take, length-take-le, drop_at}
use Rattle.answer.specs.declared.State.{State}
use Rattle.answer.specs.State.{numbers_from, parts_of, with_parts}

from-length : (ps : List ℕ) (k n : ℕ) → length (numbers_from ps k n) ≡ n
unfolding numbers_from
from-length ps k zero = refl
from-length ps k (suc n) = ap suc (from-length ps (suc k) n)

from_at : (ps : List ℕ) (k n j : ℕ) → j < n → get_or (numbers_from ps k n) j 0 ≡ get_or ps (k + j) 0
unfolding numbers_from
from_at ps k zero j h = absurd (omega arith)
from_at ps k (suc n) zero h = ap (λ i. get_or ps i 0) (omega arith)
from_at ps k (suc n) (suc j) h = from_at ps (suc k) n j (omega arith) ∙ ap (λ i. get_or ps i 0) (omega arith)

pub parts-length : (x : State) → length (parts_of x) ≡ x.count
unfolding parts_of
parts-length x = from-length x.parts 0 x.count

pub parts_at : (x : State) (j : ℕ) → j < x.count → get_or (parts_of x) j 0 ≡ get_or x.parts j 0
unfolding parts_of
parts_at x j h = from_at x.parts 0 x.count j h ∙ ap (λ i. get_or x.parts i 0) (omega arith)

-- where the count is within the places, the numbers are the front of the places
pub parts-front : (x : State) → x.count ≤ length x.parts → parts_of x ≡ take x.count x.parts
parts-front x h = ext_get_or 0 (parts_of x) (take x.count x.parts) (parts-length x ∙ sym (length-take-le x.count x.parts h)) (λ i k.
    let q : i < x.count = omega (arith, parts-length x) in
    parts_at x i q ∙ sym (get_or-take x.count x.parts i 0 q))

-- ---- the state with other numbers
-- its numbers are those given
pub with-parts : (x : State) (ps : List ℕ) → length ps ≡ x.count → parts_of (with_parts x ps) ≡ ps
unfolding with_parts
with-parts x ps e = ext_get_or 0 (parts_of (with_parts x ps)) ps (parts-length (with_parts x ps) ∙ sym e) (λ i k.
    let q : i < x.count = omega (arith, parts-length (with_parts x ps)) in
    parts_at (with_parts x ps) i q ∙ get_or-append ps (drop x.count x.parts) 0 i (omega arith))

-- given twice, the last ones stand
pub with-parts-again : (x : State) (ps qs : List ℕ) → length ps ≡ x.count → with_parts (with_parts x ps) qs ≡ with_parts x qs
unfolding with_parts
with-parts-again x ps qs e = ap (λ l. record { count = x.count; parts = qs ++ l }) (drop_at ps (drop x.count x.parts) x.count e)

-- given its own, it is as it was
pub with-own-parts : (x : State) → x.count ≤ length x.parts → with_parts x (parts_of x) ≡ x
unfolding with_parts
with-own-parts x h =
    ap (λ l. record { count = x.count; parts = l }) (ap (λ l. l ++ drop x.count x.parts) (parts-front x h) ∙ take-append-drop x.count
    x.parts)
