-- Words stored one after the other: what stands before them, among them and behind them.
use mathlib.Core.Path.{◌≡◌, refl, ◌∙◌, ap}
use mathlib.Core.List.{List, [], ◌∷◌}
use Prim.Native.Nat.{ℕ, zero, suc, ◌+◌, ◌≤◌, ◌<◌}
use native.Mathlib.Omega.{arith}
use lib.ListN.{length, get_or, set, length-set}
use lib.Seq.{sets, get_or-set_same, get_or-set_other}

pub sets-before : (l : List ℕ) (p : ℕ) (vs : List ℕ) (j : ℕ) → j < p → get_or (sets l p vs) j 0 ≡ get_or l j 0
sets-before l p [] j h = refl
sets-before l p (v ∷ vs) j h = sets-before (set l p v) (suc p) vs j (omega arith) ∙ get_or-set_other l p j v 0 (λ e. omega arith)

pub sets_behind : (l : List ℕ) (p : ℕ) (vs : List ℕ) (j : ℕ) → p + length vs ≤ j → get_or (sets l p vs) j 0 ≡ get_or l j 0
sets_behind l p [] j h = refl
sets_behind l p (v ∷ vs) j h = sets_behind (set l p v) (suc p) vs j (omega arith) ∙ get_or-set_other l p j v 0 (λ e. omega arith)

pub sets-inside : (l : List ℕ) (p : ℕ) (vs : List ℕ) (k : ℕ) → k < length vs → p + k < length l → get_or (sets l p vs) (p + k) 0 ≡ get_or vs k 0
sets-inside l p [] k h q = absurd (omega arith)
sets-inside l p (v ∷ vs) zero h q =
    let e : p + 0 ≡ p = omega arith in
    ap (λ j. get_or (sets (set l p v) (suc p) vs) j 0) e ∙ sets-before (set l p v) (suc p) vs p (omega arith) ∙ get_or-set_same l p v 0 (omega arith)
sets-inside l p (v ∷ vs) (suc k) h q =
    let e : p + suc k ≡ suc p + k = omega arith in
    ap (λ j. get_or (sets (set l p v) (suc p) vs) j 0) e ∙ sets-inside (set l p v) (suc p) vs k (omega arith) (omega (arith, length-set l p v))

pub four-words : (l : List ℕ) (p a b c d : ℕ) → set (set (set (set l p a) (p + 1) b) (p + 2) c) (p + 3) d ≡ sets l p (a ∷ b ∷ c ∷ d ∷ [])
four-words l p a b c d =
    let e : p + 1 ≡ suc p = omega arith in
    let f : p + 2 ≡ suc (suc p) = omega arith in
    let g : p + 3 ≡ suc (suc (suc p)) = omega arith in
    ap (λ k. set (set (set (set l p a) k b) (p + 2) c) (p + 3) d) e
    ∙ ap (λ k. set (set (set (set l p a) (suc p) b) k c) (p + 3) d) f
    ∙ ap (λ k. set (set (set (set l p a) (suc p) b) (suc (suc p)) c) k d) g
