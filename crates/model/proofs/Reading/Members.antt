-- A set printed is the ascending list of its members, and such a list is the members of its set.
use mathlib.Core.Path.{◌≡◌, refl, sym, ◌∙◌, ap, ap₂}
use mathlib.Core.Logic.{⊎_elim, by_cases}
use mathlib.Core.Bool.{Bool, true, false, cond, true≢false}
use mathlib.Core.List.{List, [], ◌∷◌}
use Prim.Native.Nat.{ℕ, zero, suc, ◌+◌, ◌^◌, ◌≤◌, ◌<◌}
use native.Mathlib.Omega.{arith}
use native.Mathlib.Decide.{ℕ_discrete}
use lib.Dec.{ltb}
use borrow.Author.Tests.{ltb-true, lt-ltb}
use Rattle.laws.specs.Sets.{has, only, ◌∈◌, ◌⊆◌}
use Rattle.laws.proofs.SetLaws.{has-or, in-below, in_one, one_in, none_in, in-or, or-in-l, or-in-r, or-not, same-members}
use Rattle.laws.proofs.TestLaws.{and-true, not_so}
use Rattle.answer.specs.Limits.{max_clocks}
use Rattle.model.specs.Text.{clocks_of, joined, members, set_field}
use Rattle.model.specs.Reading.{all_below, all_in, ascending, set_of}
use Rattle.model.specs.Line.{AllFit, list_field}

-- the list ascends strictly, from k on and below m
abbrev pub Up : ℕ → ℕ → List ℕ → Type 0
Up k m [] = Unit {0}
Up k m (x ∷ xs) = (k ≤ x) × (x < m) × Up (suc x) m xs

up-lower : (j k m : ℕ) (xs : List ℕ) → j ≤ k → Up k m xs → Up j m xs
up-lower j k m [] h u = tt
up-lower j k m (x ∷ xs) h u = (omega arith, u.1, u.2)

-- ---- the tests
pub tests-up : (m : ℕ) (xs : List ℕ) → ascending xs ≡ true → all_below m xs ≡ true → Up 0 m xs
unfolding ascending all_below
tests-up m [] a b = tt
tests-up m (x ∷ []) a b = (omega arith, ltb-true x m (and-true (ltb x m) true b).0, tt)
tests-up m (x ∷ y ∷ ys) a b =
    let p = and-true (ltb x y) (ascending (y ∷ ys)) a in
    let q = and-true (ltb x m) (all_below m (y ∷ ys)) b in
    let r = tests-up m (y ∷ ys) p.1 q.1 in
    (omega arith, ltb-true x m q.0, (ltb-true x y p.0, r.1, r.2))

pub up-ascends : (k m : ℕ) (xs : List ℕ) → Up k m xs → ascending xs ≡ true
unfolding ascending
up-ascends k m [] u = refl
up-ascends k m (x ∷ []) u = refl
up-ascends k m (x ∷ y ∷ ys) u = rw (lt-ltb x y u.2.0) (up-ascends (suc x) m (y ∷ ys) u.2)

pub up-below : (k m : ℕ) (xs : List ℕ) → Up k m xs → all_below m xs ≡ true
unfolding all_below
up-below k m [] u = refl
up-below k m (x ∷ xs) u = rw (lt-ltb x m u.1) (up-below (suc x) m xs u.2)

up-fit : (k : ℕ) (xs : List ℕ) → Up k max_clocks xs → AllFit xs
up-fit k [] u = tt
up-fit k (x ∷ xs) u = (omega (arith, u.1), up-fit (suc x) xs u.2)

-- ---- the set of a list
pub in-set-of : (s : ℕ) (xs : List ℕ) → all_in s xs ≡ true → set_of xs ⊆ s
unfolding all_in set_of
in-set-of s [] e x h = absurd (none_in x h)
in-set-of s (y ∷ ys) e x h =
    let p = and-true (has s y) (all_in s ys) e in
    ⊎_elim (λ q. rw (one_in y x q) p.0) (λ q. in-set-of s ys p.1 x q) (in-or (only y) (set_of ys) x h)

up-not-in : (k m : ℕ) (xs : List ℕ) (x : ℕ) → Up k m xs → x < k → has (set_of xs) x ≡ false
unfolding set_of
up-not-in k m [] x u h = not_so (has 0 x) (none_in x)
up-not-in k m (y ∷ ys) x u h =
    or-not (only y) (set_of ys) x (not_so (has (only y) x) (λ e. omega (arith, one_in y x e))) (up-not-in (suc y) m ys x u.2 (omega arith))

-- ---- the members of a set
pub members-up : (s n k m : ℕ) → k + n ≡ m → Up k m (members s n k)
unfolding members
members-up s zero k m e = tt
members-up s (suc n) k m e = go (has s k) (members-up s n (suc k) m (omega arith))
  where
    go : (b : Bool) → Up (suc k) m (members s n (suc k)) → Up k m (cond b (k ∷ members s n (suc k)) (members s n (suc k)))
    go true u = (omega arith, omega arith, u)
    go false u = up-lower k (suc k) m (members s n (suc k)) (omega arith) u

-- members are told by the tests at their places
pub members-same : (s t n k : ℕ) → ((x : ℕ) → k ≤ x → has s x ≡ has t x) → members s n k ≡ members t n k
unfolding members
members-same s t zero k h = refl
members-same s t (suc n) k h = rw (h k (omega arith), members-same s t n (suc k) (λ x p. h x (omega arith)))

pub members-none : (n k : ℕ) → members 0 n k ≡ []
unfolding members
members-none zero k = refl
members-none (suc n) k = rw (not_so (has 0 k) (none_in k)) (members-none n (suc k))

-- an ascending list is the members of its set
up-members : (n k m : ℕ) (xs : List ℕ) → k + n ≡ m → Up k m xs → members (set_of xs) n k ≡ xs
unfolding members set_of
up-members zero k m [] e u = refl
up-members zero k m (x ∷ xs) e u = absurd (omega (arith, u.0, u.1))
up-members (suc n) k m [] e u = members-none (suc n) k
up-members (suc n) k m (x ∷ xs) e u = go (up-members n (suc k) m xs (omega arith)) (up-members n (suc k) m (x ∷ xs) (omega arith)) (ℕ_discrete x k)
  where
    go : (Up (suc k) m xs → members (set_of xs) n (suc k) ≡ xs) → (Up (suc k) m (x ∷ xs) → members (set_of (x ∷ xs)) n (suc k) ≡ x ∷ xs) → Dec (x ≡ k)
        → members (set_of (x ∷ xs)) (suc n) k ≡ x ∷ xs
    go here later (yes p) =
        rw (or-in-l (only x) (set_of xs) k (rw p (in_one k))) (ap₂ {C = List ℕ} (λ n l. n ∷ l) (sym p) (
        members-same (set_of (x ∷ xs)) (set_of xs) n (suc k) (λ y h. has-or (only x) (set_of xs) y
        ∙ rw (not_so (has (only x) y) (λ q. omega (arith, one_in x y q))))
        ∙ here (up-lower (suc k) (suc x) m xs (omega arith) u.2)))
    go here later (no p) = rw (up-not-in (suc k) m (x ∷ xs) k (omega (arith, u.0), u.1, u.2) (omega arith)) (later (omega (arith, u.0), u.1, u.2))

-- a set is the set of its members
has-members : (s n k x : ℕ) → x ∈ s → k ≤ x → x < k + n → x ∈ set_of (members s n k)
unfolding members set_of
has-members s zero k x h p q = absurd (omega arith)
has-members s (suc n) k x h p q = go (has-members s n (suc k) x h) (has s k) refl
  where
    go : (suc k ≤ x → x < suc k + n → x ∈ set_of (members s n (suc k))) → (b : Bool) → has s k ≡ b
        → x ∈ set_of (cond b (k ∷ members s n (suc k)) (members s n (suc k)))
    go ih true e = by_cases (ℕ_discrete x k)
        (λ w. or-in-l (only k) (set_of (members s n (suc k))) x (rw w (in_one k)))
        (λ w. or-in-r (only k) (set_of (members s n (suc k))) x (ih (omega arith) (omega arith)))
    go ih false e = by_cases (ℕ_discrete x k) (λ w. absurd (true≢false (sym h ∙ ap (has s) w ∙ e))) (λ w. ih (omega arith) (omega arith))

members-in : (s n k : ℕ) (t : ℕ) → s ⊆ t → all_in t (members s n k) ≡ true
unfolding members all_in
members-in s zero k t h = refl
members-in s (suc n) k t h = go (members-in s n (suc k) t h) (has s k) refl
  where
    go : all_in t (members s n (suc k)) ≡ true → (b : Bool) → has s k ≡ b → all_in t (cond b (k ∷ members s n (suc k)) (members s n (suc k))) ≡ true
    go ih true e = rw (h k e) ih
    go ih false e = ih

-- ---- sets of clocks
pub set-of-members : (s : ℕ) → s < 2 ^ max_clocks → set_of (clocks_of s) ≡ s
set-of-members s h = same-members (set_of (clocks_of s)) s
    (in-set-of s (clocks_of s) (members-in s max_clocks 0 s (λ x p. p)))
    (λ x p. has-members s max_clocks 0 x p (omega arith) (omega (arith, in-below max_clocks s x h p)))

pub members-of-set : (xs : List ℕ) → ascending xs ≡ true → all_below max_clocks xs ≡ true → clocks_of (set_of xs) ≡ xs
members-of-set xs a b = up-members max_clocks 0 max_clocks xs refl (tests-up max_clocks xs a b)

pub members-ascend : (s : ℕ) → ascending (clocks_of s) ≡ true
members-ascend s = up-ascends 0 max_clocks (clocks_of s) (members-up s max_clocks 0 max_clocks refl)

pub members-below : (s : ℕ) → all_below max_clocks (clocks_of s) ≡ true
members-below s = up-below 0 max_clocks (clocks_of s) (members-up s max_clocks 0 max_clocks refl)

pub members-fit : (s : ℕ) → AllFit (clocks_of s)
members-fit s = up-fit 0 (clocks_of s) (members-up s max_clocks 0 max_clocks refl)

pub members-within : (s t : ℕ) → s ⊆ t → all_in t (clocks_of s) ≡ true
members-within s t h = members-in s max_clocks 0 t h

-- a set printed is the list of its members
pub set-printed : (s : ℕ) → s < 2 ^ max_clocks → set_field s ≡ list_field (clocks_of s)
unfolding set_field list_field set_of
set-printed zero h = rw (members-none max_clocks 0)
set-printed (suc s) h = go (clocks_of (suc s)) refl
  where
    go : (xs : List ℕ) → clocks_of (suc s) ≡ xs → joined (clocks_of (suc s)) ≡ list_field (clocks_of (suc s))
    go [] e = absurd (zero-no (ap set_of (sym e) ∙ set-of-members (suc s) h))
      where
        zero-no : set_of [] ≡ suc s → ⊥
        zero-no p = omega arith
    go (x ∷ xs) e = rw e
