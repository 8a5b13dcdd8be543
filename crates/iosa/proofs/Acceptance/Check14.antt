-- 14 "(f) broken": narrowing ends in the greatest sets, and the test fails exactly if (f) holds.
use mathlib.Core.Path.{◌≡◌, refl, sym, ◌∙◌, ap}
use mathlib.Core.Logic.{◌≢◌, ◌↔◌, by_cases}
use mathlib.Core.Bool.{true, false, not, true≢false}
use mathlib.Core.Option.{Option, none, some}
use mathlib.Core.List.{List}
use Prim.Native.Nat.{ℕ, zero, suc, ◌≤◌, ◌<◌}
use native.Mathlib.Omega.{arith}
use native.Mathlib.Decide.{ℕ_discrete}
use lib.ListN.{length, get_or, length-set}
use lib.Seq.{get_or-set_same, get_or-set_other}
use lib.Bits.{and_le_l}
use borrow.Author.Tests.{eqb-false, not-true, not-false}
use Rattle.laws.specs.Sets.{◌∩◌, within, ◌∈◌, ◌⊆◌}
use Rattle.laws.specs.Search.{least, any}
use Rattle.laws.specs.Fold.{tab, sum}
use Rattle.laws.proofs.SetLaws.{in_and, within-true, true-within}
use Rattle.laws.proofs.SearchLaws.{least-none, least-some, any-true, any_false, any_same}
use Rattle.laws.proofs.FoldLaws.{tab-length, tab-at, sum-set}
use Rattle.laws.proofs.TestLaws.{not_so}
use Rattle.model.specs.Model.{Row, Comp, row_at}
use Rattle.model.specs.WellFormed.{WellComp}
use Rattle.iosa.specs.Automaton.{auto_of, CondF}
use Rattle.iosa.specs.Checks.{enabling_of, allowed, handed_on, breaks, narrowed, narrow, greatest, check14}
use Rattle.iosa.specs.Greatest.{Above, Greatest}
use Rattle.iosa.proofs.Acceptance.GreatestSets.{greatest-decides, greatest-determined, above-handed}

-- the sets of a list, one for each state
abbrev pub sets_of : List ℕ → ℕ → ℕ
sets_of A s = get_or A s 0

-- ---- one narrowing
narrowed_at {ℓ} : (P : ℕ → Type ℓ) (A : List ℕ) (r : Row) (s : ℕ) → r.target < length A
    → (s ≡ r.target → P (get_or A r.target 0 ∩ handed_on A r)) → (s ≢ r.target → P (get_or A s 0)) → P (get_or (narrowed A r) s 0)
narrowed_at P A r s h f g = by_cases (ℕ_discrete s r.target)
    (λ e. rw (e, get_or-set_same A r.target (get_or A r.target 0 ∩ handed_on A r) 0 h) (f e))
    (λ ne. rw (get_or-set_other A r.target s (get_or A r.target 0 ∩ handed_on A r) 0 ne) (g ne))

-- it takes a member off
pub shrinks : (A : List ℕ) (r : Row) → r.target < length A → breaks A r ≡ true → sum (narrowed A r) < sum A
shrinks A r h e =
    let n = eqb-false (get_or A r.target 0 ∩ handed_on A r) (get_or A r.target 0) (not-true (within (get_or A r.target 0) (handed_on A r)) e) in
    omega (arith, sum-set A r.target (get_or A r.target 0 ∩ handed_on A r) h, and_le_l (get_or A r.target 0) (handed_on A r), n)

module _ (c : Comp) (w : WellComp c) where
  abbrev broken : List ℕ → Option ℕ
  broken A = least (λ k. breaks A (row_at c k)) (length c.rows)

  -- ---- narrowing keeps what each narrowing keeps
  narrow_keeps : (P : List ℕ → Type 0) → ((A : List ℕ) (k : ℕ) → k < length c.rows → P A → P (narrowed A (row_at c k))) → (n : ℕ) (A : List ℕ) → P A
      → P (narrow c n A)
  unfolding narrow
  narrow_keeps P f zero A p = p
  narrow_keeps P f (suc n) A p = go (narrow_keeps P f n) (broken A) refl
    where
      go : ((B : List ℕ) → P B → P (narrow c n B)) → (o : Option ℕ) → broken A ≡ o
          → P (elim o as (λ q. List ℕ) [ none ↦ A | some k ↦ narrow c n (narrowed A (row_at c k)) ])
      go ih none e = p
      go ih (some k) e = ih (narrowed A (row_at c k)) (f A k (least-some (λ k. breaks A (row_at c k)) (length c.rows) k e).below p)

  -- and no row breaks the sets in the end
  narrow-ends : (n : ℕ) (A : List ℕ) → length A ≡ c.states → sum A ≤ n → broken (narrow c n A) ≡ none
  unfolding narrow
  narrow-ends zero A len h = go (broken A) refl
    where
      go : (o : Option ℕ) → broken A ≡ o → o ≡ none
      go none e = refl
      go (some k) e =
          let l = least-some (λ k. breaks A (row_at c k)) (length c.rows) k e in
          absurd (omega (arith, shrinks A (row_at c k) (rw len (w.rows k l.below).target) l.here))
  narrow-ends (suc n) A len h = go (narrow-ends n) (broken A) refl
    where
      go : ((B : List ℕ) → length B ≡ c.states → sum B ≤ n → broken (narrow c n B) ≡ none) → (o : Option ℕ) → broken A ≡ o
          → broken (elim o as (λ q. List ℕ) [ none ↦ A | some k ↦ narrow c n (narrowed A (row_at c k)) ]) ≡ none
      go ih none e = e
      go ih (some k) e =
          let l = least-some (λ k. breaks A (row_at c k)) (length c.rows) k e in
          ih (narrowed A (row_at c k)) (length-set A (row_at c k).target _ ∙ len)
          (omega (arith, shrinks A (row_at c k) (rw len (w.rows k l.below).target) l.here))

  -- ---- the greatest sets
  -- a set for each state, within what is allowed, and above all sets that the rows allow
  abbrev pub Low : List ℕ → Type 0
  Low A = (c.states ≤ length A) × ((s : ℕ) → s < c.states → get_or A s 0 ⊆ allowed c s)

  abbrev pub High : List ℕ → Type 0
  High A = (c.states ≤ length A) × Above c (sets_of A)

  -- one narrowing keeps both
  kept-length : (A : List ℕ) (k : ℕ) → c.states ≤ length A → c.states ≤ length (narrowed A (row_at c k))
  kept-length A k h = simp length-set h

  pub low-narrowed : (A : List ℕ) (k : ℕ) → k < length c.rows → Low A → Low (narrowed A (row_at c k))
  low-narrowed A k h p = (
    kept-length A k p.0,
    λ s n x m. narrowed_at (λ v. x ∈ v → x ∈ allowed c s) A (row_at c k) s (omega (arith, p.0, (w.rows k h).target))
        (λ e q. p.1 s n x (rw e (in_and (get_or A (row_at c k).target 0) (handed_on A (row_at c k)) x q).0)) (λ ne q. p.1 s n x q) m,
  )

  pub high-narrowed : (A : List ℕ) (k : ℕ) → k < length c.rows → High A → High (narrowed A (row_at c k))
  high-narrowed A k h p = (
    kept-length A k p.0,
    record {
      all = λ B al s n x m. narrowed_at (λ v. x ∈ v) A (row_at c k) s (omega (arith, p.0, (w.rows k h).target))
          (λ e. above-handed c w (sets_of A) B p.1 al k h x (rw e at m)) (λ ne. p.1.all B al s n x m);
    },
  )

  first : (s : ℕ) → s < c.states → get_or (tab (allowed c) 0 c.states) s 0 ≡ allowed c s
  first s h = tab-at (allowed c) 0 0 c.states s h ∙ ap (allowed c) (omega arith)

  room : c.states ≤ length (tab (allowed c) 0 c.states)
  room = omega (arith, tab-length (allowed c) 0 c.states)

  low : Low (greatest c)
  unfolding greatest
  low = narrow_keeps Low low-narrowed (sum (tab (allowed c) 0 c.states)) (tab (allowed c) 0 c.states) (room, λ s h x k. rw (first s h) at k)

  high : High (greatest c)
  unfolding greatest
  high =
      narrow_keeps High high-narrowed (sum (tab (allowed c) 0 c.states)) (tab (allowed c) 0 c.states) (
        room,
        record { all = λ B al s h. rw (first s h) (al.within s h) },
      )

  unbroken : (k : ℕ) → k < length c.rows → breaks (greatest c) (row_at c k) ≡ false
  unfolding greatest
  unbroken k h = least-none (λ k. breaks (greatest c) (row_at c k)) (length c.rows)
      (narrow-ends (sum (tab (allowed c) 0 c.states)) (tab (allowed c) 0 c.states) (tab-length (allowed c) 0 c.states) (omega arith)) k h

  pub greatest-is-greatest : Greatest c (sets_of (greatest c))
  greatest-is-greatest = record {
    allows = record {
      within = low.1;
      kept = λ k h. within-true (sets_of (greatest c) (row_at c k).target) (handed_on (greatest c) (row_at c k))
          (not-false (within (sets_of (greatest c) (row_at c k).target) (handed_on (greatest c) (row_at c k))) (unbroken k h));
    };
    above = high.1;
  }

  -- ---- the test
  pub check14-exactly : (check14 c ≡ false) ↔ CondF (auto_of c)
  unfolding check14
  check14-exactly =
      let d = greatest-decides c w (sets_of (greatest c)) greatest-is-greatest in (
        λ e. d.1 (λ s h. within-true (enabling_of c s) (sets_of (greatest c) s)
            (not-false (within (enabling_of c s) (sets_of (greatest c) s)) (any_false (λ s. not (within (enabling_of c s) (sets_of (greatest c) s)))
            c.states e s h))),
        λ f. not_so (check14 c) (λ e.
            let a = any-true (λ s. not (within (enabling_of c s) (sets_of (greatest c) s))) c.states e in
            true≢false (sym (true-within (enabling_of c a.0) (sets_of (greatest c) a.0) (d.0 f a.0 a.1))
            ∙ not-true (within (enabling_of c a.0) (sets_of (greatest c) a.0)) a.2)),
      )

  -- and any greatest sets answer the test
  pub check14-by-greatest : (A : ℕ → ℕ) → Greatest c A → any (λ s. not (within (enabling_of c s) (A s))) c.states ≡ check14 c
  unfolding check14
  check14-by-greatest A g = any_same (λ s. not (within (enabling_of c s) (A s))) (λ s. not (within (enabling_of c s) (sets_of (greatest c) s))) c.states
      (λ s h. ap (λ v. not (within (enabling_of c s) v)) (greatest-determined c w A (sets_of (greatest c)) g greatest-is-greatest s h))
