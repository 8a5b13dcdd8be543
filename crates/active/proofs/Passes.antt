-- A row that changes a set lets their sum fall. A pass keeps the sets above all that the rows allow; where it changes nothing, no row breaks them.
use mathlib.Core.Path.{◌≡◌, refl, sym, ◌∙◌, ap}
use mathlib.Core.Bool.{Bool, true, false, not, ◌||◌}
use mathlib.Core.List.{List}
use Prim.Native.Nat.{ℕ, zero, suc, ◌+◌, ◌-◌, ◌≤◌, ◌<◌}
use native.Mathlib.Omega.{arith}
use native.Mathlib.Decide.{ℕ_discrete, dec_lt}
use lib.ListN.{length, get_or, set, get_or-eq_default}
use lib.Seq.{get_or-set_same, get_or-set_other, set-get_or}
use lib.Bits.{and_le_l}
use borrow.Author.Tests.{eq-eqb, ne_eqb}
use Rattle.laws.specs.Sets.{◌∩◌}
use Rattle.laws.specs.Fold.{over_from, over, sum}
use Rattle.laws.proofs.SetLaws.{within-true}
use Rattle.laws.proofs.UnionLaws.{over-keeps}
use Rattle.model.specs.Model.{Row, row_at}
use Rattle.model.specs.WellFormed.{WellComp}
use Rattle.iosa.specs.Checks.{handed_on, breaks, narrowed}
use Rattle.iosa.specs.Greatest.{Greatest}
use Rattle.iosa.proofs.Acceptance.Check14.{Low, High, low-narrowed, high-narrowed, shrinks}
use Rattle.layout.specs.Layout.{count_of}
use Rattle.layout.specs.Image.{Image, comp_of}
use Rattle.layout.proofs.RowsOfRange.{well-comp}
use Rattle.layout.proofs.WalkByStates.{over-rows}
use Rattle.active.specs.Narrowing.{narrow_state, pass, FirstSets, Fell}

-- ---- a list filled one place after the other
pub filled : (f : ℕ → ℕ) (A : List ℕ) (s v : ℕ) → s < length A → v ≡ f s → ((j : ℕ) → j < s → get_or A j 0 ≡ f j) → (j : ℕ) → j < s + 1
    → get_or (set A s v) j 0 ≡ f j
filled f A s v h e ih j p = elim (ℕ_discrete j s) [
  | yes w ↦ rw w (get_or-set_same A s v 0 h ∙ e)
  | no w ↦ get_or-set_other A s j v 0 w ∙ ih j (omega arith)
]

-- ---- one narrowing lets the sum fall if the row breaks the sets, else it changes nothing
pub narrowed-fell : (A : List ℕ) (r : Row) → Fell (breaks A r) A (narrowed A r)
narrowed-fell A r = elim (ℕ_discrete (get_or A r.target 0 ∩ handed_on A r) (get_or A r.target 0)) [
  | yes e ↦ rw (eq-eqb _ _ e) (ap (set A r.target) e ∙ set-get_or A r.target 0)
  | no ne ↦ rw (ne_eqb _ _ ne) (elim (dec_lt r.target (length A)) [
    | yes h ↦ shrinks A r h (ap not (ne_eqb _ _ ne))
    | no h ↦ absurd (ne (omega (arith, get_or-eq_default A 0 {n = r.target} (omega arith), and_le_l (get_or A r.target 0) (handed_on A r))))
  ])
]

-- one after the other
pub fell-on : (A B C : List ℕ) (r q : Bool) → Fell r A B → Fell q B C → Fell (q || r) A C
fell-on A B C r false p q = rw q p
fell-on A B C true true p q = omega arith
fell-on A B C false true p q = omega (arith, ap sum p)

abbrev Falls : List ℕ → List ℕ → Type 0
Falls A B = (r : Bool) × Fell r A B

-- ---- steps that change nothing or let the sum fall, one after the other
module _ (f : ℕ → List ℕ → List ℕ) (down : (k : ℕ) (A : List ℕ) → Falls A (f k A)) where
  from-falls : (n k : ℕ) (A : List ℕ) → Falls A (over_from f n k A)
  unfolding over_from
  from-falls zero k A = (false, refl)
  from-falls (suc n) k A =
      let d = down k A in
      let e = from-falls n (suc k) (f k A) in
      (e.0 || d.0, fell-on A (f k A) (over_from f n (suc k) (f k A)) d.0 e.0 d.1 e.1)

  from-still : (n k : ℕ) (A : List ℕ) → over_from f n k A ≡ A → (j : ℕ) → k ≤ j → j < k + n → f j A ≡ A
  unfolding over_from
  from-still zero k A e j p q = absurd (omega arith)
  from-still (suc n) k A e j p q = go (down k A) (from-falls n (suc k) (f k A)) (from-still n (suc k) A)
    where
      next : f k A ≡ A → (over_from f n (suc k) A ≡ A → (j : ℕ) → suc k ≤ j → j < suc k + n → f j A ≡ A) → f j A ≡ A
      next w ih = elim (ℕ_discrete j k) [ yes v ↦ ap (λ m. f m A) v ∙ w | no v ↦ ih (ap (over_from f n (suc k)) (sym w) ∙ e) j (omega arith) (omega arith) ]

      go : Falls A (f k A) → Falls (f k A) (over_from f n (suc k) (f k A)) → (over_from f n (suc k) A ≡ A → (j : ℕ) → suc k ≤ j → j < suc k + n
          → f j A ≡ A) → f j A ≡ A
      go (false, w) r ih = next w ih
      go (true, w) (false, r) ih = absurd (omega (arith, ap sum r, ap sum e))
      go (true, w) (true, r) ih = absurd (omega (arith, ap sum e))

  over-unchanged : (lo hi : ℕ) (A : List ℕ) → over f lo hi A ≡ A → (j : ℕ) → lo ≤ j → j < hi → f j A ≡ A
  unfolding over
  over-unchanged lo hi A e j p q = from-still (hi - lo) lo A e j p (omega arith)

-- ---- a pass
module _ (t : List ℕ) (im : Image t) (i : ℕ) (h : i < count_of t) where
  by_rows : ℕ → List ℕ → List ℕ
  by_rows k A = narrowed A (row_at (comp_of t i) k)

  pass-rows : (A : List ℕ) → pass t i A ≡ over by_rows 0 (length (comp_of t i).rows) A
  unfolding pass narrow_state by_rows
  pass-rows A = sym (over-rows t im i h (λ k r B. narrowed B r) A)

  abbrev w : WellComp (comp_of t i)
  w = well-comp t im i h

  pub pass-low : (A : List ℕ) → Low (comp_of t i) w A → Low (comp_of t i) w (pass t i A)
  unfolding by_rows
  pass-low A p = rw (pass-rows A) (over-keeps by_rows (Low (comp_of t i) w) 0 (length (comp_of t i).rows) A (λ k B u v q. low-narrowed (comp_of t i) w B k v q) p)

  pub pass-high : (A : List ℕ) → High (comp_of t i) w A → High (comp_of t i) w (pass t i A)
  unfolding by_rows
  pass-high A p =
      rw (pass-rows A) (over-keeps by_rows (High (comp_of t i) w) 0 (length (comp_of t i).rows) A (λ k B u v q. high-narrowed (comp_of t i) w B k v q)
      p)

  -- where a pass changes nothing the sets are the greatest
  pub unchanged-greatest : (A : List ℕ) → Low (comp_of t i) w A → High (comp_of t i) w A → A ≡ pass t i A → Greatest (comp_of t i) (λ s. get_or A s 0)
  unfolding by_rows
  unchanged-greatest A lo hi e = record {
    allows = record {
      within = lo.1;
      kept = λ k p. within-true (get_or A (row_at (comp_of t i) k).target 0) (handed_on A (row_at (comp_of t i) k)) (eq-eqb _ _ (kept k p));
    };
    above = hi.1;
  }
    where
      kept : (k : ℕ) → k < length (comp_of t i).rows → get_or A (row_at (comp_of t i) k).target 0 ∩ handed_on A (row_at (comp_of t i) k)
          ≡ get_or A (row_at (comp_of t i) k).target 0
      kept k p =
          let to = (row_at (comp_of t i) k).target in
          let room : to < length A = omega (arith, lo.0, (w.rows k p).target) in
          sym (get_or-set_same A to _ 0 room)
          ∙ ap (λ B. get_or B to 0) (over-unchanged by_rows (λ k B. (breaks B (row_at (comp_of t i) k), narrowed-fell B (row_at (comp_of t i) k))) 0
          (length (comp_of t i).rows) A (sym (pass-rows A) ∙ sym e) k (omega arith) p)

  -- the sets to begin with
  pub first-low : (A : List ℕ) → FirstSets (comp_of t i) A → Low (comp_of t i) w A
  first-low A f = (omega (arith, f.places, w.states), λ s p x k. rw (f.first s p) at k)

  pub first-high : (A : List ℕ) → FirstSets (comp_of t i) A → High (comp_of t i) w A
  first-high A f = (omega (arith, f.places, w.states), record { all = λ B al s p. rw (f.first s p) (al.within s p) })

-- what the solver's loop keeps
pub record Between (t : List ℕ) (i : ℕ) (A : List ℕ) : Type 0 where
  pub image : Image t
  pub inside : i < count_of t
  pub low : Low (comp_of t i) (well-comp t image i inside) A
  pub high : High (comp_of t i) (well-comp t image i inside) A
