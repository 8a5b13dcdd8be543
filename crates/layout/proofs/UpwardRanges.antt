-- A component whose ranges go upward, first[s] to first[s + 1]: its rows by their places, of any table.
use mathlib.Core.Path.{◌≡◌, refl, ◌∙◌, ap}
use mathlib.Core.List.{List, [], ◌∷◌, ◌++◌}
use Prim.Native.Nat.{ℕ, zero, suc, ◌+◌, ◌-◌, ◌≤◌, ◌<◌}
use native.Mathlib.Omega.{arith}
use native.Mathlib.Decide.{ℕ_discrete, dec_lt}
use lib.ListN.{length, get_or, length-append, get_or-append}
use lib.Seq.{get_or-append-add}
use Rattle.laws.specs.Fold.{tab, spread}
use Rattle.laws.proofs.FoldLaws.{tab-length, tab-at}
use Rattle.model.specs.Model.{Row, no_row, row_at}
use Rattle.layout.specs.Layout.{block_word, first_of}
use Rattle.layout.specs.Image.{leave_below, row_in, rows_leaving, comp_of}
use Rattle.layout.proofs.RowsAscend.{none_below, all-below}

-- ---- parts of a list, one after the other, from p s up to p (s + n)
module _ (p : ℕ → ℕ) where
  abbrev pub Upward : ℕ → ℕ → Type 0
  Upward s n = (u : ℕ) → s ≤ u → u < s + n → p u ≤ p (suc u)

  pub upward : (n s : ℕ) → Upward s n → p s ≤ p (s + n)
  upward zero s up = let e : s + 0 ≡ s = omega arith in rw e (omega arith)
  upward (suc n) s up =
      let e : s + suc n ≡ suc s + n = omega arith in
      rw e (omega (arith, up s (omega arith) (omega arith), upward n (suc s) (λ u a b. up u (omega arith) (omega arith))))

  pub upward-to : (n s : ℕ) → Upward s n → (v u : ℕ) → s ≤ v → v ≤ u → u ≤ s + n → p v ≤ p u
  upward-to n s up v u a b c = let e : v + (u - v) ≡ u = omega arith in rw e at (upward (u - v) v (λ w x y. up w (omega arith) (omega arith)))

  -- a number from p s on, below p (s + n), lies in one part
  pub locate : (n s r : ℕ) → p s ≤ r → r < p (s + n) → (u : ℕ) × (s ≤ u) × (u < s + n) × (p u ≤ r) × (r < p (suc u))
  locate zero s r a b = absurd (let e : s + 0 ≡ s = omega arith in omega (arith, ap p e))
  locate (suc n) s r a b = go (dec_lt r (p (suc s))) (locate n (suc s) r)
    where
      go : Dec (r < p (suc s)) → (p (suc s) ≤ r → r < p (suc s + n) → (u : ℕ) × (suc s ≤ u) × (u < suc s + n) × (p u ≤ r) × (r < p (suc u)))
          → (u : ℕ) × (s ≤ u) × (u < s + suc n) × (p u ≤ r) × (r < p (suc u))
      go (yes c) ih = (s, omega arith, omega arith, a, c)
      go (no c) ih =
          let e : s + suc n ≡ suc s + n = omega arith in
          let x = ih (omega arith) (omega (arith, ap p e)) in
          (x.0, omega (arith, x.1), omega (arith, x.2), x.3, x.4)

module _ {A : Type 0} (g : ℕ → ℕ → A) (p : ℕ → ℕ) where
  abbrev part : ℕ → List A
  part s = tab (g s) (p s) (p (suc s) - p s)

  parts-length : (n s : ℕ) → Upward p s n → p s + length (spread part s n) ≡ p (s + n)
  parts-length zero s up = let e : s + 0 ≡ s = omega arith in rw e (omega arith)
  parts-length (suc n) s up =
      let e : s + suc n ≡ suc s + n = omega arith in
      rw e (omega (
        arith,
        length-append (part s) (spread part (suc s) n),
        tab-length (g s) (p s) (p (suc s) - p s),
        up s (omega arith) (omega arith),
        parts-length n (suc s) (λ u a b. up u (omega arith) (omega arith)),
      ))

  parts_at : (d : A) (n s u r : ℕ) → Upward p s n → s ≤ u → u < s + n → p u ≤ r → r < p (suc u) → get_or (spread part s n) (r - p s) d ≡ g u r
  parts_at d zero s u r up a b c e = absurd (omega arith)
  parts_at d (suc n) s u r up a b c e = go (ℕ_discrete s u) (parts_at d n (suc s) u r (λ v x y. up v (omega arith) (omega arith)))
    where
      l : length (part s) ≡ p (suc s) - p s
      l = tab-length (g s) (p s) (p (suc s) - p s)

      go : Dec (s ≡ u) → (suc s ≤ u → u < suc s + n → p u ≤ r → r < p (suc u) → get_or (spread part (suc s) n) (r - p (suc s)) d ≡ g u r)
          → get_or (spread part s (suc n)) (r - p s) d ≡ g u r
      go (yes w) ih =
          let c' : p s ≤ r = rw w c in
          let e' : r < p (suc s) = rw w e in
          let i : p s + (r - p s) ≡ r = omega arith in
          get_or-append (part s) (spread part (suc s) n) d (r - p s) (omega (arith, l))
          ∙ tab-at (g s) d (p s) (p (suc s) - p s) (r - p s) (omega arith)
          ∙ rw (i, w)
      go (no w) ih =
          let q : p (suc s) ≤ p u = upward-to p (suc n) s up (suc s) u (omega arith) (omega arith) (omega arith) in
          let f : r - p s ≡ length (part s) + (r - p (suc s)) = omega (arith, l, up s (omega arith) (omega arith)) in
          rw f (get_or-append-add (part s) (spread part (suc s) n) (r - p (suc s)) d ∙ ih (omega arith) (omega arith) c e)

-- ---- a component's rows
below-append : (xs ys : List Row) (s : ℕ) → leave_below (xs ++ ys) s ≡ leave_below xs s + leave_below ys s
unfolding leave_below
below-append [] ys s = omega arith
below-append (r ∷ rs) ys s = omega (arith, below-append rs ys s)

module _ (t : List ℕ) (i : ℕ) where
  -- the rows that leave u: all of them below s, or none
  part-below : (u s : ℕ) → u < s → leave_below (rows_leaving t i u) s ≡ first_of t i (suc u) - first_of t i u
  unfolding rows_leaving
  part-below u s h =
      let l = tab-length (row_in t u) (first_of t i u) (first_of t i (suc u) - first_of t i u) in
      all-below (rows_leaving t i u) s (λ k p. rw (tab-at (row_in t u) no_row (first_of t i u) (first_of t i (suc u) - first_of t i u) k (omega arith)) h) ∙ l

  part-above : (u s : ℕ) → s ≤ u → leave_below (rows_leaving t i u) s ≡ 0
  unfolding rows_leaving
  part-above u s h =
      let l = tab-length (row_in t u) (first_of t i u) (first_of t i (suc u) - first_of t i u) in
      none_below (rows_leaving t i u) s (λ k p. rw (tab-at (row_in t u) no_row (first_of t i u) (first_of t i (suc u) - first_of t i u) k (omega arith)) h)

  parts-above : (n u s : ℕ) → s ≤ u → leave_below (spread (rows_leaving t i) u n) s ≡ 0
  unfolding leave_below
  parts-above zero u s h = refl
  parts-above (suc n) u s h =
      omega (arith, below-append (rows_leaving t i u) (spread (rows_leaving t i) (suc u) n) s, part-above u s h, parts-above n (suc u) s (omega arith))

  parts_below : (n u s : ℕ) → Upward (first_of t i) u n → u ≤ s → s ≤ u + n → first_of t i u + leave_below (spread (rows_leaving t i) u n) s ≡ first_of t i s
  unfolding leave_below
  parts_below zero u s up a b = let e : u ≡ s = omega arith in rw e (omega arith)
  parts_below (suc n) u s up a b = go (ℕ_discrete u s) (parts_below n (suc u) s (λ v x y. up v (omega arith) (omega arith)))
    where
      whole : leave_below (spread (rows_leaving t i) u (suc n)) s ≡ leave_below (rows_leaving t i u) s + leave_below (spread (rows_leaving t i) (suc u) n) s
      whole = below-append (rows_leaving t i u) (spread (rows_leaving t i) (suc u) n) s

      go : Dec (u ≡ s) → (suc u ≤ s → s ≤ suc u + n → first_of t i (suc u) + leave_below (spread (rows_leaving t i) (suc u) n) s ≡ first_of t i s)
          → first_of t i u + leave_below (spread (rows_leaving t i) u (suc n)) s ≡ first_of t i s
      go (yes e) ih = omega (arith, ap (first_of t i) e, parts-above (suc n) u s (omega arith))
      go (no e) ih = omega (arith, whole, part-below u s (omega arith), up u (omega arith) (omega arith), ih (omega arith) (omega arith))

  -- first goes upward to states
  module _ (up : (s : ℕ) → s < block_word t i 0 → first_of t i s ≤ first_of t i (suc s)) where
    all_up : Upward (first_of t i) 0 (block_word t i 0)
    all_up u a b = up u (omega arith)

    pub firsts-up : (s u : ℕ) → s ≤ u → u ≤ block_word t i 0 → first_of t i s ≤ first_of t i u
    firsts-up s u a b = upward-to (first_of t i) (block_word t i 0) 0 all_up s u (omega arith) a (omega arith)

    pub rows-to : first_of t i 0 + length (comp_of t i).rows ≡ first_of t i (block_word t i 0)
    unfolding comp_of rows_leaving
    rows-to = let e : 0 + block_word t i 0 ≡ block_word t i 0 = omega arith in rw e at (parts-length (row_in t) (first_of t i) (block_word t i 0) 0 all_up)

    pub leave-below : (s : ℕ) → s ≤ block_word t i 0 → first_of t i 0 + leave_below (comp_of t i).rows s ≡ first_of t i s
    unfolding comp_of
    leave-below s h = parts_below (block_word t i 0) 0 s all_up (omega arith) (omega arith)

    -- row r of the table, in the range of s
    pub row-of-range : (s r : ℕ) → s < block_word t i 0 → first_of t i s ≤ r → r < first_of t i (suc s) → row_at (comp_of t i) (r - first_of t i 0) ≡ row_in t s r
    unfolding comp_of rows_leaving
    row-of-range s r h a b = parts_at (row_in t) (first_of t i) no_row (block_word t i 0) 0 s r all_up (omega arith) (omega arith) a b

    -- row k of the component lies in the range of some state
    pub range-of-row : (k : ℕ) → k < length (comp_of t i).rows → (s : ℕ) × (s < block_word t i 0) × (first_of t i s ≤ first_of t i 0 + k)
        × (first_of t i 0 + k < first_of t i (suc s))
    range-of-row k h =
        let e : 0 + block_word t i 0 ≡ block_word t i 0 = omega arith in
        let x = locate (first_of t i) (block_word t i 0) 0 (first_of t i 0 + k) (omega arith) (rw e (omega (arith, rows-to))) in
        (x.0, omega (arith, x.2), x.3, x.4)
