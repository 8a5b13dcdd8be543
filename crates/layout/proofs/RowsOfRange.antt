-- An image's rows by their places: row k of a component is row first[0] + k of the table, and leaves the state in whose range that lies.
use mathlib.Core.Path.{◌≡◌, refl, sym, ◌∙◌, ap}
use mathlib.Core.List.{List}
use Prim.Native.Nat.{ℕ, suc, ◌+◌, ◌-◌, ◌≤◌, ◌<◌}
use native.Mathlib.Omega.{arith}
use native.Mathlib.Decide.{dec_lt}
use lib.ListN.{length, take}
use Rattle.answer.specs.Limits.{max_rows, max_states}
use Rattle.model.specs.Model.{row_at, comp_at, row_count}
use Rattle.model.specs.WellFormed.{WellRow, WellComp, WellFormed}
use Rattle.layout.specs.Layout.{image_words, count_of, block_word, first_of}
use Rattle.layout.specs.Image.{leave_below, image_of, row_in, comp_of, model_of, Image}
use Rattle.layout.proofs.ModelOf.{model-length, comp-at}
use Rattle.layout.proofs.ReadBack.{rows_before, rows_next, first-is, first_above}
use Rattle.layout.proofs.RowsAscend.{froms-ascend, none_below, all-below, below_up, below-leaves, leaves-below}
use Rattle.layout.proofs.ModelOfImage.{model_of_lem, row_is, leaves-own}

-- an image's own model
module _ (t : List ℕ) (im : Image t) where
  pub well-formed : WellFormed (model_of t)
  well-formed = rw (model_of_lem t im) im.well

  pub image-front : take image_words t ≡ image_of (model_of t)
  image-front = im.front ∙ ap image_of (sym (model_of_lem t im))

  pub count-some : 1 ≤ count_of t
  count-some = omega (arith, model-length t, well-formed.some)

  module _ (i : ℕ) (h : i < count_of t) where
    inside : i < length (model_of t)
    inside = omega (arith, model-length t)

    pub well-comp : WellComp (comp_of t i)
    well-comp = rw (← comp-at t i h) (well-formed.each i inside)

    -- the rows of the components before stand before first[0]
    first_below : (s : ℕ) → s ≤ block_word t i 0 → first_of t i s ≡ row_count (take i (model_of t)) + leave_below (comp_of t i).rows s
    unfolding comp_of
    first_below s p =
        first-is (model_of t) t well-formed image-front i s inside (rw (comp-at t i h) p)
        ∙ ap (λ c. row_count (take i (model_of t)) + leave_below c.rows s) (comp-at t i h)

    pub first-over : (s : ℕ) → block_word t i 0 < s → s ≤ max_states → first_of t i s ≡ 0
    unfolding comp_of
    first-over s p q = first_above (model_of t) t well-formed image-front i s inside (rw (comp-at t i h) p) q

    pub first-start : first_of t i 0 ≡ row_count (take i (model_of t))
    first-start = first_below 0 (omega arith) ∙ omega (arith, none_below (comp_of t i).rows 0 (λ k p. omega arith))

    first-from : (s : ℕ) → s ≤ block_word t i 0 → first_of t i s ≡ first_of t i 0 + leave_below (comp_of t i).rows s
    first-from s p = omega (arith, first_below s p, first-start)

    -- first[states] is the end of the component's rows
    pub rows_end : first_of t i (block_word t i 0) ≡ first_of t i 0 + length (comp_of t i).rows
    unfolding comp_of
    rows_end =
        omega (arith, first-from (block_word t i 0) (omega arith), all-below (comp_of t i).rows (block_word t i 0) (λ k p. (well-comp.rows k p).from))

    pub first-up : (s u : ℕ) → s ≤ u → u ≤ block_word t i 0 → first_of t i s ≤ first_of t i u
    first-up s u p q = omega (arith, first-from s (omega arith), first-from u q, below_up (comp_of t i).rows s u p)

    pub rows_fit : first_of t i 0 + length (comp_of t i).rows ≤ max_rows
    rows_fit = omega (arith, first-start, ap (λ c. length c.rows) (comp-at t i h), rows_before (model_of t) i inside, well-formed.rows)

    -- ---- row k of the component
    pub row-there : (k : ℕ) → k < length (comp_of t i).rows → row_in t (row_at (comp_of t i) k).from (first_of t i 0 + k) ≡ row_at (comp_of t i) k
    row-there k p =
        let e = comp-at t i h in
        rw first-start (rw (← e) (row_is (model_of t) t well-formed image-front i inside (row_at (comp_at (model_of t) i) k).from k (rw e p) refl))

    -- it lies in the range of the state it leaves
    pub row_from : (k : ℕ) → k < length (comp_of t i).rows → first_of t i (row_at (comp_of t i) k).from ≤ first_of t i 0 + k
    unfolding comp_of
    row_from k p =
        let s = (row_at (comp_of t i) k).from in
        let b : s < block_word t i 0 = (well-comp.rows k p).from in
        elim (dec_lt k (leave_below (comp_of t i).rows s)) [
          | yes q ↦ absurd (omega (arith, below-leaves (comp_of t i).rows s (froms-ascend (comp_of t i) well-comp) k q))
          | no q ↦ omega (arith, first-from s (omega arith))
        ]

    pub row-to : (k : ℕ) → k < length (comp_of t i).rows → first_of t i 0 + k < first_of t i (suc (row_at (comp_of t i) k).from)
    unfolding comp_of
    row-to k p =
        let s = (row_at (comp_of t i) k).from in
        let b : s < block_word t i 0 = (well-comp.rows k p).from in
        omega (arith, first-from (suc s) b, leaves-below (comp_of t i).rows (suc s) (froms-ascend (comp_of t i) well-comp) k p (omega arith))

    -- ---- row r of the table, in the range of s
    module _ (s r : ℕ) (below : s < block_word t i 0) (from : first_of t i s ≤ r) (to : r < first_of t i (suc s)) where
      pub range-from : first_of t i 0 ≤ r
      range-from = omega (arith, first-up 0 s (omega arith) (omega arith))

      pub range-to : r - first_of t i 0 < length (comp_of t i).rows
      range-to = omega (arith, range-from, rows_end, first-up (suc s) (block_word t i 0) below (omega arith))

      range-leaves : (row_at (comp_of t i) (r - first_of t i 0)).from ≡ s
      range-leaves =
          let e = comp-at t i h in
          rw (← e) (leaves-own (model_of t) t well-formed image-front i inside s (r - first_of t i 0)
          (rw e (omega (arith, first-from s (omega arith))))
          (rw e (omega (arith, first-from (suc s) below, range-from))))

      pub range-row : row_in t s r ≡ row_at (comp_of t i) (r - first_of t i 0)
      range-row =
          let e : first_of t i 0 + (r - first_of t i 0) ≡ r = omega (arith, range-from) in
          let f : row_in t s (first_of t i 0 + (r - first_of t i 0)) ≡ row_at (comp_of t i) (r - first_of t i 0) = rw range-leaves at
          (row-there (r - first_of t i 0) range-to) in
          ap (row_in t s) (sym e) ∙ f

      pub well-row : WellRow (comp_of t i) (row_in t s r)
      well-row = rw range-row (well-comp.rows (r - first_of t i 0) range-to)

  -- the rows of the system: component 0 begins at row 0, and each later one where the one before ends
  pub first-zero : first_of t 0 0 ≡ 0
  unfolding row_count
  first-zero = first-start 0 count-some

  pub first_next : (i : ℕ) → suc i < count_of t → first_of t (suc i) 0 ≡ first_of t i (block_word t i 0)
  first_next i h =
      let p : i < count_of t = omega arith in
      omega (arith, first-start (suc i) h, first-start i p, rows_end i p, rows_next (model_of t) i (inside i p), ap (λ c. length c.rows) (comp-at t i p))
