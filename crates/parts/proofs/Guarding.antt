-- 10 over the rows of a component in the table.
use mathlib.Core.Path.{◌≡◌, sym, ◌∙◌, ap, ap₂}
use mathlib.Core.List.{List, [], ◌∷◌}
use mathlib.Core.Bool.{Bool}
use Prim.Native.Nat.{ℕ, ◌+◌, ◌-◌, ◌≤◌, ◌<◌}
use native.Mathlib.Omega.{arith}
use lib.ListN.{length}
use Rattle.laws.specs.Search.{seek, when, map_some}
use Rattle.laws.proofs.RangeLaws.{map-when, map-seek, seek-ext, seek-shift}
use Rattle.answer.specs.Told.{tell}
use Rattle.model.specs.Model.{row_at}
use Rattle.iosa.specs.Checks.{unclocked, bad_guard, check10}
use Rattle.layout.specs.Layout.{count_of, block_word, first_of, action_at, guard_at}
use Rattle.layout.specs.Image.{Image, comp_of}
use Rattle.layout.proofs.RowsOfRange.{well-comp, row-there, row_from, row-to, rows_end}
use Rattle.layout.proofs.ImageIsSane.{row-ranges}
use Rattle.layout.specs.Ranges.{RowRanges}
use Rattle.parts.specs.Faults.{bad_guard_by, fault10}

-- row r of the system breaks (a) or (b)
abbrev pub guard_fault : List ℕ → ℕ → ℕ → ℕ → Bool
guard_fault t calm outs r = bad_guard_by calm outs (action_at t r) (guard_at t r)

module _ (t : List ℕ) (im : Image t) (i : ℕ) (h : i < count_of t) where
  one : (k : ℕ) → k < length (comp_of t i).rows → bad_guard (comp_of t i) k ≡ guard_fault t (unclocked (comp_of t i)) (block_word t i 3) (first_of t i 0 + k)
  unfolding bad_guard bad_guard_by comp_of
  one k p =
      let e = row-there t im i h k p in
      ap₂ (λ a g. bad_guard_by (unclocked (comp_of t i)) (block_word t i 3) a g) (sym (ap (λ r. r.action) e)) (sym (ap (λ r. r.guard) e))

  pub guards-by-rows : seek (λ r. when (guard_fault t (unclocked (comp_of t i)) (block_word t i 3) r) (tell 10 (r ∷ []))) (first_of t i 0)
      (first_of t i (block_word t i 0)) ≡ fault10 (first_of t i 0) (comp_of t i)
  unfolding fault10 check10
  guards-by-rows =
      let n = length (comp_of t i).rows in
      let lo = first_of t i 0 in
      let z : lo + 0 ≡ lo = omega arith in
      ap₂ (λ a b. seek (λ r. when (guard_fault t (unclocked (comp_of t i)) (block_word t i 3) r) (tell 10 (r ∷ []))) a b) (sym z) (rows_end t im i h)
      ∙ seek-shift (λ r. when (guard_fault t (unclocked (comp_of t i)) (block_word t i 3) r) (tell 10 (r ∷ []))) lo 0 n
      ∙ seek-ext (λ k. when (guard_fault t (unclocked (comp_of t i)) (block_word t i 3) (lo + k)) (tell 10 ((lo + k) ∷ [])))
      (λ k. map_some (λ j. tell 10 ((lo + j) ∷ [])) (when (bad_guard (comp_of t i) k) k)) 0 n
      (λ k a b. ap (λ w. when w (tell 10 ((lo + k) ∷ []))) (sym (one k b)) ∙ sym (map-when (λ j. tell 10 ((lo + j) ∷ [])) (bad_guard (comp_of t i) k) k))
      ∙ sym (map-seek (λ j. tell 10 ((lo + j) ∷ [])) (λ k. when (bad_guard (comp_of t i) k) k) 0 n)

  -- a row of the component, whatever state it leaves
  pub any-row : (r : ℕ) → first_of t i 0 ≤ r → r < first_of t i (block_word t i 0) → RowRanges t i r
  unfolding comp_of
  any-row r p q =
      let k = r - first_of t i 0 in
      let inside : k < length (comp_of t i).rows = omega (arith, rows_end t im i h) in
      let e : first_of t i 0 + k ≡ r = omega arith in
      rw e at (row-ranges t im i (row_at (comp_of t i) k).from (first_of t i 0 + k) h ((well-comp t im i h).rows k inside).from
      (row_from t im i h k inside) (row-to t im i h k inside))
