-- A walk over all rows of a component is a walk over its states, and over the rows of each.
use mathlib.Core.Path.{◌≡◌, sym, ◌∙◌, ap}
use mathlib.Core.Option.{Option, none}
use mathlib.Core.List.{List}
use Prim.Native.Nat.{ℕ, suc, ◌+◌, ◌-◌, ◌<◌}
use native.Mathlib.Omega.{arith}
use lib.ListN.{length}
use Rattle.laws.specs.Search.{seek, or_else}
use Rattle.laws.specs.Fold.{over}
use Rattle.laws.proofs.RangeLaws.{over-ext, over-shift, over-nest, keep, over-seek, over-keep}
use Rattle.model.specs.Model.{Row, row_at}
use Rattle.layout.specs.Layout.{count_of, block_word, first_of}
use Rattle.layout.specs.Image.{row_in, comp_of, Image}
use Rattle.layout.proofs.RowsOfRange.{rows_end, first-up, range-row}

back : (lo k : ℕ) → lo + k - lo ≡ k
back lo k = omega arith

-- row k of the component is row first[0] + k of the system
module _ (t : List ℕ) (im : Image t) (i : ℕ) (h : i < count_of t) where
  pub over-rows : {A : Type 0} (g : ℕ → Row → A → A) (x : A)
      → over (λ k. g k (row_at (comp_of t i) k)) 0 (length (comp_of t i).rows) x
      ≡ over (λ s. over (λ r. g (r - first_of t i 0) (row_in t s r)) (first_of t i s) (first_of t i (suc s))) 0 (block_word t i 0) x
  over-rows g x =
      let lo = first_of t i 0 in
      let n = length (comp_of t i).rows in
      let e : lo + 0 ≡ lo = omega arith in
      over-ext (λ k. g k (row_at (comp_of t i) k)) (λ k. g (lo + k - lo) (row_at (comp_of t i) (lo + k - lo))) 0 n x (λ k y a b. rw (back lo k))
      ∙ sym (over-shift (λ r. g (r - lo) (row_at (comp_of t i) (r - lo))) lo 0 n x)
      ∙ rw (e, ← rows_end t im i h) (sym (over-nest (λ r. g (r - lo) (row_at (comp_of t i) (r - lo))) (first_of t i) (block_word t i 0) x
      (λ s b. first-up t im i h s (suc s) (omega arith) b)))
      ∙ over-ext
      (λ s. over (λ r. g (r - lo) (row_at (comp_of t i) (r - lo))) (first_of t i s) (first_of t i (suc s)))
      (λ s. over (λ r. g (r - lo) (row_in t s r)) (first_of t i s) (first_of t i (suc s))) 0 (block_word t i 0) x
      (λ s y a b. over-ext (λ r. g (r - lo) (row_at (comp_of t i) (r - lo))) (λ r. g (r - lo) (row_in t s r)) (first_of t i s) (first_of t i (suc s)) y
      (λ r z u v. ap (λ q. g (r - lo) q z) (sym (range-row t im i h s r b u v))))

  pub seek-rows : {A : Type 0} (f : ℕ → Row → Option A)
      → seek (λ k. f k (row_at (comp_of t i) k)) 0 (length (comp_of t i).rows)
      ≡ seek (λ s. seek (λ r. f (r - first_of t i 0) (row_in t s r)) (first_of t i s) (first_of t i (suc s))) 0 (block_word t i 0)
  seek-rows {A} f =
      let inner : ℕ → Option A = λ s. seek (λ r. f (r - first_of t i 0) (row_in t s r)) (first_of t i s) (first_of t i (suc s)) in
      sym (over-seek (λ k. f k (row_at (comp_of t i) k)) 0 (length (comp_of t i).rows))
      ∙ over-rows (λ k r o. or_else o (f k r)) none
      ∙ over-ext (λ s. over (keep (λ r. f (r - first_of t i 0) (row_in t s r))) (first_of t i s) (first_of t i (suc s))) (keep inner) 0 (block_word t i 0) none
      (λ s o a b. over-keep (λ r. f (r - first_of t i 0) (row_in t s r)) (first_of t i s) (first_of t i (suc s)) o)
      ∙ over-seek inner 0 (block_word t i 0)
