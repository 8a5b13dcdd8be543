-- What stands ready in an image: the bounds that reading a component's words and rows asks for.
use Prim.Native.Nat.{ℕ, suc, ◌+◌, ◌≤◌, ◌<◌}
use mathlib.Core.Path.{◌≡◌}
use mathlib.Core.List.{List}
use mathlib.Core.Option.{Option}
use native.Mathlib.Omega.{arith}
use native.Mathlib.Numerals.{add-one}
use lib.ListN.{length}
use Rattle.answer.specs.Limits.{max_components, max_states, max_rows}
use Rattle.layout.specs.Layout.{block_words, image_words, count_of, block_word, first_of}
use Rattle.layout.specs.Image.{Image}
use Rattle.laws.specs.Search.{seek}
use Rattle.laws.specs.Fold.{over}
use Rattle.rows.specs.Ranges.{LowActions}
use Rattle.layout.specs.Ranges.{RowRanges}
use Rattle.layout.proofs.ImageIsSane.{image-long, count-below, comp-ranges, row-ranges}

module _ (t : List ℕ) (im : Image t) (i : ℕ) (h : i < count_of t) where
  pub word-ready : (k : ℕ) → k < block_words → (image_words ≤ length t) × (i < max_components) × (k < block_words)
  word-ready k p = (image-long t im, omega (arith, count-below t im), p)

  pub states-ready : (s : ℕ) → s ≤ max_states → (image_words ≤ length t) × (i < max_components) × (s ≤ max_states)
  states-ready s p = (image-long t im, omega (arith, count-below t im), p)

  -- state s and its rows
  module _ (s : ℕ) (b : s < block_word t i 0) where
    pub first-ready : (image_words ≤ length t) × (i < max_components) × (s ≤ max_states)
    first-ready = (image-long t im, omega (arith, count-below t im), omega (arith, (comp-ranges t im i h).states))

    pub next-ready : (image_words ≤ length t) × (i < max_components) × (s + 1 ≤ max_states)
    next-ready = (image-long t im, omega (arith, count-below t im), omega (arith, (comp-ranges t im i h).states))

    module _ (lo hi : ℕ) (el : lo ≡ first_of t i s) (eh : hi ≡ first_of t i (s + 1)) where
      pub range-ready : (image_words ≤ length t) × (hi ≤ max_rows)
      range-ready = (image-long t im, rw eh ((comp-ranges t im i h).rows (s + 1) (omega arith)))

      pub row-ready : (k : ℕ) → lo ≤ k → k < hi → RowRanges t i k
      row-ready k p q = row-ranges t im i s k h b (rw el at p) (rw (eh, add-one) at q)

      pub range-actions : LowActions t lo hi
      range-actions = record { low = λ k p q. (row-ready k p q).action }

      -- a search over the range of s is one over lo .. hi
      pub range-seek : {A : Type 0} (f : ℕ → Option A) → seek f lo hi ≡ seek f (first_of t i s) (first_of t i (suc s))
      range-seek f = rw (el, eh, add-one)

      pub range-over : {A : Type 0} (f : ℕ → A → A) (x : A) → over f lo hi x ≡ over f (first_of t i s) (first_of t i (suc s)) x
      range-over f x = rw (el, eh, add-one)
