-- A table whose words stand as the layout says, and whose model is well-formed, is the image of that model.
use mathlib.Core.Path.{◌≡◌, refl, sym, ◌∙◌, ap}
use mathlib.Core.List.{List}
use Prim.Native.Nat.{ℕ, zero, suc, ◌+◌, ◌-◌, ◌*◌, ◌≤◌, ◌<◌}
use native.Mathlib.Omega.{arith}
use native.Mathlib.Decide.{dec_le}
use lib.ListN.{length, get_or, take}
use lib.Seq.{take_all}
use borrow.Author.Tests.{le-leb, lt-leb}
use Rattle.laws.proofs.FoldLaws.{tab-at}
use Rattle.answer.specs.Limits.{max_states}
use Rattle.model.specs.Model.{row_at, row_count}
use Rattle.model.specs.WellFormed.{WellFormed}
use Rattle.layout.specs.Layout.{head_words, block_words, row_words, rows_at, count_of, block_word, first_of, action_at, guard_at, resets_at, target_at}
use Rattle.layout.specs.Image.{block_of, first_word, row_in, comp_of, model_of, Image}
use Rattle.layout.specs.Laid.{Laid}
use Rattle.layout.specs.Words.{words_of, row_word, Holds}
use Rattle.layout.proofs.ModelOf.{model-length, comp-at}
use Rattle.layout.proofs.ReadBack.{rows_next}
use Rattle.layout.proofs.FrontByWords.{holds-image}
use Rattle.layout.proofs.UpwardRanges.{rows-to, leave-below, row-of-range, range-of-row}

-- the words of a block, made from the component that they say
first-own : (t : List ℕ) (i s : ℕ) → Laid t → i < count_of t → s ≤ max_states → first_word (first_of t i 0) (comp_of t i) s ≡ first_of t i s
unfolding first_word comp_of
first-own t i s l h q = elim (dec_le s (block_word t i 0)) [
  | yes p ↦ rw (le-leb s (block_word t i 0) p) (leave-below t i (λ u. l.up i u h) s p)
  | no p ↦ let b : block_word t i 0 < s = omega arith in rw (lt-leb s (block_word t i 0) b) (sym (l.above i s h b q))
]

block-own : (t : List ℕ) (i k : ℕ) → Laid t → i < count_of t → k < block_words → get_or (block_of (first_of t i 0) (comp_of t i)) k 0 ≡ block_word t i k
unfolding block_of comp_of first_of
block-own t i zero l h q = refl
block-own t i (suc zero) l h q = refl
block-own t i (suc (suc zero)) l h q = refl
block-own t i (suc (suc (suc zero))) l h q = refl
block-own t i (suc (suc (suc (suc zero)))) l h q = refl
block-own t i (suc (suc (suc (suc (suc zero))))) l h q = refl
block-own t i (suc (suc (suc (suc (suc (suc zero)))))) l h q = refl
block-own t i (suc (suc (suc (suc (suc (suc (suc zero))))))) l h q = refl
block-own t i (suc (suc (suc (suc (suc (suc (suc (suc s)))))))) l h q =
    let e : head_words + s ≡ suc (suc (suc (suc (suc (suc (suc (suc s))))))) = omega arith in
    tab-at (first_word (first_of t i 0) (comp_of t i)) 0 0 (suc max_states) s (omega arith)
    ∙ ap (first_word (first_of t i 0) (comp_of t i)) (omega arith)
    ∙ first-own t i s l h (omega arith)
    ∙ ap (block_word t i) e

-- the words of a row
row-own : (t : List ℕ) (s r v : ℕ) → v < row_words → row_word t r v ≡ get_or (words_of (row_in t s r)) v 0
unfolding action_at guard_at resets_at target_at
row-own t s r zero h = let e : rows_at + row_words * r + 0 ≡ rows_at + row_words * r = omega arith in rw e
row-own t s r (suc zero) h = refl
row-own t s r (suc (suc zero)) h = refl
row-own t s r (suc (suc (suc zero))) h = refl
row-own t s r (suc (suc (suc (suc v)))) h = absurd (omega arith)

module _ (t : List ℕ) (l : Laid t) (some : 1 ≤ count_of t) where
  upward : (i : ℕ) → i < count_of t → (s : ℕ) → s < block_word t i 0 → first_of t i s ≤ first_of t i (suc s)
  upward i h s = l.up i s h

  inside : {i : ℕ} → i < length (model_of t) → i < count_of t
  inside h = omega (arith, model-length t)

  -- the rows before component i
  pub laid-start : (i : ℕ) → i < count_of t → row_count (take i (model_of t)) ≡ first_of t i 0
  unfolding row_count
  laid-start zero h = sym l.start
  laid-start (suc i) h =
      let p : i < count_of t = omega arith in
      omega (
        arith,
        rows_next (model_of t) i (omega (arith, model-length t)),
        laid-start i p,
        ap (λ c. length c.rows) (comp-at t i p),
        rows-to t i (upward i p),
        l.next i h,
      )

  -- and all of them
  pub laid_end : (i : ℕ) → suc i ≡ count_of t → row_count (model_of t) ≡ first_of t i (block_word t i 0)
  laid_end i e =
      let h : i < count_of t = omega arith in
      let f : take (suc i) (model_of t) ≡ model_of t = take_all (suc i) (model_of t) (omega (arith, model-length t)) in
      omega (
        arith,
        ap row_count f,
        rows_next (model_of t) i (omega (arith, model-length t)),
        laid-start i h,
        ap (λ c. length c.rows) (comp-at t i h),
        rows-to t i (upward i h),
      )

  -- row k of component i
  own_row : (i k v : ℕ) → i < count_of t → k < length (comp_of t i).rows → v < row_words → row_word t (first_of t i 0 + k) v
      ≡ get_or (words_of (row_at (comp_of t i) k)) v 0
  own_row i k v h p q =
      let x = range-of-row t i (upward i h) k p in
      let e : first_of t i 0 + k - first_of t i 0 ≡ k = omega arith in
      let f : row_at (comp_of t i) k ≡ row_in t x.0 (first_of t i 0 + k) = rw e at (row-of-range t i (upward i h) x.0 (first_of t i 0 + k) x.1
      x.2 x.3) in
      row-own t x.0 (first_of t i 0 + k) v q ∙ ap (λ r. get_or (words_of r) v 0) (sym f)

  -- it holds the words of its own model
  pub laid-holds : Holds (model_of t) t
  laid-holds = record {
    long = l.long;
    count = sym (model-length t);
    block = λ i k h q. let p = inside h in rw (laid-start i p, comp-at t i p) (sym (block-own t i k l p q));
    row = λ i k v h b q.
        let p = inside h in
        let e = comp-at t i p in
        ap (λ n. row_word t (n + k) v) (laid-start i p) ∙ own_row i k v p (rw (← e) b) q ∙ ap (λ c. get_or (words_of (row_at c k)) v 0) (sym e);
    no_block = λ i k p. l.blocks i k (omega (arith, model-length t));
    no-row = λ r v p. l.rows (count_of t - 1) r v (omega arith) (omega (arith, laid_end (count_of t - 1) (omega arith)));
  }

-- an image, by its words and its model
pub laid-image : (t : List ℕ) → Laid t → WellFormed (model_of t) → Image t
laid-image t l w = record { model = model_of t; well = w; front = holds-image (model_of t) t w (laid-holds t l (omega (arith, w.some, model-length t))) }
