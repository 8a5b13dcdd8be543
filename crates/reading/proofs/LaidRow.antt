-- A `row` line: its four words behind the rows so far, and one more in every first[s] above the state it leaves.
use mathlib.Core.Path.{◌≡◌, refl, sym, ◌∙◌, ap}
use mathlib.Core.Bool.{cond}
use mathlib.Core.List.{List, [], ◌∷◌, ◌++◌}
use Prim.Native.Nat.{ℕ, zero, suc, ◌+◌, ◌-◌, ◌*◌, ◌≤◌, ◌<◌}
use native.Mathlib.Omega.{arith}
use native.Mathlib.Decide.{dec_lt}
use lib.ListN.{length, get_or, length-append, get_or-append}
use lib.Seq.{sets, length-sets, get_or-append_seam}
use lib.Dec.{ltb, leb}
use borrow.Author.Tests.{lt-ltb, le-ltb, le-leb, lt-leb}
use Rattle.laws.proofs.FoldLaws.{tab-at}
use Rattle.answer.specs.Limits.{max_components, max_rows, max_states}
use Rattle.model.specs.Model.{Row, Comp, no_row, row_count}
use Rattle.model.specs.Reading.{with_row}
use Rattle.layout.specs.Layout.{head_words, row_words, rows_at, count_of, block_word}
use Rattle.layout.specs.Image.{leave_below, first_word, block_of}
use Rattle.layout.specs.Words.{words_of}
use Rattle.reading.specs.Changes.{Raised, block_at}
use Rattle.reading.specs.Laid.{BlockIs, RowsAre, Parts, Laid}
use Rattle.reading.proofs.SetsLaws.{sets-before, sets_behind, sets-inside}
use Rattle.reading.proofs.LaidWord.{parts-kept}

leave-more : (rs : List Row) (r : Row) (s : ℕ) → leave_below (rs ++ r ∷ []) s ≡ leave_below rs s + cond (ltb r.from s) 1 0
unfolding leave_below
leave-more [] r s = omega arith
leave-more (q ∷ rs) r s = omega (arith, leave-more rs r s)

module _ (n : ℕ) (c : Comp) where
  pub first-at : (s : ℕ) → s ≤ max_states → get_or (block_of n c) (head_words + s) 0 ≡ first_word n c s
  unfolding block_of
  first-at s h =
      let e : head_words + s ≡ suc (suc (suc (suc (suc (suc (suc (suc s))))))) = omega arith in
      let z : 0 + s ≡ s = omega arith in
      ap (λ k. get_or (block_of n c) k 0) e ∙ tab-at (first_word n c) 0 0 (suc max_states) s (omega arith) ∙ ap (first_word n c) z

  module _ (r : Row) where
    head-same : (k : ℕ) → k < head_words → get_or (block_of n (with_row c r)) k 0 ≡ get_or (block_of n c) k 0
    unfolding block_of
    head-same zero h = refl
    head-same (suc zero) h = refl
    head-same (suc (suc zero)) h = refl
    head-same (suc (suc (suc zero))) h = refl
    head-same (suc (suc (suc (suc zero)))) h = refl
    head-same (suc (suc (suc (suc (suc zero))))) h = refl
    head-same (suc (suc (suc (suc (suc (suc zero)))))) h = refl
    head-same (suc (suc (suc (suc (suc (suc (suc zero))))))) h = refl
    head-same (suc (suc (suc (suc (suc (suc (suc (suc k)))))))) h = absurd (omega arith)

    -- first[s] up to the row's state, then up to states, then above
    below-from : (s : ℕ) → s ≤ r.from → first_word n (with_row c r) s ≡ first_word n c s
    unfolding first_word
    below-from s h =
        let e : leave_below (c.rows ++ r ∷ []) s ≡ leave_below c.rows s = leave-more c.rows r s ∙ rw (le-ltb r.from s h) (omega arith) in
        ap (λ x. cond (leb s c.states) (n + x) 0) e

    above_from : (s : ℕ) → r.from < s → s ≤ c.states → first_word n (with_row c r) s ≡ first_word n c s + 1
    unfolding first_word
    above_from s h l =
        let e : leave_below (c.rows ++ r ∷ []) s ≡ leave_below c.rows s + 1 = leave-more c.rows r s ∙ rw (lt-ltb r.from s h) in
        rw (le-leb s c.states l) (omega (arith, e))

    above-states : (s : ℕ) → c.states < s → first_word n (with_row c r) s ≡ first_word n c s
    unfolding first_word
    above-states s h = rw (lt-leb s c.states h)

module _
    (t t₁ : List ℕ)
    (c : Comp)
    (cs : List Comp)
    (r : Row)
    (a : Laid t (c ∷ cs))
    (u : Raised t (block_at (length cs) (head_words + suc r.from)) (block_at (length cs) (head_words + suc c.states)) t₁)
    (l : length cs < max_components)
    (f : r.from < c.states)
    (b : c.states ≤ max_states)
    (room : row_count (c ∷ cs) < max_rows)
  where
    abbrev i : ℕ
    i = length cs

    abbrev at : ℕ
    at = rows_at + row_words * row_count (c ∷ cs)

    abbrev t' : List ℕ
    t' = sets t₁ at (words_of r)

    in_block : (j : ℕ) → j < rows_at → get_or t' j 0 ≡ get_or t₁ j 0
    in_block j h = sets-before t₁ at (words_of r) j (omega arith)

    in_rows : (j : ℕ) → rows_at ≤ j → get_or t₁ j 0 ≡ get_or t j 0
    in_rows j h = u.behind j (omega arith)

    block-word : (s : ℕ) → s ≤ max_states → get_or t₁ (block_at i (head_words + s)) 0 ≡ first_word (row_count cs) (with_row c r) s
    unfolding block_word
    block-word s h =
        let old : get_or t (block_at i (head_words + s)) 0 ≡ first_word (row_count cs) c s = a.parts.0.words (head_words + s) (omega arith)
        ∙ first-at (row_count cs) c s h in
        go old (dec_lt r.from s) (dec_lt c.states s)
      where
        go : get_or t (block_at i (head_words + s)) 0 ≡ first_word (row_count cs) c s → Dec (r.from < s) → Dec (c.states < s)
            → get_or t₁ (block_at i (head_words + s)) 0 ≡ first_word (row_count cs) (with_row c r) s
        go old (no p) q = u.before (block_at i (head_words + s)) (omega arith) ∙ old ∙ sym (below-from (row_count cs) c r s (omega arith))
        go old (yes p) (no q) =
            u.inside (block_at i (head_words + s)) (omega arith) (omega arith) ∙ ap (λ x. x + 1) old ∙ sym (above_from (row_count cs) c r s p (omega arith))
        go old (yes p) (yes q) = u.behind (block_at i (head_words + s)) (omega arith) ∙ old ∙ sym (above-states (row_count cs) c r s q)

    own_block : BlockIs t' i (row_count cs) (with_row c r)
    unfolding block_word
    own_block = record {
      words = λ k q. elim (dec_lt k head_words) [
        | yes p ↦ in_block (block_at i k) (omega arith) ∙ u.before (block_at i k) (omega arith) ∙ a.parts.0.words k q ∙ sym (head-same (row_count cs) c r k p)
        | no p ↦
            let e : k ≡ head_words + (k - head_words) = omega arith in
            in_block (block_at i k) (omega arith) ∙ ap (λ j. get_or t₁ (block_at i j) 0) e ∙ block-word (k - head_words) (omega arith)
            ∙ sym (ap (λ j. get_or (block_of (row_count cs) (with_row c r)) j 0) e ∙ first-at (row_count cs) (with_row c r) (k - head_words) (omega arith))
      ];
    }

    own-rows : RowsAre t' (row_count cs) (with_row c r).rows
    unfolding row_count
    own-rows = record {
      words = λ k v h q. elim (dec_lt k (length c.rows)) [
        | yes p ↦
            sets-before t₁ at (words_of r) (rows_at + row_words * (row_count cs + k) + v) (omega arith)
            ∙ in_rows (rows_at + row_words * (row_count cs + k) + v) (omega arith)
            ∙ a.parts.1.words k v p q
            ∙ sym (ap (λ x. get_or (words_of x) v 0) (get_or-append c.rows (r ∷ []) no_row k p))
        | no p ↦
            let e : k ≡ length c.rows = omega (arith, length-append c.rows (r ∷ [])) in
            let z : rows_at + row_words * (row_count cs + k) + v ≡ at + v = omega arith in
            ap (λ j. get_or t' j 0) z
            ∙ sets-inside t₁ at (words_of r) v q (omega (arith, a.long, u.long))
            ∙ sym (ap (λ j. get_or (words_of (get_or (c.rows ++ r ∷ []) j no_row)) v 0) e ∙ ap (λ x. get_or (words_of x) v 0) (get_or-append_seam c.rows r [] no_row))
      ];
    }

    older : Parts t' cs
    unfolding block_word row_count
    older =
        parts-kept t t' cs (λ j k h q. in_block (block_at j k) (omega arith) ∙ u.before (block_at j k) (omega arith))
        (λ x v h q. sets-before t₁ at (words_of r) (rows_at + row_words * x + v) (omega arith) ∙ in_rows (rows_at + row_words * x + v) (omega arith))
        a.parts.2

    pub laid-row : Laid t' (with_row c r ∷ cs)
    unfolding block_word row_count count_of
    laid-row = record {
      long = omega (arith, length-sets t₁ at (words_of r), u.long, a.long);
      count = in_block 0 (omega arith) ∙ u.before 0 (omega arith) ∙ a.count;
      parts = (own_block, own-rows, older);
      no_block = λ j k h q d. in_block (block_at j k) (omega arith) ∙ u.behind (block_at j k) (omega arith) ∙ a.no_block j k h q d;
      no-row = λ x v h q d.
          sets_behind t₁ at (words_of r) (rows_at + row_words * x + v) (omega (arith, length-append c.rows (r ∷ [])))
          ∙ in_rows (rows_at + row_words * x + v) (omega arith)
          ∙ a.no-row x v (omega (arith, length-append c.rows (r ∷ []))) q d;
    }
