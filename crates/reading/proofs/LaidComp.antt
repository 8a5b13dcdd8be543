-- Before any line no word is used; a `comp` line begins a block.
use mathlib.Core.Path.{◌≡◌, refl, sym, ◌∙◌, ap}
use mathlib.Core.List.{List, [], ◌∷◌}
use Prim.Native.Nat.{ℕ, zero, suc, ◌+◌, ◌-◌, ◌*◌, ◌≤◌, ◌<◌}
use native.Mathlib.Omega.{arith}
use native.Mathlib.Decide.{dec_lt}
use lib.ListN.{length, get_or, set, length-set}
use lib.Seq.{get_or-set_same, get_or-set_other}
use borrow.Author.Tests.{le-leb, lt-leb}
use Rattle.answer.specs.Limits.{max_components, max_states}
use Rattle.model.specs.Model.{Comp, row_count}
use Rattle.model.specs.Reading.{new_comp}
use Rattle.layout.specs.Layout.{head_words, block_words, row_words, rows_at, image_words, count_of, block_word}
use Rattle.layout.specs.Image.{leave_below, first_word, block_of}
use Rattle.reading.specs.Changes.{Filled, block_at}
use Rattle.reading.specs.Laid.{Parts, Laid}
use Rattle.reading.proofs.LaidWord.{parts-kept}
use Rattle.reading.proofs.LaidRow.{first-at}

pub laid_none : (t t' : List ℕ) → image_words ≤ length t → Filled t 0 image_words 0 t' → Laid t' []
unfolding count_of block_word row_count
laid_none t t' h u = record {
  long = omega (arith, u.long);
  count = u.inside 0 (omega arith) (omega arith);
  parts = tt;
  no_block = λ i k p q d. u.inside (block_at i k) (omega arith) (omega arith);
  no-row = λ r v p q d. u.inside (rows_at + row_words * r + v) (omega arith) (omega arith);
}

-- the head of a new block: states and start, and nothing else yet
new-head : (n states start k : ℕ) → 2 ≤ k → k < head_words → get_or (block_of n (new_comp states start)) k 0 ≡ 0
unfolding block_of
new-head n states start zero h l = absurd (omega arith)
new-head n states start (suc zero) h l = absurd (omega arith)
new-head n states start (suc (suc zero)) h l = refl
new-head n states start (suc (suc (suc zero))) h l = refl
new-head n states start (suc (suc (suc (suc zero)))) h l = refl
new-head n states start (suc (suc (suc (suc (suc zero))))) h l = refl
new-head n states start (suc (suc (suc (suc (suc (suc zero)))))) h l = refl
new-head n states start (suc (suc (suc (suc (suc (suc (suc zero))))))) h l = refl
new-head n states start (suc (suc (suc (suc (suc (suc (suc (suc k)))))))) h l = absurd (omega arith)

new-first : (n states start s : ℕ) → s ≤ states → first_word n (new_comp states start) s ≡ n
unfolding first_word leave_below
new-first n states start s h = rw (le-leb s states h) (omega arith)

no-first : (n states start s : ℕ) → states < s → first_word n (new_comp states start) s ≡ 0
unfolding first_word
no-first n states start s h = rw (lt-leb s states h)

module _
    (t t₁ : List ℕ)
    (m : List Comp)
    (states start : ℕ)
    (a : Laid t m)
    (u : Filled t (block_at (length m) head_words) (block_at (length m) (head_words + suc states)) (row_count m) t₁)
    (l : length m < max_components)
    (b : states ≤ max_states)
  where
    abbrev i : ℕ
    i = length m

    -- the count, states and start
    abbrev pub begun : List ℕ
    begun = set (set (set t₁ 0 (suc i)) (block_at i 0) states) (block_at i 1) start

    other : (j : ℕ) → (j ≡ 0 → ⊥) → (j ≡ block_at i 0 → ⊥) → (j ≡ block_at i 1 → ⊥) → get_or begun j 0 ≡ get_or t₁ j 0
    other j x y z =
        get_or-set_other (set (set t₁ 0 (suc i)) (block_at i 0) states) (block_at i 1) j start 0 z
        ∙ get_or-set_other (set t₁ 0 (suc i)) (block_at i 0) j states 0 y
        ∙ get_or-set_other t₁ 0 j (suc i) 0 x

    long : length begun ≡ length t
    long =
        length-set (set (set t₁ 0 (suc i)) (block_at i 0) states) (block_at i 1) start ∙ length-set (set t₁ 0 (suc i)) (block_at i 0) states
        ∙ length-set t₁ 0 (suc i) ∙ u.long

    first : (s : ℕ) → s ≤ max_states → get_or t₁ (block_at i (head_words + s)) 0 ≡ first_word (row_count m) (new_comp states start) s
    unfolding block_word
    first s h = elim (dec_lt states s) [
      | no p ↦ u.inside (block_at i (head_words + s)) (omega arith) (omega arith) ∙ sym (new-first (row_count m) states start s (omega arith))
      | yes p ↦ u.behind (block_at i (head_words + s)) (omega arith) ∙ a.no_block i (head_words + s) (omega arith) l (omega arith)
          ∙ sym (no-first (row_count m) states start s p)
    ]

    later : (k : ℕ) → 2 ≤ k → k < block_words → get_or begun (block_at i k) 0 ≡ get_or (block_of (row_count m) (new_comp states start)) k 0
    unfolding block_word
    later k h q = other (block_at i k) (λ e. omega arith) (λ e. omega arith) (λ e. omega arith) ∙ elim (dec_lt k head_words) [
      | yes p ↦ u.before (block_at i k) (omega arith) ∙ a.no_block i k (omega arith) l q ∙ sym (new-head (row_count m) states start k h p)
      | no p ↦
          let e : k ≡ head_words + (k - head_words) = omega arith in
          ap (λ j. get_or t₁ (block_at i j) 0) e ∙ first (k - head_words) (omega arith)
          ∙ sym (ap (λ j. get_or (block_of (row_count m) (new_comp states start)) j 0) e ∙ first-at (row_count m) (new_comp states start) (k - head_words)
          (omega arith))
    ]

    word : (k : ℕ) → k < block_words → get_or begun (block_at i k) 0 ≡ get_or (block_of (row_count m) (new_comp states start)) k 0
    unfolding block_of
    word zero q =
        get_or-set_other (set (set t₁ 0 (suc i)) (block_at i 0) states) (block_at i 1) (block_at i 0) start 0 (λ e. omega arith)
        ∙ get_or-set_same (set t₁ 0 (suc i)) (block_at i 0) states 0 (omega (arith, length-set t₁ 0 (suc i), u.long, a.long))
    word (suc zero) q =
        get_or-set_same (set (set t₁ 0 (suc i)) (block_at i 0) states) (block_at i 1) start 0
        (omega (arith, length-set (set t₁ 0 (suc i)) (block_at i 0) states, length-set t₁ 0 (suc i), u.long, a.long))
    word (suc (suc k)) q = later (suc (suc k)) (omega arith) q

    in_rows : (j : ℕ) → rows_at ≤ j → get_or begun j 0 ≡ get_or t j 0
    in_rows j h = other j (λ e. omega arith) (λ e. omega arith) (λ e. omega arith) ∙ u.behind j (omega arith)

    older : Parts begun m
    unfolding block_word
    older =
        parts-kept t begun m
        (λ j k h q. other (block_at j k) (λ e. omega arith) (λ e. omega arith) (λ e. omega arith) ∙ u.before (block_at j k) (omega arith))
        (λ r v h q. in_rows (rows_at + row_words * r + v) (omega arith))
        a.parts

    pub laid-comp : Laid begun (new_comp states start ∷ m)
    unfolding block_word row_count count_of
    laid-comp = record {
      long = omega (arith, long, a.long);
      count =
          get_or-set_other (set (set t₁ 0 (suc i)) (block_at i 0) states) (block_at i 1) 0 start 0 (λ e. omega arith)
          ∙ get_or-set_other (set t₁ 0 (suc i)) (block_at i 0) 0 states 0 (λ e. omega arith)
          ∙ get_or-set_same t₁ 0 (suc i) 0 (omega (arith, u.long, a.long));
      parts = (record { words = word }, record { words = λ k v h q. absurd (omega arith) }, older);
      no_block = λ j k h q d.
          other (block_at j k) (λ e. omega arith) (λ e. omega arith) (λ e. omega arith) ∙ u.behind (block_at j k) (omega arith)
          ∙ a.no_block j k (omega arith) q d;
      no-row = λ r v h q d. in_rows (rows_at + row_words * r + v) (omega arith) ∙ a.no-row r v (omega arith) q d;
    }
