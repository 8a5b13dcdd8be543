-- One word of the last component's block is changed: what an `act` line does, and twice what a `clk` line does.
use mathlib.Core.Path.{◌≡◌, refl, sym, ◌∙◌, ap}
use mathlib.Core.List.{List, [], ◌∷◌}
use Prim.Native.Nat.{ℕ, ◌+◌, ◌*◌, ◌<◌}
use native.Mathlib.Omega.{arith}
use lib.ListN.{length, get_or, set, length-set}
use lib.Seq.{get_or-set_same, get_or-set_other}
use Rattle.laws.specs.Sets.{◌∪◌, only}
use Rattle.laws.proofs.TestLaws.{apart-cases}
use Rattle.answer.specs.Limits.{max_components}
use Rattle.model.specs.Model.{Comp, row_count}
use Rattle.model.specs.Text.{Kind, in-kind, out-kind, uin-kind, uout-kind}
use Rattle.model.specs.Reading.{with_act, with_clk}
use Rattle.layout.specs.Layout.{head_words, block_words, row_words, rows_at, count_of, block_word}
use Rattle.layout.specs.Image.{first_word, block_of}
use Rattle.layout.specs.Words.{row_word}
use Rattle.reading.specs.Changes.{block_at}
use Rattle.reading.specs.Laid.{BlockIs, Parts, Laid}

-- a table that agrees on the blocks and rows of the components keeps them
pub parts-kept : (t t' : List ℕ) (m : List Comp) → ((i k : ℕ) → i < length m → k < block_words → block_word t' i k ≡ block_word t i k)
    → ((r v : ℕ) → r < row_count m → v < row_words → row_word t' r v ≡ row_word t r v) → Parts t m → Parts t' m
unfolding row_count
parts-kept t t' [] f g p = tt
parts-kept t t' (c ∷ cs) f g p = (
  record { words = λ k q. f (length cs) k (omega arith) q ∙ p.0.words k q },
  record { words = λ k v h q. g (row_count cs + k) v (omega arith) q ∙ p.1.words k v h q },
  parts-kept t t' cs (λ i k h. f i k (omega arith)) (λ r v h. g r v (omega arith)) p.2,
)

module _ (t : List ℕ) (i w v : ℕ) where
  other_block : (j k : ℕ) → (j ≡ i → ⊥) → k < block_words → w < block_words → block_word (set t (block_at i w) v) j k ≡ block_word t j k
  unfolding block_word
  other_block j k n h l = get_or-set_other t (block_at i w) (1 + block_words * j + k) v 0 (λ e. n (omega arith))

  other_row : (r u : ℕ) → i < max_components → w < block_words → row_word (set t (block_at i w) v) r u ≡ row_word t r u
  other_row r u h l = get_or-set_other t (block_at i w) (rows_at + row_words * r + u) v 0 (λ e. omega arith)

  own-word : (n : ℕ) (c c' : Comp) → BlockIs t i n c → block_of n c' ≡ set (block_of n c) w v → w < head_words → block_at i w < length t
      → BlockIs (set t (block_at i w) v) i n c'
  unfolding block_word block_of
  own-word n c c' b e h l = record {
    words = λ k q. apart-cases k w
        (λ s. ap (λ j. get_or (set t (block_at i w) v) (block_at i j) 0) s ∙ get_or-set_same t (block_at i w) v 0 l
        ∙ sym (ap (λ bs. get_or bs k 0) e ∙ ap (λ j. get_or (set (block_of n c) w v) j 0) s ∙ get_or-set_same (block_of n c) w v 0 (omega arith)))
        (λ s. get_or-set_other t (block_at i w) (block_at i k) v 0 (λ z. omega arith) ∙ b.words k q
        ∙ sym (ap (λ bs. get_or bs k 0) e ∙ get_or-set_other (block_of n c) w k v 0 (λ z. omega arith)))
        (λ s. get_or-set_other t (block_at i w) (block_at i k) v 0 (λ z. omega arith) ∙ b.words k q
        ∙ sym (ap (λ bs. get_or bs k 0) e ∙ get_or-set_other (block_of n c) w k v 0 (λ z. omega arith)));
  }

-- a word of the last block's head
pub laid_word : (t : List ℕ) (c c' : Comp) (cs : List Comp) (w v : ℕ) → Laid t (c ∷ cs) → block_of (row_count cs) c' ≡ set (block_of (row_count cs) c) w v
    → c'.rows ≡ c.rows
    → w < head_words → length cs < max_components → Laid (set t (block_at (length cs) w) v) (c' ∷ cs)
unfolding row_count count_of
laid_word t c c' cs w v a e s h l =
    let i = length cs in
    let t' = set t (block_at i w) v in
    let y : length c'.rows ≡ length c.rows = ap length s in
    record {
      long = omega (arith, length-set t (block_at i w) v, a.long);
      count = get_or-set_other t (block_at i w) 0 v 0 (λ z. omega arith) ∙ a.count;
      parts = (
        own-word t i w v (row_count cs) c c' a.parts.0 e h (omega (arith, a.long)),
        record {
          words =
              λ k u p q. other_row t i w v (row_count cs + k) u l (omega arith) ∙ a.parts.1.words k u (omega arith) q
              ∙ ap (λ rs. get_or (Rattle.layout.specs.Words.words_of (get_or rs k Rattle.model.specs.Model.no_row)) u 0) (sym s);
        },
        parts-kept t t' cs (λ j k p q. other_block t i w v j k (λ z. omega arith) q (omega arith)) (λ r u p q. other_row t i w v r u l (omega arith))
            a.parts.2,
      );
      no_block = λ j k p q r. other_block t i w v j k (λ z. omega arith) r (omega arith) ∙ a.no_block j k p q r;
      no-row = λ r u p q d. other_row t i w v r u l (omega arith) ∙ a.no-row r u (omega arith) q d;
    }

-- ---- `act`
-- the word of a kind's set
abbrev pub kind_word_at : Kind → ℕ
kind_word_at in-kind = 2
kind_word_at out-kind = 3
kind_word_at uin-kind = 4
kind_word_at uout-kind = 5

abbrev pub with_member : List ℕ → ℕ → ℕ → List ℕ
with_member t at x = set t at (get_or t at 0 ∪ only x)

module _ (t : List ℕ) (c : Comp) (cs : List Comp) (a : Laid t (c ∷ cs)) (l : length cs < max_components) where
  -- word w of the last block's head joined with x, where it is the set s of c
  member : (c' : Comp) (w s x : ℕ) → w < head_words → get_or (block_of (row_count cs) c) w 0 ≡ s → block_of (row_count cs) c' ≡ set (block_of (row_count cs) c)
      w (s ∪ only x) → c'.rows ≡ c.rows
      → Laid (with_member t (block_at (length cs) w) x) (c' ∷ cs)
  unfolding block_word
  member c' w s x h e f r =
      rw (a.parts.0.words w (omega arith) ∙ e) (laid_word t c c' cs w (s ∪ only x) a f r h l)

  pub laid-act : (x : ℕ) (k : Kind) → Laid (with_member t (block_at (length cs) (kind_word_at k)) x) (with_act c x k ∷ cs)
  unfolding block_of first_word
  laid-act x in-kind = member (with_act c x in-kind) 2 c.ins x (omega arith) refl refl refl
  laid-act x out-kind = member (with_act c x out-kind) 3 c.outs x (omega arith) refl refl refl
  laid-act x uin-kind = member (with_act c x uin-kind) 4 c.uins x (omega arith) refl refl refl
  laid-act x uout-kind = member (with_act c x uout-kind) 5 c.uouts x (omega arith) refl refl refl

  -- ---- `clk`
  pub laid-clock : (x : ℕ) → Laid (with_member t (block_at (length cs) 6) x) (with_clk c x 0 ∷ cs)
  unfolding block_of first_word
  laid-clock x = member (with_clk c x 0) 6 c.clocks x (omega arith) refl refl refl

pub laid-started : (t : List ℕ) (c : Comp) (cs : List Comp) (x : ℕ) → Laid t (with_clk c x 0 ∷ cs) → length cs < max_components
    → Laid (with_member t (block_at (length cs) 7) x) (with_clk c x 1 ∷ cs)
unfolding block_of first_word
laid-started t c cs x a l = member t (with_clk c x 0) cs a l (with_clk c x 1) 7 c.started x (omega arith) refl refl refl
