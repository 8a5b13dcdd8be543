-- Where the components so far are laid out, the table holds the words of their model.
use mathlib.Core.Path.{◌≡◌, sym, ◌∙◌, ap}
use mathlib.Core.List.{List, [], ◌∷◌, ◌++◌, reverse, reverse-cons}
use Prim.Native.Nat.{ℕ, ◌+◌, ◌<◌}
use native.Mathlib.Omega.{arith}
use native.Mathlib.Decide.{dec_lt}
use lib.ListN.{length, get_or, take, length-append, length-reverse, get_or-append}
use lib.Seq.{take-append-le, take-append_seam, get_or-append_seam}
use Rattle.model.specs.Model.{Comp, no_comp, comp_at, row_at, row_count}
use Rattle.model.proofs.Reading.TextOfRead.{count-reverse}
use Rattle.layout.specs.Layout.{block_words, row_words, block_word}
use Rattle.layout.specs.Image.{block_of}
use Rattle.layout.specs.Words.{words_of, row_word, Holds}
use Rattle.reading.specs.Laid.{Parts, Laid}

-- component i of a list with one more behind it: an earlier one, or that one
module _ (xs : List Comp) (c : Comp) where
  earlier : (i : ℕ) → i < length xs → (comp_at (xs ++ c ∷ []) i ≡ comp_at xs i) × (take i (xs ++ c ∷ []) ≡ take i xs)
  earlier i h = (get_or-append xs (c ∷ []) no_comp i h, take-append-le i xs (c ∷ []) (omega arith))

  latest : (i : ℕ) → i ≡ length xs → (comp_at (xs ++ c ∷ []) i ≡ c) × (take i (xs ++ c ∷ []) ≡ xs)
  latest i e = (ap (λ k. comp_at (xs ++ c ∷ []) k) e ∙ get_or-append_seam xs c [] no_comp, ap (λ k. take k (xs ++ c ∷ [])) e ∙ take-append_seam xs (c ∷ []))

blocks : (t : List ℕ) (m : List Comp) → Parts t m
    → (i k : ℕ) → i < length (reverse m) → k < block_words → block_word t i k ≡ get_or (block_of (row_count (take i (reverse m))) (comp_at (reverse m) i)) k 0
blocks t [] p i k h q = absurd (omega arith)
blocks t (c ∷ cs) p i k h q = go (dec_lt i (length (reverse cs))) (blocks t cs p.2 i k)
  where
    n : length (reverse (c ∷ cs)) ≡ length (reverse cs) + 1
    n = ap length (reverse-cons c cs) ∙ length-append (reverse cs) (c ∷ [])

    go : Dec (i < length (reverse cs))
        → (i < length (reverse cs) → k < block_words → block_word t i k ≡ get_or (block_of (row_count (take i (reverse cs))) (comp_at (reverse cs) i)) k 0)
        → block_word t i k ≡ get_or (block_of (row_count (take i (reverse (c ∷ cs)))) (comp_at (reverse (c ∷ cs)) i)) k 0
    go (yes l) ih = let e = earlier (reverse cs) c i l in rw (reverse-cons c cs, e.0, e.1) (ih l q)
    go (no l) ih =
        let z : i ≡ length (reverse cs) = omega (arith, n) in
        let y : i ≡ length cs = z ∙ length-reverse cs in
        let e = latest (reverse cs) c i z in
        rw (reverse-cons c cs, e.0, e.1, count-reverse cs, y) (p.0.words k q)

rows : (t : List ℕ) (m : List Comp) → Parts t m
    → (i k v : ℕ) → i < length (reverse m) → k < length (comp_at (reverse m) i).rows → v < row_words
    → row_word t (row_count (take i (reverse m)) + k) v ≡ get_or (words_of (row_at (comp_at (reverse m) i) k)) v 0
rows t [] p i k v h l q = absurd (omega arith)
rows t (c ∷ cs) p i k v h l q = go (dec_lt i (length (reverse cs))) (rows t cs p.2 i k v)
  where
    n : length (reverse (c ∷ cs)) ≡ length (reverse cs) + 1
    n = ap length (reverse-cons c cs) ∙ length-append (reverse cs) (c ∷ [])

    go : Dec (i < length (reverse cs))
        → (i < length (reverse cs) → k < length (comp_at (reverse cs) i).rows → v < row_words
        → row_word t (row_count (take i (reverse cs)) + k) v ≡ get_or (words_of (row_at (comp_at (reverse cs) i) k)) v 0)
        → row_word t (row_count (take i (reverse (c ∷ cs))) + k) v ≡ get_or (words_of (row_at (comp_at (reverse (c ∷ cs)) i) k)) v 0
    go (yes b) ih =
        let e = earlier (reverse cs) c i b in
        let f : comp_at (reverse (c ∷ cs)) i ≡ comp_at (reverse cs) i = ap (λ l. comp_at l i) (reverse-cons c cs) ∙ e.0 in
        let g : take i (reverse (c ∷ cs)) ≡ take i (reverse cs) = ap (take i) (reverse-cons c cs) ∙ e.1 in
        ap (λ x. row_word t (row_count x + k) v) g ∙ ih b (omega (arith, ap (λ d. length d.rows) f)) q ∙ sym (ap (λ d. get_or (words_of (row_at d k)) v 0) f)
    go (no b) ih =
        let z : i ≡ length (reverse cs) = omega (arith, n) in
        let e = latest (reverse cs) c i z in
        let f : comp_at (reverse (c ∷ cs)) i ≡ c = ap (λ l. comp_at l i) (reverse-cons c cs) ∙ e.0 in
        let g : row_count (take i (reverse (c ∷ cs))) ≡ row_count cs = ap (λ l. row_count (take i l)) (reverse-cons c cs) ∙ ap row_count e.1
        ∙ count-reverse cs in
        ap (λ x. row_word t (x + k) v) g ∙ p.1.words k v (omega (arith, ap (λ d. length d.rows) f)) q ∙ sym (ap (λ d. get_or (words_of (row_at d k)) v 0) f)

pub laid-holds : (t : List ℕ) (m : List Comp) → Laid t m → Holds (reverse m) t
laid-holds t m a = record {
  long = a.long;
  count = a.count ∙ sym (length-reverse m);
  block = blocks t m a.parts;
  row = rows t m a.parts;
  no_block = λ i k h. a.no_block i k (omega (arith, length-reverse m));
  no-row = λ r v h. a.no-row r v (omega (arith, count-reverse m));
}
