-- What stands in a table whose front is the image of a model: each word read back.
use mathlib.Core.Path.{◌≡◌, refl, sym, ◌∙◌, ap}
use mathlib.Core.List.{List, [], ◌∷◌, ◌++◌, append_assoc}
use Prim.Native.Nat.{ℕ, zero, suc, ◌+◌, ◌-◌, ◌*◌, ◌≤◌, ◌<◌}
use native.Mathlib.Omega.{arith}
use lib.ListN.{length, get_or, take, length-append, length-replicate, get_or-append}
use lib.Seq.{get_or-take, get_or-append-add}
use borrow.Author.Tests.{le-leb, lt-leb}
use Rattle.laws.specs.Fold.{tab}
use Rattle.laws.proofs.FoldLaws.{tab-length, tab-at}
use Rattle.answer.specs.Limits.{max_components, max_rows, max_states}
use Rattle.model.specs.Model.{Row, Comp, Model, no_row, row_at, comp_at, row_count}
use Rattle.model.specs.WellFormed.{WellFormed}
use Rattle.layout.specs.Layout.{head_words, block_words, row_words, rows_at, image_words, count_of, block_word, first_of, action_at, guard_at, resets_at, target_at}
use Rattle.layout.specs.Words.{words_of, row_word}
use Rattle.layout.specs.Image.{leave_below, first_word, block_of, blocks_of, rows_of, all_rows_of, zeros, image_of}

-- ---- lengths
pub zeros-length : (n : ℕ) → length (zeros n) ≡ n
unfolding zeros
zeros-length n = length-replicate n 0

zeros-at : (n j : ℕ) → get_or (zeros n) j 0 ≡ 0
unfolding zeros
zeros-at zero j = refl
zeros-at (suc n) zero = refl
zeros-at (suc n) (suc j) = zeros-at n j

pub block-length : (n : ℕ) (c : Comp) → length (block_of n c) ≡ block_words
unfolding block_of
block-length n c = omega (arith, tab-length (first_word n c) 0 (suc max_states))

pub blocks-length : (n : ℕ) (m : Model) → length (blocks_of n m) ≡ block_words * length m
unfolding blocks_of
blocks-length n [] = refl
blocks-length n (c ∷ cs) =
    omega (arith, length-append (block_of n c) (blocks_of (n + length c.rows) cs), block-length n c, blocks-length (n + length c.rows) cs)

pub rows-length : (rs : List Row) → length (rows_of rs) ≡ row_words * length rs
unfolding rows_of
rows-length [] = refl
rows-length (r ∷ rs) = omega (arith, rows-length rs)

pub all-rows-length : (m : Model) → length (all_rows_of m) ≡ row_words * row_count m
unfolding all_rows_of row_count
all-rows-length [] = refl
all-rows-length (c ∷ cs) = omega (arith, length-append (rows_of c.rows) (all_rows_of cs), rows-length c.rows, all-rows-length cs)

-- the blocks and their zeros; the rows and theirs
block_part : Model → List ℕ
block_part m = blocks_of 0 m ++ zeros (block_words * (max_components - length m))

row_part : Model → List ℕ
row_part m = all_rows_of m ++ zeros (row_words * (max_rows - row_count m))

block-part-length : (m : Model) → length m ≤ max_components → length (block_part m) ≡ block_words * max_components
unfolding block_part
block-part-length m h =
    omega (
      arith,
      length-append (blocks_of 0 m) (zeros (block_words * (max_components - length m))),
      blocks-length 0 m,
      zeros-length (block_words * (max_components - length m)),
    )

row-part-length : (m : Model) → row_count m ≤ max_rows → length (row_part m) ≡ row_words * max_rows
unfolding row_part
row-part-length m h =
    omega (arith, length-append (all_rows_of m) (zeros (row_words * (max_rows - row_count m))), all-rows-length m, zeros-length (row_words * (max_rows - row_count m)))

image-parts : (m : Model) → image_of m ≡ length m ∷ (block_part m ++ row_part m)
unfolding image_of block_part row_part
image-parts m = append_assoc (length m ∷ block_part m) (all_rows_of m) (zeros (row_words * (max_rows - row_count m)))

-- "all images have one length"
pub length-of-image : (m : Model) → WellFormed m → length (image_of m) ≡ image_words
length-of-image m w =
    ap length (image-parts m) ∙ omega (arith, length-append (block_part m) (row_part m), block-part-length m w.components, row-part-length m w.rows)

-- ---- what stands in the parts
block_at : (n : ℕ) (m : Model) (i k : ℕ) → i < length m → k < block_words → get_or (blocks_of n m) (block_words * i + k) 0
    ≡ get_or (block_of (n + row_count (take i m)) (comp_at m i)) k 0
unfolding blocks_of row_count
block_at n [] i k h q = absurd (omega arith)
block_at n (c ∷ cs) zero k h q =
    let e : block_words * 0 + k ≡ k = omega arith in
    let z : n + 0 ≡ n = omega arith in
    rw (e, z) (get_or-append (block_of n c) (blocks_of (n + length c.rows) cs) 0 k (omega (arith, block-length n c)))
block_at n (c ∷ cs) (suc i) k h q =
    let e : block_words * suc i + k ≡ length (block_of n c) + (block_words * i + k) = omega (arith, block-length n c) in
    let z : n + (length c.rows + row_count (take i cs)) ≡ n + length c.rows + row_count (take i cs) = omega arith in
    rw (e, z) (get_or-append-add (block_of n c) (blocks_of (n + length c.rows) cs) (block_words * i + k) 0 ∙ block_at (n + length c.rows) cs i k
    (omega arith) q)

row-at : (rs : List Row) (k w : ℕ) → k < length rs → w < row_words → get_or (rows_of rs) (row_words * k + w) 0 ≡ get_or (words_of (get_or rs k no_row)) w 0
unfolding rows_of
row-at [] k w h q = absurd (omega arith)
row-at (r ∷ rs) zero w h q = let e : row_words * 0 + w ≡ w = omega arith in rw e (get_or-append (words_of r) (rows_of rs) 0 w q)
row-at (r ∷ rs) (suc k) w h q =
    let e : row_words * suc k + w ≡ row_words + (row_words * k + w) = omega arith in
    rw e (get_or-append-add (words_of r) (rows_of rs) (row_words * k + w) 0 ∙ row-at rs k w (omega arith) q)

rows-at : (m : Model) (i k w : ℕ) → i < length m → k < length (comp_at m i).rows → w < row_words
    → get_or (all_rows_of m) (row_words * (row_count (take i m) + k) + w) 0 ≡ get_or (words_of (row_at (comp_at m i) k)) w 0
unfolding all_rows_of row_count
rows-at [] i k w h p q = absurd (omega arith)
rows-at (c ∷ cs) zero k w h p q =
    let e : row_words * (0 + k) + w ≡ row_words * k + w = omega arith in
    rw e (get_or-append (rows_of c.rows) (all_rows_of cs) 0 (row_words * k + w) (omega (arith, rows-length c.rows)) ∙ row-at c.rows k w p q)
rows-at (c ∷ cs) (suc i) k w h p q =
    let e : row_words * (length c.rows + row_count (take i cs) + k) + w ≡ length (rows_of c.rows) + (row_words * (row_count (take i cs) + k) + w) =
    omega (arith, rows-length c.rows) in
    rw e (get_or-append-add (rows_of c.rows) (all_rows_of cs) (row_words * (row_count (take i cs) + k) + w) 0 ∙ rows-at cs i k w (omega arith) p q)

-- the rows of a component stand within those of the system
pub rows_before : (m : Model) (i : ℕ) → i < length m → row_count (take i m) + length (comp_at m i).rows ≤ row_count m
unfolding row_count
rows_before [] i h = absurd (omega arith)
rows_before (c ∷ cs) zero h = omega arith
rows_before (c ∷ cs) (suc i) h = omega (arith, rows_before cs i (omega arith))

-- and the next component's after them
pub rows_next : (m : Model) (i : ℕ) → i < length m → row_count (take (suc i) m) ≡ row_count (take i m) + length (comp_at m i).rows
unfolding row_count
rows_next [] i h = absurd (omega arith)
rows_next (c ∷ cs) zero h = omega arith
rows_next (c ∷ cs) (suc i) h = omega (arith, rows_next cs i (omega arith))

-- ---- the words of a table
module _ (m : Model) (t : List ℕ) (w : WellFormed m) (front : take image_words t ≡ image_of m) where
  word_at : (j : ℕ) → j < image_words → get_or t j 0 ≡ get_or (length m ∷ (block_part m ++ row_part m)) j 0
  word_at j h = sym (get_or-take image_words t j 0 h) ∙ ap (λ l. get_or l j 0) (front ∙ image-parts m)

  in_blocks : (i k : ℕ) → i < max_components → k < block_words → block_word t i k ≡ get_or (block_part m) (block_words * i + k) 0
  unfolding block_word
  in_blocks i k h q =
      let e : 1 + block_words * i + k ≡ suc (block_words * i + k) = omega arith in
      rw e (word_at (suc (block_words * i + k)) (omega arith) ∙ get_or-append (block_part m) (row_part m) 0 (block_words * i + k)
      (omega (arith, block-part-length m w.components)))

  in_rows : (r v : ℕ) → r < max_rows → v < row_words → row_word t r v ≡ get_or (row_part m) (row_words * r + v) 0
  in_rows r v h q =
      let e : rows_at + row_words * r + v ≡ suc (length (block_part m) + (row_words * r + v)) = omega (arith, block-part-length m w.components) in
      rw e (word_at (suc (length (block_part m) + (row_words * r + v))) (omega (arith, block-part-length m w.components))
      ∙ get_or-append-add (block_part m) (row_part m) (row_words * r + v) 0)

  pub count-is : count_of t ≡ length m
  unfolding count_of
  count-is = word_at 0 (omega arith)

  pub block-is : (i k : ℕ) → i < length m → k < block_words → block_word t i k ≡ get_or (block_of (row_count (take i m)) (comp_at m i)) k 0
  unfolding block_part
  block-is i k h q =
      in_blocks i k (omega (arith, w.components)) q
      ∙ get_or-append (blocks_of 0 m) (zeros (block_words * (max_components - length m))) 0 (block_words * i + k) (omega (arith, blocks-length 0 m))
      ∙ block_at 0 m i k h q
      ∙ ap (λ n. get_or (block_of n (comp_at m i)) k 0) (omega arith)

  -- "unused places are zero"
  pub no_block : (i k : ℕ) → length m ≤ i → i < max_components → k < block_words → block_word t i k ≡ 0
  unfolding block_part
  no_block i k p h q =
      let e : block_words * i + k ≡ length (blocks_of 0 m) + (block_words * i + k - length (blocks_of 0 m)) = omega (arith, blocks-length 0 m) in
      in_blocks i k h q
      ∙ ap (λ j. get_or (block_part m) j 0) e
      ∙ get_or-append-add (blocks_of 0 m) (zeros (block_words * (max_components - length m))) (block_words * i + k - length (blocks_of 0 m)) 0
      ∙ zeros-at (block_words * (max_components - length m)) (block_words * i + k - length (blocks_of 0 m))

  -- first[s]
  pub first-word : (i s : ℕ) → i < length m → s ≤ max_states → first_of t i s ≡ first_word (row_count (take i m)) (comp_at m i) s
  unfolding first_of block_of
  first-word i s h q =
      let n = row_count (take i m) in
      let c = comp_at m i in
      block-is i (head_words + s) h (omega arith)
      ∙ get_or-append-add (c.states ∷ c.start ∷ c.ins ∷ c.outs ∷ c.uins ∷ c.uouts ∷ c.clocks ∷ c.started ∷ []) (tab (first_word n c) 0 (suc max_states)) s 0
      ∙ tab-at (first_word n c) 0 0 (suc max_states) s (omega arith)
      ∙ ap (first_word n c) (omega arith)

  pub first-is : (i s : ℕ) → i < length m → s ≤ (comp_at m i).states → first_of t i s ≡ row_count (take i m) + leave_below (comp_at m i).rows s
  unfolding first_word
  first-is i s h q = first-word i s h (omega (arith, (w.each i h).states)) ∙ rw (le-leb s (comp_at m i).states q)

  pub first_above : (i s : ℕ) → i < length m → (comp_at m i).states < s → s ≤ max_states → first_of t i s ≡ 0
  unfolding first_word
  first_above i s h p q = first-word i s h q ∙ rw (lt-leb s (comp_at m i).states p)

  -- row k of component i
  pub row_word_lem : (i k v : ℕ) → i < length m → k < length (comp_at m i).rows → v < row_words
      → row_word t (row_count (take i m) + k) v ≡ get_or (words_of (row_at (comp_at m i) k)) v 0
  unfolding row_part
  row_word_lem i k v h p q =
      let b = rows_before m i h in
      in_rows (row_count (take i m) + k) v (omega (arith, w.rows)) q
      ∙ get_or-append (all_rows_of m) (zeros (row_words * (max_rows - row_count m))) 0 (row_words * (row_count (take i m) + k) + v)
      (omega (arith, all-rows-length m))
      ∙ rows-at m i k v h p q

  pub action-is : (i k : ℕ) → i < length m → k < length (comp_at m i).rows → action_at t (row_count (take i m) + k) ≡ (row_at (comp_at m i) k).action
  unfolding action_at
  action-is i k h p = ap (λ j. get_or t j 0) (omega arith) ∙ row_word_lem i k 0 h p (omega arith)

  pub guard-is : (i k : ℕ) → i < length m → k < length (comp_at m i).rows → guard_at t (row_count (take i m) + k) ≡ (row_at (comp_at m i) k).guard
  unfolding guard_at
  guard-is i k h p = row_word_lem i k 1 h p (omega arith)

  pub resets-is : (i k : ℕ) → i < length m → k < length (comp_at m i).rows → resets_at t (row_count (take i m) + k) ≡ (row_at (comp_at m i) k).resets
  unfolding resets_at
  resets-is i k h p = row_word_lem i k 2 h p (omega arith)

  pub target_is : (i k : ℕ) → i < length m → k < length (comp_at m i).rows → target_at t (row_count (take i m) + k) ≡ (row_at (comp_at m i) k).target
  unfolding target_at
  target_is i k h p = row_word_lem i k 3 h p (omega arith)

  -- "unused places are zero"
  pub no-row : (r v : ℕ) → row_count m ≤ r → r < max_rows → v < row_words → row_word t r v ≡ 0
  unfolding row_part
  no-row r v p h q =
      let e : row_words * r + v ≡ length (all_rows_of m) + (row_words * r + v - length (all_rows_of m)) = omega (arith, all-rows-length m) in
      in_rows r v h q
      ∙ ap (λ j. get_or (row_part m) j 0) e
      ∙ get_or-append-add (all_rows_of m) (zeros (row_words * (max_rows - row_count m))) (row_words * r + v - length (all_rows_of m)) 0
      ∙ zeros-at (row_words * (max_rows - row_count m)) (row_words * r + v - length (all_rows_of m))
