-- The front of a table is the image of a model exactly where the table holds the model's words.
use mathlib.Core.Path.{◌≡◌, sym, ◌∙◌, ap}
use mathlib.Core.List.{List, [], ◌∷◌}
use Prim.Native.Nat.{ℕ, zero, suc, ◌+◌, ◌-◌, ◌*◌, ◌/◌, ◌%◌, ◌<◌}
use native.Mathlib.Omega.{arith}
use native.Mathlib.Decide.{dec_lt}
use lib.ListN.{length, get_or, take, length-take}
use lib.Seq.{ext_get_or, get_or-take, take_all}
use Rattle.answer.specs.Limits.{max_components, max_rows}
use Rattle.model.specs.Model.{Model, comp_at, row_count}
use Rattle.model.specs.WellFormed.{WellFormed}
use Rattle.layout.specs.Layout.{block_words, row_words, rows_at, image_words, count_of, block_word}
use Rattle.layout.specs.Image.{image_of}
use Rattle.layout.specs.Words.{row_word, Holds}
use Rattle.layout.proofs.ReadBack.{length-of-image, count-is, block-is, row_word_lem, no_block, no-row}

module _ (m : Model) (t : List ℕ) (w : WellFormed m) where
  pub image_holds : take image_words t ≡ image_of m → Holds m t
  image_holds f = record {
    long = omega (arith, length-take image_words t, ap length f, length-of-image m w);
    count = count-is m t w f;
    block = block-is m t w f;
    row = row_word_lem m t w f;
    no_block = no_block m t w f;
    no-row = no-row m t w f;
  }

-- a row of the system is a row of one of its components
pub record RowOf (m : Model) (r : ℕ) : Type 0 where
  pub comp : ℕ
  pub row : ℕ
  pub inside : comp < length m
  pub below : row < length (comp_at m comp).rows
  pub place : r ≡ row_count (take comp m) + row

pub row_of : (m : Model) (r : ℕ) → r < row_count m → RowOf m r
unfolding row_count
row_of [] r h = absurd (omega arith)
row_of (c ∷ cs) r h = go (dec_lt r (length c.rows)) (row_of cs (r - length c.rows))
  where
    go : Dec (r < length c.rows) → (r - length c.rows < row_count cs → RowOf cs (r - length c.rows)) → RowOf (c ∷ cs) r
    go (yes p) ih = record { comp = 0; row = r; inside = omega arith; below = p; place = omega arith }
    go (no p) ih =
        let x = ih (omega arith) in
        record { comp = suc x.comp; row = x.row; inside = omega (arith, x.inside); below = x.below; place = omega (arith, x.place) }

-- two tables that hold the words of one model
module _ (m : Model) (t t' : List ℕ) (a : Holds m t) (b : Holds m t') where
  block_same : (i k : ℕ) → i < max_components → k < block_words → block_word t i k ≡ block_word t' i k
  block_same i k h q = elim (dec_lt i (length m)) [
    | yes p ↦ a.block i k p q ∙ sym (b.block i k p q)
    | no p ↦ a.no_block i k (omega arith) h q ∙ sym (b.no_block i k (omega arith) h q)
  ]

  row_same : (r v : ℕ) → r < max_rows → v < row_words → row_word t r v ≡ row_word t' r v
  row_same r v h q = elim (dec_lt r (row_count m)) [
    | yes p ↦ let x =
        row_of m r p in rw x.place (a.row x.comp x.row v x.inside x.below q
        ∙ sym (b.row x.comp x.row v x.inside x.below q))
    | no p ↦ a.no-row r v (omega arith) h q ∙ sym (b.no-row r v (omega arith) h q)
  ]

  -- word j is the count, a block's word or a row's
  word_same : (j : ℕ) → j < image_words → get_or t j 0 ≡ get_or t' j 0
  unfolding count_of block_word
  word_same zero h = a.count ∙ sym b.count
  word_same (suc j) h = elim (dec_lt j (block_words * max_components)) [
    | yes p ↦
        let e : suc j ≡ 1 + block_words * (j / block_words) + j % block_words = omega arith in
        rw e (block_same (j / block_words) (j % block_words) (omega arith) (omega arith))
    | no p ↦
        let r = j - block_words * max_components in
        let e : suc j ≡ rows_at + row_words * (r / row_words) + r % row_words = omega arith in
        rw e (row_same (r / row_words) (r % row_words) (omega arith) (omega arith))
  ]

module _ (m : Model) (t : List ℕ) (w : WellFormed m) where
  own : Holds m (image_of m)
  own = image_holds m (image_of m) w (take_all image_words (image_of m) (omega (arith, length-of-image m w)))

  pub holds-image : Holds m t → take image_words t ≡ image_of m
  holds-image a =
      ext_get_or 0 (take image_words t) (image_of m) (omega (arith, length-take image_words t, a.long, length-of-image m w))
      (λ j h. let p : j < image_words = omega (arith, length-take image_words t) in get_or-take image_words t j 0 p ∙ word_same m t (image_of m) a own j p)
