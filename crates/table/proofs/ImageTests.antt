-- The whole test, part by part.
use mathlib.Core.Path.{◌≡◌, sym, ◌∙◌}
use mathlib.Core.Bool.{Bool, true, false}
use mathlib.Core.List.{List}
use Prim.Native.Nat.{ℕ, ◌^◌, ◌≤◌, ◌<◌}
use native.Mathlib.Omega.{arith}
use lib.ListN.{length, get_or}
use lib.Dec.{ltb, leb}
use borrow.Author.Tests.{ltb-true, lt-ltb, leb-true, le-leb, lt-leb}
use Rattle.laws.specs.Tests.{both}
use Rattle.laws.proofs.FoldLaws.{all_true, true-all}
use Rattle.laws.proofs.TestLaws.{both_true, true-both, both-no, both_go}
use Rattle.answer.specs.Limits.{max_bytes}
use Rattle.sets.specs.Members.{word_bits}
use Rattle.model.specs.Text.{text_of}
use Rattle.layout.specs.Layout.{image_words}
use Rattle.layout.specs.Image.{model_of, Sane}
use Rattle.blocks.specs.Blocks.{blocks_right, Bounded}
use Rattle.blocks.proofs.BlockFacts.{blocks-told, blocks-bounded, bounded-sane}
use Rattle.table.specs.Rows.{rows_right, rest_zero}
use Rattle.table.specs.IsImage.{words_fit, is_image}
use Rattle.table.proofs.RowFacts.{blank-told}

module _ (t : List ℕ) where
  pub fits_told : words_fit t ≡ true → (k : ℕ) → k < image_words → get_or t k 0 < 2 ^ word_bits
  unfolding words_fit
  fits_told e k h = ltb-true (get_or t k 0) (2 ^ word_bits) (all_true (λ j. ltb (get_or t j 0) (2 ^ word_bits)) 0 image_words e k (omega arith) h)

  pub fits-so : ((k : ℕ) → k < image_words → get_or t k 0 < 2 ^ word_bits) → words_fit t ≡ true
  unfolding words_fit
  fits-so h = true-all (λ j. ltb (get_or t j 0) (2 ^ word_bits)) 0 image_words (λ k p q. lt-ltb (get_or t k 0) (2 ^ word_bits) (h k q))

  pub record Parts : Type 0 where
    pub long : image_words ≤ length t
    pub fit : words_fit t ≡ true
    pub blocks : blocks_right t ≡ true
    pub rows : rows_right t ≡ true
    pub rest : rest_zero t ≡ true
    pub bytes : length (text_of (model_of t)) ≤ max_bytes

  pub image-parts : is_image t ≡ true → Parts
  unfolding is_image
  image-parts e =
      let p = both_true (leb image_words (length t)) _ e in
      let q = both_true (words_fit t) _ p.1 in
      let r = both_true (blocks_right t) _ q.1 in
      let s = both_true (rows_right t) _ r.1 in
      let z = both_true (rest_zero t) _ s.1 in
      record {
        long = leb-true image_words (length t) p.0;
        fit = q.0;
        blocks = r.0;
        rows = s.0;
        rest = z.0;
        bytes = leb-true (length (text_of (model_of t))) max_bytes z.1;
      }

  pub parts-image : Parts → is_image t ≡ true
  unfolding is_image
  parts-image p =
      true-both _ _ (le-leb image_words (length t) p.long)
      (true-both _ _ p.fit (true-both _ _ p.blocks
      (true-both _ _ p.rows (true-both _ _ p.rest (le-leb (length (text_of (model_of t))) max_bytes p.bytes)))))

  -- what the tests of rows may count on, and the code below the recogniser
  pub bounded : image_words ≤ length t → blocks_right t ≡ true → Bounded t
  bounded long e = blocks-bounded t (blocks-told t e) long

  pub sane : image_words ≤ length t → blocks_right t ≡ true → rest_zero t ≡ true → Sane t
  sane long e f = bounded-sane t (blank-told t f) (bounded long e)

  -- ---- as the code answers
  pub too_short_lem : length t < image_words → false ≡ is_image t
  unfolding is_image
  too_short_lem h = sym (both-no _ _ (lt-leb image_words (length t) h))

  module _ (long : image_words ≤ length t) (fit : (k : ℕ) → k < image_words → get_or t k 0 < 2 ^ word_bits) where
    rest : {x : Bool} → both (leb image_words (length t)) (both (words_fit t) x) ≡ x
    rest = both_go _ _ (le-leb image_words (length t) long) ∙ both_go _ _ (fits-so fit)

    pub blocks-wrong : blocks_right t ≡ false → false ≡ is_image t
    unfolding is_image
    blocks-wrong e = sym (rest ∙ both-no _ _ e)

    pub rows-wrong : blocks_right t ≡ true → rows_right t ≡ false → false ≡ is_image t
    unfolding is_image
    rows-wrong e f = sym (rest ∙ both_go _ _ e ∙ both-no _ _ f)

    pub rest-wrong : blocks_right t ≡ true → rows_right t ≡ true → rest_zero t ≡ false → false ≡ is_image t
    unfolding is_image
    rest-wrong e f g = sym (rest ∙ both_go _ _ e ∙ both_go _ _ f ∙ both-no _ _ g)

    pub by_length : blocks_right t ≡ true → rows_right t ≡ true → rest_zero t ≡ true → leb (length (text_of (model_of t))) max_bytes ≡ is_image t
    unfolding is_image
    by_length e f g = sym (rest ∙ both_go _ _ e ∙ both_go _ _ f ∙ both_go _ _ g)
