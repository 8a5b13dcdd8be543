-- An image passes every test.
use mathlib.Core.Path.{◌≡◌, sym, ap}
use mathlib.Core.Bool.{true}
use mathlib.Core.List.{List}
use Prim.Native.Nat.{ℕ, zero, suc, ◌+◌, ◌*◌, ◌-◌, ◌/◌, ◌%◌, ◌^◌, ◌≤◌, ◌<◌}
use native.Mathlib.Omega.{arith}
use native.Mathlib.Decide.{dec_lt}
use lib.ListN.{length, get_or}
use Rattle.laws.proofs.SetLaws.{subset-le}
use Rattle.answer.specs.Limits.{max_components, max_rows}
use Rattle.sets.specs.Members.{word_bits}
use Rattle.model.specs.Model.{Row, Comp, row_at, comp_at, row_count}
use Rattle.model.specs.WellFormed.{before, WellRow, WellComp}
use Rattle.layout.specs.Layout.{head_words, block_words, row_words, rows_at, image_words, count_of, block_word, first_of}
use Rattle.layout.specs.Image.{row_in, comp_of, model_of, Image, Sane}
use Rattle.layout.specs.Laid.{Laid}
use Rattle.layout.specs.Words.{words_of, row_word, Holds}
use Rattle.layout.proofs.RowsOfRange.{well-formed, image-front, count-some, well-comp, rows_end, rows_fit, row-there, range-from, range-to, range-row}
use Rattle.layout.proofs.ImageIsSane.{acts-below, guard-below, image-is-sane}
use Rattle.layout.proofs.ImageIsLaid.{image-is-laid}
use Rattle.layout.proofs.FrontByWords.{image_holds, row_of}
use Rattle.blocks.specs.Blocks.{end_before, first_place}
use Rattle.blocks.proofs.BlockFacts.{Blocks, Blank, Firsts, blocks-so}
use Rattle.table.specs.IsImage.{is_image}
use Rattle.table.proofs.ImageTests.{parts-image, fits-so}
use Rattle.table.proofs.RowFacts.{is_row, AllRows, row-so, rows-so, rest-so}

-- the words of a row that its component has
row_fits : (c : Comp) → WellComp c → (r : Row) → WellRow c r → (v : ℕ) → v < row_words → get_or (words_of r) v 0 < 2 ^ word_bits
row_fits c w r x zero h = omega (arith, acts-below c w r.action x.action)
row_fits c w r x (suc zero) h = omega (arith, guard-below c w r.guard x.guard)
row_fits c w r x (suc (suc zero)) h = omega (arith, subset-le r.resets c.clocks x.resets, w.clocks)
row_fits c w r x (suc (suc (suc zero))) h = omega (arith, x.target, w.states)
row_fits c w r x (suc (suc (suc (suc v)))) h = absurd (omega arith)

module _ (t : List ℕ) (im : Image t) where
  l : Laid t
  l = image-is-laid t im

  sane : Sane t
  sane = image-is-sane t im

  -- ---- every word is one of the machine's
  block-fits : (i k : ℕ) → i < count_of t → k < block_words → block_word t i k < 2 ^ word_bits
  unfolding comp_of first_of sane
  block-fits i zero h q = let w = well-comp t im i h in omega (arith, w.states)
  block-fits i (suc zero) h q = let w = well-comp t im i h in omega (arith, w.start, w.states)
  block-fits i (suc (suc zero)) h q = (well-comp t im i h).ins
  block-fits i (suc (suc (suc zero))) h q = (well-comp t im i h).outs
  block-fits i (suc (suc (suc (suc zero)))) h q = (well-comp t im i h).uins
  block-fits i (suc (suc (suc (suc (suc zero))))) h q = (well-comp t im i h).uouts
  block-fits i (suc (suc (suc (suc (suc (suc zero)))))) h q = (well-comp t im i h).clocks
  block-fits i (suc (suc (suc (suc (suc (suc (suc zero))))))) h q =
      let w = well-comp t im i h in
      omega (arith, subset-le (block_word t i 7) (block_word t i 6) w.started, w.clocks)
  block-fits i (suc (suc (suc (suc (suc (suc (suc (suc s)))))))) h q =
      let e : head_words + s ≡ suc (suc (suc (suc (suc (suc (suc (suc s))))))) = omega arith in
      let f : first_of t i s ≤ max_rows = sane.firsts i s (omega (arith, sane.count)) (omega arith) in
      omega (arith, f, ap (block_word t i) e)

  some-block-fits : (i k : ℕ) → i < max_components → k < block_words → block_word t i k < 2 ^ word_bits
  unfolding l
  some-block-fits i k h q = elim (dec_lt i (count_of t)) [ yes p ↦ block-fits i k p q | no p ↦ omega (arith, l.blocks i k (omega arith) h q) ]

  some-row-fits : (r v : ℕ) → r < max_rows → v < row_words → row_word t r v < 2 ^ word_bits
  some-row-fits r v h q = elim (dec_lt r (row_count (model_of t))) [
    | yes p ↦
        let x = row_of (model_of t) r p in
        let w = (well-formed t im).each x.comp x.inside in
        omega (
          arith,
          ap (λ n. row_word t n v) x.place,
          holds.row x.comp x.row v x.inside x.below q,
          row_fits (comp_at (model_of t) x.comp) w (row_at (comp_at (model_of t) x.comp) x.row) (w.rows x.row x.below) v q,
        )
    | no p ↦ omega (arith, holds.no-row r v (omega arith) h q)
  ]
    where
      holds : Holds (model_of t) t
      holds = image_holds (model_of t) t (well-formed t im) (image-front t im)

  words-fit : (j : ℕ) → j < image_words → get_or t j 0 < 2 ^ word_bits
  unfolding count_of block_word sane
  words-fit zero h = let f : count_of t ≤ max_components = sane.count in omega (arith, f)
  words-fit (suc j) h = elim (dec_lt j (block_words * max_components)) [
    | yes p ↦
        let e : suc j ≡ 1 + block_words * (j / block_words) + j % block_words = omega arith in
        rw e (some-block-fits (j / block_words) (j % block_words) (omega arith) (omega arith))
    | no p ↦
        let r = j - block_words * max_components in
        let e : suc j ≡ rows_at + row_words * (r / row_words) + r % row_words = omega arith in
        rw e (some-row-fits (r / row_words) (r % row_words) (omega arith) (omega arith))
  ]

  -- ---- the blocks
  begins : (i : ℕ) → i < count_of t → first_of t i 0 ≡ end_before t i
  unfolding end_before l
  begins zero h = l.start
  begins (suc i) h = l.next i h

  firsts : (i : ℕ) → i < count_of t → Firsts t i
  unfolding first_of block_word l
  firsts i h = record {
    begin = begins i h;
    order = λ s q. l.up i s h q;
    last = omega (arith, rows_end t im i h, rows_fit t im i h);
    above = λ k p q.
        let s = k - first_place i 0 in
        let e : k ≡ first_place i s = omega arith in
        rw e (l.above i s h (omega arith) (omega arith));
  }

  blocks : Blocks t
  unfolding comp_of sane
  blocks = record {
    some = count-some t im;
    count = sane.count;
    sizes = λ i h. let w = well-comp t im i h in record { some = w.some; states = w.states; start = w.start };
    apart = λ i h.
        let w = well-comp t im i h in
        record {
          ins-outs = w.ins-outs;
          ins-uins = w.ins-uins;
          ins-uouts = w.ins-uouts;
          outs-uins = w.outs-uins;
          outs-uouts = w.outs-uouts;
          uins-uouts = w.uins-uouts;
          started = w.started;
        };
    firsts = firsts;
  }

  blank : Blank t
  unfolding block_word l
  blank k p q =
      let j = k - 1 in
      let e : k ≡ 1 + block_words * (j / block_words) + j % block_words = omega arith in
      rw e (l.blocks (j / block_words) (j % block_words) (omega arith) (omega arith) (omega arith))

  -- ---- the rows
  each_row : (i r : ℕ) → i < count_of t → first_of t i 0 ≤ r → r < first_of t i (block_word t i 0) → is_row t i r ≡ true
  each_row i r h a b =
      let k = r - first_of t i 0 in
      let q : k < length (comp_of t i).rows = omega (arith, rows_end t im i h) in
      let e : first_of t i 0 + k ≡ r = omega arith in
      let f : row_in t (row_at (comp_of t i) k).from r ≡ row_at (comp_of t i) k = rw e at (row-there t im i h k q) in
      row-so t i (row_at (comp_of t i) k).from r (rw f ((well-comp t im i h).rows k q))

  climb : (i s r : ℕ) → i < count_of t → s < block_word t i 0 → first_of t i s ≤ r → suc r < first_of t i (suc s) → before (row_in t s r) (row_in t s (suc r)) ≡ true
  climb i s r h b a z =
      let k = r - first_of t i 0 in
      let e : suc r - first_of t i 0 ≡ suc k = omega (arith, range-from t im i h s r b a (omega arith)) in
      let f : row_in t s r ≡ row_at (comp_of t i) k = range-row t im i h s r b a (omega arith) in
      let g : row_in t s (suc r) ≡ row_at (comp_of t i) (suc k) = rw e at (range-row t im i h s (suc r) b (omega arith) z) in
      rw (f, g) ((well-comp t im i h).ascend k (omega (arith, e, range-to t im i h s (suc r) b (omega arith) z)))

  rows : AllRows t
  unfolding end_before l
  rows = record {
    comps = λ i h. record { each = λ r. each_row i r h; climb = λ s r. climb i s r h };
    tail = λ k p q.
        let i = count_of t - 1 in
        let n : suc i ≡ count_of t = omega (arith, count-some t im) in
        let f : end_before t (count_of t) ≡ first_of t i (block_word t i 0) = ap (end_before t) (sym n) in
        let j = k - rows_at in
        let e : k ≡ rows_at + row_words * (j / row_words) + j % row_words = omega arith in
        rw e (l.rows i (j / row_words) (j % row_words) n (omega (arith, f)) (omega arith) (omega arith));
  }

  pub image-recognised : is_image t ≡ true
  unfolding sane
  image-recognised =
      parts-image t (record {
        long = sane.long;
        fit = fits-so t words-fit;
        blocks = blocks-so t blocks;
        rows = rows-so t rows;
        rest = rest-so t blank rows;
        bytes = (well-formed t im).bytes;
      })
