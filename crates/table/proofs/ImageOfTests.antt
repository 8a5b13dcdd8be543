-- A table that passes every test is an image: of its own model.
use mathlib.Core.Path.{◌≡◌, sym, ap}
use mathlib.Core.Bool.{true}
use mathlib.Core.List.{List}
use Prim.Native.Nat.{ℕ, suc, ◌+◌, ◌*◌, ◌-◌, ◌^◌, ◌≤◌, ◌<◌}
use native.Mathlib.Omega.{arith}
use lib.ListN.{get_or}
use Rattle.answer.specs.Limits.{max_rows}
use Rattle.sets.specs.Members.{word_bits}
use Rattle.model.specs.WellFormed.{WellComp, WellFormed}
use Rattle.layout.specs.Layout.{block_words, row_words, rows_at, count_of, block_word, first_of}
use Rattle.layout.specs.Image.{comp_of, model_of, Image}
use Rattle.layout.specs.Laid.{Laid}
use Rattle.layout.proofs.ModelOf.{model-length, comp-at}
use Rattle.layout.proofs.WellByRanges.{rows-well, rows-in-order}
use Rattle.layout.proofs.FrontOfModel.{laid_end, laid-image}
use Rattle.blocks.specs.Blocks.{end_before}
use Rattle.blocks.proofs.BlockFacts.{Blocks, Blank, blocks-told, blank-word, firsts-above, firsts-climb}
use Rattle.table.specs.IsImage.{is_image}
use Rattle.table.proofs.ImageTests.{Parts, image-parts, fits_told}
use Rattle.table.proofs.RowFacts.{AllRows, blank-told, rows_told, row_told}

module _ (t : List ℕ) (p : Parts t) (w : Blocks t) (blank : Blank t) (rs : AllRows t) where
  begins : (i : ℕ) → i < count_of t → first_of t i 0 ≡ end_before t i
  begins i h = (w.firsts i h).begin

  tail-word : (i r v : ℕ) → suc i ≡ count_of t → first_of t i (block_word t i 0) ≤ r → r < max_rows → v < row_words → get_or t (rows_at + row_words * r + v) 0 ≡ 0
  unfolding end_before
  tail-word i r v e a b h =
      let f : end_before t (count_of t) ≡ first_of t i (block_word t i 0) = ap (end_before t) (sym e) in
      rs.tail (rows_at + row_words * r + v) (omega (arith, f)) (omega arith)

  laid : Laid t
  unfolding end_before
  laid = record {
    long = p.long;
    start = begins 0 (omega (arith, w.some));
    next = λ i h. begins (suc i) h;
    up = λ i s h q. (w.firsts i h).order s q;
    above = λ i s h q. firsts-above t i (w.firsts i h) s q;
    blocks = λ i k q. blank-word t blank i k q;
    rows = tail-word;
  }

  -- a block's words are those of the machine
  fits : (i k : ℕ) → i < count_of t → k < block_words → block_word t i k < 2 ^ word_bits
  unfolding block_word
  fits i k h q = fits_told t p.fit (1 + block_words * i + k) (omega (arith, w.count))

  comp-well : (i : ℕ) → i < count_of t → WellComp (comp_of t i)
  unfolding comp_of
  comp-well i h =
      let z = w.sizes i h in
      let a = w.apart i h in
      let up : (s : ℕ) → s < block_word t i 0 → first_of t i s ≤ first_of t i (suc s) = (w.firsts i h).order in
      record {
        some = z.some;
        states = z.states;
        start = z.start;
        ins = fits i 2 h (omega arith);
        outs = fits i 3 h (omega arith);
        uins = fits i 4 h (omega arith);
        uouts = fits i 5 h (omega arith);
        ins-outs = a.ins-outs;
        ins-uins = a.ins-uins;
        ins-uouts = a.ins-uouts;
        outs-uins = a.outs-uins;
        outs-uouts = a.outs-uouts;
        uins-uouts = a.uins-uouts;
        clocks = fits i 6 h (omega arith);
        started = a.started;
        rows = rows-well t i up (λ s r q b d. row_told t i s r q ((rs.comps i h).each r
            (omega (arith, firsts-climb t i (w.firsts i h) 0 s (omega arith) (omega arith)))
            (omega (arith, firsts-climb t i (w.firsts i h) (suc s) (block_word t i 0) q (omega arith)))));
        ascend = rows-in-order t i up (rs.comps i h).climb;
      }

  well : WellFormed (model_of t)
  well = record {
    some = omega (arith, model-length t, w.some);
    components = omega (arith, model-length t, w.count);
    each = λ i h. let q : i < count_of t = omega (arith, model-length t) in rw (comp-at t i q) (comp-well i q);
    rows =
        let n : suc (count_of t - 1) ≡ count_of t = omega (arith, w.some) in
        omega (arith, laid_end t laid w.some (count_of t - 1) n, (w.firsts (count_of t - 1) (omega (arith, w.some))).last);
    bytes = p.bytes;
  }

  pub tests-image : Image t
  tests-image = laid-image t laid well

pub recognised-image : (t : List ℕ) → is_image t ≡ true → Image t
recognised-image t e = let p = image-parts t e in tests-image t p (blocks-told t p.blocks) (blank-told t p.rest) (rows_told t p.rows p.rest)
