-- The rows and the bytes of the merged model, as they are summed before anything is written.
use mathlib.Core.Path.{◌≡◌, sym, ◌∙◌, ap, ap₂}
use mathlib.Core.Bool.{true, false, ◌&&◌}
use mathlib.Core.List.{List}
use Rattle.std.specs.Prelude.{Some, None}
use Prim.Native.Nat.{ℕ, suc, ◌+◌, ◌*◌, ◌-◌, ◌≤◌, ◌<◌}
use native.Mathlib.Omega.{arith}
use lib.ListN.{length, take, drop, length-append, take-append-drop}
use lib.Dec.{leb}
use borrow.Author.Tests.{leb-true, leb-false, le-leb}
use Rattle.laws.proofs.TestLaws.{and-true, and-false}
use Rattle.laws.proofs.ListLaws.{joined-count}
use Rattle.answer.specs.Limits.{max_states, max_rows, max_bytes}
use Rattle.model.specs.Model.{Comp, Model, no_comp, comp_at, row_count}
use Rattle.model.specs.Text.{comp_text, row_lines, text_of}
use Rattle.merged.specs.Merge.{product_rows, merged, merged_at}
use Rattle.merged.specs.MergedExactly.{FitsIn}
use Rattle.merged.proofs.Merging.Sizes.{merged-byte-count}
use Rattle.layout.specs.Layout.{image_words, count_of, block_word}
use Rattle.layout.specs.Image.{Image, comp_of, model_of}
use Rattle.layout.proofs.ModelOf.{model-length, comp-at}
use Rattle.layout.proofs.RowsOfRange.{well-formed, rows_fit}
use Rattle.measure.proofs.Lines.{comp-by-head}
use Rattle.measure.proofs.Bounds.{head_bytes, bare-most}
use Rattle.product.specs.declared.Tally.{Tally}
use Rattle.product.specs.Walk.{out_of, listed, most_rows, Roomy}
use Rattle.product.proofs.FewRows.{product-few}
use Rattle.product.proofs.WalkLaws.{roomy-by, listed-rows, listed-bytes, listed-dry}
use Rattle.merging.proofs.ImageParts.{row-count-append}
use Rattle.merging.proofs.MergedParts.{merged-rows, merged-count, all-taken}
use Rattle.sizing.specs.Bare.{bare_of}
use Rattle.sizing.specs.Sized.{Sized}

-- ---- the lines beside the rows
bare-few : (c : Comp) → length (comp_text (bare_of c)) ≤ head_bytes
unfolding bare_of
bare-few c = bare-most c.states c.start c.ins c.outs c.uins c.uouts c.clocks

by_bare : (c : Comp) → length (comp_text c) ≡ length (comp_text (bare_of c)) + length (row_lines c.rows)
unfolding bare_of
by_bare c = comp-by-head c

-- the rows behind component j
pub behind-rows : (t : List ℕ) (j count last here : ℕ) → j < count_of t → count ≡ count_of t → last ≡ row_count (take (suc (count - 1)) (model_of t))
    → here ≡ row_count (take (suc j) (model_of t))
    → here + row_count (drop (suc j) (model_of t)) ≡ last
behind-rows t j count last here h ec el eh =
    let m = model_of t in
    omega (arith, all-taken t (suc (count - 1)) (omega arith), ap row_count (take-append-drop (suc j) m), row-count-append (take (suc j) m) (drop (suc j) m))

module _ (t : List ℕ) (im : Image t) (i : ℕ) (h : i + 1 < count_of t) where
  abbrev m : Model
  m = model_of t

  abbrev C : Comp
  C = comp_of t i

  abbrev D : Comp
  D = comp_of t (i + 1)

  here : i < count_of t
  here = omega arith

  below : suc i < count_of t
  below = omega arith

  inside : suc i < length m
  inside = omega (arith, model-length t)

  next : suc i ≡ i + 1
  next = omega arith

  first-is : comp_at m i ≡ C
  first-is = comp-at t i here

  second_is : comp_at m (suc i) ≡ D
  second_is = comp-at t (suc i) below ∙ ap (comp_of t) next

  -- ---- bytes
  -- in place of the two any component may stand
  replaced : (x : Comp) → length (comp_text C) + length (comp_text D) ≤ length (text_of m) + length (comp_text x)
  unfolding text_of
  replaced x =
      omega (
        arith,
        joined-count no_comp x m i inside (λ c. length (comp_text c)) (λ n. length (text_of n)) (λ c cs. length-append (comp_text c) (text_of cs)),
        ap (λ c. length (comp_text c)) first-is,
        ap (λ c. length (comp_text c)) second_is,
      )

  bytes-merged : length (text_of (merged_at m i)) + (length (comp_text C) + length (comp_text D)) ≡ length (text_of m) + length
      (comp_text (bare_of (merged C D))) + length (row_lines (product_rows C D))
  bytes-merged =
      omega (
        arith,
        merged-byte-count m i inside,
        ap (λ c. length (comp_text c)) first-is,
        ap (λ c. length (comp_text c)) second_is,
        ap (λ c. length (comp_text (merged c (comp_at m (suc i))))) first-is,
        ap (λ d. length (comp_text (merged C d))) second_is,
        by_bare (merged C D),
        ap (λ rs. length (row_lines rs)) (merged-rows C D),
      )

  -- what is summed: the whole, the lines of the product beside its rows, and the two that go
  module _ (whole head first second : ℕ) (ew : whole ≡ length (text_of m)) (eh : head ≡ length (comp_text (bare_of (merged C D))))
      (e₁ : first ≡ length (comp_text C)) (e₂ : second ≡ length (comp_text D)) where
    pub sum_low : whole + head ≤ max_bytes + head_bytes
    sum_low = omega (arith, (well-formed t im).bytes, bare-few (merged C D))

    pub sum-high : first + second ≤ whole + head
    sum-high = omega (arith, replaced (bare_of (merged C D)))

    pub bytes-summed : whole + head - first - second + length (row_lines (product_rows C D)) ≡ length (text_of (merged_at m i))
    bytes-summed = omega (arith, bytes-merged, replaced (bare_of (merged C D)))

  bytes-few : (n : ℕ) → n + length (row_lines (product_rows C D)) ≡ length (text_of (merged_at m i)) → n ≤ max_bytes + head_bytes
  bytes-few n e = omega (arith, bytes-merged, (well-formed t im).bytes, bare-few (merged C D))

  -- ---- states
  abbrev pairs : ℕ
  pairs = block_word t i 0 * block_word t (i + 1) 0

  pairs-are : (comp_at m i).states * (comp_at m (suc i)).states ≡ pairs
  unfolding comp_of
  pairs-are = ap (λ c. c.states * (comp_at m (suc i)).states) first-is ∙ ap (λ d. block_word t i 0 * d.states) second_is

  pub many-states : (tall wide : ℕ) → tall ≡ block_word t i 0 → wide ≡ block_word t (i + 1) 0 → max_states < tall * wide
      → Sized t i None
  many-states tall wide et ew b =
      record { fits = λ n e. cc; big = λ _ f. omega (arith, f.states, pairs-are, ap₂ ◌*◌ et ew) }

  -- ---- the walk, where the states are few
  module _ (tall wide : ℕ) (et : tall ≡ block_word t i 0) (ew : wide ≡ block_word t (i + 1) 0) (low : tall * wide ≤ max_states) where
    few : pairs ≤ max_states
    few = omega (arith, ap₂ ◌*◌ et ew)

    product-rows-few : length (product_rows C D) ≤ most_rows
    unfolding comp_of
    product-rows-few = product-few C D (omega (arith, rows_fit t im i here)) (omega (arith, rows_fit t im (i + 1) h)) few

    module _ (bytes : ℕ) (eb : bytes + length (row_lines (product_rows C D)) ≡ length (text_of (merged_at m i))) (l : List ℕ) where
      pub room : image_words ≤ length l → Roomy (listed 0 (product_rows C D) (out_of (record { rows = 0; bytes = bytes }) l))
      room b =
          roomy-by 0 (product_rows C D) (out_of (record { rows = 0; bytes = bytes }) l) (omega (arith, product-rows-few))
          (omega (arith, product-rows-few, bytes-few bytes eb)) b

      module _ (n : Tally) (l' : List ℕ) (e : out_of n l' ≡ listed 0 (product_rows C D) (out_of (record { rows = 0; bytes = bytes }) l)) where
        pub as_lent : l' ≡ l
        as_lent = ap (λ o. o.words) e ∙ listed-dry (product_rows C D) (out_of (record { rows = 0; bytes = bytes }) l)

        rows-now : n.rows ≡ length (product_rows C D)
        rows-now = omega (arith, ap (λ o. o.rows) e, listed-rows 0 (product_rows C D) (out_of (record { rows = 0; bytes = bytes }) l))

        bytes-now : n.bytes ≡ length (text_of (merged_at m i))
        bytes-now = omega (arith, ap (λ o. o.bytes) e, listed-bytes 0 (product_rows C D) (out_of (record { rows = 0; bytes = bytes }) l))

        module _ (start behind : ℕ) (es : start ≡ row_count (take i m)) (eh : behind ≡ row_count (drop (suc (i + 1)) m)) where
          rows-summed : start + n.rows + behind ≡ row_count (merged_at m i)
          rows-summed = omega (arith, rows-now, merged-count t im i (i + 1) (suc (i + 1)) below (sym next) (ap suc (sym next)))

          pub sum-few : start + n.rows + behind ≤ most_rows + 2 * max_rows
          sum-few =
              omega (
                arith,
                rows-now,
                product-rows-few,
                row-count-append (take i m) (drop i m),
                ap row_count (take-append-drop i m),
                row-count-append (take (suc (i + 1)) m) (drop (suc (i + 1)) m),
                ap row_count (take-append-drop (suc (i + 1)) m),
                (well-formed t im).rows,
              )

          fit : (leb (start + n.rows + behind) max_rows && leb n.bytes max_bytes) ≡ true → FitsIn m i
          fit y =
              let p = and-true (leb (start + n.rows + behind) max_rows) (leb n.bytes max_bytes) y in
              record {
                states = omega (arith, pairs-are, few);
                rows = omega (arith, leb-true (start + n.rows + behind) max_rows p.0, rows-summed);
                bytes = omega (arith, leb-true n.bytes max_bytes p.1, bytes-now);
              }

          over : (leb (start + n.rows + behind) max_rows && leb n.bytes max_bytes) ≡ false → FitsIn m i → ⊥
          over y f =
              let z = and-false (leb (start + n.rows + behind) max_rows) (leb n.bytes max_bytes) y
              (le-leb (start + n.rows + behind) max_rows (omega (arith, f.rows, rows-summed))) in
              omega (arith, leb-false n.bytes max_bytes z, f.bytes, bytes-now)

          pub few-states : (leb (start + n.rows + behind) max_rows && leb n.bytes max_bytes) ≡ true → Sized t i (Some (start + n.rows))
          few-states y = record { fits = λ k e. let z : start + n.rows ≡ k = cc in (fit y, omega (arith, rows-now)); big = λ e f. cc }

          pub too-many : (leb (start + n.rows + behind) max_rows && leb n.bytes max_bytes) ≡ false → Sized t i None
          too-many y = record { fits = λ k e. cc; big = λ e f. over y f }
