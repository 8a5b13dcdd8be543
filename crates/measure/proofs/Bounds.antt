-- How long the text of a sane table can be: no sum of lengths comes near the machine's limit.
use mathlib.Core.Path.{◌≡◌, sym}
use mathlib.Core.List.{List}
use Prim.Native.Nat.{ℕ, zero, suc, ◌+◌, ◌*◌, ◌-◌, ◌≤◌, ◌<◌}
use native.Mathlib.Numerals.{add-one}
use native.Mathlib.Omega.{arith}
use lib.ListN.{length}
use Rattle.laws.specs.Fold.{tab, spread}
use Rattle.laws.specs.Sets.{◌∪◌, ◌∖◌}
use Rattle.laws.proofs.FoldLaws.{tab-length}
use Rattle.laws.proofs.TabLaws.{spread-length, sum-at-most}
use Rattle.answer.specs.Limits.{max_states, max_rows, max_components}
use Rattle.model.specs.Text.{row_lines, comp_text, text_of}
use Rattle.layout.specs.Layout.{count_of, block_word, first_of}
use Rattle.layout.specs.Image.{row_in, rows_leaving, comp_of, model_of, Sane}
use Rattle.measure.specs.Measure.{bare}
use Rattle.measure.proofs.Fields.{width-most, members-most}
use Rattle.measure.proofs.Lines.{rows-most, bare-width, comp-by-head, text-more, no_text}

-- bytes of a component beside its rows
abbrev pub head_bytes : ℕ
head_bytes = 5000

-- bytes of a component
abbrev pub comp_bytes : ℕ
comp_bytes = head_bytes + 512 * (max_rows * max_states)

pub bare-most : (states start ins outs uins uouts clocks : ℕ) → length (comp_text (bare states start ins outs uins uouts clocks)) ≤ head_bytes
bare-most states start ins outs uins uouts clocks =
    omega (
      arith,
      bare-width states start ins outs uins uouts clocks,
      width-most states,
      width-most start,
      members-most ins 8,
      members-most (outs ∖ ins) 9,
      members-most (uins ∖ (ins ∪ outs)) 9,
      members-most (uouts ∖ (ins ∪ outs ∪ uins)) 10,
      members-most clocks 7,
    )

module _ (t : List ℕ) (ok : Sane t) where
  pub leaving-most : (i s : ℕ) → i < max_components → s < max_states → length (rows_leaving t i s) ≤ max_rows
  unfolding rows_leaving
  leaving-most i s h k = omega (arith, tab-length (row_in t s) (first_of t i s) (first_of t i (suc s) - first_of t i s), ok.firsts i (suc s) h k)

  pub rows_few : (i : ℕ) → i < max_components → length (comp_of t i).rows ≤ max_rows * max_states
  unfolding comp_of
  rows_few i h =
      omega (
        arith,
        spread-length (rows_leaving t i) 0 (block_word t i 0),
        sum-at-most (λ s. length (rows_leaving t i s)) max_rows 0 (block_word t i 0) (λ s p q. leaving-most i s h (omega (arith, ok.states i h))),
        ok.states i h,
      )

  pub comp-most : (i : ℕ) → i < max_components → length (comp_text (comp_of t i)) ≤ comp_bytes
  comp-most i h =
      let c = comp_of t i in
      omega (arith, comp-by-head c, bare-most c.states c.start c.ins c.outs c.uins c.uouts c.clocks, rows-most c.rows, rows_few i h)

  pub comps-most : (k n : ℕ) → k + n ≤ max_components → length (text_of (tab (comp_of t) k n)) ≤ comp_bytes * n
  comps-most k zero h = omega (arith, no_text)
  comps-most k (suc n) h = omega (arith, text-more (comp_of t k) (tab (comp_of t) (suc k) n), comp-most k (omega arith), comps-most (suc k) n (omega arith))

  pub text-most : length (text_of (model_of t)) ≤ comp_bytes * max_components
  unfolding model_of
  text-most = omega (arith, comps-most 0 (count_of t) (omega (arith, ok.count)), ok.count)

pub leaving-is : (t : List ℕ) (i s lo hi : ℕ) → lo ≡ first_of t i s → hi ≡ first_of t i (s + 1) → length (row_lines (tab (row_in t s) lo (hi - lo)))
    ≡ length (row_lines (rows_leaving t i s))
unfolding rows_leaving
leaving-is t i s lo hi p q = rw (p, q, add-one)

pub all-leaving : (t : List ℕ) (i states : ℕ) → states ≡ block_word t i 0 → length (row_lines (spread (rows_leaving t i) 0 (states - 0)))
    ≡ length (row_lines (comp_of t i).rows)
unfolding comp_of
all-leaving t i states p = let e : states - 0 ≡ block_word t i 0 = omega arith in rw e

pub all-comps : (t : List ℕ) (count : ℕ) → count ≡ count_of t → length (text_of (tab (comp_of t) 0 (count - 0))) ≡ length (text_of (model_of t))
unfolding model_of
all-comps t count p = let e : count - 0 ≡ count_of t = omega arith in rw e

pub comp-counted : (t : List ℕ) (i p q ins outs uins uouts r n m : ℕ)
    → p ≡ block_word t i 0 → q ≡ block_word t i 1 → ins ≡ block_word t i 2 → outs ≡ block_word t i 3 → uins ≡ block_word t i 4 → uouts ≡ block_word t i 5
    → r ≡ block_word t i 6
    → n ≡ length (comp_text (bare p q ins outs uins uouts r)) → m ≡ length (row_lines (comp_of t i).rows) → n + m ≡ length (comp_text (comp_of t i))
unfolding comp_of
comp-counted t i p q ins outs uins uouts r n m hp hq hi ho hu hv hr hn hm = rw (hn, hm, hp, hq, hi, ho, hu, hv, hr) (sym (comp-by-head (comp_of t i)))
