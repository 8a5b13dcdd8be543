-- What the tests of the rows tell, and back.
use mathlib.Core.Path.{◌≡◌}
use mathlib.Core.Bool.{Bool, true}
use mathlib.Core.List.{List}
use Prim.Native.Nat.{ℕ, suc, ◌+◌, ◌*◌, ◌-◌, ◌≤◌, ◌<◌}
use native.Mathlib.Omega.{arith}
use lib.ListN.{get_or}
use borrow.Author.Tests.{ltb-true, lt-ltb}
use Rattle.laws.specs.Sets.{has, within}
use Rattle.laws.specs.Fold.{all}
use Rattle.laws.proofs.SetLaws.{within-true, true-within}
use Rattle.laws.proofs.FoldLaws.{all_true, true-all}
use Rattle.laws.proofs.TestLaws.{both_true, true-both}
use Rattle.model.specs.Model.{acts, guard_set}
use Rattle.model.specs.WellFormed.{before, WellRow}
use Rattle.layout.specs.Layout.{block_words, row_words, rows_at, image_words, count_of, block_word, first_of, action_at, guard_at, resets_at, target_at}
use Rattle.layout.specs.Image.{row_in, comp_of}
use Rattle.blocks.specs.Blocks.{zero_words, end_before}
use Rattle.blocks.proofs.BlockFacts.{zeros-told, zeros-so, Blank}
use Rattle.table.specs.Rows.{row_right, climbs, state_climbs, comp_rows_right, rows_right, rest_zero}

module _ (t : List ℕ) (i : ℕ) where
  -- a row of component i
  abbrev pub is_row : ℕ → Bool
  is_row r = row_right t (acts (comp_of t i)) (block_word t i 6) (block_word t i 0) r

  pub row_told : (s r : ℕ) → s < block_word t i 0 → is_row r ≡ true → WellRow (comp_of t i) (row_in t s r)
  unfolding row_right comp_of
  row_told s r h e =
      let p = both_true (has (acts (comp_of t i)) (action_at t r)) _ e in
      let q = both_true (within (guard_set (guard_at t r)) (block_word t i 6)) _ p.1 in
      let u = both_true (within (resets_at t r) (block_word t i 6)) _ q.1 in
      record {
        from = h;
        guard = within-true (guard_set (guard_at t r)) (block_word t i 6) q.0;
        action = p.0;
        resets = within-true (resets_at t r) (block_word t i 6) u.0;
        target = ltb-true (target_at t r) (block_word t i 0) u.1;
      }

  pub row-so : (s r : ℕ) → WellRow (comp_of t i) (row_in t s r) → is_row r ≡ true
  unfolding row_right comp_of
  row-so s r w =
      true-both _ _ w.action
      (true-both _ _ (true-within (guard_set (guard_at t r)) (block_word t i 6) w.guard)
      (true-both _ _ (true-within (resets_at t r) (block_word t i 6) w.resets) (lt-ltb (target_at t r) (block_word t i 0) w.target)))

  pub record CompRows : Type 0 where
    pub each : (r : ℕ) → first_of t i 0 ≤ r → r < first_of t i (block_word t i 0) → is_row r ≡ true
    pub climb : (s r : ℕ) → s < block_word t i 0 → first_of t i s ≤ r → suc r < first_of t i (suc s) → before (row_in t s r) (row_in t s (suc r)) ≡ true

  pub comp-rows-told : comp_rows_right t i ≡ true → CompRows
  unfolding comp_rows_right state_climbs climbs
  comp-rows-told e =
      let p = both_true (all is_row (first_of t i 0) (first_of t i (block_word t i 0))) (all (state_climbs t i) 0 (block_word t i 0)) e in
      record {
        each = all_true is_row (first_of t i 0) (first_of t i (block_word t i 0)) p.0;
        climb =
            λ s r h a b. all_true (climbs t s) (first_of t i s) (first_of t i (suc s) - 1) (all_true (state_climbs t i) 0 (block_word t i 0) p.1 s
            (omega arith) h) r a (omega arith);
      }

  pub comp-rows-so : CompRows → comp_rows_right t i ≡ true
  unfolding comp_rows_right state_climbs climbs
  comp-rows-so w =
      true-both _ _ (true-all is_row (first_of t i 0) (first_of t i (block_word t i 0)) w.each)
      (true-all (state_climbs t i) 0 (block_word t i 0) (λ s a h. true-all (climbs t s) (first_of t i s) (first_of t i (suc s) - 1)
      (λ r p q. w.climb s r h p (omega arith))))

module _ (t : List ℕ) where
  pub record AllRows : Type 0 where
    pub comps : (i : ℕ) → i < count_of t → CompRows t i
    pub tail : (k : ℕ) → rows_at + row_words * end_before t (count_of t) ≤ k → k < image_words → get_or t k 0 ≡ 0

  pub blank-told : rest_zero t ≡ true → Blank t
  unfolding rest_zero
  blank-told e = zeros-told t (1 + block_words * count_of t) rows_at (both_true (zero_words t (1 + block_words * count_of t) rows_at) _ e).0

  pub rows_told : rows_right t ≡ true → rest_zero t ≡ true → AllRows
  unfolding rows_right rest_zero
  rows_told e f =
      record {
        comps = λ i h. comp-rows-told t i (all_true (comp_rows_right t) 0 (count_of t) e i (omega arith) h);
        tail = zeros-told t (rows_at + row_words * end_before t (count_of t)) image_words (both_true (zero_words t (1 + block_words * count_of t) rows_at) _ f).1;
      }

  pub rows-so : AllRows → rows_right t ≡ true
  unfolding rows_right
  rows-so w = true-all (comp_rows_right t) 0 (count_of t) (λ i p h. comp-rows-so t i (w.comps i h))

  pub rest-so : Blank t → AllRows → rest_zero t ≡ true
  unfolding rest_zero
  rest-so blank w =
      true-both _ _ (zeros-so t (1 + block_words * count_of t) rows_at blank) (zeros-so t (rows_at + row_words * end_before t (count_of t)) image_words w.tail)
