-- What the tests of the blocks tell (docs/TABLE.md), and back.
use mathlib.Core.Path.{◌≡◌, sym, ◌∙◌}
use mathlib.Core.Logic.{⊎_elim, by_cases}
use mathlib.Core.Bool.{true}
use mathlib.Core.List.{List}
use Prim.Native.Nat.{ℕ, zero, suc, ◌+◌, ◌*◌, ◌-◌, ◌≤◌, ◌<◌}
use native.Mathlib.Omega.{arith}
use native.Mathlib.Decide.{dec_lt}
use lib.ListN.{length, get_or}
use lib.Dec.{eqb, leb}
use borrow.Author.Tests.{eqb-true, eq-eqb, ltb-true, lt-ltb, leb-true, le-leb}
use Rattle.laws.specs.Sets.{has, ◌∪◌, ◌∩◌, ◌⊆◌, Apart}
use Rattle.laws.specs.Fold.{all}
use Rattle.laws.proofs.SetLaws.{has-and, and_in, none_in, or-in-l, or-in-r, in-or, within-true, true-within, has-ext}
use Rattle.laws.proofs.FoldLaws.{all_true, true-all}
use Rattle.laws.proofs.TestLaws.{both_true, true-both, and-not-both, not_so}
use Rattle.answer.specs.Limits.{max_components, max_states, max_rows}
use Rattle.layout.specs.Layout.{head_words, block_words, rows_at, image_words, count_of, block_word, first_of}
use Rattle.layout.specs.Image.{Sane}
use Rattle.blocks.specs.Blocks.{zero_words, sizes_right, apart, sets_right, head_right, end_before, in_order, first_place, firsts_right, blocks_right, Bounded}

-- ---- the sizes
pub record Sizes (t : List ℕ) (i : ℕ) : Type 0 where
  pub some : 1 ≤ block_word t i 0
  pub states : block_word t i 0 ≤ max_states
  pub start : block_word t i 1 < block_word t i 0

pub sizes-told : (t : List ℕ) (i : ℕ) → sizes_right t i ≡ true → Sizes t i
unfolding sizes_right
sizes-told t i e =
    let p = both_true _ _ e in
    let q = both_true _ _ p.1 in
    record {
      some = leb-true 1 (block_word t i 0) p.0;
      states = leb-true (block_word t i 0) max_states q.0;
      start = ltb-true (block_word t i 1) (block_word t i 0) q.1;
    }

pub sizes-so : (t : List ℕ) (i : ℕ) → Sizes t i → sizes_right t i ≡ true
unfolding sizes_right
sizes-so t i w =
    true-both _ _ (le-leb 1 (block_word t i 0) w.some) (true-both _ _ (le-leb (block_word t i 0) max_states w.states)
    (lt-ltb (block_word t i 1) (block_word t i 0) w.start))

-- ---- the sets
apart-told : (s t : ℕ) → apart s t ≡ true → Apart s t
apart-told s t e x p q = none_in x (rw (eqb-true (s ∩ t) 0 e) at (and_in s t x p q))

apart-so : (s t : ℕ) → Apart s t → apart s t ≡ true
apart-so s t w = eq-eqb (s ∩ t) 0 (has-ext (s ∩ t) 0 (λ x. has-and s t x ∙ and-not-both (has s x) (has t x) (w x) ∙ sym (not_so (has 0 x) (none_in x))))

joined-apart : (s t u : ℕ) → Apart s u → Apart t u → Apart (s ∪ t) u
joined-apart s t u p q x m n = ⊎_elim (λ k. p x k n) (λ k. q x k n) (in-or s t x m)

pub record SetsApart (t : List ℕ) (i : ℕ) : Type 0 where
  pub ins-outs : Apart (block_word t i 2) (block_word t i 3)
  pub ins-uins : Apart (block_word t i 2) (block_word t i 4)
  pub ins-uouts : Apart (block_word t i 2) (block_word t i 5)
  pub outs-uins : Apart (block_word t i 3) (block_word t i 4)
  pub outs-uouts : Apart (block_word t i 3) (block_word t i 5)
  pub uins-uouts : Apart (block_word t i 4) (block_word t i 5)
  pub started : block_word t i 7 ⊆ block_word t i 6

module _ (t : List ℕ) (i : ℕ) where
  abbrev ins : ℕ
  ins = block_word t i 2

  abbrev outs : ℕ
  outs = block_word t i 3

  abbrev uins : ℕ
  uins = block_word t i 4

  abbrev uouts : ℕ
  uouts = block_word t i 5

  pub sets-told : sets_right t i ≡ true → SetsApart t i
  unfolding sets_right
  sets-told e =
      let p = both_true (apart ins outs) _ e in
      let q = both_true (apart (ins ∪ outs) uins) _ p.1 in
      let r = both_true (apart (ins ∪ outs ∪ uins) uouts) _ q.1 in
      let b = apart-told (ins ∪ outs) uins q.0 in
      let d = apart-told (ins ∪ outs ∪ uins) uouts r.0 in
      record {
        ins-outs = apart-told ins outs p.0;
        ins-uins = λ x m. b x (or-in-l ins outs x m);
        ins-uouts = λ x m. d x (or-in-l (ins ∪ outs) uins x (or-in-l ins outs x m));
        outs-uins = λ x m. b x (or-in-r ins outs x m);
        outs-uouts = λ x m. d x (or-in-l (ins ∪ outs) uins x (or-in-r ins outs x m));
        uins-uouts = λ x m. d x (or-in-r (ins ∪ outs) uins x m);
        started = within-true (block_word t i 7) (block_word t i 6) r.1;
      }

  pub sets-so : SetsApart t i → sets_right t i ≡ true
  unfolding sets_right
  sets-so w =
      true-both _ _ (apart-so ins outs w.ins-outs)
      (true-both _ _ (apart-so (ins ∪ outs) uins (joined-apart ins outs uins w.ins-uins w.outs-uins))
      (true-both _ _ (apart-so (ins ∪ outs ∪ uins) uouts
      (joined-apart (ins ∪ outs) uins uouts (joined-apart ins outs uouts w.ins-uouts w.outs-uouts) w.uins-uouts))
      (true-within (block_word t i 7) (block_word t i 6) w.started)))

pub head-sizes : (t : List ℕ) (i : ℕ) → head_right t i ≡ true → Sizes t i
unfolding head_right
head-sizes t i e = sizes-told t i (both_true _ _ e).0

pub heads-states : (t : List ℕ) (count : ℕ) → all (head_right t) 0 count ≡ true → (i : ℕ) → i < count → block_word t i 0 ≤ max_states
heads-states t count e i h = (head-sizes t i (all_true (head_right t) 0 count e i (omega arith) h)).states

pub head-sets : (t : List ℕ) (i : ℕ) → head_right t i ≡ true → SetsApart t i
unfolding head_right
head-sets t i e = sets-told t i (both_true _ _ e).1

pub head-so : (t : List ℕ) (i : ℕ) → Sizes t i → SetsApart t i → head_right t i ≡ true
unfolding head_right
head-so t i w v = true-both _ _ (sizes-so t i w) (sets-so t i v)

-- ---- words that are zero
pub zeros-told : (t : List ℕ) (lo hi : ℕ) → zero_words t lo hi ≡ true → (k : ℕ) → lo ≤ k → k < hi → get_or t k 0 ≡ 0
unfolding zero_words
zeros-told t lo hi e k p q = eqb-true (get_or t k 0) 0 (all_true (λ j. eqb (get_or t j 0) 0) lo hi e k p q)

pub zeros-so : (t : List ℕ) (lo hi : ℕ) → ((k : ℕ) → lo ≤ k → k < hi → get_or t k 0 ≡ 0) → zero_words t lo hi ≡ true
unfolding zero_words
zeros-so t lo hi h = true-all (λ j. eqb (get_or t j 0) 0) lo hi (λ k p q. eq-eqb (get_or t k 0) 0 (h k p q))

-- ---- the ranges of the states
pub record Firsts (t : List ℕ) (i : ℕ) : Type 0 where
  pub begin : first_of t i 0 ≡ end_before t i
  pub order : (s : ℕ) → s < block_word t i 0 → first_of t i s ≤ first_of t i (suc s)
  pub last : first_of t i (block_word t i 0) ≤ max_rows
  pub above : (k : ℕ) → first_place i (suc (block_word t i 0)) ≤ k → k < first_place i (suc max_states) → get_or t k 0 ≡ 0

module _ (t : List ℕ) (i : ℕ) where
  pub firsts-told : firsts_right t i ≡ true → Firsts t i
  unfolding firsts_right in_order
  firsts-told e =
      let n = block_word t i 0 in
      let p = both_true (eqb (first_of t i 0) (end_before t i)) _ e in
      let q = both_true (all (in_order t i) 0 n) _ p.1 in
      let r = both_true (leb (first_of t i n) max_rows) _ q.1 in
      record {
        begin = eqb-true (first_of t i 0) (end_before t i) p.0;
        order = λ s h. leb-true (first_of t i s) (first_of t i (suc s)) (all_true (in_order t i) 0 (block_word t i 0) q.0 s (omega arith) h);
        last = leb-true (first_of t i (block_word t i 0)) max_rows r.0;
        above = zeros-told t (first_place i (suc (block_word t i 0))) (first_place i (suc max_states)) r.1;
      }

  pub firsts-so : Firsts t i → firsts_right t i ≡ true
  unfolding firsts_right in_order
  firsts-so w =
      true-both _ _ (eq-eqb (first_of t i 0) (end_before t i) w.begin)
      (true-both _ _ (true-all (in_order t i) 0 (block_word t i 0) (λ s p h. le-leb (first_of t i s) (first_of t i (suc s)) (w.order s h)))
      (true-both _ _ (le-leb (first_of t i (block_word t i 0)) max_rows w.last)
      (zeros-so t (first_place i (suc (block_word t i 0))) (first_place i (suc max_states)) w.above)))

  module _ (w : Firsts t i) where
    climb : (d s u : ℕ) → s + d ≡ u → u ≤ block_word t i 0 → first_of t i s ≤ first_of t i u
    climb zero s u e h = let p : s ≡ u = omega arith in rw p (omega arith)
    climb (suc d) s zero e h = absurd (omega arith)
    climb (suc d) s (suc u) e h = omega (arith, climb d s u (omega arith) (omega arith), w.order u h)

    pub firsts-climb : (s u : ℕ) → s ≤ u → u ≤ block_word t i 0 → first_of t i s ≤ first_of t i u
    firsts-climb s u p q = climb (u - s) s u (omega arith) q

    pub firsts-above : (s : ℕ) → block_word t i 0 < s → s ≤ max_states → first_of t i s ≡ 0
    unfolding first_of block_word
    firsts-above s p q = w.above (first_place i s) (omega arith) (omega arith)

    pub firsts-few : (s : ℕ) → s ≤ max_states → first_of t i s ≤ max_rows
    firsts-few s h =
        by_cases (dec_lt (block_word t i 0) s) (λ p. omega (arith, firsts-above s p h))
        (λ p. omega (arith, firsts-climb s (block_word t i 0) (omega arith) (omega arith), w.last))

-- ---- all blocks
pub record Blocks (t : List ℕ) : Type 0 where
  pub some : 1 ≤ count_of t
  pub count : count_of t ≤ max_components
  pub sizes : (i : ℕ) → i < count_of t → Sizes t i
  pub apart : (i : ℕ) → i < count_of t → SetsApart t i
  pub firsts : (i : ℕ) → i < count_of t → Firsts t i

-- "blocks of components that the model does not have are zero throughout"
abbrev pub Blank : List ℕ → Type 0
Blank t = (k : ℕ) → 1 + block_words * count_of t ≤ k → k < rows_at → get_or t k 0 ≡ 0

module _ (t : List ℕ) where
  pub blocks-told : blocks_right t ≡ true → Blocks t
  unfolding blocks_right
  blocks-told e =
      let p = both_true (leb 1 (count_of t)) _ e in
      let q = both_true (leb (count_of t) max_components) _ p.1 in
      let r = both_true (all (head_right t) 0 (count_of t)) _ q.1 in
      record {
        some = leb-true 1 (count_of t) p.0;
        count = leb-true (count_of t) max_components q.0;
        sizes = λ i h. head-sizes t i (all_true (head_right t) 0 (count_of t) r.0 i (omega arith) h);
        apart = λ i h. head-sets t i (all_true (head_right t) 0 (count_of t) r.0 i (omega arith) h);
        firsts = λ i h. firsts-told t i (all_true (firsts_right t) 0 (count_of t) r.1 i (omega arith) h);
      }

  pub blocks-so : Blocks t → blocks_right t ≡ true
  unfolding blocks_right
  blocks-so w =
      true-both _ _ (le-leb 1 (count_of t) w.some)
      (true-both _ _ (le-leb (count_of t) max_components w.count)
      (true-both _ _ (true-all (head_right t) 0 (count_of t) (λ i p h. head-so t i (w.sizes i h) (w.apart i h)))
      (true-all (firsts_right t) 0 (count_of t) (λ i p h. firsts-so t i (w.firsts i h)))))

  pub blocks-bounded : Blocks t → image_words ≤ length t → Bounded t
  blocks-bounded w long =
      record {
        long = long;
        count = w.count;
        states = λ i h. (w.sizes i h).states;
        firsts = λ i s h q. firsts-few t i (w.firsts i h) s q;
      }

  module _ (blank : Blank t) where
    pub blank-word : (i k : ℕ) → count_of t ≤ i → i < max_components → k < block_words → block_word t i k ≡ 0
    unfolding block_word
    blank-word i k p h q = blank (1 + block_words * i + k) (omega arith) (omega arith)

    pub blank-first : (i s : ℕ) → count_of t ≤ i → i < max_components → s ≤ max_states → first_of t i s ≡ 0
    unfolding first_of
    blank-first i s p h q = blank-word i (head_words + s) p h (omega arith)

    pub bounded-sane : Bounded t → Sane t
    bounded-sane ok =
        record {
          long = ok.long;
          count = ok.count;
          states = λ i h. by_cases (dec_lt i (count_of t)) (ok.states i) (λ p. omega (arith, blank-word i 0 (omega arith) h (omega arith)));
          firsts = λ i s h q. by_cases (dec_lt i (count_of t)) (λ p. ok.firsts i s p q) (λ p. omega (arith, blank-first i s (omega arith) h q));
        }

-- where rows end
pub end-few : (t : List ℕ) → Bounded t → (i : ℕ) → i ≤ count_of t → end_before t i ≤ max_rows
unfolding end_before
end-few t ok zero h = omega arith
end-few t ok (suc i) h = ok.firsts i (block_word t i 0) (omega arith) (ok.states i (omega arith))
