-- An element's numbers, one after the other: what is asked of those from here on is what is asked of all.
use mathlib.Core.Path.{◌≡◌, refl, sym, ◌∙◌, ap}
use mathlib.Core.Bool.{Bool, true, false, not}
use mathlib.Core.List.{List, [], ◌∷◌}
use Prim.Native.Nat.{ℕ, suc, ◌+◌, ◌*◌, ◌-◌, ◌≤◌, ◌<◌}
use native.Mathlib.Omega.{arith}
use lib.ListN.{length}
use borrow.Author.Tests.{eq-eqb, ne_eqb}
use Rattle.laws.specs.Fold.{tab}
use Rattle.laws.proofs.TabLaws.{tab-next, tab-done}
use Rattle.model.specs.Text.{decimal}
use Rattle.columns.specs.Columns.{member_of}
use Rattle.measure.proofs.Fields.{width-most}
use Rattle.trees.specs.TreeText.{sort_word, some_of, first_bad}
use Rattle.treelines.specs.Elements.{sort_is}
use Rattle.treelines.specs.declared.Sort.{Sort}
use Rattle.treelines.specs.declared.Sort.TheVariants as OfSort
use Rattle.treelines.specs.declared.Inputs.{Inputs}
use Rattle.treelines.specs.declared.Element.{Element}
use Rattle.treecheck.specs.Numbers.{input_at, ins_in, out_of, all_in, column_in}

-- ---- a place
module _ (i : Inputs) (k : ℕ) where
  pub at-0 : k ≡ 0 → i.first ≡ input_at i k
  unfolding input_at
  at-0 h = rw (eq-eqb k 0 h)

  pub at_1 : ¬ (k ≡ 0) → k ≡ 1 → i.second ≡ input_at i k
  unfolding input_at
  at_1 a h = rw (ne_eqb k 0 a, eq-eqb k 1 h)

  pub at-2 : ¬ (k ≡ 0) → ¬ (k ≡ 1) → k ≡ 2 → i.third ≡ input_at i k
  unfolding input_at
  at-2 a b h = rw (ne_eqb k 0 a, ne_eqb k 1 b, eq-eqb k 2 h)

  pub at-3 : ¬ (k ≡ 0) → ¬ (k ≡ 1) → ¬ (k ≡ 2) → k ≡ 3 → i.fourth ≡ input_at i k
  unfolding input_at
  at-3 a b c h = rw (ne_eqb k 0 a, ne_eqb k 1 b, ne_eqb k 2 c, eq-eqb k 3 h)

  pub at-4 : ¬ (k ≡ 0) → ¬ (k ≡ 1) → ¬ (k ≡ 2) → ¬ (k ≡ 3) → i.fifth ≡ input_at i k
  unfolding input_at
  at-4 a b c d = rw (ne_eqb k 0 a, ne_eqb k 1 b, ne_eqb k 2 c, ne_eqb k 3 d)

-- ---- one number of a list
some_out : (s x : ℕ) (xs : List ℕ) → member_of s x ≡ false → some_of (out_of s) (x ∷ xs) ≡ true
unfolding some_of
some_out s x xs h = rw (h, some_of)

some-on : (s x : ℕ) (xs : List ℕ) → member_of s x ≡ true → some_of (out_of s) (x ∷ xs) ≡ some_of (out_of s) xs
unfolding some_of
some-on s x xs h = rw (h, some_of)

some_end : (s : ℕ) → some_of (out_of s) [] ≡ false
unfolding some_of
some_end s = refl

bad-out : (s k x : ℕ) (xs : List ℕ) → member_of s x ≡ false → first_bad (out_of s) k (x ∷ xs) ≡ k
unfolding first_bad
bad-out s k x xs h = rw (h, first_bad)

bad-on : (s k x : ℕ) (xs : List ℕ) → member_of s x ≡ true → first_bad (out_of s) k (x ∷ xs) ≡ first_bad (out_of s) (k + suc (length (decimal x))) xs
unfolding first_bad
bad-on s k x xs h = rw (h, first_bad)

bad-end : (s k : ℕ) → first_bad (out_of s) k [] ≡ k
unfolding first_bad
bad-end s k = refl

-- ---- the loops: j of the inputs are looked at
module _ (s : ℕ) (i : Inputs) (count : ℕ) where
  abbrev pub left : ℕ → List ℕ
  left j = tab (input_at i) j (count - j)

  abbrev pub every : List ℕ
  every = tab (input_at i) 0 count

  all_left : left 0 ≡ every
  all_left = ap (tab (input_at i) 0) (let z : count - 0 ≡ count = omega arith in z)

  next : (j x : ℕ) → j < count → x ≡ input_at i j → left j ≡ x ∷ left (j + 1)
  next j x h q = tab-next (input_at i) j count h ∙ ap {B = List ℕ} (λ y. y ∷ left (j + 1)) (sym q)

  -- all of them are members
  pub record Asked (j : ℕ) : Type 0 where
    pub turns : j ≤ count
    pub same : some_of (out_of s) (left j) ≡ some_of (out_of s) every

  pub asked-begins : Asked 0
  asked-begins = record { turns = omega arith; same = ap (some_of (out_of s)) all_left }

  module _ (j : ℕ) (a : Asked j) where
    pub asked-done : count ≤ j → some_of (out_of s) every ≡ false
    asked-done h = sym a.same ∙ ap (some_of (out_of s)) (tab-done (input_at i) j count h) ∙ some_end s

    module _ (h : j < count) (x : ℕ) (q : x ≡ input_at i j) where
      pub asked-out : member_of s x ≡ false → some_of (out_of s) every ≡ true
      asked-out m = sym a.same ∙ ap (some_of (out_of s)) (next j x h q) ∙ some_out s x (left (j + 1)) m

      pub asked-on : member_of s x ≡ true → Asked (j + 1)
      asked-on m = record { turns = omega arith; same = sym (some-on s x (left (j + 1)) m) ∙ ap (some_of (out_of s)) (sym (next j x h q)) ∙ a.same }

  -- the column of the first that is not
  pub record Sought (k₀ k j : ℕ) : Type 0 where
    pub turns : j ≤ count
    pub small : k ≤ k₀ + 6 * j
    pub same : first_bad (out_of s) k (left j) ≡ first_bad (out_of s) k₀ every

  pub sought-begins : (k : ℕ) → Sought k k 0
  sought-begins k = record { turns = omega arith; small = omega arith; same = ap (first_bad (out_of s) k) all_left }

  module _ (k₀ k j : ℕ) (a : Sought k₀ k j) where
    pub sought-done : count ≤ j → k ≡ first_bad (out_of s) k₀ every
    sought-done h = sym (ap (first_bad (out_of s) k) (tab-done (input_at i) j count h) ∙ bad-end s k) ∙ a.same

    module _ (h : j < count) (x : ℕ) (q : x ≡ input_at i j) where
      pub sought-here : member_of s x ≡ false → k ≡ first_bad (out_of s) k₀ every
      sought-here m = sym (ap (first_bad (out_of s) k) (next j x h q) ∙ bad-out s k x (left (j + 1)) m) ∙ a.same

      pub sought-on : (d : ℕ) → d ≡ length (decimal x) → member_of s x ≡ true → Sought k₀ (k + 1 + d) (j + 1)
      sought-on d v m =
          let n = width-most x in
          let b = a.small in
          let z : k + 1 + d ≡ k + suc (length (decimal x)) = omega (arith, v) in
          record {
            turns = omega arith;
            small = omega (arith, v, n, b);
            same =
                ap (λ l. first_bad (out_of s) l (left (j + 1))) z ∙ sym (bad-on s k x (left (j + 1)) m) ∙ ap (first_bad (out_of s) k) (sym (next j x h q))
                ∙ a.same;
          }

-- ---- an element's own number, then its inputs
pub word-most : (s : Sort) → length (sort_word (sort_is s)) ≤ 4
word-most OfSort.Be = omega arith
word-most OfSort.And = omega arith
word-most OfSort.Or = omega arith
word-most OfSort.Pand = omega arith
word-most OfSort.Rbox = omega arith

module _ (e : Element) (s : ℕ) where
  pub own_out : member_of s e.number ≡ false → false ≡ all_in e s
  unfolding all_in
  own_out h = sym (ap not (some_out s e.number (ins_in e.inputs) h))

  pub own_in : (b : Bool) → member_of s e.number ≡ true → some_of (out_of s) (every s e.inputs e.inputs.count) ≡ b → not b ≡ all_in e s
  unfolding all_in ins_in
  own_in b h q = sym (ap not (some-on s e.number (tab (input_at e.inputs) 0 e.inputs.count) h ∙ q))

  pub own-column : (w : ℕ) → w ≡ length (sort_word (sort_is e.sort)) → member_of s e.number ≡ false → w + 2 ≡ column_in e s
  unfolding column_in
  own-column w q h = ap (λ n. n + 2) q ∙ sym (bad-out s (length (sort_word (sort_is e.sort)) + 2) e.number (ins_in e.inputs) h)

  pub own-wide : (w d k : ℕ) → w ≡ length (sort_word (sort_is e.sort)) → d ≡ length (decimal e.number) → member_of s e.number ≡ true
      → k ≡ first_bad (out_of s) (w + 2 + 1 + d) (every s e.inputs e.inputs.count) → k ≡ column_in e s
  unfolding column_in ins_in
  own-wide w d k q v h f =
      let L = length (sort_word (sort_is e.sort)) in
      let z : w + 2 + 1 + d ≡ L + 2 + suc (length (decimal e.number)) = omega (arith, q, v) in
      f ∙ ap (λ n. first_bad (out_of s) n (tab (input_at e.inputs) 0 e.inputs.count)) z
      ∙ sym (bad-on s (L + 2) e.number (tab (input_at e.inputs) 0 e.inputs.count) h)
