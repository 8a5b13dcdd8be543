-- The numbers of an element as the code has it are those of the element; and 4 asks whether they are among all.
use mathlib.Core.Path.{◌≡◌, refl, ◌∙◌, ap}
use mathlib.Core.Bool.{Bool, true, false, not, cond}
use mathlib.Core.List.{List, [], ◌∷◌}
use Prim.Native.Nat.{ℕ, suc, ◌+◌, ◌-◌, ◌^◌, ◌≤◌}
use native.Mathlib.Omega.{arith}
use lib.ListN.{length}
use lib.Dec.{ltb}
use Rattle.sets.specs.Members.{word_bits}
use Rattle.answer.specs.Limits.{max_elements, max_inputs}
use Rattle.model.specs.Text.{decimal}
use Rattle.model.specs.Reading.{all_below}
use Rattle.columns.proofs.MemberLaws.{member-all}
use Rattle.trees.specs.Tree.{Sort as TheSort, be-sort, and-sort, or-sort, pand-sort, rbox-sort, Element as TheElement}
use Rattle.trees.specs.TreeText.{sort_word, fewest, at_most_more, numbers_of, out_of_range, some_of, first_bad, behind_line}
use Rattle.trees.specs.TreeFaults.{ElementFits}
use Rattle.treelines.specs.Elements.{sort_is, sort_as, no_inputs, placed_at, with_more, element_is}
use Rattle.treecheck.specs.Numbers.{input_at, ins_in, out_of, all_in, column_in}

-- ---- five places hold what was put there
pub held : (xs : List ℕ) → length xs ≤ max_inputs → ins_in (with_more no_inputs xs) ≡ xs
unfolding ins_in with_more placed_at input_at
held [] h = refl
held (a ∷ []) h = refl
held (a ∷ b ∷ []) h = refl
held (a ∷ b ∷ c ∷ []) h = refl
held (a ∷ b ∷ c ∷ d ∷ []) h = refl
held (a ∷ b ∷ c ∷ d ∷ e ∷ []) h = refl
held (a ∷ b ∷ c ∷ d ∷ e ∷ f ∷ xs) h = absurd (omega arith)

pub held-count : (xs : List ℕ) → length xs ≤ max_inputs → (with_more no_inputs xs).count ≤ max_inputs
unfolding with_more placed_at
held-count [] h = omega arith
held-count (a ∷ []) h = omega arith
held-count (a ∷ b ∷ []) h = omega arith
held-count (a ∷ b ∷ c ∷ []) h = omega arith
held-count (a ∷ b ∷ c ∷ d ∷ []) h = omega arith
held-count (a ∷ b ∷ c ∷ d ∷ e ∷ []) h = omega arith
held-count (a ∷ b ∷ c ∷ d ∷ e ∷ f ∷ xs) h = absurd (omega arith)

most : (s : TheSort) → fewest s + at_most_more s ≤ max_inputs
most be-sort = omega arith
most and-sort = omega arith
most or-sort = omega arith
most pand-sort = omega arith
most rbox-sort = omega arith

pub few-inputs : (e : TheElement) → ElementFits e → length e.ins ≤ max_inputs
few-inputs e f = let a = f.no_more in let b = most e.sort in omega (arith, a, b)

pub sort-there : (s : TheSort) → sort_is (sort_as s) ≡ s
sort-there be-sort = refl
sort-there and-sort = refl
sort-there or-sort = refl
sort-there pand-sort = refl
sort-there rbox-sort = refl

-- ---- tests that agree
pub same-bad : (f g : ℕ → Bool) → ((n : ℕ) → f n ≡ g n) → (k : ℕ) (ns : List ℕ) → first_bad f k ns ≡ first_bad g k ns
unfolding first_bad
same-bad f g h k [] = refl
same-bad f g h k (n ∷ ns) = rw (h n) (ap (cond (g n) k) (same-bad f g h (k + suc (length (decimal n))) ns))

all-below : (xs : List ℕ) → not (some_of (out_of (2 ^ word_bits - 1)) xs) ≡ all_below max_elements xs
unfolding some_of all_below
all-below [] = refl
all-below (x ∷ xs) = go (all-below xs) (ltb x max_elements) refl
  where
    go : not (some_of (out_of (2 ^ word_bits - 1)) xs) ≡ all_below max_elements xs → (b : Bool) → ltb x max_elements ≡ b
        → not (some_of (out_of (2 ^ word_bits - 1)) (x ∷ xs)) ≡ all_below max_elements (x ∷ xs)
    go ih true q = rw (member-all x, some_of) (rw (q, all_below) ih)
    go ih false q = rw (member-all x, some_of) (rw (q, all_below))

module _ (e : TheElement) (f : ElementFits e) where
  pub range-asked : not (all_in (element_is e) (2 ^ word_bits - 1)) ≡ out_of_range e
  unfolding all_in out_of_range
  range-asked =
      ap (λ l. not (not (some_of (out_of (2 ^ word_bits - 1)) (e.number ∷ l)))) (held e.ins (few-inputs e f))
      ∙ ap not (all-below (numbers_of e))

  pub range-column : column_in (element_is e) (2 ^ word_bits - 1) ∷ [] ≡ behind_line 4 e
  unfolding column_in behind_line
  range-column =
      ap (λ n. n ∷ [])
      (ap (λ l. first_bad (out_of (2 ^ word_bits - 1)) (length (sort_word (sort_is (sort_as e.sort))) + 2) (e.number ∷ l)) (held e.ins (few-inputs e f))
      ∙ ap (λ s. first_bad (out_of (2 ^ word_bits - 1)) (length (sort_word s) + 2) (numbers_of e)) (sort-there e.sort)
      ∙ same-bad (out_of (2 ^ word_bits - 1)) (λ n. not (ltb n max_elements)) (λ n. ap not (member-all n)) (length (sort_word e.sort) + 2) (numbers_of e))
