-- A row at a time: what a walk emits, and the room that is left.
use mathlib.Core.Path.{◌≡◌, sym, ◌∙◌, ap}
use mathlib.Core.Option.{Option, none, some}
use mathlib.Core.List.{List, [], ◌∷◌}
use Prim.Native.Nat.{ℕ, suc, ◌+◌, ◌*◌, ◌≤◌, ◌<◌}
use native.Mathlib.Omega.{arith}
use native.Mathlib.Decide.{ℕ_discrete}
use lib.ListN.{length, get_or}
use lib.Pow.{pow-lt}
use Rattle.laws.specs.Fold.{spread}
use Rattle.laws.proofs.TabLaws.{spread-length, sum-at-most}
use Rattle.answer.specs.Limits.{max_elements, max_inputs}
use Rattle.model.specs.Model.{Row}
use Rattle.model.specs.Text.{row_line}
use Rattle.measure.proofs.Lines.{row-most, rows-most}
use Rattle.product.specs.declared.Tally.{Tally}
use Rattle.product.specs.Walk.{Out, out_of, written, one_more, listed}
use Rattle.product.proofs.WalkLaws.{listed-one, listed-none, listed-rows, listed-bytes, listed-long}
use Rattle.trees.specs.Module.{Move as TheMove}
use Rattle.trees.specs.Tree.{Sort, be-sort, and-sort, or-sort, pand-sort, rbox-sort, Element as TheElement}
use Rattle.treelines.specs.declared.Element.{Element}
use Rattle.treelines.specs.Elements.{sort_is}
use Rattle.treecheck.specs.Numbers.{ins_in}
use Rattle.std.specs.Prelude.{Option as Answered, Some, None}
use Rattle.roles.specs.declared.Move.{Move}
use Rattle.roles.specs.Roles.{move_is}
use Rattle.elements.specs.Parts.{meaning_at, element_of, Fit, states_for, states_by, move_by}
use Rattle.elements.proofs.PartLaws.{ins-length}
use Rattle.treerows.specs.Rows.{row_by, word_rows, state_rows, Room}

-- ---- room
pub room_after : (limit k r : ℕ) (rs : List Row) (o : Out) → length rs ≤ k → Room limit (k + r) o → Room limit r (listed limit rs o)
room_after limit k r rs o h m = record {
  rows = omega (arith, listed-rows limit rs o, h, m.rows);
  bytes = omega (arith, listed-bytes limit rs o, rows-most rs, h, m.bytes);
  long = λ p. omega (arith, listed-long limit rs o, m.long p);
}

pub room-less : (limit a b : ℕ) (o : Out) → b ≤ a → Room limit a o → Room limit b o
room-less limit a b o h m = record { rows = omega (arith, h, m.rows); bytes = omega (arith, h, m.bytes); long = m.long }

-- ---- one row
abbrev the_row : Move → ℕ → ℕ → Row
the_row m s a = record { from = s; guard = m.guard; action = a; resets = m.resets; target = m.target }

row-few : (o : Option TheMove) (s a : ℕ) → length (row_by o s a) ≤ 1
row-few none s a = omega arith
row-few (some v) s a = omega arith

module _ (r : Answered Move) (o : Option TheMove) (e : move_is r ≡ o) (s a limit : ℕ) (n : Tally) (l : List ℕ) where
  pub emitted : (m : Move) → r ≡ Some m → (l' : List ℕ) (w : ℕ) → l' ≡ written limit n.rows (a ∷ m.guard ∷ m.resets ∷ m.target ∷ []) l
      → w ≡ length (row_line (the_row m s a))
      → out_of (record { rows = n.rows + 1; bytes = n.bytes + w }) l' ≡ listed limit (row_by o s a) (out_of n l)
  unfolding one_more
  emitted m h l' w el ew = one ∙ sym (listed-one limit (the_row m s a) (out_of n l)) ∙ ap (λ rs. listed limit rs (out_of n l)) there
    where
      one : out_of (record { rows = n.rows + 1; bytes = n.bytes + w }) l' ≡ one_more limit (the_row m s a) (out_of n l)
      one = rw (el, ew)

      there : the_row m s a ∷ [] ≡ row_by o s a
      there = ap (λ x. row_by x s a) (sym (ap move_is h) ∙ e)

  pub passed : r ≡ None → out_of n l ≡ listed limit (row_by o s a) (out_of n l)
  passed h = sym (listed-none limit (out_of n l)) ∙ ap (λ rs. listed limit rs (out_of n l)) (ap (λ x. row_by x s a) (sym (ap move_is h) ∙ e))

pub line-few : (r : Row) (w : ℕ) → w ≡ length (row_line r) → w ≤ 512
line-few r w e = omega (arith, e, row-most r)

-- ---- the rows of a state
pub word-few : (words : List ℕ) (e : TheElement) (k s a : ℕ) → length (word_rows words e k s a) ≤ 1
unfolding word_rows
word-few words e k s a = row-few (move_by e k s (meaning_at (get_or words a 0))) s a

spread-few : (g : ℕ → List Row) (b k n : ℕ) → ((j : ℕ) → length (g j) ≤ b) → length (spread g k n) ≤ b * n
spread-few g b k n h = omega (arith, spread-length g k n, sum-at-most (λ j. length (g j)) b k n (λ j p q. h j))

pub state-few : (words : List ℕ) (count : ℕ) (e : TheElement) (k s : ℕ) → length (state_rows words count e k s) ≤ count
unfolding state_rows
state-few words count e k s = let h = spread-few (word_rows words e k s) 1 0 count (word-few words e k s) in omega (arith, h)

-- ---- no module has more than 64 states
states-few : (q : Sort) (xs : List ℕ) → length xs ≤ max_inputs → states_for q xs ≤ max_elements
states-few be-sort xs h = omega arith
states-few and-sort xs h = omega arith
states-few or-sort xs h = omega arith
states-few pand-sort xs h = omega arith
states-few rbox-sort xs h =
    elim (ℕ_discrete (length xs) 5) [
      | yes e ↦ rw e (omega arith)
      | no e ↦ (let p : suc (length xs) < 6 = omega (arith, h, e) in omega (arith, pow-lt p))
    ]

pub states-low : (e : Element) → Fit e → states_by (element_of e) ≤ max_elements
states-low e q = states-few (sort_is e.sort) (ins_in e.inputs) (let z = ins-length e.inputs in omega (arith, z, q.few))
