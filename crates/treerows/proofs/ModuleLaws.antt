-- The module of an element by what an action means, and its rows by the words of the actions.
use mathlib.Core.Path.{◌≡◌, refl, ◌∙◌, ap, ap₂}
use mathlib.Core.Option.{Option, none, some}
use mathlib.Core.List.{List, [], ◌∷◌, ◌++◌}
use Prim.Native.Nat.{ℕ, zero, suc, ◌+◌, ◌-◌, ◌/◌, ◌%◌, ◌≤◌, ◌<◌}
use native.Mathlib.Omega.{arith}
use lib.ListN.{length, get_or}
use Rattle.laws.specs.Fold.{spread}
use Rattle.laws.specs.Search.{map_some}
use Rattle.laws.proofs.TabLaws.{spread-append, spread_same}
use Rattle.laws.proofs.GrowLaws.{spread_none}
use Rattle.answer.specs.Limits.{max_actions}
use Rattle.model.specs.Text.{Kind}
use Rattle.model.specs.Model.{Row}
use Rattle.trees.specs.Module.{Move, rows_for, rows_of, all_rows}
use Rattle.trees.specs.Tree.{Sort, be-sort, and-sort, or-sort, pand-sort, rbox-sort, Element, Tree, Meaning, meanings, at, meaning_of}
use Rattle.trees.specs.Modules.{plain_move, of_meaning, be_kind, be_move, be_role, GateRole, gate_kind, gate_role, pand_role, count_move, pand_move, BoxRole}
use Rattle.trees.specs.Modules.{box_kind, box_move, box_role, bound, clockless, be_module, count_module, pand_module, box_module, module_for}
use Rattle.elements.specs.Parts.{meaning_at, states_for, be_move_by, be_kind_by, box_role_by, box_move_by, box_kind_by, move_for, kind_for}
use Rattle.treerows.specs.Rows.{row_by, word_rows, state_rows, element_rows}

-- ---- where there is no kind there is no move
rows-role : {A : Type 0} (o : Option A) (kind : A → Kind) (move : A → Option Move) (s a : ℕ) → rows_for (map_some kind o) (bound o move) s a
    ≡ row_by (bound o move) s a
rows-role none kind move s a = refl
rows-role (some x) kind move s a = go (move x)
  where
    go : (p : Option Move) → rows_for (some (kind x)) p s a ≡ row_by p s a
    go none = refl
    go (some v) = refl

bound_of : {A B : Type 0} (g : Meaning → Option A) (h : A → Option B) (o : Option Meaning) → bound (of_meaning g o) h ≡ bound o (λ x. bound (g x) h)
bound_of g h none = refl
bound_of g h (some x) = refl

map_of : {A B : Type 0} (g : Meaning → Option A) (h : A → B) (o : Option Meaning) → map_some h (of_meaning g o) ≡ bound o (λ x. map_some h (g x))
map_of g h none = refl
map_of g h (some x) = refl

module _ (t : Tree) (k : ℕ) (e : Element) where
  pub module-states : (q : Sort) → (module_for q t k e).states ≡ states_for q e.ins
  unfolding be_module count_module pand_module box_module clockless
  module-states be-sort = refl
  module-states and-sort = refl
  module-states or-sort = refl
  module-states pand-sort = refl
  module-states rbox-sort = refl

  pub module-kind : (q : Sort) (a : ℕ) → (module_for q t k e).kind a ≡ bound (meaning_of t a) (kind_for q e)
  unfolding be_module count_module pand_module box_module clockless be_role be_kind_by box_role box_role_by box_kind_by
  module-kind be-sort a = map_of (be_role e) be_kind (meaning_of t a)
  module-kind and-sort a = map_of (gate_role e) gate_kind (meaning_of t a)
  module-kind or-sort a = map_of (gate_role e) gate_kind (meaning_of t a)
  module-kind pand-sort a = map_of (pand_role e) gate_kind (meaning_of t a)
  module-kind rbox-sort a = map_of (box_role e) box_kind (meaning_of t a)

  module _ (s a : ℕ) where
    abbrev o : Option Meaning
    o = meaning_of t a

    pub module-rows : (q : Sort) → rows_of (module_for q t k e) s a ≡ row_by (bound (meaning_of t a) (move_for q e k s)) s a
    unfolding rows_of be_module count_module pand_module box_module clockless be_role be_move_by box_role box_role_by box_move_by
    module-rows be-sort =
        rows-role (of_meaning (be_role e) o) be_kind (be_move k (s / 3) (s % 3)) s a ∙ ap (λ x. row_by x s a) (bound_of (be_role e) (be_move k (s / 3) (s % 3)) o)
    module-rows and-sort =
        let m : GateRole → Option Move = λ y. map_some plain_move (count_move 2 (s / 6) (s / 3 % 2) (s % 3) y) in
        rows-role (of_meaning (gate_role e) o) gate_kind m s a ∙ ap (λ x. row_by x s a) (bound_of (gate_role e) m o)
    module-rows or-sort =
        let m : GateRole → Option Move = λ y. map_some plain_move (count_move 1 (s / 6) (s / 3 % 2) (s % 3) y) in
        rows-role (of_meaning (gate_role e) o) gate_kind m s a ∙ ap (λ x. row_by x s a) (bound_of (gate_role e) m o)
    module-rows pand-sort =
        let m : GateRole → Option Move = λ y. map_some plain_move (pand_move (s / 10) (s / 5 % 2) (s % 5) y) in
        rows-role (of_meaning (pand_role e) o) gate_kind m s a ∙ ap (λ x. row_by x s a) (bound_of (pand_role e) m o)
    module-rows rbox-sort =
        let m : BoxRole → Option Move = λ y. map_some plain_move (box_move (length e.ins) s y) in
        rows-role (of_meaning (box_role e) o) box_kind m s a ∙ ap (λ x. row_by x s a) (bound_of (box_role e) m o)

-- ---- the words hold the meanings of the tree's actions
pub record Hold (t : Tree) (words : List ℕ) : Type 0 where
  pub few : length (meanings t) ≤ max_actions
  pub means : (a : ℕ) → a < length (meanings t) → meaning_of t a ≡ some (meaning_at (get_or words a 0))

at_none : {A : Type 0} (xs : List A) (n : ℕ) → length xs ≤ n → at xs n ≡ none
unfolding at
at_none [] n h = refl
at_none (x ∷ xs) zero h = absurd (omega arith)
at_none (x ∷ xs) (suc n) h = at_none xs n (omega arith)

module _ (t : Tree) (words : List ℕ) (h : Hold t words) (k : ℕ) (e : Element) where
  no-meaning : (a : ℕ) → length (meanings t) ≤ a → meaning_of t a ≡ none
  unfolding meaning_of
  no-meaning a l = at_none (meanings t) a l

  pub state-rows : (s : ℕ) → spread (rows_of (module_for e.sort t k e) s) 0 max_actions ≡ state_rows words (length (meanings t)) e k s
  unfolding state_rows word_rows
  state-rows s =
      let n = length (meanings t) in
      let g = rows_of (module_for e.sort t k e) s in
      let split : max_actions ≡ n + (max_actions - n) = (let z = h.few in omega (arith, z)) in
      let front : spread g 0 n ≡ spread (word_rows words e k s) 0 n =
      spread_same g (word_rows words e k s) 0 n (λ a p l.
      module-rows t k e s a e.sort ∙ ap (λ o. row_by (bound o (move_for e.sort e k s)) s a) (h.means a (omega (arith, l)))) in
      let none_left : spread g (0 + n) (max_actions - n) ≡ [] =
      spread_same g (λ a. []) (0 + n) (max_actions - n) (λ a p l.
      module-rows t k e s a e.sort ∙ ap (λ o. row_by (bound o (move_for e.sort e k s)) s a) (no-meaning a (omega (arith, p))))
      ∙ spread_none (λ a. []) (0 + n) (max_actions - n) (λ a l. refl) in
      ap (spread g 0) split ∙ spread-append g 0 n (max_actions - n) ∙ ap₂ ◌++◌ front none_left ∙ no_end (spread (word_rows words e k s) 0 n)
    where
      no_end : (xs : List Row) → xs ++ [] ≡ xs
      no_end [] = refl
      no_end (x ∷ xs) = ap (λ l. x ∷ l) (no_end xs)

  -- the rows of the component
  pub element-rows : all_rows (module_for e.sort t k e) ≡ element_rows words (length (meanings t)) e k
  unfolding all_rows element_rows
  element-rows =
      ap (λ n. spread (λ s. spread (rows_of (module_for e.sort t k e) s) 0 max_actions) 0 n) (module-states t k e e.sort)
      ∙ spread_same (λ s. spread (rows_of (module_for e.sort t k e) s) 0 max_actions) (state_rows words (length (meanings t)) e k) 0
      (states_for e.sort e.ins) (λ s p l. state-rows s)
