-- The inputs that a state of a table lacks, as a set: its members are the actions without a row, so the cells of a table are those of its model.
use mathlib.Core.Path.{◌≡◌, sym, ◌∙◌, ap}
use mathlib.Core.Bool.{Bool, ◌&&◌, not, cond}
use mathlib.Core.List.{List, [], ◌∷◌}
use Prim.Native.Nat.{ℕ, suc, ◌-◌, ◌<◌}
use native.Mathlib.Omega.{arith}
use native.Mathlib.Decide.{ℕ_discrete}
use lib.ListN.{length}
use lib.Dec.{eqb}
use borrow.Author.Tests.{eq-eqb, ne_eqb}
use Rattle.laws.specs.Sets.{has, ◌∪◌, only}
use Rattle.laws.specs.Search.{seek, when, is_some}
use Rattle.laws.specs.Fold.{spread}
use Rattle.laws.proofs.SetLaws.{has-without, in_one, one_in}
use Rattle.laws.proofs.RangeLaws.{seek-ext, some-map}
use Rattle.laws.proofs.TabLaws.{spread_same}
use Rattle.laws.proofs.TestLaws.{not_so}
use Rattle.laws.proofs.UnionLaws.{has-joined}
use Rattle.answer.specs.Limits.{max_actions}
use Rattle.model.specs.Model.{comp_at}
use Rattle.iosa.specs.Checks.{row_for, lacks_row}
use Rattle.layout.specs.Layout.{count_of, block_word, first_of, action_at}
use Rattle.layout.specs.Image.{comp_of, row_in, model_of}
use Rattle.layout.proofs.Bridge.{row-for}
use Rattle.layout.proofs.ModelOf.{model-length, comp-at}
use Rattle.lacking.specs.Repair.{cell, cell_at, cells_of, added_to}
use Rattle.lacking.specs.Walk.{Out, walked, actions_from, lack_in, lack_of, cell_in, cells_in, cells_by}

pub has-only : (x a : ℕ) → has (only x) a ≡ eqb x a
has-only x a = elim (ℕ_discrete x a) [
  | yes e ↦ rw (eq-eqb x a e, ← e) (in_one x)
  | no e ↦ rw (ne_eqb x a e)
      (not_so (has (only x) a) (λ m. e (sym (one_in x a m))))
]

has-actions : (t : List ℕ) (lo hi a : ℕ) → has (actions_from t lo hi) a ≡ is_some (seek (λ r. when (eqb (action_at t r) a) r) lo hi)
unfolding actions_from
has-actions t lo hi a =
    has-joined (λ r. only (action_at t r)) a lo hi
    ∙ ap is_some (seek-ext (λ r. when (has (only (action_at t r)) a) r) (λ r. when (eqb (action_at t r) a) r) lo hi
    (λ r p q. ap (λ v. when v r) (has-only (action_at t r) a)))

module _ (t : List ℕ) (i s : ℕ) (b : s < block_word t i 0) where
  leaving : (a : ℕ) → has (actions_from t (first_of t i s) (first_of t i (suc s))) a ≡ is_some (row_for (comp_of t i) s a)
  leaving a =
      has-actions t (first_of t i s) (first_of t i (suc s)) a
      ∙ sym (some-map (row_in t s) (seek (λ r. when (eqb (action_at t r) a) r) (first_of t i s) (first_of t i (suc s)))) ∙ ap is_some (sym (row-for t i s b a))

  pub lacks-is : (a : ℕ) → lacks_row (comp_of t i) s a ≡ has (lack_of t i s) a
  unfolding lacks_row lack_of lack_in comp_of
  lacks-is a =
      ap (λ v. has (block_word t i 2 ∪ block_word t i 4) a && not v) (sym (leaving a))
      ∙ sym (has-without (block_word t i 2 ∪ block_word t i 4) (actions_from t (first_of t i s) (first_of t i (suc s))) a)

  cells-in-state : spread (cell_at i (comp_of t i) s) 0 max_actions ≡ cells_in (lack_of t i s) i s
  unfolding cell_at cells_in cell_in
  cells-in-state = spread_same (cell_at i (comp_of t i) s) (cell_in (lack_of t i s) i s) 0 max_actions (λ a p q. ap (λ v. cond v (cell i s a ∷ []) []) (lacks-is a))

cells-of-comp : (t : List ℕ) (i : ℕ) → cells_of i (comp_of t i) ≡ cells_by t i
unfolding cells_of cells_by comp_of
cells-of-comp t i =
    spread_same (λ s. spread (cell_at i (comp_of t i) s) 0 max_actions) (λ s. cells_in (lack_of t i s) i s) 0 (block_word t i 0)
    (λ s p q. cells-in-state t i s (omega arith))

added-to-model : (t : List ℕ) → added_to (model_of t) ≡ spread (cells_by t) 0 (count_of t)
unfolding added_to
added-to-model t =
    spread_same (λ i. cells_of i (comp_at (model_of t) i)) (cells_by t) 0 (length (model_of t)) (λ i p q.
    ap (cells_of i) (comp-at t i (omega (arith, model-length t))) ∙ cells-of-comp t i)
    ∙ ap (spread (cells_by t) 0) (model-length t)

pub by-comps : (write : Bool) (t : List ℕ) (count : ℕ) → count ≡ count_of t → (o : Out)
    → walked write (spread (cells_by t) 0 (count - 0)) o ≡ walked write (added_to (model_of t)) o
by-comps write t count e o = let z : count - 0 ≡ count = omega arith in ap (λ l. walked write l o) (ap (spread (cells_by t) 0) (z ∙ e) ∙ sym (added-to-model t))
