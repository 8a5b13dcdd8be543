-- The rows and the bytes of a repaired model: those of the model, and those of the rows that were added.
use mathlib.Core.Path.{◌≡◌, refl, sym, ◌∙◌, ap}
use mathlib.Core.Bool.{Bool, true, false, cond}
use mathlib.Core.List.{List, [], ◌∷◌, ◌++◌, Memᴰ as In}
use Prim.Native.Nat.{ℕ, zero, suc, ◌+◌, ◌≤◌, ◌<◌}
use native.Mathlib.Omega.{arith}
use lib.ListN.{length, length-append}
use Rattle.laws.specs.Fold.{tab, spread}
use Rattle.laws.proofs.ListLaws.{at_in, in-spread, spread-in, pairwise-spread}
use Rattle.answer.specs.Limits.{max_actions}
use Rattle.model.specs.Model.{Row, Comp, Model, no_row, comp_at, row_count}
use Rattle.model.specs.Text.{row_lines, comp_text, text_of}
use Rattle.model.specs.WellFormed.{WellComp, WellFormed}
use Rattle.iosa.specs.Checks.{lacks_row}
use Rattle.merged.specs.Merge.{rows_by}
use Rattle.iosa.proofs.Acceptance.Rows.{act-below}
use Rattle.merged.proofs.Merging.Rows.{rows-by-in, in-rows-by}
use Rattle.merged.proofs.Merging.Ascend.{Before, Ascending, by-from, rows-ascending, rows-by-ascend}
use Rattle.measure.proofs.Lines.{rows_more, rows_append, no_rows, comp-by-head, text-more}
use Rattle.lacking.specs.Repair.{loop_at, missing_at, repaired_at, repaired, repaired_of, cell, cell_at, cells_of, added_to}
use Rattle.lacking.specs.Walk.{width_of}
use Rattle.lacking.proofs.RepairedRows.{by-action, same_rows}
use Rattle.lacking.proofs.RepairedModels.{model-tab, repaired-tab}

abbrev pub widths : List (List ℕ) → ℕ
widths [] = 0
widths (x ∷ xs) = width_of x + widths xs

widths-append : (xs ys : List (List ℕ)) → widths (xs ++ ys) ≡ widths xs + widths ys
widths-append [] ys = omega arith
widths-append (x ∷ xs) ys = omega (arith, widths-append xs ys)

-- a measure of rows and one of cells, each of a list the sum over its parts
record Measure (μ : List Row → ℕ) (ν : List (List ℕ) → ℕ) : Type 0 where
  none : μ [] ≡ 0
  nothing : ν [] ≡ 0
  rows : (xs ys : List Row) → μ (xs ++ ys) ≡ μ xs + μ ys
  cells : (xs ys : List (List ℕ)) → ν (xs ++ ys) ≡ ν xs + ν ys
  one : (i s a : ℕ) → μ (loop_at s a ∷ []) ≡ ν (cell i s a ∷ [])

-- the rows of a component, state by state and action by action
by-cells : (c : Comp) → WellComp c → spread (λ s. spread (rows_by c.rows s) 0 max_actions) 0 c.states ≡ c.rows
by-cells c w = same_rows (spread (λ s. spread (rows_by c.rows s) 0 max_actions) 0 c.states) c.rows up (rows-ascending c w) there-to back
  where
    state-from : (s : ℕ) {x : Row} → In x (spread (rows_by c.rows s) 0 max_actions) → x.from ≡ s
    state-from s m = let p = spread-in (rows_by c.rows s) 0 max_actions m in (rows-by-in c.rows s p.0 p.3).1

    up : Ascending (spread (λ s. spread (rows_by c.rows s) 0 max_actions) 0 c.states)
    up = pairwise-spread Before (λ s. spread (rows_by c.rows s) 0 max_actions) 0 c.states
        (λ s p q. pairwise-spread Before (rows_by c.rows s) 0 max_actions (λ a _ _. rows-by-ascend c.rows s a (rows-ascending c w)) (λ a b x y _ h _ m n.
        let e = rows-by-in c.rows s a m in
        let f = rows-by-in c.rows s b n in
        by-action x y (e.1 ∙ sym f.1) (omega (arith, e.2, f.2, h))))
        (λ s t x y _ h _ m n. by-from x y (omega (arith, state-from s m, state-from t n, h)))

    there-to : (z : Row) → In z (spread (λ s. spread (rows_by c.rows s) 0 max_actions) 0 c.states) → In z c.rows
    there-to z m =
        let p = spread-in (λ s. spread (rows_by c.rows s) 0 max_actions) 0 c.states m in
        let q = spread-in (rows_by c.rows p.0) 0 max_actions p.3 in
        (rows-by-in c.rows p.0 q.0 q.3).0

    back : (z : Row) → In z c.rows → In z (spread (λ s. spread (rows_by c.rows s) 0 max_actions) 0 c.states)
    back z m =
        let k = at_in no_row c.rows m in
        let v = rw k.2 at (w.rows k.0 k.1) in
        in-spread (λ s. spread (rows_by c.rows s) 0 max_actions) 0 c.states z.from (omega arith) (omega (arith, v.from))
        (in-spread (rows_by c.rows z.from) 0 max_actions z.action (omega arith) (omega (arith, act-below c w z.action v.action))
        (in-rows-by c.rows z.from z.action m refl refl))

module _ (μ : List Row → ℕ) (ν : List (List ℕ) → ℕ) (k : Measure μ ν) where
  spread-sum : (F G : ℕ → List Row) (H : ℕ → List (List ℕ)) (j n : ℕ) → ((x : ℕ) → μ (F x) ≡ ν (H x) + μ (G x))
      → μ (spread F j n) ≡ ν (spread H j n) + μ (spread G j n)
  spread-sum F G H j zero h = omega (arith, k.none, k.nothing)
  spread-sum F G H j (suc n) h =
      omega
      (arith, k.rows (F j) (spread F (suc j) n), k.rows (G j) (spread G (suc j) n), k.cells (H j) (spread H (suc j) n), h j, spread-sum F G H (suc j) n h)

  cell-sum : (i : ℕ) (c : Comp) (s a : ℕ) → μ (repaired_at c s a) ≡ ν (cell_at i c s a) + μ (rows_by c.rows s a)
  unfolding repaired_at missing_at cell_at
  cell-sum i c s a = k.rows (cond (lacks_row c s a) (loop_at s a ∷ []) []) (rows_by c.rows s a) ∙ ap (λ x. x + μ (rows_by c.rows s a)) (go (lacks_row c s a))
    where
      go : (b : Bool) → μ (cond b (loop_at s a ∷ []) []) ≡ ν (cond b (cell i s a ∷ []) [])
      go true = k.one i s a
      go false = k.none ∙ sym k.nothing

  comp-sum : (i : ℕ) (c : Comp) → WellComp c → μ (repaired c).rows ≡ ν (cells_of i c) + μ c.rows
  unfolding repaired cells_of
  comp-sum i c w =
      spread-sum (λ s. spread (repaired_at c s) 0 max_actions) (λ s. spread (rows_by c.rows s) 0 max_actions) (λ s. spread (cell_at i c s) 0 max_actions) 0
      c.states
      (λ s. spread-sum (repaired_at c s) (rows_by c.rows s) (cell_at i c s) 0 max_actions (cell-sum i c s))
      ∙ ap (λ l. ν (spread (λ s. spread (cell_at i c s) 0 max_actions) 0 c.states) + μ l) (by-cells c w)

  -- over the components: a measure of a model, of which each component's rows are a part
  models-sum : (φ : Model → ℕ) (f : Comp → ℕ) → ((c : Comp) (cs : Model) → φ (c ∷ cs) ≡ f c + φ cs) → φ [] ≡ 0
      → (F G : ℕ → Comp) (H : ℕ → List (List ℕ)) (j n : ℕ)
      → ((x : ℕ) → j ≤ x → x < j + n → f (F x) ≡ ν (H x) + f (G x)) → φ (tab F j n) ≡ ν (spread H j n) + φ (tab G j n)
  models-sum φ f step base F G H j zero h = omega (arith, base, k.nothing)
  models-sum φ f step base F G H j (suc n) h =
      omega (
        arith,
        step (F j) (tab F (suc j) n),
        step (G j) (tab G (suc j) n),
        k.cells (H j) (spread H (suc j) n),
        h j (omega arith) (omega arith),
        models-sum φ f step base F G H (suc j) n (λ x p q. h x (omega arith) (omega arith)),
      )

counted : Measure length length
counted = record { none = refl; nothing = refl; rows = length-append; cells = length-append; one = λ i s a. refl }

measured : Measure (λ rs. length (row_lines rs)) widths
unfolding width_of
measured = record {
  none = no_rows;
  nothing = refl;
  rows = rows_append;
  cells = widths-append;
  one = λ i s a. omega (arith, rows_more (loop_at s a) [], no_rows);
}

module _ (m : Model) (w : WellFormed m) where
  pub repaired-row-count : row_count (repaired_of m) ≡ row_count m + length (added_to m)
  unfolding added_to
  repaired-row-count =
      let e = models-sum length length counted row_count (λ c. length c.rows) (λ c cs. unfold row_count in refl) (unfold row_count in refl)
      (λ i. repaired (comp_at m i)) (comp_at m) (λ i. cells_of i (comp_at m i)) 0 (length m)
      (λ i p q. comp-sum length length counted i (comp_at m i) (w.each i (omega arith))) in
      omega (arith, e, ap row_count (repaired-tab m), ap row_count (model-tab m))

  comp-lines : (i : ℕ) → i < length m → length (comp_text (repaired (comp_at m i))) ≡ widths (cells_of i (comp_at m i)) + length (comp_text (comp_at m i))
  unfolding repaired
  comp-lines i h =
      let c = comp_at m i in
      omega (arith, comp-by-head (repaired c), comp-by-head c, comp-sum (λ rs. length (row_lines rs)) widths measured i c (w.each i h))

  pub repaired-byte-count : length (text_of (repaired_of m)) ≡ length (text_of m) + widths (added_to m)
  unfolding added_to
  repaired-byte-count =
      let e = models-sum (λ rs. length (row_lines rs)) widths measured (λ n. length (text_of n)) (λ c. length (comp_text c)) text-more (unfold text_of in refl)
      (λ i. repaired (comp_at m i)) (comp_at m) (λ i. cells_of i (comp_at m i)) 0 (length m)
      (λ i p q. comp-lines i (omega arith)) in
      omega (arith, e, ap (λ n. length (text_of n)) (repaired-tab m), ap (λ n. length (text_of n)) (model-tab m))
