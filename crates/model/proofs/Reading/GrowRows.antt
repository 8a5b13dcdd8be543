-- A `row` line more: the component that it makes, its text, and that it is well-formed.
use mathlib.Core.Path.{◌≡◌, refl, sym, ◌∙◌, ap, ap₂, subst}
use mathlib.Core.Logic.{by_cases}
use mathlib.Core.Option.{Option, none, some}
use mathlib.Core.Bool.{true}
use mathlib.Core.List.{List, [], ◌∷◌, ◌++◌, append_assoc, append-nil}
use Prim.Native.Nat.{ℕ, suc, ◌^◌, ◌<◌}
use native.Mathlib.Omega.{arith}
use native.Mathlib.Decide.{dec_lt}
use lib.ListN.{length, length-append, get_or-append}
use lib.Seq.{get_or_at}
use lib.Bits.{or_lt}
use lib.Pow.{pow-lt}
use Rattle.laws.specs.Sets.{only, ◌∈◌, ◌⊆◌}
use Rattle.laws.specs.Fold.{spread}
use Rattle.laws.proofs.SetLaws.{none_in, one_in}
use Rattle.laws.proofs.GrowLaws.{spread_same}
use Rattle.answer.specs.Limits.{max_actions, max_clocks}
use Rattle.model.specs.Model.{Row, Comp, no_row, row_at, guard_set}
use Rattle.model.specs.Text.{row_line, row_lines, comp_text, kind_of, act_part, clk_part, comp_line, set_field}
use Rattle.model.specs.WellFormed.{before, WellRow, WellComp}
use Rattle.model.specs.Reading.{row-entry, guard_of, row_of, set_of, with_row}
use Rattle.model.specs.Line.{line_of, list_field}
use Rattle.model.specs.Faulty.{Each, GuardIs, InRange, Named, Ascends}
use Rattle.model.proofs.Reading.Kinds.{kinds-apart, well-by-kinds}
use Rattle.model.proofs.Reading.Members.{in-set-of, set-printed, members-of-set}
use Rattle.model.proofs.Reading.Tests.{below-decided, in-decided, ascends-decided}

-- ---- its text
row-lines : (rs : List Row) (r : Row) → row_lines (rs ++ r ∷ []) ≡ row_lines rs ++ row_line r
unfolding row_lines
row-lines [] r = append-nil (row_line r)
row-lines (q ∷ qs) r = ap (λ (l : List ℕ). row_line q ++ l) (row-lines qs r) ∙ sym (append_assoc (row_line q) (row_lines qs) (row_line r))

pub row-text : (c : Comp) (r : Row) → comp_text (with_row c r) ≡ comp_text c ++ row_line r
unfolding comp_text comp_line act_part kind_of clk_part
row-text c r =
    ap₂ (λ (l m : List ℕ). l ++ m)
    (ap₂ (λ (l m : List ℕ). comp_line c ++ l ++ m) (spread_same (act_part (with_row c r)) (act_part c) 0 max_actions (λ x. refl))
    (spread_same (clk_part (with_row c r)) (clk_part c) 0 max_clocks (λ x. refl)))
    (row-lines c.rows r)
    ∙ sym (append_assoc (comp_line c ++ spread (act_part c) 0 max_actions ++ spread (clk_part c) 0 max_clocks) (row_lines c.rows) (row_line r))

-- a row that was read is printed as it was read
set_below : (xs : List ℕ) → Each (λ x. x < max_clocks) xs → set_of xs < 2 ^ max_clocks
unfolding set_of
set_below [] h = omega arith
set_below (x ∷ xs) h = or_lt max_clocks (only x) (set_of xs) (pow-lt h.0) (set_below xs h.1)

pub row-line : (s : ℕ) (g : Option ℕ) (a : ℕ) (r : List ℕ) (t : ℕ) → Ascends r → Each (λ x. x < max_clocks) r → row_line (row_of s g a r t)
    ≡ line_of (row-entry s g a r t)
unfolding row_line line_of
row-line s g a r t h b =
    let e : set_field (set_of r) ≡ list_field r = set-printed (set_of r) (set_below r b)
    ∙ ap list_field (members-of-set r ((ascends-decided r).1 h) ((below-decided max_clocks r).1 b)) in
    rw e

-- ---- it is well-formed
pub row-well : (c : Comp) (s : ℕ) (g : Option ℕ) (a : ℕ) (r : List ℕ) (t : ℕ) → InRange c (row-entry s g a r t) → Named c (row-entry s g a r t)
    → WellRow c (row_of s g a r t)
row-well c s g a r t h n =
    record { from = h.0; guard = guard-within g n.0; action = n.1; resets = in-set-of c.clocks r ((in-decided c.clocks r).1 n.2); target = h.4 }
  where
    guard-within : (g : Option ℕ) → GuardIs (λ x. x ∈ c.clocks) g → guard_set (guard_of g) ⊆ c.clocks
    guard-within none h x m = absurd (none_in x m)
    guard-within (some y) h x m = rw (one_in y x m) h

pub rows-well : (c : Comp) (q : Row) → WellComp c → WellRow c q → ((k : ℕ) → suc k ≡ length c.rows → before (row_at c k) q ≡ true) → WellComp (with_row c q)
rows-well c q w h last = well-by-kinds (with_row c q) w.some w.states w.start (kinds-apart c w) w.clocks w.started each up
  where
    keep : (r : Row) → WellRow c r → WellRow (with_row c q) r
    keep r h = record { from = h.from; guard = h.guard; action = h.action; resets = h.resets; target = h.target }

    old : (k : ℕ) → k < length c.rows → row_at (with_row c q) k ≡ row_at c k
    old k p = get_or-append c.rows (q ∷ []) no_row k p

    new : (k : ℕ) → length c.rows ≡ k → row_at (with_row c q) k ≡ q
    new k p = get_or_at c.rows q [] no_row k p

    each : (k : ℕ) → k < length (c.rows ++ q ∷ []) → WellRow (with_row c q) (row_at (with_row c q) k)
    each k p = by_cases (dec_lt k (length c.rows))
        (λ l. subst (WellRow (with_row c q)) (sym (old k l)) (keep (row_at c k) (w.rows k l)))
        (λ l. subst (WellRow (with_row c q)) (sym (new k (omega (arith, length-append c.rows (q ∷ []))))) (keep q h))

    up : (k : ℕ) → suc k < length (c.rows ++ q ∷ []) → before (row_at (with_row c q) k) (row_at (with_row c q) (suc k)) ≡ true
    up k p =
        let l : k < length c.rows = omega (arith, length-append c.rows (q ∷ [])) in
        by_cases (dec_lt (suc k) (length c.rows))
        (λ m. ap₂ before (old k l) (old (suc k) m) ∙ w.ascend k m)
        (λ m. let e : length c.rows ≡ suc k = omega (arith, length-append c.rows (q ∷ [])) in ap₂ before (old k l) (new (suc k) e) ∙ last k (sym e))
