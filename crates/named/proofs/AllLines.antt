-- The lines of a well-formed component, and of several, are read, however many bytes they have (iosa, Reading.ReadOfText, says so of a text within its limit).
use mathlib.Core.Path.{◌≡◌, refl, sym, ◌∙◌, ap, ap₂}
use mathlib.Core.Logic.{inl}
use mathlib.Core.Option.{Option, none, some}
use mathlib.Core.List.{List, [], ◌∷◌, ◌++◌, append_assoc, reverse_aux}
use Prim.Native.Nat.{ℕ, suc, ◌+◌, ◌^◌, ◌≤◌, ◌<◌}
use native.Mathlib.Omega.{arith}
use native.Mathlib.Nat.{mod-eq_of_lt}
use lib.ListN.{length}
use Rattle.laws.specs.Fold.{spread}
use Rattle.laws.proofs.SetLaws.{subset-le}
use Rattle.laws.proofs.ListLaws.{All, at_all}
use Rattle.laws.proofs.GrowLaws.{below-zero}
use Rattle.answer.specs.Limits.{max_components, max_rows, max_actions, max_clocks}
use Rattle.model.specs.Model.{Comp, no_row, row_count}
use Rattle.model.specs.Text.{act_part, clk_part, row_lines, comp_text, text_of}
use Rattle.model.specs.WellFormed.{WellRow, WellComp}
use Rattle.model.specs.Reading.{Entry, comp-entry, act-entry, clk-entry, row-entry, Progress, new_comp, take_in}
use Rattle.model.specs.Line.{line_of}
use Rattle.model.specs.Faulty.{InTurn, InOrder, Reaches}
use Rattle.model.proofs.Reading.Printed.{comp-line}
use Rattle.model.proofs.Reading.Phases.{line_on, At, move}
use Rattle.model.proofs.Reading.ReadActs.{ActLast, acts_up_to, same-kinds, acts-read}
use Rattle.model.proofs.Reading.ReadClocks.{ClkLast, with_clocks, clks_up_to, clks-read}
use Rattle.model.proofs.Reading.ReadRows.{with_rows, rows-read, rows-follow}

-- ---- a component
comp-in-turn : (l : Option Entry) (n s : ℕ) → InTurn l (comp-entry n s)
comp-in-turn none n s = refl
comp-in-turn (some d) n s = inl refl

comp-in-order : (l : Option Entry) (n s : ℕ) → InOrder l (comp-entry n s)
comp-in-order none n s = tt
comp-in-order (some d) n s = (tt, tt)

act-clk-last : (d : Entry) → ActLast max_actions d → ClkLast 0 d
act-clk-last (comp-entry n s) h = tt
act-clk-last (act-entry a k) h = tt
act-clk-last (clk-entry x b) h = absurd h
act-clk-last (row-entry s g a r t) h = absurd h

acts-all : (c : Comp) → WellComp c → acts_up_to c max_actions ≡ clks_up_to c 0
acts-all c w = λ i. record {
  states = c.states;
  start = c.start;
  ins = mod-eq_of_lt w.ins i;
  outs = mod-eq_of_lt w.outs i;
  uins = mod-eq_of_lt w.uins i;
  uouts = mod-eq_of_lt w.uouts i;
  clocks = sym (below-zero c.clocks) i;
  started = sym (below-zero c.started) i;
  rows = [];
}

clks-all : (c : Comp) → WellComp c → clks_up_to c max_clocks ≡ with_rows c []
clks-all c w = ap₂ (with_clocks c) (mod-eq_of_lt w.clocks)
    (mod-eq_of_lt (let h = subset-le c.started c.clocks w.started in let q : c.started < 2 ^ max_clocks = omega (arith, w.clocks) in q))

comp-parts : (c : Comp) (bs : List ℕ)
    → comp_text c ++ bs ≡ line_of (comp-entry c.states c.start)
    ++ (spread (act_part c) 0 max_actions ++ (spread (clk_part c) 0 max_clocks ++ (row_lines c.rows ++ bs)))
unfolding comp_text
comp-parts c bs =
    ap (λ (l : List ℕ). l ++ spread (act_part c) 0 max_actions ++ spread (clk_part c) 0 max_clocks ++ row_lines c.rows ++ bs) (comp-line c)
    ∙ parts (line_of (comp-entry c.states c.start)) (spread (act_part c) 0 max_actions) (spread (clk_part c) 0 max_clocks) (row_lines c.rows) bs
  where
    parts : (l a k r bs : List ℕ) → l ++ a ++ k ++ r ++ bs ≡ l ++ (a ++ (k ++ (r ++ bs)))
    parts l a k r bs = simp append_assoc

comp-read : {t : List ℕ} {k : ℕ} {p : Progress} (c : Comp) (bs : List ℕ) → WellComp c
    → length p.comps < max_components → length c.rows + row_count p.comps ≤ max_rows
    → Reaches t k p (comp_text c ++ bs) → (d : Entry) × At t c p.comps d bs
unfolding take_in
comp-read {t} {k} {p} c bs w l n r =
    let clks = spread (clk_part c) 0 max_clocks ++ (row_lines c.rows ++ bs) in
    let start : At t (new_comp c.states c.start) p.comps (comp-entry c.states c.start) (spread (act_part c) 0 max_actions ++ clks) = record {
      line = suc k;
      reached =
          line_on (comp-entry c.states c.start) (spread (act_part c) 0 max_actions ++ clks) r (comp-parts c bs)
          (omega (arith, w.states), omega (arith, w.states, w.start))
          (record {
            in-turn = comp-in-turn p.last c.states c.start;
            in-range = (w.some, w.states, w.start);
            named = tt;
            in_order = comp-in-order p.last c.states c.start;
            room = l;
          });
    } in
    let none_yet = same-kinds c (sym (below-zero c.ins)) (sym (below-zero c.outs)) (sym (below-zero c.uins)) (sym (below-zero c.uouts)) in
    let a = acts-read c p.comps (comp-entry c.states c.start) clks w tt (move none_yet refl start) in
    let x = clks-read c p.comps a.0 (row_lines c.rows ++ bs) w (act-clk-last a.0 a.1) (move (acts-all c w) refl a.2) in
    let each = at_all (WellRow c) no_row c.rows w.rows in
    rows-read c p.comps w [] c.rows x.0 bs each (rows-follow c w max_clocks x.0 x.1 c.rows each w.ascend)
    (omega arith) (move {d = x.0} (clks-all c w) refl x.2)

-- ---- the whole text
pub comps-read : {t : List ℕ} {k : ℕ} (p : Progress) (cs : List Comp) → All WellComp cs
    → length p.comps + length cs ≤ max_components → row_count p.comps + row_count cs ≤ max_rows
    → Reaches t k p (text_of cs) → (j : ℕ) × (q : Progress) × Reaches t j q [] × (q.comps ≡ reverse_aux cs p.comps)
unfolding text_of row_count
comps-read {t} {k} p [] h l n r = (k, p, r, refl)
comps-read {t = t} {k = k} p (c ∷ cs) h l n r =
    let a = comp-read c (text_of cs) h.0 (omega arith) (omega arith) r in
    comps-read {k = a.1.line} (record { comps = c ∷ p.comps; last = some a.0 }) cs h.1 (omega arith) (omega arith) a.1.reached
