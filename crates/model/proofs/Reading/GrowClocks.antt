-- A `clk` line more: the component that it makes, its text, and that it is well-formed.
use mathlib.Core.Path.{◌≡◌, refl, sym, ◌∙◌, ap, ap₂}
use mathlib.Core.Bool.{Bool, true, false, cond}
use mathlib.Core.List.{List, [], ◌++◌, append_assoc, append-nil}
use Prim.Native.Nat.{ℕ, zero, suc, ◌≤◌, ◌<◌}
use native.Mathlib.Omega.{arith}
use lib.Bits.{or_lt}
use lib.Pow.{pow-lt}
use lib.Dec.{eqb}
use Rattle.laws.specs.Sets.{has, ◌∪◌, only, ◌∈◌, ◌⊆◌}
use Rattle.laws.specs.Fold.{spread}
use Rattle.laws.proofs.SetLaws.{or-in-l}
use Rattle.laws.proofs.TestLaws.{not_so}
use Rattle.laws.proofs.GrowLaws.{added-here, added-there, added-within, spread_same, spread-added}
use Rattle.answer.specs.Limits.{max_actions, max_clocks}
use Rattle.model.specs.Model.{Comp}
use Rattle.model.specs.Text.{comp_line, clk_line, kind_of, act_part, clk_part, row_lines, comp_text}
use Rattle.model.specs.WellFormed.{WellComp}
use Rattle.model.specs.Reading.{with_clk, clk-entry}
use Rattle.model.specs.Line.{line_of}
use Rattle.model.proofs.Reading.Kinds.{kinds-apart, well-with-no-row}

-- ---- its text
set_there : (t : Bool) (s x y : ℕ) → (y ≡ x → ⊥) → has (cond t (s ∪ only x) s) y ≡ has s y
set_there true s x y ne = added-there s x y ne
set_there false s x y ne = refl

line-here : (s x b : ℕ) → b ≤ 1 → has s x ≡ false → clk_line x (has (cond (eqb b 1) (s ∪ only x) s) x) ≡ line_of (clk-entry x b)
unfolding clk_line line_of
line-here s x zero h n = rw n
line-here s x (suc zero) h n = rw (added-here s x)
line-here s x (suc (suc b)) h n = absurd (omega arith)

clk-lines : (c : Comp) (x b : ℕ) → x < max_clocks → b ≤ 1 → ((y : ℕ) → y ∈ c.clocks → y < x) → c.started ⊆ c.clocks
    → spread (clk_part (with_clk c x b)) 0 max_clocks ≡ spread (clk_part c) 0 max_clocks ++ line_of (clk-entry x b)
unfolding clk_part
clk-lines c x b h l below sub =
    spread-added (clk_part c) (clk_part (with_clk c x b)) (line_of (clk-entry x b)) x 0 max_clocks (omega arith) (omega arith) none here there
  where
    lacks : (y : ℕ) → x ≤ y → has c.clocks y ≡ false
    lacks y p = not_so (has c.clocks y) (λ m. omega (arith, below y m))

    none : (y : ℕ) → x ≤ y → clk_part c y ≡ []
    none y p = rw (lacks y p)

    here : clk_part (with_clk c x b) x ≡ line_of (clk-entry x b)
    here = rw (added-here c.clocks x) (line-here c.started x b l (not_so (has c.started x) (λ m. omega (arith, below x (sub x m)))))

    there : (y : ℕ) → (y ≡ x → ⊥) → clk_part (with_clk c x b) y ≡ clk_part c y
    there y ne = ap₂ (λ d e. cond d (clk_line y e) []) (added-there c.clocks x y ne) (set_there (eqb b 1) c.started x y ne)

rowless-text : (c : Comp) → c.rows ≡ [] → comp_text c ≡ comp_line c ++ spread (act_part c) 0 max_actions ++ spread (clk_part c) 0 max_clocks
unfolding comp_text row_lines
rowless-text c f =
    ap (λ (l : List ℕ). comp_line c ++ spread (act_part c) 0 max_actions ++ spread (clk_part c) 0 max_clocks ++ l) (ap row_lines f)
    ∙ append-nil (comp_line c ++ spread (act_part c) 0 max_actions ++ spread (clk_part c) 0 max_clocks)

front_same : (c : Comp) (x b : ℕ) → comp_line (with_clk c x b) ++ spread (act_part (with_clk c x b)) 0 max_actions ≡ comp_line c ++ spread (act_part c) 0 max_actions
unfolding comp_line act_part kind_of
front_same c x b = ap (λ (l : List ℕ). comp_line c ++ l) (spread_same (act_part (with_clk c x b)) (act_part c) 0 max_actions (λ y. refl))

pub clk-text : (c : Comp) (x b : ℕ) → x < max_clocks → b ≤ 1 → ((y : ℕ) → y ∈ c.clocks → y < x) → c.started ⊆ c.clocks → c.rows ≡ []
    → comp_text (with_clk c x b) ≡ comp_text c ++ line_of (clk-entry x b)
clk-text c x b h l below sub f =
    rowless-text (with_clk c x b) f
    ∙ ap₂ (λ (l m : List ℕ). l ++ m) (front_same c x b) (clk-lines c x b h l below sub)
    ∙ sym (append_assoc (comp_line c ++ spread (act_part c) 0 max_actions) (spread (clk_part c) 0 max_clocks) (line_of (clk-entry x b)))
    ∙ ap (λ (l : List ℕ). l ++ line_of (clk-entry x b)) (sym (rowless-text c f))

-- ---- it is well-formed
set-within : (t : Bool) (s u x : ℕ) → s ⊆ u → cond t (s ∪ only x) s ⊆ u ∪ only x
set-within true s u x f = added-within s (u ∪ only x) x (λ y m. or-in-l u (only x) y (f y m)) (added-here u x)
set-within false s u x f = λ y m. or-in-l u (only x) y (f y m)

pub clk-well : (c : Comp) (x b : ℕ) → WellComp c → x < max_clocks → c.rows ≡ [] → WellComp (with_clk c x b)
clk-well c x b w h f =
    well-with-no-row (with_clk c x b) w.some w.states w.start (kinds-apart c w) (or_lt max_clocks c.clocks (only x) w.clocks (pow-lt h))
    (set-within (eqb b 1) c.started c.clocks x w.started) f
