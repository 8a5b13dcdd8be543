-- The `clk` lines of a component are read, one after the other.
use mathlib.Core.Path.{◌≡◌, refl, sym, ◌∙◌, ap, ap₂}
use mathlib.Core.Logic.{inr}
use mathlib.Core.Bool.{Bool, true, false, cond, true≢false}
use mathlib.Core.List.{List, [], ◌∷◌, ◌++◌}
use Prim.Native.Nat.{ℕ, suc, ◌%◌, ◌^◌, ◌≤◌, ◌<◌}
use native.Mathlib.Omega.{arith}
use lib.Dec.{eqb}
use Rattle.laws.specs.Sets.{has, ◌∪◌, only, ◌∈◌}
use Rattle.laws.specs.Fold.{spread}
use Rattle.laws.proofs.TestLaws.{not_so}
use Rattle.laws.proofs.GrowLaws.{below_in, below_out}
use Rattle.answer.specs.Limits.{max_clocks}
use Rattle.model.specs.Model.{Comp}
use Rattle.model.specs.Text.{clk_line, clk_part}
use Rattle.model.specs.WellFormed.{WellComp}
use Rattle.model.specs.Reading.{Entry, comp-entry, act-entry, clk-entry, row-entry, turn, with_clk, take_in}
use Rattle.model.specs.Line.{line_of}
use Rattle.model.specs.Faulty.{After}
use Rattle.model.proofs.Reading.Phases.{At, Series, series-read}

-- c with these clocks, and no row yet
abbrev pub with_clocks : Comp → ℕ → ℕ → Comp
with_clocks c k s =
    record {
      states = c.states;
      start = c.start;
      ins = c.ins;
      outs = c.outs;
      uins = c.uins;
      uouts = c.uouts;
      clocks = k;
      started = s;
      rows = [];
    }

-- c with its clocks below x
abbrev pub clks_up_to : Comp → ℕ → Comp
clks_up_to c x = with_clocks c (c.clocks % 2 ^ x) (c.started % 2 ^ x)

clks-none : (c : Comp) (x : ℕ) → WellComp c → has c.clocks x ≡ false → clks_up_to c x ≡ clks_up_to c (suc x)
clks-none c x w h =
    ap₂ (with_clocks c) (sym (below_out c.clocks x h))
    (sym (below_out c.started x (not_so (has c.started x) (λ m. true≢false (sym (w.started x m) ∙ h)))))

clks-one : (c : Comp) (x : ℕ) → x ∈ c.clocks → with_clk (clks_up_to c x) x (cond (has c.started x) 1 0) ≡ clks_up_to c (suc x)
clks-one c x h = ap₂ (with_clocks c) (sym (below_in c.clocks x h)) (go (has c.started x) refl)
  where
    go : (b : Bool) → has c.started x ≡ b → cond (eqb (cond b 1 0) 1) ((c.started % 2 ^ x) ∪ only x) (c.started % 2 ^ x) ≡ c.started % 2 ^ suc x
    go true e = sym (below_in c.started x e)
    go false e = sym (below_out c.started x e)

-- the last line is no `row` line, and no line of a clock from x on
abbrev pub ClkLast : ℕ → Entry → Type 0
ClkLast x (comp-entry n s) = Unit {0}
ClkLast x (act-entry a k) = Unit {0}
ClkLast x (clk-entry y b) = y < x
ClkLast x (row-entry s g a r t) = ⊥

clk-follows : (x b : ℕ) (d : Entry) → ClkLast x d → (turn d ≤ 2) × After d (clk-entry x b) × ClkLast (suc x) d
clk-follows x b (comp-entry n s) h = (omega arith, tt, tt)
clk-follows x b (act-entry a k) h = (omega arith, tt, tt)
clk-follows x b (clk-entry y j) h = (omega arith, h, omega arith)
clk-follows x b (row-entry s g a r t) h = absurd h

flag_small : (b : Bool) → cond b 1 0 ≤ 1
flag_small true = omega arith
flag_small false = omega arith

clk-series : (c : Comp) (m : List Comp) → WellComp c → Series m max_clocks
unfolding clk_part clk_line line_of take_in
clk-series c m w =
    record {
      member = has c.clocks;
      line = λ x. clk-entry x (cond (has c.started x) 1 0);
      part = clk_part c;
      up_to = clks_up_to c;
      Last = ClkLast;
      later = λ x d h. (clk-follows x 0 d h).2;
      none-part = λ x e. rw e;
      none_more = λ x e. clks-none c x w e;
      one-part = λ x e. rw e;
      one_more = λ x e. ap {B = List Comp} (λ d. d ∷ m) (clks-one c x e);
      one_last = λ x. omega arith;
      fits = λ x h. (omega arith, omega (arith, flag_small (has c.started x)));
      faultless = λ x d h l.
          let f = clk-follows x (cond (has c.started x) 1 0) d l in
          record { in-turn = inr f.0; in-range = (h, flag_small (has c.started x)); named = tt; in_order = (f.1, tt); room = tt };
    }

pub clks-read : {t : List ℕ} (c : Comp) (m : List Comp) (d : Entry) (bs : List ℕ) → WellComp c → ClkLast 0 d
    → At t (clks_up_to c 0) m d (spread (clk_part c) 0 max_clocks ++ bs)
    → (e : Entry) × ClkLast max_clocks e × At t (clks_up_to c max_clocks) m e bs
unfolding clk-series
clks-read c m d bs w h r = series-read (clk-series c m w) max_clocks 0 d bs refl h r
