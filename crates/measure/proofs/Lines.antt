-- The lengths of the text's lines, and of the lines of a component (01, "The model text").
use mathlib.Core.Path.{◌≡◌, refl, ◌∙◌, ap}
use mathlib.Core.Bool.{Bool, true, false, cond, ◌&&◌, ◌||◌, not}
use mathlib.Core.List.{List, [], ◌∷◌, ◌++◌}
use Prim.Native.Nat.{ℕ, suc, ◌+◌, ◌*◌, ◌-◌, ◌≤◌, ◌<◌}
use native.Mathlib.Omega.{arith}
use lib.ListN.{length, length-append}
use Rattle.laws.specs.Sets.{has, ◌∪◌, ◌∖◌}
use Rattle.laws.specs.Fold.{tab, spread, sum}
use Rattle.laws.proofs.SetLaws.{has-or, has-without}
use Rattle.laws.proofs.FoldLaws.{tab-length}
use Rattle.laws.proofs.TabLaws.{tab-same, tab-next, tab-done, spread-next, spread-done, spread-length, sum-add}
use Rattle.answer.specs.Limits.{max_actions, max_clocks}
use Rattle.model.specs.Model.{Row, Comp, Model}
use Rattle.model.specs.Text.{Kind, in-kind, out-kind, uin-kind, uout-kind, kind_word, decimal, guard_field, set_field, fields_after, comp_line, act_line}
use Rattle.model.specs.Text.{clk_line, row_line, kind_of, act_part, clk_part, row_lines, comp_text, text_of}
use Rattle.measure.specs.Measure.{act_lines, clk_lines, per_member, kinds_width, bare}
use Rattle.measure.proofs.Fields.{width-1, width-most, set-most, guard-most}

-- ---- lines
fields-more : (f : List ℕ) (fs : List (List ℕ)) → length (fields_after (f ∷ fs)) ≡ suc (length f + length (fields_after fs))
unfolding fields_after
fields-more f fs = ap suc (length-append f (fields_after fs))

fields-end : length (fields_after []) ≡ 1
unfolding fields_after
fields-end = refl

pub comp-line : (c : Comp) → length (comp_line c) ≡ 7 + length (decimal c.states) + length (decimal c.start)
unfolding comp_line
comp-line c = simp (fields-more, fields-end) (omega arith)

pub act-line : (a : ℕ) (k : Kind) → length (act_line a k) ≡ 6 + length (decimal a) + length (kind_word k)
unfolding act_line
act-line a k = simp (fields-more, fields-end) (omega arith)

pub clk-line : (x : ℕ) (b : Bool) → length (clk_line x b) ≡ 7 + length (decimal x)
unfolding clk_line
clk-line x b = simp (fields-more, fields-end) (omega (arith, width-1 (cond b 1 0) (one b)))
  where
    one : (b : Bool) → cond b 1 0 < 10
    one true = omega arith
    one false = omega arith

pub row-line : (r : Row) → length (row_line r)
    ≡ 9 + length (decimal r.from) + length (guard_field r.guard) + length (decimal r.action) + length (set_field r.resets) + length
    (decimal r.target)
unfolding row_line
row-line r = simp (fields-more, fields-end) (omega arith)

pub row-most : (r : Row) → length (row_line r) ≤ 512
row-most r =
    omega (arith, row-line r, width-most r.from, guard-most r.guard, width-most r.action, set-most r.resets, width-most r.target)

-- ---- the lines of one kind
pub clks-width : (c : Comp) → length (clk_lines c) ≡ per_member c.clocks 7
unfolding per_member clk_part clk_lines
clks-width c =
    spread-length (clk_part c) 0 max_clocks ∙ ap sum (tab-same (λ x. length (clk_part c x)) (λ x. cond (has c.clocks x) (7 + length (decimal x)) 0) 0
    max_clocks (λ x p q. go x (has c.clocks x)))
  where
    go : (x : ℕ) (b : Bool) → length (cond b (clk_line x (has c.started x)) []) ≡ cond b (7 + length (decimal x)) 0
    go x true = clk-line x (has c.started x)
    go x false = refl

-- an action in each of the sets, or in none: the first of `in`, `out`, `uin`, `uout` counts
abbrev kind : Bool → Bool → Bool → Kind
kind i o u = cond i in-kind (cond o out-kind (cond u uin-kind uout-kind))

act-cases : (a : ℕ) (i o u v : Bool) → length (cond ((i || u) || (o || v)) (act_line a (kind i o u)) [])
    ≡ cond i (8 + length (decimal a)) 0 + cond (o && not i) (9 + length (decimal a)) 0 + cond (u && not (i || o)) (9 + length (decimal a)) 0 + cond
    (v && not ((i || o) || u)) (10 + length (decimal a)) 0
act-cases a true true true true = omega (arith, act-line a in-kind)
act-cases a true true true false = omega (arith, act-line a in-kind)
act-cases a true true false true = omega (arith, act-line a in-kind)
act-cases a true true false false = omega (arith, act-line a in-kind)
act-cases a true false true true = omega (arith, act-line a in-kind)
act-cases a true false true false = omega (arith, act-line a in-kind)
act-cases a true false false true = omega (arith, act-line a in-kind)
act-cases a true false false false = omega (arith, act-line a in-kind)
act-cases a false true true true = omega (arith, act-line a out-kind)
act-cases a false true true false = omega (arith, act-line a out-kind)
act-cases a false true false true = omega (arith, act-line a out-kind)
act-cases a false true false false = omega (arith, act-line a out-kind)
act-cases a false false true true = omega (arith, act-line a uin-kind)
act-cases a false false true false = omega (arith, act-line a uin-kind)
act-cases a false false false true = omega (arith, act-line a uout-kind)
act-cases a false false false false = refl

module _ (i o u v : ℕ) where
  abbrev ins : ℕ → ℕ
  ins a = cond (has i a) (8 + length (decimal a)) 0

  abbrev outs : ℕ → ℕ
  outs a = cond (has (o ∖ i) a) (9 + length (decimal a)) 0

  abbrev uins : ℕ → ℕ
  uins a = cond (has (u ∖ (i ∪ o)) a) (9 + length (decimal a)) 0

  abbrev uouts : ℕ → ℕ
  uouts a = cond (has (v ∖ (i ∪ o ∪ u)) a) (10 + length (decimal a)) 0

  four-sums : sum (tab (λ a. ins a + outs a + uins a + uouts a) 0 max_actions) ≡ kinds_width i o u v
  unfolding per_member
  four-sums =
      sum-add (λ a. ins a + outs a + uins a) uouts 0 max_actions
      ∙ ap (λ n. n + sum (tab uouts 0 max_actions)) (sum-add (λ a. ins a + outs a) uins 0 max_actions
      ∙ ap (λ n. n + sum (tab uins 0 max_actions)) (sum-add ins outs 0 max_actions))

  each-act : (a : ℕ) → length (cond (has (i ∪ u ∪ (o ∪ v)) a) (act_line a (kind (has i a) (has o a) (has u a))) []) ≡ ins a + outs a + uins a + uouts a
  each-act a =
      rw (
        has-or (i ∪ u) (o ∪ v) a,
        has-or i u a,
        has-or o v a,
        has-without o i a,
        has-without u (i ∪ o) a,
        has-without v (i ∪ o ∪ u) a,
        has-or (i ∪ o) u a,
        has-or i o a,
      )
      (act-cases a (has i a) (has o a) (has u a) (has v a))

pub acts-width : (c : Comp) → length (act_lines c) ≡ kinds_width c.ins c.outs c.uins c.uouts
unfolding act_part kind_of act_lines
acts-width c =
    spread-length (act_part c) 0 max_actions ∙ ap sum (tab-same (λ a. length (act_part c a)) each 0 max_actions
    (λ a p q. each-act c.ins c.outs c.uins c.uouts a)) ∙ four-sums c.ins c.outs c.uins c.uouts
  where
    each : ℕ → ℕ
    each a =
        ins c.ins c.outs c.uins c.uouts a + outs c.ins c.outs c.uins c.uouts a + uins c.ins c.outs c.uins c.uouts
        a + uouts c.ins c.outs c.uins c.uouts a

-- ---- the rows
pub rows_more : (r : Row) (rs : List Row) → length (row_lines (r ∷ rs)) ≡ length (row_line r) + length (row_lines rs)
unfolding row_lines
rows_more r rs = length-append (row_line r) (row_lines rs)

pub rows_append : (rs qs : List Row) → length (row_lines (rs ++ qs)) ≡ length (row_lines rs) + length (row_lines qs)
rows_append [] qs = unfold row_lines in omega arith
rows_append (r ∷ rs) qs = omega (arith, rows_more r (rs ++ qs), rows_more r rs, rows_append rs qs)

pub no_rows : length (row_lines []) ≡ 0
unfolding row_lines
no_rows = refl

pub rows-most : (rs : List Row) → length (row_lines rs) ≤ 512 * length rs
rows-most [] = omega (arith, no_rows)
rows-most (r ∷ rs) = omega (arith, rows_more r rs, row-most r, rows-most rs)

-- ---- a component, and the whole
four-parts : (a b c d : List ℕ) → length (a ++ b ++ c ++ d) ≡ length a + length b + length c + length d
four-parts a b c d = simp length-append (omega arith)

pub comp-width : (c : Comp) → length (comp_text c)
    ≡ length (comp_line c) + length (act_lines c) + length (clk_lines c) + length (row_lines c.rows)
unfolding comp_text act_lines clk_lines
comp-width c = four-parts (comp_line c) (spread (act_part c) 0 max_actions) (spread (clk_part c) 0 max_clocks) (row_lines c.rows)

module _ (states start ins outs uins uouts clocks : ℕ) where
  pub bare-width : length (comp_text (bare states start ins outs uins uouts clocks))
      ≡ 7 + length (decimal states) + length (decimal start) + kinds_width ins outs uins uouts + per_member clocks 7
  unfolding bare
  bare-width =
      let c = bare states start ins outs uins uouts clocks in
      omega (arith, comp-width c, comp-line c, acts-width c, clks-width c, no_rows)

-- a component is its lines beside the rows, and its rows
pub comp-by-head : (c : Comp) → length (comp_text c)
    ≡ length (comp_text (bare c.states c.start c.ins c.outs c.uins c.uouts c.clocks)) + length (row_lines c.rows)
comp-by-head c =
    omega (arith, bare-width c.states c.start c.ins c.outs c.uins c.uouts c.clocks, comp-width c, comp-line c, acts-width c, clks-width c)

pub text-more : (c : Comp) (m : Model) → length (text_of (c ∷ m)) ≡ length (comp_text c) + length (text_of m)
unfolding text_of
text-more c m = length-append (comp_text c) (text_of m)

pub no_text : length (text_of []) ≡ 0
unfolding text_of
no_text = refl

-- ---- over a range, one place at a time
module _ (f : ℕ → Row) (lo hi : ℕ) where
  pub rows_next : lo < hi → length (row_lines (tab f lo (hi - lo))) ≡ length (row_line (f lo)) + length (row_lines (tab f (lo + 1) (hi - (lo + 1))))
  rows_next h = ap (λ l. length (row_lines l)) (tab-next f lo hi h) ∙ rows_more (f lo) (tab f (lo + 1) (hi - (lo + 1)))

  pub rows-done : hi ≤ lo → length (row_lines (tab f lo (hi - lo))) ≡ 0
  rows-done h = ap (λ l. length (row_lines l)) (tab-done f lo hi h) ∙ no_rows

  pub range-most : length (row_lines (tab f lo (hi - lo))) ≤ 512 * hi
  range-most = omega (arith, rows-most (tab f lo (hi - lo)), tab-length f lo (hi - lo))

module _ (g : ℕ → List Row) (lo hi : ℕ) where
  pub ranges-next : lo < hi → length (row_lines (spread g lo (hi - lo))) ≡ length (row_lines (g lo)) + length (row_lines (spread g (lo + 1) (hi - (lo + 1))))
  ranges-next h = ap (λ l. length (row_lines l)) (spread-next g lo hi h) ∙ rows_append (g lo) (spread g (lo + 1) (hi - (lo + 1)))

  pub ranges-done : hi ≤ lo → length (row_lines (spread g lo (hi - lo))) ≡ 0
  ranges-done h = ap (λ l. length (row_lines l)) (spread-done g lo hi h) ∙ no_rows

module _ (f : ℕ → Comp) (lo hi : ℕ) where
  pub comps-next : lo < hi → length (text_of (tab f lo (hi - lo))) ≡ length (comp_text (f lo)) + length (text_of (tab f (lo + 1) (hi - (lo + 1))))
  comps-next h = ap (λ m. length (text_of m)) (tab-next f lo hi h) ∙ text-more (f lo) (tab f (lo + 1) (hi - (lo + 1)))

  pub comps-done : hi ≤ lo → length (text_of (tab f lo (hi - lo))) ≡ 0
  comps-done h = ap (λ m. length (text_of m)) (tab-done f lo hi h) ∙ no_text
