-- The text by the parts in which it is put: each line by its fields, and the lines one after the other.
use mathlib.Core.Path.{◌≡◌, refl, sym, ◌∙◌, ap}
use mathlib.Core.Bool.{Bool, true, false, cond}
use mathlib.Core.List.{List, [], ◌∷◌, ◌++◌, append_assoc}
use Prim.Native.Nat.{ℕ, ◌+◌, ◌-◌, ◌≤◌, ◌<◌}
use native.Mathlib.Omega.{arith}
use native.Mathlib.Numerals.{add-one}
use Rattle.laws.specs.Sets.{has}
use Rattle.laws.specs.Fold.{tab, spread}
use Rattle.laws.proofs.TabLaws.{tab-next, tab-done, spread-next, spread-done}
use Rattle.answer.specs.Limits.{max_actions, max_clocks}
use Rattle.model.specs.Model.{Row, Comp, acts}
use Rattle.model.specs.Text.{tab as tab_byte, lf, comp_word, act_word, clk_word, row_word, in-kind, out-kind, uin-kind, uout-kind, kind_word}
use Rattle.model.specs.Text.{decimal, guard_field, set_field, fields_after, comp_line, act_line, clk_line, row_line, kind_of, act_part, clk_part}
use Rattle.model.specs.Text.{row_lines, comp_text, text_of}
use Rattle.layout.specs.Layout.{count_of, block_word, first_of, action_at, guard_at, resets_at, target_at}
use Rattle.layout.specs.Image.{row_in, rows_leaving, comp_of, model_of}
use Rattle.measure.specs.Measure.{act_lines, clk_lines}

-- ---- the lines by their fields
module _ (t : List ℕ) (s r g a x y : ℕ) (eg : g ≡ guard_at t r) (ea : a ≡ action_at t r) (ex : x ≡ resets_at t r) (ey : y ≡ target_at t r) where
  pub row-parts : row_line (row_in t s r)
      ≡ row_word ++ ((tab_byte ∷ decimal s) ++ ((tab_byte ∷ []) ++ (guard_field g ++ ((tab_byte ∷ decimal a) ++ ((tab_byte ∷ [])
      ++ (set_field x ++ ((tab_byte ∷ decimal y) ++ lf ∷ [])))))))
  unfolding row_line fields_after
  row-parts = rw (eg, ea, ex, ey)

pub comp-line-parts : (c : Comp) (n s : ℕ) → n ≡ c.states → s ≡ c.start
    → comp_line c ≡ comp_word ++ ((tab_byte ∷ decimal n) ++ ((tab_byte ∷ decimal s) ++ lf ∷ []))
unfolding comp_line fields_after
comp-line-parts c n s p q = rw (p, q)

pub no-act : (c : Comp) (a : ℕ) → has (acts c) a ≡ false → act_part c a ≡ []
unfolding act_part
no-act c a e = rw e

pub act-parts : (c : Comp) (a : ℕ) → has (acts c) a ≡ true
    → act_part c a ≡ act_word ++ ((tab_byte ∷ decimal a) ++ ((tab_byte ∷ []) ++ (kind_word (kind_of c a) ++ lf ∷ [])))
unfolding act_part act_line fields_after
act-parts c a e = rw e

pub no-clk : (c : Comp) (x : ℕ) → has c.clocks x ≡ false → clk_part c x ≡ []
unfolding clk_part
no-clk c x e = rw e

pub clk-parts : (c : Comp) (x n : ℕ) → has c.clocks x ≡ true → n ≡ cond (has c.started x) 1 0
    → clk_part c x ≡ clk_word ++ ((tab_byte ∷ decimal x) ++ ((tab_byte ∷ decimal n) ++ lf ∷ []))
unfolding clk_part clk_line fields_after
clk-parts c x n e f = rw (e, f)

-- ---- an action's kind
module _ (c : Comp) (a : ℕ) where
  pub kind-in : has c.ins a ≡ true → kind_word (kind_of c a) ≡ kind_word in-kind
  unfolding kind_of
  kind-in e = rw e

  pub kind-out : has c.ins a ≡ false → has c.outs a ≡ true → kind_word (kind_of c a) ≡ kind_word out-kind
  unfolding kind_of
  kind-out e f = rw (e, f)

  pub kind-uin : has c.ins a ≡ false → has c.outs a ≡ false → has c.uins a ≡ true → kind_word (kind_of c a) ≡ kind_word uin-kind
  unfolding kind_of
  kind-uin e f g = rw (e, f, g)

  pub kind-uout : has c.ins a ≡ false → has c.outs a ≡ false → has c.uins a ≡ false → kind_word (kind_of c a) ≡ kind_word uout-kind
  unfolding kind_of
  kind-uout e f g = rw (e, f, g)

-- what a test of a word of the table says of the component
pub has_word : (w v x : ℕ) (b d : Bool) → w ≡ v → b ≡ has w x → b ≡ d → has v x ≡ d
has_word w v x b d p q r = ap (λ n. has n x) (sym p) ∙ sym q ∙ r

-- ---- a component, by its lines
pub comp-parts : (c : Comp) → comp_text c ≡ comp_line c ++ (act_lines c ++ (clk_lines c ++ row_lines c.rows))
unfolding comp_text act_lines clk_lines
comp-parts c =
    let a = spread (act_part c) 0 max_actions in
    let x = spread (clk_part c) 0 max_clocks in
    append_assoc (comp_line c ++ a) x (row_lines c.rows) ∙ append_assoc (comp_line c) a (x ++ row_lines c.rows)

rows-joined : (rs qs : List Row) → row_lines (rs ++ qs) ≡ row_lines rs ++ row_lines qs
unfolding row_lines
rows-joined [] qs = refl
rows-joined (r ∷ rs) qs = ap (λ l. row_line r ++ l) (rows-joined rs qs) ∙ sym (append_assoc (row_line r) (row_lines rs) (row_lines qs))

no_rows : row_lines [] ≡ []
unfolding row_lines
no_rows = refl

-- ---- over a range, one place at a time
module _ (f : ℕ → Row) (r hi : ℕ) where
  pub rows_next : r < hi → row_lines (tab f r (hi - r)) ≡ row_line (f r) ++ row_lines (tab f (r + 1) (hi - (r + 1)))
  unfolding row_lines
  rows_next h = ap row_lines (tab-next f r hi h)

  pub rows-done : hi ≤ r → row_lines (tab f r (hi - r)) ≡ []
  rows-done h = ap row_lines (tab-done f r hi h) ∙ no_rows

module _ (t : List ℕ) (i s states : ℕ) where
  pub states-next : (lo hi : ℕ) → lo ≡ first_of t i s → hi ≡ first_of t i (s + 1) → s < states
      → row_lines (spread (rows_leaving t i) s (states - s))
      ≡ row_lines (tab (row_in t s) lo (hi - lo)) ++ row_lines (spread (rows_leaving t i) (s + 1) (states - (s + 1)))
  unfolding rows_leaving
  states-next lo hi p q h =
      ap row_lines (spread-next (rows_leaving t i) s states h)
      ∙ rows-joined (rows_leaving t i s) (spread (rows_leaving t i) (s + 1) (states - (s + 1)))
      ∙ ap (λ l. row_lines l ++ row_lines (spread (rows_leaving t i) (s + 1) (states - (s + 1)))) leaving
    where
      leaving : rows_leaving t i s ≡ tab (row_in t s) lo (hi - lo)
      leaving = rw (p, q, add-one)

  pub states-done : states ≤ s → row_lines (spread (rows_leaving t i) s (states - s)) ≡ []
  states-done h = ap row_lines (spread-done (rows_leaving t i) s states h) ∙ no_rows

pub states-all : (t : List ℕ) (i states : ℕ) → states ≡ block_word t i 0 → row_lines (comp_of t i).rows ≡ row_lines (spread (rows_leaving t i) 0 (states - 0))
unfolding comp_of
states-all t i states p = let e : states - 0 ≡ block_word t i 0 = omega arith in rw e

module _ (t : List ℕ) (i count : ℕ) where
  pub comps-next : i < count → text_of (tab (comp_of t) i (count - i)) ≡ comp_text (comp_of t i) ++ text_of (tab (comp_of t) (i + 1) (count - (i + 1)))
  unfolding text_of
  comps-next h = ap text_of (tab-next (comp_of t) i count h)

  pub comps-done : count ≤ i → text_of (tab (comp_of t) i (count - i)) ≡ []
  unfolding text_of
  comps-done h = ap text_of (tab-done (comp_of t) i count h)

pub comps-all : (t : List ℕ) (count : ℕ) → count ≡ count_of t → text_of (model_of t) ≡ text_of (tab (comp_of t) 0 (count - 0))
unfolding model_of
comps-all t count p = let e : count - 0 ≡ count_of t = omega arith in rw e
