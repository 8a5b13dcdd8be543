-- The text of a model is the lines that it has, one after the other; and lines of good shape are told apart by their bytes.
use mathlib.Core.Path.{◌≡◌, refl, sym, ◌∙◌, ap, ap₂}
use mathlib.Core.Logic.{⊎_elim}
use mathlib.Core.Bool.{Bool, true, false, cond}
use mathlib.Core.List.{List, [], ◌∷◌, ◌++◌, append_assoc, append-nil}
use Prim.Native.Nat.{ℕ, zero, suc, ◌+◌, ◌^◌, ◌<◌}
use native.Mathlib.Omega.{arith}
use Rattle.laws.specs.Sets.{has, ◌∈◌, ◌⊆◌}
use Rattle.laws.specs.Fold.{spread}
use Rattle.laws.proofs.SetLaws.{subset-le, in-below, in_one, in-or}
use Rattle.laws.proofs.ListLaws.{All, at_all}
use Rattle.laws.proofs.GrowLaws.{spread_same}
use Rattle.answer.specs.Limits.{max_actions, max_clocks}
use Rattle.model.specs.Model.{Row, Comp, Model, no_row, inputs, outputs, acts, guard_set}
use Rattle.model.specs.Text.{kind_of, comp_line, act_line, clk_line, row_lines, comp_text, text_of}
use Rattle.model.specs.Text as text
use Rattle.model.specs.WellFormed.{WellRow, WellComp}
use Rattle.model.specs.Reading.{Got, stops, exactly, shorter, Entry, act-entry, clk-entry, row-entry, entry}
use Rattle.model.specs.Line.{Fits, GuardFits, line_of, LineFits}
use Rattle.model.proofs.Reading.Scans.{is-inj, no-is}
use Rattle.model.proofs.Reading.Lines.{entry-exact}
use Rattle.model.proofs.Reading.Printed.{comp-line, act-line, clk-line, row-line}
use Rattle.model.proofs.Reading.Printed as printed
use Rattle.model.proofs.Reading.Members.{members-fit}
use Rattle.named.specs.NamedText.{guard_read, act_part, clk_part, row_entries, comp_entries, entries_of, lines_text}

-- ---- lines one after the other
pub lines-append : (es ds : List Entry) → lines_text (es ++ ds) ≡ lines_text es ++ lines_text ds
unfolding lines_text
lines-append [] ds = refl
lines-append (e ∷ es) ds = ap (λ (l : List ℕ). line_of e ++ l) (lines-append es ds) ∙ sym (append_assoc (line_of e) (lines_text es) (lines_text ds))

pub line-alone : (e : Entry) → lines_text (e ∷ []) ≡ line_of e
unfolding lines_text
line-alone e = append-nil (line_of e)

lines-spread : (f : ℕ → List Entry) (k n : ℕ) → lines_text (spread f k n) ≡ spread (λ j. lines_text (f j)) k n
unfolding lines_text
lines-spread f k zero = refl
lines-spread f k (suc n) = lines-append (f k) (spread f (suc k) n) ∙ ap (λ (l : List ℕ). lines_text (f k) ++ l) (lines-spread f (suc k) n)

-- ---- the lines of a component
act-part : (c : Comp) (a : ℕ) → lines_text (act_part c a) ≡ text.act_part c a
unfolding text.act_part lines_text
act-part c a = go (has (acts c) a)
  where
    go : (b : Bool) → lines_text (cond b (act-entry a (kind_of c a) ∷ []) []) ≡ cond b (act_line a (kind_of c a)) []
    go true = line-alone (act-entry a (kind_of c a)) ∙ sym (act-line a (kind_of c a))
    go false = refl

clk-part : (c : Comp) (x : ℕ) → lines_text (clk_part c x) ≡ text.clk_part c x
unfolding text.clk_part lines_text
clk-part c x = go (has c.clocks x)
  where
    go : (b : Bool) → lines_text (cond b (clk-entry x (cond (has c.started x) 1 0) ∷ []) []) ≡ cond b (clk_line x (has c.started x)) []
    go true = line-alone (clk-entry x (cond (has c.started x) 1 0)) ∙ sym (clk-line x (has c.started x))
    go false = refl

same-guard : (g : ℕ) → printed.guard_read g ≡ guard_read g
same-guard zero = refl
same-guard (suc x) = refl

abbrev Small : Row → Type 0
Small r = r.resets < 2 ^ max_clocks

row-part : (rs : List Row) → All Small rs → lines_text (row_entries rs) ≡ row_lines rs
unfolding row_entries lines_text row_lines
row-part [] h = refl
row-part (r ∷ rs) h = ap₂ {C = List ℕ} (λ x y. x ++ y)
    (sym (row-line r h.0 ∙ ap (λ g. line_of (row-entry r.from g r.action (text.clocks_of r.resets) r.target)) (same-guard r.guard)))
    (row-part rs h.1)

small : (c : Comp) → WellComp c → (r : Row) → WellRow c r → Small r
small c w r h = let l = subset-le r.resets c.clocks h.resets in let z = w.clocks in omega arith

all_small : (c : Comp) → WellComp c → (rs : List Row) → All (WellRow c) rs → All Small rs
all_small c w [] h = tt
all_small c w (r ∷ rs) h = (small c w r h.0, all_small c w rs h.1)

regroup : (l a k r : List ℕ) → l ++ (a ++ k ++ r) ≡ l ++ a ++ k ++ r
regroup l a k r = simp append_assoc

pub comp-lines : (c : Comp) → WellComp c → lines_text (comp_entries c) ≡ comp_text c
unfolding comp_entries comp_text lines_text
comp-lines c w =
    let rs = at_all (WellRow c) no_row c.rows w.rows in
    let a = lines-spread (act_part c) 0 max_actions ∙ spread_same (λ j. lines_text (act_part c j)) (text.act_part c) 0 max_actions (act-part c) in
    let k = lines-spread (clk_part c) 0 max_clocks ∙ spread_same (λ j. lines_text (clk_part c j)) (text.clk_part c) 0 max_clocks (clk-part c) in
    let r = row-part c.rows (all_small c w c.rows rs) in
    ap₂ {C = List ℕ} (λ x y. x ++ y) (sym (comp-line c))
    (lines-append (spread (act_part c) 0 max_actions ++ spread (clk_part c) 0 max_clocks) (row_entries c.rows)
    ∙ ap₂ {C = List ℕ} (λ x y. x ++ y)
    (lines-append (spread (act_part c) 0 max_actions) (spread (clk_part c) 0 max_clocks) ∙ ap₂ {C = List ℕ} (λ x y. x ++ y) a k) r)
    ∙ regroup (comp_line c) (spread (text.act_part c) 0 max_actions) (spread (text.clk_part c) 0 max_clocks) (row_lines c.rows)

pub model-lines : (m : Model) → All WellComp m → lines_text (entries_of m) ≡ text_of m
unfolding entries_of text_of lines_text
model-lines [] h = refl
model-lines (c ∷ cs) h = lines-append (comp_entries c) (entries_of cs) ∙ ap₂ {C = List ℕ} (λ x y. x ++ y) (comp-lines c h.0) (model-lines cs h.1)

-- ---- each of them is of good shape
pub act-below : (c : Comp) → WellComp c → (a : ℕ) → a ∈ acts c → a < max_actions
act-below c w a h =
    ⊎_elim (λ i. ⊎_elim (in-below max_actions c.ins a w.ins) (in-below max_actions c.uins a w.uins) (in-or c.ins c.uins a i))
    (λ o. ⊎_elim (in-below max_actions c.outs a w.outs) (in-below max_actions c.uouts a w.uouts) (in-or c.outs c.uouts a o))
    (in-or (inputs c) (outputs c) a h)

all_append : {A : Type 0} (P : A → Type 0) (xs ys : List A) → All P xs → All P ys → All P (xs ++ ys)
all_append P [] ys h k = k
all_append P (x ∷ xs) ys h k = (h.0, all_append P xs ys h.1 k)

fits-spread : (f : ℕ → List Entry) (k n : ℕ) → ((j : ℕ) → j < k + n → All LineFits (f j)) → All LineFits (spread f k n)
fits-spread f k zero h = tt
fits-spread f k (suc n) h = all_append LineFits (f k) (spread f (suc k) n) (h k (omega arith)) (fits-spread f (suc k) n (λ j l. h j (omega arith)))

flag-fits : (b : Bool) → Fits (cond b 1 0)
flag-fits true = omega arith
flag-fits false = omega arith

act-fits : (c : Comp) (a : ℕ) → a < max_actions → All LineFits (act_part c a)
act-fits c a l = go (has (acts c) a)
  where
    go : (b : Bool) → All LineFits (cond b (act-entry a (kind_of c a) ∷ []) [])
    go true = (omega arith, tt)
    go false = tt

clk-fits : (c : Comp) (x : ℕ) → x < max_clocks → All LineFits (clk_part c x)
clk-fits c x l = go (has c.clocks x)
  where
    go : (b : Bool) → All LineFits (cond b (clk-entry x (cond (has c.started x) 1 0) ∷ []) [])
    go true = ((omega arith, flag-fits (has c.started x)), tt)
    go false = tt

guard-fits : (c : Comp) → WellComp c → (g : ℕ) → guard_set g ⊆ c.clocks → GuardFits (guard_read g)
guard-fits c w zero h = tt
guard-fits c w (suc x) h = let l = in-below max_clocks c.clocks x w.clocks (h x (in_one x)) in omega arith

row_fits : (c : Comp) → WellComp c → (rs : List Row) → All (WellRow c) rs → All LineFits (row_entries rs)
unfolding row_entries
row_fits c w [] h = tt
row_fits c w (r ∷ rs) h =
    let f : Fits r.from = omega (arith, h.0.from, w.states) in
    let a : Fits r.action = let l = act-below c w r.action h.0.action in omega arith in
    let t : Fits r.target = omega (arith, h.0.target, w.states) in
    ((f, guard-fits c w r.guard h.0.guard, a, members-fit r.resets, t), row_fits c w rs h.1)

comp-fits : (c : Comp) → WellComp c → All LineFits (comp_entries c)
unfolding comp_entries
comp-fits c w =
    let n : Fits c.states = omega (arith, w.states) in
    let s : Fits c.start = omega (arith, w.states, w.start) in (
      (n, s),
      all_append LineFits (spread (act_part c) 0 max_actions ++ spread (clk_part c) 0 max_clocks) (row_entries c.rows)
          (all_append LineFits (spread (act_part c) 0 max_actions) (spread (clk_part c) 0 max_clocks) (fits-spread (act_part c) 0 max_actions (λ j l. act-fits c j l))
          (fits-spread (clk_part c) 0 max_clocks (λ j l. clk-fits c j l)))
          (row_fits c w c.rows (at_all (WellRow c) no_row c.rows w.rows)),
    )

pub model-fits : (m : Model) → All WellComp m → All LineFits (entries_of m)
unfolding entries_of
model-fits [] h = tt
model-fits (c ∷ cs) h = all_append LineFits (comp_entries c) (entries_of cs) (comp-fits c h.0) (model-fits cs h.1)

-- ---- bytes tell lines of good shape apart
entry-empty : entry [] ≡ stops []
unfolding entry exactly shorter
entry-empty = refl

pub one-lines : (es ds : List Entry) → All LineFits es → All LineFits ds → lines_text es ≡ lines_text ds → es ≡ ds
unfolding lines_text
one-lines [] [] h k e = refl
one-lines [] (d ∷ ds) h k e = absurd (no-is (entry-empty) (ap entry e ∙ entry-exact.printed d (lines_text ds) k.0 tt))
one-lines (x ∷ es) [] h k e = absurd (no-is (entry-empty) (ap entry (sym e) ∙ entry-exact.printed x (lines_text es) h.0 tt))
one-lines (x ∷ es) (d ∷ ds) h k e =
    let q = is-inj (sym (entry-exact.printed x (lines_text es) h.0 tt) ∙ ap entry e ∙ entry-exact.printed d (lines_text ds) k.0 tt) in
    ap₂ {C = List Entry} (λ y ys. y ∷ ys) (ap (λ (g : Got Entry). g.value) q) (one-lines es ds h.1 k.1 (ap (λ (g : Got Entry). g.rest) q))
