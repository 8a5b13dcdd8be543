-- Lines that are read, however many bytes they have, are the text of the components that they come to.
-- (iosa, Reading.TextOfRead, says so of a text within its limit.)
use mathlib.Core.Path.{◌≡◌, refl, sym, ◌∙◌, ap, ap₂}
use mathlib.Core.Logic.{inl, inr, ⊎_elim}
use mathlib.Core.Option.{Option, none, some}
use mathlib.Core.Bool.{true}
use mathlib.Core.List.{List, [], ◌∷◌, ◌++◌, append_assoc, append-nil, reverse, reverse-cons}
use Prim.Native.Nat.{ℕ, suc, ◌≤◌, ◌<◌}
use native.Mathlib.Omega.{arith}
use lib.ListN.{length, length-append}
use lib.Seq.{get_or_at}
use Rattle.laws.specs.Sets.{has, ◌∪◌, only, ◌∈◌}
use Rattle.laws.proofs.SetLaws.{none_in, one_in, in-or, same-members}
use Rattle.laws.proofs.TestLaws.{not_so}
use Rattle.laws.proofs.ListLaws.{All}
use Rattle.laws.proofs.GrowLaws.{spread_none}
use Rattle.answer.specs.Limits.{max_components, max_rows, max_states, max_actions}
use Rattle.model.specs.Model.{Comp, Model, no_row, row_at, acts, row_count}
use Rattle.model.specs.Text.{Kind, comp_line, act_part, comp_text, text_of}
use Rattle.model.specs.WellFormed.{before, WellComp}
use Rattle.model.specs.Reading.{Entry, comp-entry, act-entry, clk-entry, row-entry, Progress, new_comp, with_act, with_clk, with_row, row_of, take_in}
use Rattle.model.specs.Line.{line_of}
use Rattle.model.specs.Faulty.{InTurn, After, Faultless, Reaches, first-line, next-line}
use Rattle.model.proofs.Reading.Kinds.{FourApart, well-with-no-row}
use Rattle.model.proofs.Reading.GrowActs.{act-kept, act-acts, act-text, act-well, bare-text}
use Rattle.model.proofs.Reading.GrowClocks.{clk-text, clk-well}
use Rattle.model.proofs.Reading.GrowRows.{row-text, row-line, row-well, rows-well}

-- ---- a new component
none_below : (s : ℕ) → ((x : ℕ) → x ∈ s → x < 0) → s ≡ 0
none_below s h = same-members s 0 (λ x m. absurd (omega (arith, h x m))) (λ x m. absurd (none_in x m))

new-text : (n s : ℕ) → comp_text (new_comp n s) ≡ line_of (comp-entry n s)
unfolding comp_line act_part line_of
new-text n s =
    bare-text (new_comp n s) refl refl
    ∙ ap (λ (l : List ℕ). comp_line (new_comp n s) ++ l) (spread_none (act_part (new_comp n s)) 0 max_actions (λ x p. rw (not_so (has 0 x) (none_in x))))
    ∙ append-nil (comp_line (new_comp n s))

new-well : (n s : ℕ) → 1 ≤ n → n ≤ max_states → s < n → WellComp (new_comp n s)
new-well n s p q h = well-with-no-row (new_comp n s) p q h none_apart (omega arith) (λ x m. m) refl
  where
    both-none : (x : ℕ) → x ∈ 0 → x ∈ 0 → ⊥
    both-none x m l = none_in x m

    none_apart : FourApart 0 0 0 0
    none_apart =
        record {
          first = omega arith;
          second = omega arith;
          third = omega arith;
          fourth = omega arith;
          one-two = both-none;
          one-three = both-none;
          one-four = both-none;
          two-three = both-none;
          two-four = both-none;
          three-four = both-none;
        }

-- ---- texts and counts of the components so far
text-append : (m n : Model) → text_of (m ++ n) ≡ text_of m ++ text_of n
unfolding text_of
text-append [] n = refl
text-append (c ∷ m) n = ap (λ (l : List ℕ). comp_text c ++ l) (text-append m n) ∙ sym (append_assoc (comp_text c) (text_of m) (text_of n))

text-last : (c : Comp) (m : List Comp) → text_of (reverse (c ∷ m)) ≡ text_of (reverse m) ++ comp_text c
unfolding text_of
text-last c m = ap text_of (reverse-cons c m) ∙ text-append (reverse m) (c ∷ []) ∙ ap (λ (l : List ℕ). text_of (reverse m) ++ l) (append-nil (comp_text c))

-- the last component has one line more
text-grows : (t l bs cs : List ℕ) (c d : Comp) (m : List Comp) → comp_text d ≡ comp_text c ++ l → bs ≡ l ++ cs
    → t ≡ text_of (reverse (c ∷ m)) ++ bs → t ≡ text_of (reverse (d ∷ m)) ++ cs
text-grows t l bs cs c d m p q e =
    e ∙ ap₂ (λ (x y : List ℕ). x ++ y) (text-last c m) q
    ∙ append_assoc (text_of (reverse m)) (comp_text c) (l ++ cs)
    ∙ ap (λ (x : List ℕ). text_of (reverse m) ++ x) (sym (append_assoc (comp_text c) l cs) ∙ ap (λ (x : List ℕ). x ++ cs) (sym p))
    ∙ sym (append_assoc (text_of (reverse m)) (comp_text d) cs) ∙ ap (λ (x : List ℕ). x ++ cs) (sym (text-last d m))

-- ---- what the last line tells of the last component
abbrev pub Below : ℕ → ℕ → Type 0
Below s a = (x : ℕ) → x ∈ s → x < a

abbrev pub LastOf : Entry → Comp → Type 0
LastOf (comp-entry n s) c = Below (acts c) 0 × Below c.clocks 0 × (c.rows ≡ [])
LastOf (act-entry a k) c = Below (acts c) (suc a) × Below c.clocks 0 × (c.rows ≡ [])
LastOf (clk-entry x b) c = Below c.clocks (suc x) × (c.rows ≡ [])
LastOf (row-entry s g a r t) c = (k : ℕ) → suc k ≡ length c.rows → row_at c k ≡ row_of s g a r t

abbrev pub LastIs : Option Entry → List Comp → Type 0
LastIs none [] = Unit {0}
LastIs none (c ∷ m) = ⊥
LastIs (some d) [] = ⊥
LastIs (some d) (c ∷ m) = LastOf d c

-- the lines read so far are the text of the components so far, which are well-formed
pub record Sound (t : List ℕ) (m : List Comp) (l : Option Entry) (bs : List ℕ) : Type 0 where
  pub text : t ≡ text_of (reverse m) ++ bs
  pub many : length m ≤ max_components
  pub each : All WellComp m
  pub rows : row_count m ≤ max_rows
  pub last : LastIs l m

-- ---- a faultless line keeps it so
act-left : (d : Entry) (c : Comp) (a : ℕ) (k : Kind) → LastOf d c → InTurn (some d) (act-entry a k)
    → After d (act-entry a k) → Below (acts c) a × Below c.clocks 0 × (c.rows ≡ [])
act-left (comp-entry n s) c a k l t h = (λ x m. absurd (omega (arith, l.0 x m)), l.1, l.2)
act-left (act-entry b j) c a k l t h = (λ x m. omega (arith, l.0 x m), l.1, l.2)
act-left (clk-entry x b) c a k l (inl t) h = absurd (omega arith)
act-left (clk-entry x b) c a k l (inr t) h = absurd (omega arith)
act-left (row-entry s g b r u) c a k l (inl t) h = absurd (omega arith)
act-left (row-entry s g b r u) c a k l (inr t) h = absurd (omega arith)

clk-left : (d : Entry) (c : Comp) (x b : ℕ) → LastOf d c → InTurn (some d) (clk-entry x b) → After d (clk-entry x b) → Below c.clocks x × (c.rows ≡ [])
clk-left (comp-entry n s) c x b l t h = (λ y m. absurd (omega (arith, l.1 y m)), l.2)
clk-left (act-entry a k) c x b l t h = (λ y m. absurd (omega (arith, l.1 y m)), l.2)
clk-left (clk-entry y j) c x b l t h = (λ z m. omega (arith, l.0 z m), l.1)
clk-left (row-entry s g a r u) c x b l (inl t) h = absurd (omega arith)
clk-left (row-entry s g a r u) c x b l (inr t) h = absurd (omega arith)

row-left : (d : Entry) (c : Comp) (s : ℕ) (g : Option ℕ) (a : ℕ) (r : List ℕ) (t : ℕ) → LastOf d c → After d (row-entry s g a r t)
    → (k : ℕ) → suc k ≡ length c.rows → before (row_at c k) (row_of s g a r t) ≡ true
row-left (comp-entry n z) c s g a r t l h k e = absurd (omega (arith, ap length l.2))
row-left (act-entry b j) c s g a r t l h k e = absurd (omega (arith, ap length l.2))
row-left (clk-entry x b) c s g a r t l h k e = absurd (omega (arith, ap length l.1))
row-left (row-entry s₀ g₀ a₀ r₀ t₀) c s g a r t l h k e = ap (λ q. before q (row_of s g a r t)) (l k e) ∙ h

grown-below : (s a : ℕ) → Below s a → Below (s ∪ only a) (suc a)
grown-below s a h x m = ⊎_elim (λ p. let q = h x p in omega arith) (λ p. omega (arith, one_in a x p)) (in-or s (only a) x m)

sound-step : {t : List ℕ} (m : List Comp) (l : Option Entry) (e : Entry) {bs cs : List ℕ} → Sound t m l bs → bs ≡ line_of e ++ cs
    → Faultless (record { comps = m; last = l }) e → Sound t (take_in m e) (some e) cs
unfolding take_in row_count
sound-step {t} m l (comp-entry n s) {bs} {cs} h e f =
    record {
      text =
          h.text ∙ ap (λ (x : List ℕ). text_of (reverse m) ++ x) (e ∙ ap (λ (x : List ℕ). x ++ cs) (sym (new-text n s)))
          ∙ sym (append_assoc (text_of (reverse m)) (comp_text (new_comp n s)) cs) ∙ ap (λ (x : List ℕ). x ++ cs) (sym (text-last (new_comp n s) m));
      many = omega (arith, f.room);
      each = (new-well n s f.in-range.0 f.in-range.1 f.in-range.2, h.each);
      rows = omega (arith, h.rows);
      last = (λ x p. absurd (none_in x p), λ x p. absurd (none_in x p), refl);
    }
sound-step [] none (act-entry a k) h e f = absurd (omega (arith, f.in-turn))
sound-step [] (some d) (act-entry a k) h e f = absurd h.last
sound-step (c ∷ m) none (act-entry a k) h e f = absurd h.last
sound-step {t} (c ∷ m) (some d) (act-entry a k) {bs} {cs} h e f =
    let b = act-left d c a k h.last f.in-turn f.in_order.0 in
    let q = act-kept c a k in
    record {
      text = text-grows t (line_of (act-entry a k)) bs cs c (with_act c a k) m
          (act-text c a k f.in-range b.0 (none_below c.clocks b.1) b.2) e h.text;
      many = h.many;
      each = (act-well c a k h.each.0 f.in-range (not_so (has (acts c) a) (λ p. omega (arith, b.0 a p))) b.2, h.each.1);
      rows = omega (arith, h.rows, ap length q.rows);
      last = (rw (act-acts c a k) (grown-below (acts c) a b.0), rw q.clocks b.1, q.rows ∙ b.2);
    }
sound-step [] none (clk-entry x b) h e f = absurd (omega (arith, f.in-turn))
sound-step [] (some d) (clk-entry x b) h e f = absurd h.last
sound-step (c ∷ m) none (clk-entry x b) h e f = absurd h.last
sound-step {t} (c ∷ m) (some d) (clk-entry x b) {bs} {cs} h e f =
    let l = clk-left d c x b h.last f.in-turn f.in_order.0 in
    record {
      text = text-grows t (line_of (clk-entry x b)) bs cs c (with_clk c x b) m
          (clk-text c x b f.in-range.0 f.in-range.1 l.0 h.each.0.started l.1) e h.text;
      many = h.many;
      each = (clk-well c x b h.each.0 f.in-range.0 l.1, h.each.1);
      rows = h.rows;
      last = (grown-below c.clocks x l.0, l.1);
    }
sound-step [] none (row-entry s g a r u) h e f = absurd (omega (arith, f.in-turn))
sound-step [] (some d) (row-entry s g a r u) h e f = absurd h.last
sound-step (c ∷ m) none (row-entry s g a r u) h e f = absurd h.last
sound-step {t} (c ∷ m) (some d) (row-entry s g a r u) {bs} {cs} h e f =
    let q = row_of s g a r u in
    let l = row-left d c s g a r u h.last f.in_order.0 in
    let p = row-line s g a r u f.in_order.1 f.in-range.3 in
    record {
      text = text-grows t (line_of (row-entry s g a r u)) bs cs c (with_row c q) m (row-text c q ∙ ap (λ (x : List ℕ). comp_text c ++ x) p) e h.text;
      many = h.many;
      each = (rows-well c q h.each.0 (row-well c s g a r u f.in-range f.named) l, h.each.1);
      rows = omega (arith, f.room, length-append c.rows (q ∷ []));
      last = λ k z. get_or_at c.rows q [] no_row k (omega (arith, length-append c.rows (q ∷ [])));
    }

pub reaches-sound : {t : List ℕ} {k : ℕ} {p : Progress} {bs : List ℕ} → Reaches t k p bs → Sound t p.comps p.last bs
unfolding text_of row_count
reaches-sound first-line = record { text = refl; many = omega arith; each = tt; rows = omega arith; last = tt }
reaches-sound (next-line {p = p} {bs} {e} {cs} r read f) = sound-step p.comps p.last e (reaches-sound r) read.printed f
