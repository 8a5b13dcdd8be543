-- A faultless line fits the table of the components before it, and once it is taken in the table is that of the components behind it.
use mathlib.Core.Path.{◌≡◌, refl, sym, ap, subst, subst₂}
use mathlib.Core.Option.{Option, none, some}
use mathlib.Core.Bool.{Bool, true, false}
use mathlib.Core.List.{List, [], ◌∷◌}
use Prim.Native.Nat.{ℕ, zero, suc, ◌+◌, ◌*◌, ◌-◌, ◌≤◌, ◌<◌}
use native.Mathlib.Numerals.{add-one}
use native.Mathlib.Omega.{arith}
use lib.ListN.{length, set, drop, length-append}
use lib.Dec.{eqb}
use borrow.Author.Tests.{lt-ltb}
use Rattle.laws.specs.Search.{when, or_else}
use Rattle.laws.proofs.SearchLaws.{no-some}
use Rattle.answer.specs.Limits.{max_components, max_rows, max_states, max_clocks}
use Rattle.model.specs.Model.{Comp, row_count}
use Rattle.model.specs.Text.{Kind, in-kind, out-kind, uin-kind, uout-kind}
use Rattle.model.specs.Reading.{Entry, comp-entry, act-entry, clk-entry, row-entry, Progress, current, turn, out_of_turn, out_of_range, lacks, out_of_order}
use Rattle.model.specs.Reading.{too_many, fault_of, guard_of, row_of, take_in}
use Rattle.model.specs.Faulty.{GuardIs, InTurn, InRange, Room}
use Rattle.model.proofs.Reading.Tests.{turn-decided, range-decided, below-decided, room-decided}
use Rattle.fields.specs.Resets.{summary}
use Rattle.lines.specs.declared.Line.{Line}
use Rattle.lines.specs.declared.Line.TheVariants as OfLine
use Rattle.lines.specs.Lines.{line_of, guard_is, kind_is}
use Rattle.judge.specs.declared.Progress.{Progress as CodeProgress}
use Rattle.judge.specs.Judged.{standing, guard_number}
use Rattle.judge.proofs.SummaryLaws.{summary-set}
use Rattle.judge.proofs.StepIs.{Begun}
use Rattle.layout.specs.Layout.{row_words, rows_at, image_words}
use Rattle.reading.specs.Changes.{Joined, block_at, RowPut}
use Rattle.reading.specs.Laid.{Laid}
use Rattle.reading.proofs.LaidWord.{kind_word_at}
use Rattle.reading.proofs.TakenIn.{comp-taken, act-taken, clk-taken, started-taken, row-taken, firsts-below}
use Rattle.intake.specs.Change.{set_word, Begins, ClkPut, Change, Fits}
use Rattle.intake.proofs.Kept.{Kept, kept_on, set-kept, sets-kept, joined-kept, filled-kept, raised-kept, set-word-most}

-- what the lines so far give of the limits
pub record Bounded (m : List Comp) : Type 0 where
  pub components : length m ≤ max_components
  pub rows : row_count m ≤ max_rows
  pub states : (current (record { comps = m; last = none })).states ≤ max_states

-- ---- a line without a fault
none-of-five : (a b c d f : Bool) → or_else {A = ℕ} (when a 3) (or_else (when b 4) (or_else (when c 5) (or_else (when d 6) (when f 7)))) ≡ none
    → (a ≡ false) × (b ≡ false) × (f ≡ false)
none-of-five true b c d f h = absurd (no-some h refl)
none-of-five false true c d f h = absurd (no-some h refl)
none-of-five false false true d f h = absurd (no-some h refl)
none-of-five false false false true f h = absurd (no-some h refl)
none-of-five false false false false true h = absurd (no-some h refl)
none-of-five false false false false false h = (refl, refl, refl)

record Good (q : Progress) (e : Entry) : Type 0 where
  in-turn : InTurn q.last e
  in-range : InRange (current q) e
  room : Room q.comps e

good : (q : Progress) (e : Entry) → fault_of q e ≡ none → Good q e
unfolding fault_of
good q e h =
    let p = none-of-five (out_of_turn q.last e) (out_of_range (current q) e) (lacks (current q) e) (out_of_order q.last e) (too_many q.comps e) h in
    record { in-turn = (turn-decided q.last e).0 p.0; in-range = (range-decided (current q) e).0 p.1; room = (room-decided q.comps e).0 p.2 }

-- in turn, so that there is a component
has-comp : (q : Progress) (e : Entry) → Begun q → InTurn q.last e → 1 ≤ turn e → 1 ≤ length q.comps
has-comp q e b = go q.last refl
  where
    go : (o : Option Entry) → q.last ≡ o → InTurn o e → 1 ≤ turn e → 1 ≤ length q.comps
    go none s t u = absurd (omega (arith, t))
    go (some d) s t u = b.some-comp d s

-- ---- the limits
pub bounded-first : Bounded []
unfolding row_count
bounded-first = record { components = omega arith; rows = omega arith; states = omega arith }

bounded-more : (m : List Comp) (c : Comp) (e : Entry) → Bounded m → InRange c e → Room m e → Bounded (take_in m e)
unfolding take_in row_count
bounded-more m c (comp-entry n s) b r f = record { components = omega (arith, f); rows = omega (arith, b.rows); states = r.1 }
bounded-more [] c (act-entry a k) b r f = b
bounded-more (d ∷ cs) c (act-entry a in-kind) b r f = record { components = b.components; rows = b.rows; states = b.states }
bounded-more (d ∷ cs) c (act-entry a out-kind) b r f = record { components = b.components; rows = b.rows; states = b.states }
bounded-more (d ∷ cs) c (act-entry a uin-kind) b r f = record { components = b.components; rows = b.rows; states = b.states }
bounded-more (d ∷ cs) c (act-entry a uout-kind) b r f = record { components = b.components; rows = b.rows; states = b.states }
bounded-more [] c (clk-entry x v) b r f = b
bounded-more (d ∷ cs) c (clk-entry x v) b r f = record { components = b.components; rows = b.rows; states = b.states }
bounded-more [] c (row-entry s g a u t) b r f = b
bounded-more (d ∷ cs) c (row-entry s g a u t) b r f =
    record { components = b.components; rows = omega (arith, length-append d.rows (row_of s g a u t ∷ []), f); states = b.states }

pub bounded-next : (q : Progress) (e : Entry) → Bounded q.comps → fault_of q e ≡ none → Bounded (take_in q.comps e)
bounded-next q e b h = let w = good q e h in bounded-more q.comps (current q) e b w.in-range w.room

-- ---- a line fits
abbrev at : List Comp → Option Entry → Progress
at m l = record { comps = m; last = l }

module _ (t : List ℕ) (l : Option Entry) (s : ℕ) (g : Option ℕ) (x : ℕ) (r : List ℕ) (to : ℕ) where
  row_fits : (m : List Comp) → Laid t m → Bounded m → 1 ≤ length m → s < (current (at m l)).states → row_count m < max_rows
      → Fits t (standing (at m l)) (line_of (row-entry s g x r to))
  row_fits [] a b n f room = absurd (omega arith)
  row_fits (c ∷ cs) a b n f room =
      (a.long, (n, b.components), b.states, f, room, λ j h k. firsts-below t c cs a b.states room j (omega arith) (omega arith))

pub line-fits : (t : List ℕ) (q : Progress) (e : Entry) → Laid t q.comps → Begun q → Bounded q.comps → fault_of q e ≡ none → Fits t (standing q) (line_of e)
line-fits t q (comp-entry n s) a g b h = let w = good q (comp-entry n s) h in (a.long, w.room, w.in-range.1, b.rows)
line-fits t q (act-entry x k) a g b h =
    let w = good q (act-entry x k) h in
    (a.long, (has-comp q (act-entry x k) g w.in-turn (omega arith), b.components), w.in-range)
line-fits t q (clk-entry x v) a g b h =
    let w = good q (clk-entry x v) h in
    (a.long, (has-comp q (clk-entry x v) g w.in-turn (omega arith), b.components), w.in-range.0)
line-fits t q (row-entry s d x r to) a g b h =
    let w = good q (row-entry s d x r to) h in
    row_fits t q.last s d x r to q.comps a b (has-comp q (row-entry s d x r to) g w.in-turn (omega arith)) w.in-range.0 w.room

-- ---- a line is taken in
kind-word : (k : Kind) → set_word (kind_is k) ≡ kind_word_at k
kind-word in-kind = refl
kind-word out-kind = refl
kind-word uin-kind = refl
kind-word uout-kind = refl

guard-is : (g : Option ℕ) → GuardIs (λ x. x < max_clocks) g → guard_number (guard_is g) ≡ guard_of g
guard-is none h = refl
guard-is (some x) h = rw (lt-ltb x max_clocks h) (add-one x)

module _ (t t' : List ℕ) (c : Comp) (cs : List Comp) (l : Option Entry) (a : Laid t (c ∷ cs)) (b : Bounded (c ∷ cs)) where
  room : length cs < max_components
  room = omega (arith, b.components)

  -- the block of the last component
  last_block : suc (length cs) - 1 ≡ length cs
  last_block = omega arith

  act-in : (x : ℕ) (k : Kind) → Change t (standing (at (c ∷ cs) l)) (line_of (act-entry x k)) t' → Laid t' (take_in (c ∷ cs) (act-entry x k))
  act-in x k p = act-taken t t' c cs a room x k (subst₂ (λ i w. Joined t (block_at i w) x t') last_block (kind-word k) p)

  clk-put : (x v : ℕ) → v ≤ 1 → ClkPut t (length cs) x v t' → Laid t' (take_in (c ∷ cs) (clk-entry x v))
  clk-put x zero h p = subst (λ d. Laid d (take_in (c ∷ cs) (clk-entry x 0))) (sym p.started) (clk-taken t p.mid c cs a room x p.declared)
  clk-put x (suc zero) h p = started-taken p.mid t' c cs x (clk-taken t p.mid c cs a room x p.declared) room p.started
  clk-put x (suc (suc v)) h p = absurd (omega arith)

  clk-in : (x v : ℕ) → v ≤ 1 → Change t (standing (at (c ∷ cs) l)) (line_of (clk-entry x v)) t' → Laid t' (take_in (c ∷ cs) (clk-entry x v))
  clk-in x v h p = clk-put x v h (subst (λ i. ClkPut t i x v t') last_block p)

  row-in : (s : ℕ) (g : Option ℕ) (x : ℕ) (r : List ℕ) (to : ℕ) → InRange c (row-entry s g x r to) → row_count (c ∷ cs) < max_rows
      → Change t (standing (at (c ∷ cs) l)) (line_of (row-entry s g x r to)) t' → Laid t' (take_in (c ∷ cs) (row-entry s g x r to))
  row-in s g x r to f n p =
      let e = summary-set r ((below-decided max_clocks r).1 f.3) in
      row-taken t t' c cs a room s g x r to f.0 b.states n
      (subst₂ (λ i z. RowPut t i c.states (row_count (c ∷ cs)) s (x ∷ guard_of g ∷ z ∷ to ∷ []) t') last_block e
      (subst (λ d. RowPut t (suc (length cs) - 1) c.states (row_count (c ∷ cs)) s (x ∷ d ∷ (summary r).set ∷ to ∷ []) t') (guard-is g f.1) p))

taken_in_lem : (t t' : List ℕ) (m : List Comp) (l : Option Entry) (e : Entry) → Laid t m → Bounded m → Good (at m l) e → (1 ≤ turn e → 1 ≤ length m)
    → Change t (standing (at m l)) (line_of e) t' → Laid t' (take_in m e)
taken_in_lem t t' m l (comp-entry n s) a b w f c = comp-taken t t' m n s a w.room w.in-range.1 c
taken_in_lem t t' [] l (act-entry x k) a b w f c = absurd (omega (arith, f (omega arith)))
taken_in_lem t t' (d ∷ cs) l (act-entry x k) a b w f c = act-in t t' d cs l a b x k c
taken_in_lem t t' [] l (clk-entry x v) a b w f c = absurd (omega (arith, f (omega arith)))
taken_in_lem t t' (d ∷ cs) l (clk-entry x v) a b w f c = clk-in t t' d cs l a b x v w.in-range.1 c
taken_in_lem t t' [] l (row-entry s g x r to) a b w f c = absurd (omega (arith, f (omega arith)))
taken_in_lem t t' (d ∷ cs) l (row-entry s g x r to) a b w f c = row-in t t' d cs l a b s g x r to w.in-range w.room c

pub line-taken-in : (t t' : List ℕ) (q : Progress) (e : Entry) → Laid t q.comps → Begun q → Bounded q.comps → fault_of q e ≡ none
    → Change t (standing q) (line_of e) t' → Laid t' (take_in q.comps e)
line-taken-in t t' q e a g b h c = let w = good q e h in taken_in_lem t t' q.comps q.last e a b w (has-comp q e g w.in-turn) c

-- ---- no line changes a word behind the image
kept : (t t' : List ℕ) (p : CodeProgress) (l : Line) → Fits t p l → Change t p l t' → Kept image_words t t'
kept t t' p (OfLine.Comp n s) f c =
    let i = p.components in
    rw c.words (kept_on (filled-kept c.firsts (omega (arith, f)))
    (kept_on (set-kept image_words c.mid 0 (suc i) (omega arith))
    (kept_on (set-kept image_words (set c.mid 0 (suc i)) (block_at i 0) n (omega (arith, f)))
    (set-kept image_words (set (set c.mid 0 (suc i)) (block_at i 0) n) (block_at i 1) s (omega (arith, f))))))
kept t t' p (OfLine.Act a k) f c = joined-kept c (omega (arith, f.1, set-word-most k))
kept t t' p (OfLine.Clk x b) f c = kept_on (joined-kept c.declared (omega (arith, f.1))) (go (eqb b 1) c.started)
  where
    go : (v : Bool) → Begins v c.mid (block_at (p.components - 1) 7) x t' → Kept image_words c.mid t'
    go true j = joined-kept j (omega (arith, f.1))
    go false e = record { rest = ap (drop image_words) e; long = ap length e }
kept t t' p (OfLine.Row s g a r to) f c =
    let ws = a ∷ guard_number g ∷ r.set ∷ to ∷ [] in
    rw c.words (kept_on (raised-kept c.firsts (omega (arith, f.1, f.2))) (sets-kept image_words c.mid (rows_at + row_words * p.rows) ws
    (omega (arith, f.4))))

pub rest-kept : (t t' : List ℕ) (p : CodeProgress) (l : Line) → Fits t p l → Change t p l t' → (drop image_words t' ≡ drop image_words t) × (length t' ≡ length t)
rest-kept t t' p l f c = let k = kept t t' p l f c in (k.rest, k.long)
