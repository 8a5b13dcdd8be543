-- An `act` line more: the component that it makes, its text, and that it is well-formed.
use mathlib.Core.Path.{◌≡◌, refl, sym, ◌∙◌, ap, ap₂}
use mathlib.Core.Bool.{false, cond}
use mathlib.Core.List.{List, [], ◌++◌, append_assoc, append-nil}
use Prim.Native.Nat.{ℕ, ◌≤◌, ◌<◌}
use native.Mathlib.Omega.{arith}
use Rattle.laws.specs.Sets.{has, ◌∪◌, only, ◌∈◌}
use Rattle.laws.specs.Fold.{spread}
use Rattle.laws.proofs.SetLaws.{not-or, none_in, or_assoc}
use Rattle.laws.proofs.TestLaws.{not_so}
use Rattle.laws.proofs.GrowLaws.{added-here, added-there, or-past, spread_none, spread-added}
use Rattle.answer.specs.Limits.{max_actions, max_clocks}
use Rattle.model.specs.Model.{Comp, acts}
use Rattle.model.specs.Text.{Kind, in-kind, out-kind, uin-kind, uout-kind, comp_line, act_line, kind_of, act_part, clk_part, row_lines, comp_text}
use Rattle.model.specs.WellFormed.{WellComp}
use Rattle.model.specs.Reading.{with_act, act-entry}
use Rattle.model.specs.Line.{line_of}
use Rattle.model.proofs.Reading.Kinds.{KindsApart, four-turn, four-grow, kinds-apart, well-with-no-row}

-- what an `act` line leaves as it was
pub record Kept (c d : Comp) : Type 0 where
  pub states : d.states ≡ c.states
  pub start : d.start ≡ c.start
  pub clocks : d.clocks ≡ c.clocks
  pub started : d.started ≡ c.started
  pub rows : d.rows ≡ c.rows

pub act-kept : (c : Comp) (a : ℕ) (k : Kind) → Kept c (with_act c a k)
act-kept c a in-kind = record { states = refl; start = refl; clocks = refl; started = refl; rows = refl }
act-kept c a out-kind = record { states = refl; start = refl; clocks = refl; started = refl; rows = refl }
act-kept c a uin-kind = record { states = refl; start = refl; clocks = refl; started = refl; rows = refl }
act-kept c a uout-kind = record { states = refl; start = refl; clocks = refl; started = refl; rows = refl }

pub act-acts : (c : Comp) (a : ℕ) (k : Kind) → acts (with_act c a k) ≡ acts c ∪ only a
act-acts c a in-kind = ap (λ s. s ∪ (c.outs ∪ c.uouts)) (or-past c.ins c.uins (only a)) ∙ or-past (c.ins ∪ c.uins) (c.outs ∪ c.uouts) (only a)
act-acts c a out-kind = ap (λ s. c.ins ∪ c.uins ∪ s) (or-past c.outs c.uouts (only a)) ∙ sym (or_assoc (c.ins ∪ c.uins) (c.outs ∪ c.uouts) (only a))
act-acts c a uin-kind =
    ap (λ s. s ∪ (c.outs ∪ c.uouts)) (sym (or_assoc c.ins c.uins (only a))) ∙ or-past (c.ins ∪ c.uins) (c.outs ∪ c.uouts) (only a)
act-acts c a uout-kind =
    ap (λ s. c.ins ∪ c.uins ∪ s) (sym (or_assoc c.outs c.uouts (only a))) ∙ sym (or_assoc (c.ins ∪ c.uins) (c.outs ∪ c.uouts) (only a))

-- an action that the component lacks is of no kind
pub record NoKind (c : Comp) (a : ℕ) : Type 0 where
  pub ins : has c.ins a ≡ false
  pub outs : has c.outs a ≡ false
  pub uins : has c.uins a ≡ false
  pub uouts : has c.uouts a ≡ false

pub no_kind : (c : Comp) (a : ℕ) → has (acts c) a ≡ false → NoKind c a
no_kind c a h =
    let p = not-or (c.ins ∪ c.uins) (c.outs ∪ c.uouts) a h in
    let i = not-or c.ins c.uins a p.0 in
    let o = not-or c.outs c.uouts a p.1 in
    record { ins = i.0; outs = o.0; uins = i.1; uouts = o.1 }

kind-here : (c : Comp) (a : ℕ) (k : Kind) → NoKind c a → kind_of (with_act c a k) a ≡ k
unfolding kind_of
kind-here c a in-kind n = rw (added-here c.ins a)
kind-here c a out-kind n = rw (n.ins, added-here c.outs a)
kind-here c a uin-kind n = rw (n.ins, n.outs, added-here c.uins a)
kind-here c a uout-kind n = rw (n.ins, n.outs, n.uins)

kind-there : (c : Comp) (a : ℕ) (k : Kind) (x : ℕ) → (x ≡ a → ⊥) → kind_of (with_act c a k) x ≡ kind_of c x
unfolding kind_of
kind-there c a in-kind x ne = rw (added-there c.ins a x ne)
kind-there c a out-kind x ne = rw (added-there c.outs a x ne)
kind-there c a uin-kind x ne = rw (added-there c.uins a x ne)
kind-there c a uout-kind x ne = refl

-- ---- its text
act-lines : (c : Comp) (a : ℕ) (k : Kind) → a < max_actions → ((x : ℕ) → x ∈ acts c → x < a)
    → spread (act_part (with_act c a k)) 0 max_actions ≡ spread (act_part c) 0 max_actions ++ act_line a k
unfolding act_part
act-lines c a k h below = spread-added (act_part c) (act_part (with_act c a k)) (act_line a k) a 0 max_actions (omega arith) (omega arith) none here there
  where
    lacks : (x : ℕ) → a ≤ x → has (acts c) x ≡ false
    lacks x p = not_so (has (acts c) x) (λ m. omega (arith, below x m))

    none : (x : ℕ) → a ≤ x → act_part c x ≡ []
    none x p = rw (lacks x p)

    here : act_part (with_act c a k) a ≡ act_line a k
    here = rw (ap (λ s. has s a) (act-acts c a k) ∙ added-here (acts c) a) (ap (act_line a) (kind-here c a k (no_kind c a (lacks a (omega arith)))))

    there : (x : ℕ) → (x ≡ a → ⊥) → act_part (with_act c a k) x ≡ act_part c x
    there x ne = ap₂ (λ b j. cond b (act_line x j) []) (ap (λ s. has s x) (act-acts c a k) ∙ added-there (acts c) a x ne) (kind-there c a k x ne)

-- the text of a component with no clock and no row yet
pub bare-text : (c : Comp) → c.clocks ≡ 0 → c.rows ≡ [] → comp_text c ≡ comp_line c ++ spread (act_part c) 0 max_actions
unfolding comp_text clk_part row_lines
bare-text c e f =
    ap₂ (λ (l m : List ℕ). comp_line c ++ spread (act_part c) 0 max_actions ++ l ++ m)
    (spread_none (clk_part c) 0 max_clocks (λ x p. rw e (rw (not_so (has 0 x) (none_in x))))) (ap row_lines f)
    ∙ append-nil (comp_line c ++ spread (act_part c) 0 max_actions ++ [])
    ∙ append-nil (comp_line c ++ spread (act_part c) 0 max_actions)

kept_line : (c d : Comp) → Kept c d → comp_line d ≡ comp_line c
unfolding comp_line
kept_line c d q = rw (q.states, q.start)

pub act-text : (c : Comp) (a : ℕ) (k : Kind) → a < max_actions → ((x : ℕ) → x ∈ acts c → x < a) → c.clocks ≡ 0 → c.rows ≡ []
    → comp_text (with_act c a k) ≡ comp_text c ++ line_of (act-entry a k)
unfolding line_of act_line
act-text c a k h below e f =
    let q = act-kept c a k in
    bare-text (with_act c a k) (q.clocks ∙ e) (q.rows ∙ f)
    ∙ ap₂ (λ (l m : List ℕ). l ++ m) (kept_line c (with_act c a k) q) (act-lines c a k h below)
    ∙ sym (append_assoc (comp_line c) (spread (act_part c) 0 max_actions) (act_line a k))
    ∙ ap (λ (l : List ℕ). l ++ act_line a k) (sym (bare-text c e f))

-- ---- it is well-formed
act-apart : (c : Comp) (a : ℕ) (k : Kind) → a < max_actions → NoKind c a → KindsApart c → KindsApart (with_act c a k)
act-apart c a in-kind h n f = four-grow a h n.outs n.uins n.uouts f
act-apart c a out-kind h n f = four-turn (four-turn (four-turn (four-grow a h n.uins n.uouts n.ins (four-turn f))))
act-apart c a uin-kind h n f = four-turn (four-turn (four-grow a h n.uouts n.ins n.outs (four-turn (four-turn f))))
act-apart c a uout-kind h n f = four-turn (four-grow a h n.ins n.outs n.uins (four-turn (four-turn (four-turn f))))

pub act-well : (c : Comp) (a : ℕ) (k : Kind) → WellComp c → a < max_actions → has (acts c) a ≡ false → c.rows ≡ [] → WellComp (with_act c a k)
act-well c a k w h e f =
    let q = act-kept c a k in
    well-with-no-row (with_act c a k) (rw q.states w.some) (rw q.states w.states) (rw (q.states, q.start) w.start)
    (act-apart c a k h (no_kind c a e) (kinds-apart c w))
    (rw q.clocks w.clocks) (rw (q.clocks, q.started) w.started) (q.rows ∙ f)
