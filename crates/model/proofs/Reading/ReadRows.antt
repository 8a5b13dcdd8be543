-- The `row` lines of a component are read, one after the other.
use mathlib.Core.Path.{◌≡◌, refl, sym, ◌∙◌, ap, ap₂}
use mathlib.Core.Logic.{inr}
use mathlib.Core.Option.{Option, none, some}
use mathlib.Core.Bool.{true}
use mathlib.Core.List.{List, [], ◌∷◌, ◌++◌, append_assoc, append-nil}
use Prim.Native.Nat.{ℕ, zero, suc, ◌+◌, ◌^◌, ◌≤◌, ◌<◌}
use native.Mathlib.Omega.{arith}
use lib.ListN.{length, length-append, get_or}
use lib.Bits.{or_lt}
use Rattle.laws.specs.Sets.{◌∪◌, ◌∈◌, ◌⊆◌}
use Rattle.laws.proofs.SetLaws.{in-below, in_one, subset-le}
use Rattle.laws.proofs.ListLaws.{All}
use Rattle.answer.specs.Limits.{max_rows, max_actions, max_clocks}
use Rattle.model.specs.Model.{Row, Comp, no_row, acts, guard_set, row_count}
use Rattle.model.specs.Text.{row_line, row_lines, clocks_of}
use Rattle.model.specs.WellFormed.{before, WellRow, WellComp}
use Rattle.model.specs.Reading.{Entry, comp-entry, act-entry, clk-entry, row-entry, turn, take_in}
use Rattle.model.specs.Line.{GuardFits, LineFits}
use Rattle.model.specs.Faulty.{GuardIs, InRange, Named, After}
use Rattle.model.proofs.Reading.Members.{members-ascend, members-below, members-fit, members-within}
use Rattle.model.proofs.Reading.Tests.{below-decided, in-decided, ascends-decided}
use Rattle.model.proofs.Reading.Printed.{guard_read, row_read, row_back_lem, row-line}
use Rattle.model.proofs.Reading.Phases.{line_on, At, move}
use Rattle.model.proofs.Reading.ReadClocks.{ClkLast}

-- c with these rows
abbrev pub with_rows : Comp → List Row → Comp
with_rows c rs =
    record {
      states = c.states;
      start = c.start;
      ins = c.ins;
      outs = c.outs;
      uins = c.uins;
      uouts = c.uouts;
      clocks = c.clocks;
      started = c.started;
      rows = rs;
    }

-- each row follows the line before it
abbrev pub Follow : Entry → List Row → Type 0
Follow d [] = Unit {0}
Follow d (r ∷ rs) = After d (row_read r) × Follow (row_read r) rs

module _ (c : Comp) (w : WellComp c) (r : Row) (h : WellRow c r) where
  resets-small : r.resets < 2 ^ max_clocks
  resets-small = omega (arith, subset-le r.resets c.clocks h.resets, w.clocks)

  action-small : r.action < max_actions
  action-small = in-below max_actions (acts c) r.action
      (or_lt max_actions (c.ins ∪ c.uins) (c.outs ∪ c.uouts) (or_lt max_actions c.ins c.uins w.ins w.uins)
      (or_lt max_actions c.outs c.uouts w.outs w.uouts))
      h.action

  guard-named : GuardIs (λ x. x ∈ c.clocks) (guard_read r.guard)
  guard-named = go r.guard h.guard
    where
      go : (g : ℕ) → guard_set g ⊆ c.clocks → GuardIs (λ x. x ∈ c.clocks) (guard_read g)
      go zero f = tt
      go (suc x) f = f x (in_one x)

  guard_small : GuardIs (λ x. x < max_clocks) (guard_read r.guard)
  guard_small = go (guard_read r.guard) guard-named
    where
      go : (g : Option ℕ) → GuardIs (λ x. x ∈ c.clocks) g → GuardIs (λ x. x < max_clocks) g
      go none m = tt
      go (some x) m = in-below max_clocks c.clocks x w.clocks m

  guard-fits : GuardFits (guard_read r.guard)
  guard-fits = go (guard_read r.guard) guard_small
    where
      go : (g : Option ℕ) → GuardIs (λ x. x < max_clocks) g → GuardFits g
      go none m = tt
      go (some x) m = omega arith

  row_fits : LineFits (row_read r)
  row_fits = (omega (arith, h.from, w.states), guard-fits, omega (arith, action-small), members-fit r.resets, omega (arith, h.target, w.states))

  row-in-range : (rs : List Row) → InRange (with_rows c rs) (row_read r)
  row-in-range rs = (h.from, guard_small, action-small, (below-decided max_clocks (clocks_of r.resets)).0 (members-below r.resets), h.target)

  row_named : (rs : List Row) → Named (with_rows c rs) (row_read r)
  row_named rs = (guard-named, h.action, (in-decided c.clocks (clocks_of r.resets)).0 (members-within r.resets c.clocks h.resets))

turn-most : (d : Entry) → turn d ≤ 3
turn-most (comp-entry n s) = omega arith
turn-most (act-entry a k) = omega arith
turn-most (clk-entry x b) = omega arith
turn-most (row-entry s g a r t) = omega arith

pub rows-read : {t : List ℕ} (c : Comp) (m : List Comp) → WellComp c → (rs qs : List Row) (d : Entry) (bs : List ℕ) → All (WellRow c) qs → Follow d qs
    → length rs + length qs + row_count m ≤ max_rows
    → At t (with_rows c rs) m d (row_lines qs ++ bs) → (e : Entry) × At t (with_rows c (rs ++ qs)) m e bs
unfolding row_lines take_in row_count
rows-read c m w rs [] d bs h f l r = (d, move (ap (with_rows c) (sym (append-nil rs))) refl r)
rows-read c m w rs (q ∷ qs) d bs h f l r =
    let s = resets-small c w q h.0 in
    let z = rows-read c m w (rs ++ q ∷ []) qs (row_read q) bs h.1 f.1 (omega (arith, length-append rs (q ∷ [])))
    (move (ap (λ (p : Row). with_rows c (rs ++ p ∷ [])) (row_back_lem q s)) refl (record {
      line = suc r.line;
      reached =
          line_on (row_read q) (row_lines qs ++ bs) r.reached (append_assoc (row_line q) (row_lines qs) bs
          ∙ ap (λ (x : List ℕ). x ++ (row_lines qs ++ bs)) (row-line q s)) (row_fits c w q h.0)
          (record {
            in-turn = inr (turn-most d);
            in-range = row-in-range c w q h.0 rs;
            named = row_named c w q h.0 rs;
            in_order = (f.0, (ascends-decided (clocks_of q.resets)).0 (members-ascend q.resets));
            room = omega arith;
          });
    })) in
    (z.0, move (ap (with_rows c) (append_assoc rs (q ∷ []) qs)) refl z.1)

first-follows : (x : ℕ) (d : Entry) (r : Row) → ClkLast x d → After d (row_read r)
first-follows x (comp-entry n s) r h = tt
first-follows x (act-entry a k) r h = tt
first-follows x (clk-entry y b) r h = tt
first-follows x (row-entry s g a q t) r h = absurd h

-- each row comes before the next
abbrev pub Up : List Row → Type 0
Up rs = (k : ℕ) → suc k < length rs → before (get_or rs k no_row) (get_or rs (suc k) no_row) ≡ true

rows_behind : (c : Comp) → WellComp c → (r : Row) (rs : List Row) → All (WellRow c) (r ∷ rs) → Up (r ∷ rs) → Follow (row_read r) rs
rows_behind c w r [] h b = tt
rows_behind c w r (q ∷ qs) h b = (
  ap₂ before (row_back_lem r (resets-small c w r h.0)) (row_back_lem q (resets-small c w q h.1.0)) ∙ b 0 (omega arith),
  rows_behind c w q qs h.1 (λ k l. b (suc k) (omega arith)),
)

pub rows-follow : (c : Comp) → WellComp c → (x : ℕ) (d : Entry) → ClkLast x d → (rs : List Row) → All (WellRow c) rs → Up rs → Follow d rs
rows-follow c w x d l [] h b = tt
rows-follow c w x d l (r ∷ rs) h b = (first-follows x d r l, rows_behind c w r rs h b)
