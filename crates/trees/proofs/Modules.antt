-- A sound module is a component that a text can state, and meets (a) to (f).
use mathlib.Core.Path.{◌≡◌, refl, sym, ◌∙◌, ap}
use mathlib.Core.Logic.{⊎_elim}
use mathlib.Core.Option.{Option, none, some, some_inj}
use mathlib.Core.Bool.{Bool, true, false, cond, false≢true}
use mathlib.Core.List.Memᴰ.{head as here}
use mathlib.Core.List.Memᴰ.{not-nil as in-none}
use mathlib.Core.List.Memᴰ.{tail as there}
use mathlib.Core.List.{[], ◌∷◌, Memᴰ as In}
use Prim.Native.Nat.{ℕ, zero, suc, ◌+◌, ◌^◌, ◌≤◌, ◌<◌}
use native.Mathlib.Omega.{arith}
use native.Mathlib.Decide.{ℕ_discrete}
use lib.Bits.{or_lt}
use lib.Pow.{pow_pos}
use Rattle.laws.specs.Sets.{◌∪◌, ◌∖◌, only, ◌∈◌, ◌⊆◌, Apart}
use Rattle.laws.specs.Fold.{spread}
use Rattle.laws.proofs.SetLaws.{in-or, or-in-l, or-in-r, in_one, one_in, none_in}
use Rattle.laws.proofs.ListLaws.{in-at, at_in, in-spread, spread-in, pairwise-spread, pairwise-next, Pairwise}
use Rattle.answer.specs.Limits.{max_actions}
use Rattle.model.specs.Text.{Kind, in-kind, out-kind, uin-kind, uout-kind}
use Rattle.model.specs.Model.{Row, Comp, no_row, guard_set, inputs, outputs, urgents, acts}
use Rattle.model.specs.WellFormed.{WellRow, WellComp, before}
use Rattle.iosa.specs.Automaton.{Leads, auto_of, Enabling, Active, Conditions}
use Rattle.iosa.proofs.Acceptance.Guards.{guard-in, in-guard}
use Rattle.iosa.proofs.Acceptance.Order.{lower-less, lower-same}
use Rattle.merged.proofs.Merging.Ascend.{Before, by-from}
use Rattle.trees.specs.Module.{Move, Module, those, is_in, is_out, is_uin, is_uout, rows_for, rows_of, all_rows, comp_by, Sound}

-- ---- the set of those with a test
those-below : (f : ℕ → Bool) (n : ℕ) → those f n < 2 ^ n
unfolding those
those-below f zero = omega arith
those-below f (suc n) = go (those-below f n) (f n)
  where
    go : those f n < 2 ^ n → (b : Bool) → (cond b (only n) 0 ∪ those f n) < 2 ^ suc n
    go h true = or_lt (suc n) (only n) (those f n) (omega (arith, pow_pos n)) (omega (arith, h))
    go h false = or_lt (suc n) 0 (those f n) (omega (arith, pow_pos n)) (omega (arith, h))

pub in-those : (f : ℕ → Bool) (n x : ℕ) → x ∈ those f n → (x < n) × (f x ≡ true)
unfolding those
in-those f zero x h = absurd (none_in x h)
in-those f (suc n) x h =
    ⊎_elim (λ k. here-or (f n) refl k) (λ k. let r = in-those f n x k in (omega (arith, r.0), r.1)) (in-or (cond (f n) (only n) 0) (those f n) x h)
  where
    here-or : (b : Bool) → f n ≡ b → x ∈ cond b (only n) 0 → (x < suc n) × (f x ≡ true)
    here-or true e k = let w = one_in n x k in (omega (arith, w), ap f w ∙ e)
    here-or false e k = absurd (none_in x k)

pub those-in : (f : ℕ → Bool) (n x : ℕ) → x < n → f x ≡ true → x ∈ those f n
unfolding those
those-in f zero x h e = absurd (omega arith)
those-in f (suc n) x h e = elim (ℕ_discrete x n) [
  | yes w ↦ or-in-l (cond (f n) (only n) 0) (those f n) x (rw (w, (ap f (sym w) ∙ e)) (in_one n))
  | no w ↦ or-in-r (cond (f n) (only n) 0) (those f n) x (those-in f n x (omega arith) e)
]

-- ---- rows
-- x is the row by which action a leaves s
pub record Listed (m : Module) (x : Row) : Type 0 where
  pub s : ℕ
  pub a : ℕ
  pub kind : Kind
  pub move : Move
  pub s-below : s < m.states
  pub a-below : a < max_actions
  pub is-kind : m.kind a ≡ some kind
  pub is_move : m.move s a ≡ some move
  pub row : x ≡ record { from = s; guard = move.guard; action = a; resets = move.resets; target = move.target }

module _ (m : Module) where
  row_of : (s a : ℕ) {x : Row} → s < m.states → a < max_actions → In x (rows_of m s a) → Listed m x
  unfolding rows_of
  row_of s a {x} hs ha h = go (m.kind a) (m.move s a) refl refl h
    where
      go : (k : Option Kind) (o : Option Move) → m.kind a ≡ k → m.move s a ≡ o → In x (rows_for k o s a) → Listed m x
      go none o e f l = absurd (in-none l)
      go (some k) none e f l = absurd (in-none l)
      go (some k) (some v) e f (here w) = record { s = s; a = a; kind = k; move = v; s-below = hs; a-below = ha; is-kind = e; is_move = f; row = w }
      go (some k) (some v) e f (there l) = absurd (in-none l)

  all-rows-in : {x : Row} → In x (all_rows m) → Listed m x
  unfolding all_rows
  all-rows-in l =
      let p = spread-in (λ s. spread (rows_of m s) 0 max_actions) 0 m.states l in
      let q = spread-in (rows_of m p.0) 0 max_actions p.3 in
      row_of p.0 q.0 (omega (arith, p.2)) (omega (arith, q.2)) q.3

  in-all-rows : (s a : ℕ) (k : Kind) (v : Move) → s < m.states → a < max_actions → m.kind a ≡ some k → m.move s a ≡ some v
      → In (record { from = s; guard = v.guard; action = a; resets = v.resets; target = v.target }) (all_rows m)
  unfolding all_rows rows_of
  in-all-rows s a k v hs ha e f =
      in-spread (λ s. spread (rows_of m s) 0 max_actions) 0 m.states s (omega arith) (omega arith)
      (in-spread (rows_of m s) 0 max_actions a (omega arith) (omega arith) (rw (e, f) (here refl)))

by-action : (r q : Row) → r.from ≡ q.from → r.action < q.action → Before r q
unfolding before
by-action r q e h =
    lower-same r.from q.from (r.action ∷ r.guard ∷ r.resets ∷ r.target ∷ []) (q.action ∷ q.guard ∷ q.resets ∷ q.target ∷ []) e
    ∙ lower-less r.action q.action (r.guard ∷ r.resets ∷ r.target ∷ []) (q.guard ∷ q.resets ∷ q.target ∷ []) h

-- ---- "`row` lines ascend strictly": one row at most for each state and action, in their order
module _ (m : Module) where
  rows-of-state-and-action : (s a : ℕ) {x : Row} → s < m.states → a < max_actions → In x (rows_of m s a) → (x.from ≡ s) × (x.action ≡ a)
  unfolding rows_of
  rows-of-state-and-action s a {x} hs ha h = go (m.kind a) (m.move s a) h
    where
      go : (k : Option Kind) (o : Option Move) → In x (rows_for k o s a) → (x.from ≡ s) × (x.action ≡ a)
      go none o l = absurd (in-none l)
      go (some k) none l = absurd (in-none l)
      go (some k) (some v) (here w) = (ap (λ r. r.from) w, ap (λ r. r.action) w)
      go (some k) (some v) (there l) = absurd (in-none l)

  one_at_most : (s a : ℕ) → Pairwise Before (rows_of m s a)
  unfolding rows_of
  one_at_most s a = go (m.kind a) (m.move s a)
    where
      go : (k : Option Kind) (o : Option Move) → Pairwise Before (rows_for k o s a)
      go none o = tt
      go (some k) none = tt
      go (some k) (some v) = (λ y l. absurd (in-none l), tt)

  rows-of-state : (s : ℕ) {x : Row} → s < m.states → In x (spread (rows_of m s) 0 max_actions) → x.from ≡ s
  rows-of-state s hs l = let p = spread-in (rows_of m s) 0 max_actions l in (rows-of-state-and-action s p.0 hs (omega (arith, p.2)) p.3).0

  rows-ascend : Pairwise Before (all_rows m)
  unfolding all_rows
  rows-ascend = pairwise-spread Before (λ s. spread (rows_of m s) 0 max_actions) 0 m.states of-state by_state
    where
      of-state : (s : ℕ) → 0 ≤ s → s < 0 + m.states → Pairwise Before (spread (rows_of m s) 0 max_actions)
      of-state s z hs = pairwise-spread Before (rows_of m s) 0 max_actions (λ a p q. one_at_most s a) (λ a b x y p h q l n.
          let e = rows-of-state-and-action s a (omega arith) (omega arith) l in
          let f = rows-of-state-and-action s b (omega arith) (omega arith) n in
          by-action x y (e.0 ∙ sym f.0) (omega (arith, e.1, f.1, h)))

      by_state : (s u : ℕ) (x y : Row) → 0 ≤ s → s < u → u < 0 + m.states
          → In x (spread (rows_of m s) 0 max_actions) → In y (spread (rows_of m u) 0 max_actions) → Before x y
      by_state s u x y z h hu l n = by-from x y (omega (arith, rows-of-state s (omega arith) l, rows-of-state u (omega arith) n, h))

-- ---- kinds
module _ (m : Module) where
  abbrev which : (Option Kind → Bool) → ℕ
  which f = those (λ a. f (m.kind a)) max_actions

  kinds-apart : (f g : Option Kind → Bool) → ((k : Option Kind) → f k ≡ true → g k ≡ true → ⊥) → Apart (which f) (which g)
  kinds-apart f g h x p q = h (m.kind x) (in-those (λ a. f (m.kind a)) max_actions x p).1 (in-those (λ a. g (m.kind a)) max_actions x q).1

  pub own-action : (a : ℕ) (k : Kind) → a < max_actions → m.kind a ≡ some k → a ∈ acts (comp_by m)
  unfolding comp_by
  own-action a k h e = go k e
    where
      ins-in : a ∈ which is_in → a ∈ acts (comp_by m)
      ins-in p = or-in-l (inputs (comp_by m)) (outputs (comp_by m)) a (or-in-l (which is_in) (which is_uin) a p)

      uins-in : a ∈ which is_uin → a ∈ acts (comp_by m)
      uins-in p = or-in-l (inputs (comp_by m)) (outputs (comp_by m)) a (or-in-r (which is_in) (which is_uin) a p)

      outs-in : a ∈ which is_out → a ∈ acts (comp_by m)
      outs-in p = or-in-r (inputs (comp_by m)) (outputs (comp_by m)) a (or-in-l (which is_out) (which is_uout) a p)

      uouts-in : a ∈ which is_uout → a ∈ acts (comp_by m)
      uouts-in p = or-in-r (inputs (comp_by m)) (outputs (comp_by m)) a (or-in-r (which is_out) (which is_uout) a p)

      go : (k : Kind) → m.kind a ≡ some k → a ∈ acts (comp_by m)
      go in-kind e = ins-in (those-in (λ a. is_in (m.kind a)) max_actions a h (ap is_in e))
      go out-kind e = outs-in (those-in (λ a. is_out (m.kind a)) max_actions a h (ap is_out e))
      go uin-kind e = uins-in (those-in (λ a. is_uin (m.kind a)) max_actions a h (ap is_uin e))
      go uout-kind e = uouts-in (those-in (λ a. is_uout (m.kind a)) max_actions a h (ap is_uout e))

not-in-out : (k : Option Kind) → is_in k ≡ true → is_out k ≡ true → ⊥
not-in-out none p q = false≢true p
not-in-out (some in-kind) p q = false≢true q
not-in-out (some out-kind) p q = false≢true p
not-in-out (some uin-kind) p q = false≢true p
not-in-out (some uout-kind) p q = false≢true p

not-in-uin : (k : Option Kind) → is_in k ≡ true → is_uin k ≡ true → ⊥
not-in-uin none p q = false≢true p
not-in-uin (some in-kind) p q = false≢true q
not-in-uin (some out-kind) p q = false≢true p
not-in-uin (some uin-kind) p q = false≢true p
not-in-uin (some uout-kind) p q = false≢true p

not-in-uout : (k : Option Kind) → is_in k ≡ true → is_uout k ≡ true → ⊥
not-in-uout none p q = false≢true p
not-in-uout (some in-kind) p q = false≢true q
not-in-uout (some out-kind) p q = false≢true p
not-in-uout (some uin-kind) p q = false≢true p
not-in-uout (some uout-kind) p q = false≢true p

not-out-uin : (k : Option Kind) → is_out k ≡ true → is_uin k ≡ true → ⊥
not-out-uin none p q = false≢true p
not-out-uin (some in-kind) p q = false≢true p
not-out-uin (some out-kind) p q = false≢true q
not-out-uin (some uin-kind) p q = false≢true p
not-out-uin (some uout-kind) p q = false≢true p

not-out-uout : (k : Option Kind) → is_out k ≡ true → is_uout k ≡ true → ⊥
not-out-uout none p q = false≢true p
not-out-uout (some in-kind) p q = false≢true p
not-out-uout (some out-kind) p q = false≢true q
not-out-uout (some uin-kind) p q = false≢true p
not-out-uout (some uout-kind) p q = false≢true p

not-uin-uout : (k : Option Kind) → is_uin k ≡ true → is_uout k ≡ true → ⊥
not-uin-uout none p q = false≢true p
not-uin-uout (some in-kind) p q = false≢true p
not-uin-uout (some out-kind) p q = false≢true p
not-uin-uout (some uin-kind) p q = false≢true q
not-uin-uout (some uout-kind) p q = false≢true p

-- ---- a sound module is a component that a text can state
module _ (m : Module) (o : Sound m) where
  guard-own : {s a : ℕ} {v : Move} (b : Bool) → is_out (m.kind a) ≡ b → s < m.states → m.move s a ≡ some v → guard_set v.guard ⊆ m.clocks
  guard-own {s} {a} {v} true e h f x p =
      let r = o.clocked h e f in
      let w = guard-in v.guard x p in
      let z : r.0 ≡ x = omega (arith, r.1, w) in
      rw (← z) r.2
  guard-own {s} {a} {v} false e h f x p = let w = guard-in v.guard x p in absurd (omega (arith, w, o.plain h e f))

  row-is-well : {x : Row} → In x (all_rows m) → WellRow (comp_by m) x
  unfolding comp_by
  row-is-well {x} l =
      let p = all-rows-in m l in
      let e = p.row in
      rw e (record {
        from = p.s-below;
        guard = guard-own (is_out (m.kind p.a)) refl p.s-below p.is_move;
        action = own-action m p.a p.kind p.a-below p.is-kind;
        resets = o.resets-own p.s-below p.is_move;
        target = o.target_below p.s-below p.is_move;
      })

  pub module-is-well-formed : WellComp (comp_by m)
  unfolding comp_by
  module-is-well-formed = record {
    some = o.some-state;
    states = o.few;
    start = o.some-state;
    ins = those-below (λ a. is_in (m.kind a)) max_actions;
    outs = those-below (λ a. is_out (m.kind a)) max_actions;
    uins = those-below (λ a. is_uin (m.kind a)) max_actions;
    uouts = those-below (λ a. is_uout (m.kind a)) max_actions;
    ins-outs = kinds-apart m is_in is_out not-in-out;
    ins-uins = kinds-apart m is_in is_uin not-in-uin;
    ins-uouts = kinds-apart m is_in is_uout not-in-uout;
    outs-uins = kinds-apart m is_out is_uin not-out-uin;
    outs-uouts = kinds-apart m is_out is_uout not-out-uout;
    uins-uouts = kinds-apart m is_uin is_uout not-uin-uout;
    clocks = o.clocks-below;
    started = o.started-own;
    rows = λ k p. row-is-well (in-at no_row (all_rows m) k p);
    ascend = pairwise-next Before no_row (all_rows m) (rows-ascend m);
  }

-- ---- a row of the component is a move of the module, and back
pub record Made (m : Module) (s C a R t : ℕ) : Type 0 where
  pub kind : Kind
  pub move : Move
  pub s-below : s < m.states
  pub a-below : a < max_actions
  pub is-kind : m.kind a ≡ some kind
  pub is_move : m.move s a ≡ some move
  pub guard : guard_set move.guard ≡ C
  pub resets : move.resets ≡ R
  pub target : move.target ≡ t

module _ (m : Module) where
  pub lead-is-made : {s C a R t : ℕ} → Leads (comp_by m) s C a R t → Made m s C a R t
  unfolding comp_by
  lead-is-made {s} {C} {a} {R} {t} l =
      let p = all-rows-in m (in-at no_row (all_rows m) l.place l.inside) in
      let e = p.row in
      let es : p.s ≡ s = sym (ap (λ r. r.from) e) ∙ l.from in
      let ea : p.a ≡ a = sym (ap (λ r. r.action) e) ∙ l.action in
      record {
        kind = p.kind;
        move = p.move;
        s-below = rw (← es) p.s-below;
        a-below = rw (← ea) p.a-below;
        is-kind = rw (← ea) p.is-kind;
        is_move = rw (← es, ← ea) p.is_move;
        guard = sym (ap (λ r. guard_set r.guard) e) ∙ l.guard;
        resets = sym (ap (λ r. r.resets) e) ∙ l.resets;
        target = sym (ap (λ r. r.target) e) ∙ l.target;
      }

  pub made-is-lead : (s a : ℕ) (k : Kind) (v : Move) → s < m.states → a < max_actions → m.kind a ≡ some k → m.move s a ≡ some v
      → Leads (comp_by m) s (guard_set v.guard) a v.resets v.target
  unfolding comp_by
  made-is-lead s a k v hs ha e f =
      let p = at_in no_row (all_rows m) (in-all-rows m s a k v hs ha e f) in
      record {
        place = p.0;
        inside = p.1;
        from = ap (λ r. r.from) p.2;
        guard = ap (λ r. guard_set r.guard) p.2;
        action = ap (λ r. r.action) p.2;
        resets = ap (λ r. r.resets) p.2;
        target = ap (λ r. r.target) p.2;
      }

-- ---- what a kind is, by the component's sets
calm-in : (k : Option Kind) → is_in k ≡ true → is_out k ≡ false
calm-in none e = absurd (false≢true e)
calm-in (some in-kind) e = refl
calm-in (some out-kind) e = absurd (false≢true e)
calm-in (some uin-kind) e = absurd (false≢true e)
calm-in (some uout-kind) e = absurd (false≢true e)

calm-uin : (k : Option Kind) → is_uin k ≡ true → is_out k ≡ false
calm-uin none e = absurd (false≢true e)
calm-uin (some in-kind) e = absurd (false≢true e)
calm-uin (some out-kind) e = absurd (false≢true e)
calm-uin (some uin-kind) e = refl
calm-uin (some uout-kind) e = absurd (false≢true e)

calm-uout : (k : Option Kind) → is_uout k ≡ true → is_out k ≡ false
calm-uout none e = absurd (false≢true e)
calm-uout (some in-kind) e = absurd (false≢true e)
calm-uout (some out-kind) e = absurd (false≢true e)
calm-uout (some uin-kind) e = absurd (false≢true e)
calm-uout (some uout-kind) e = refl

some_in : (k : Option Kind) → is_in k ≡ true → (l : Kind) × (k ≡ some l)
some_in none e = absurd (false≢true e)
some_in (some l) e = (l, refl)

some-uin : (k : Option Kind) → is_uin k ≡ true → (l : Kind) × (k ≡ some l)
some-uin none e = absurd (false≢true e)
some-uin (some l) e = (l, refl)

some_out : (k : Option Kind) → is_out k ≡ true → (l : Kind) × (k ≡ some l)
some_out none e = absurd (false≢true e)
some_out (some l) e = (l, refl)

module _ (m : Module) where
  -- an input or urgent action is no `out`
  unclocked-kind : (a : ℕ) → a ∈ inputs (comp_by m) ∪ urgents (comp_by m) → is_out (m.kind a) ≡ false
  unfolding comp_by
  unclocked-kind a h = ⊎_elim
      (λ p. ⊎_elim (λ q. calm-in (m.kind a) (in-those (λ a. is_in (m.kind a)) max_actions a q).1)
      (λ q. calm-uin (m.kind a) (in-those (λ a. is_uin (m.kind a)) max_actions a q).1) (in-or (which m is_in) (which m is_uin) a p))
      (λ p. ⊎_elim (λ q. calm-uin (m.kind a) (in-those (λ a. is_uin (m.kind a)) max_actions a q).1)
      (λ q. calm-uout (m.kind a) (in-those (λ a. is_uout (m.kind a)) max_actions a q).1) (in-or (which m is_uin) (which m is_uout) a p))
      (in-or (inputs (comp_by m)) (urgents (comp_by m)) a h)

  clocked-kind : (a : ℕ) → a ∈ outputs (comp_by m) → (a ∈ urgents (comp_by m) → ⊥) → is_out (m.kind a) ≡ true
  unfolding comp_by
  clocked-kind a h n = ⊎_elim
      (λ p. (in-those (λ a. is_out (m.kind a)) max_actions a p).1)
      (λ p. absurd (n (or-in-r (which m is_uin) (which m is_uout) a p)))
      (in-or (which m is_out) (which m is_uout) a h)

  same_move : {s a : ℕ} {v w : Move} → m.move s a ≡ some v → m.move s a ≡ some w → v ≡ w
  same_move e f = some_inj.0 (sym e ∙ f)

-- ---- Definition 4.1
module _ (m : Module) (o : Sound m) where
  -- two moves from one state by one action are one
  one-move : {s a C R t D Q u : ℕ} → Made m s C a R t → Made m s D a Q u → (C ≡ D) × (R ≡ Q) × (t ≡ u)
  one-move p q =
      let e = same_move m p.is_move q.is_move in (
        sym p.guard ∙ ap (λ v. guard_set v.guard) e ∙ q.guard,
        sym p.resets ∙ ap (λ v. v.resets) e ∙ q.resets,
        sym p.target ∙ ap (λ v. v.target) e ∙ q.target,
      )

  one-row-for-a-clock : (x : ℕ) {s C a R t D b Q u : ℕ} → x ∈ C → x ∈ D → Made m s C a R t → Made m s D b Q u → (C ≡ D) × (a ≡ b) × (R ≡ Q) × (t ≡ u)
  one-row-for-a-clock x {s} {C} {a} {R} {t} {D} {b} {Q} {u} i j p q =
      let g = guard-in p.move.guard x (rw p.guard i) in
      let h = guard-in q.move.guard x (rw q.guard j) in
      let e : a ≡ b = o.one-clock p.s-below p.is_move q.is_move g h in
      let r = one-move p (same-action (sym e) q) in
      (r.0, e, r.1, r.2)
    where
      same-action : {c d : ℕ} → c ≡ d → Made m s D c Q u → Made m s D d Q u
      same-action e p = rw (← e) p

  without-clock : {c : Comp} {s C a R t : ℕ} → C ≡ 0 → Leads c s C a R t → Leads c s 0 a R t
  without-clock e l = rw (← e) l

  keeps : {s C a R t : ℕ} → Made m s C a R t → o.waits t ⊆ o.waits s ∖ C ∪ R
  keeps {s} {C} {a} {R} {t} p = go p.move p.guard p.resets p.target (o.kept p.s-below p.is_move)
    where
      go : (v : Move) → guard_set v.guard ≡ C → v.resets ≡ R → v.target ≡ t → o.waits v.target ⊆ o.waits s ∖ guard_set v.guard ∪ v.resets
          → o.waits t ⊆ o.waits s ∖ C ∪ R
      go v e f g h = rw (← e, ← f, ← g) h

  heard : (s : ℕ) → s < (comp_by m).states → (a : ℕ) → a ∈ inputs (comp_by m) → (R : ℕ) × (t : ℕ) × Leads (comp_by m) s 0 a R t
  unfolding comp_by
  heard s hs a h = ⊎_elim
      (λ p. let z = in-those (λ a. is_in (m.kind a)) max_actions a p in let r = o.hears hs z.1 in leads z.0 (some_in (m.kind a) z.1)
      (calm-in (m.kind a) z.1) r.0 r.1)
      (λ p. let z = in-those (λ a. is_uin (m.kind a)) max_actions a p in let r = o.hears-urgent hs z.1 in leads z.0
      (some-uin (m.kind a) z.1) (calm-uin (m.kind a) z.1) r.0 r.1)
      (in-or (which m is_in) (which m is_uin) a h)
    where
      leads : a < max_actions → (l : Kind) × (m.kind a ≡ some l) → is_out (m.kind a) ≡ false → (v : Move) → m.move s a ≡ some v
          → (R : ℕ) × (t : ℕ) × Leads (comp_by m) s 0 a R t
      leads ha k c v f =
          (v.resets, v.target, without-clock (ap guard_set (o.plain hs c f)) (made-is-lead m s a k.0 v hs ha k.1 f))

  active-sets : Active (auto_of (comp_by m)) o.waits
  unfolding comp_by
  active-sets = record {
    own = λ s h. o.own s;
    first = o.first;
    enabled = λ s h x e. let p = lead-is-made m e.row in o.waited h p.is_move (guard-in p.move.guard x (rw p.guard e.guards));
    equal = λ s h z x i. enabling s x (o.no_more h i) h;
    kept = λ l. keeps (lead-is-made m l);
  }
    where
      enabling : (s x : ℕ) → (a : ℕ) × (v : Move) × (a < max_actions) × (is_out (m.kind a) ≡ true) × (m.move s a ≡ some v) × (v.guard ≡ suc x)
          → s < m.states → Enabling (auto_of (comp_by m)) s x
      enabling s x p h =
          let k = some_out (m.kind p.0) p.3 in
          record {
            guard = guard_set p.1.guard;
            action = p.0;
            resets = p.1.resets;
            target = p.1.target;
            guards = in-guard p.1.guard x p.5;
            row = made-is-lead m s p.0 k.0 p.1 h p.2 k.1 p.4;
          }

  pub module-conforms : Conditions (auto_of (comp_by m))
  module-conforms = record {
    cond_a = record { unguarded = λ l h. let p = lead-is-made m l in sym p.guard ∙ ap guard_set (o.plain p.s-below (unclocked-kind m _ h) p.is_move) };
    cond_b =
        record {
          guarded = λ l h n. let p = lead-is-made m l in let r = o.clocked p.s-below (clocked-kind m _ h n) p.is_move in (
            r.0,
            sym p.guard ∙ ap guard_set r.1,
          );
        };
    cond_c = record { same = λ x i j l q. one-row-for-a-clock x i j (lead-is-made m l) (lead-is-made m q) };
    cond_d = record { row = heard };
    cond_e = record { same = λ h l q. one-move (lead-is-made m l) (lead-is-made m q) };
    cond_f = (o.waits, active-sets);
  }
