-- The rows of a repaired component: all old rows, and a self-loop exactly where an input lacked a row; they ascend.
use mathlib.Core.Path.{◌≡◌, refl, sym, ◌∙◌, ap}
use mathlib.Core.Logic.{◌⊎◌, inl, inr, ⊎_elim, ◌↔◌}
use mathlib.Core.Bool.{Bool, true, false, cond, true≢false, false≢true}
use mathlib.Core.Option.{Option, none, some}
use mathlib.Core.List.Memᴰ.{head as here}
use mathlib.Core.List.Memᴰ.{not-nil as in-none}
use mathlib.Core.List.Memᴰ.{tail as there}
use mathlib.Core.List.{List, [], ◌∷◌, ◌++◌, Memᴰ as In}
use mathlib.Core.List.Memᴰ.{append_cases}
use mathlib.Core.List.Memᴰ.{append_left as in_left}
use mathlib.Core.List.Memᴰ.{append_right as in_right}
use Prim.Native.Nat.{ℕ, ◌<◌}
use native.Mathlib.Omega.{arith}
use Rattle.laws.specs.Fold.{spread}
use Rattle.laws.proofs.SetLaws.{or-in-l, none_in}
use Rattle.laws.proofs.ListLaws.{in-at, at_in, in-spread, spread-in, pairwise-spread, pairwise-next, pairwise-from}
use Rattle.answer.specs.Limits.{max_actions}
use Rattle.model.specs.Model.{Row, Comp, no_row, row_at, inputs, outputs}
use Rattle.model.specs.WellFormed.{before, WellRow, WellComp}
use Rattle.iosa.specs.Checks.{row_for, lacks_row}
use Rattle.iosa.specs.Faults.{Broken12}
use Rattle.merged.specs.Merge.{rows_by}
use Rattle.iosa.proofs.Acceptance.Order.{before-irreflexive, before-transitive, lower-less, lower-same}
use Rattle.iosa.proofs.Acceptance.Rows.{row-found, row-missing, act-below}
use Rattle.iosa.proofs.Acceptance.Check12.{lack-broken, broken-lack}
use Rattle.merged.proofs.Merging.Rows.{rows-by-in, in-rows-by, rows-by-lead}
use Rattle.merged.proofs.Merging.Ascend.{Before, Ascending, by-from, rows-ascending, rows-by-ascend}
use Rattle.lacking.specs.Repair.{loop_at, missing_at, repaired_at, repaired}
use Rattle.lacking.specs.Repaired.{SelfLoop, RepairedComp}
use Rattle.lacking.proofs.SameMembers.{same-ascending}

pub by-action : (r q : Row) → r.from ≡ q.from → r.action < q.action → Before r q
unfolding before
by-action r q e h =
    lower-same r.from q.from (r.action ∷ r.guard ∷ r.resets ∷ r.target ∷ []) (q.action ∷ q.guard ∷ q.resets ∷ q.target ∷ []) e
    ∙ lower-less r.action q.action (r.guard ∷ r.resets ∷ r.target ∷ []) (q.guard ∷ q.resets ∷ q.target ∷ []) h

never-before : (r : Row) → Before r r → ⊥
never-before r h = true≢false (sym h ∙ before-irreflexive r)

pub same_rows : (rs qs : List Row) → Ascending rs → Ascending qs → ((z : Row) → In z rs → In z qs) → ((z : Row) → In z qs → In z rs) → rs ≡ qs
same_rows = same-ascending Before never-before before-transitive

-- what stands where a test holds
pub in-when : {A : Type 0} (b : Bool) {x y : A} → In x (cond b (y ∷ []) []) → (b ≡ true) × (x ≡ y)
in-when true (here e) = (refl, e)
in-when true (there m) = absurd (in-none m)
in-when false m = absurd (in-none m)

pub when-in : {A : Type 0} (b : Bool) {x y : A} → b ≡ true → x ≡ y → In x (cond b (y ∷ []) [])
when-in true e f = here f
when-in false e f = absurd (false≢true e)

module _ (c : Comp) where
  -- ---- one state and action
  missing-in : (s a : ℕ) {x : Row} → In x (missing_at c s a) → (lacks_row c s a ≡ true) × (x ≡ loop_at s a)
  unfolding missing_at
  missing-in s a m = in-when (lacks_row c s a) m

  at-in-rows : (s a : ℕ) {x : Row} → In x (repaired_at c s a) → (x.from ≡ s) × (x.action ≡ a)
  unfolding repaired_at
  at-in-rows s a m =
      ⊎_elim (λ l. let p = missing-in s a l in (ap (λ r. r.from) p.1, ap (λ r. r.action) p.1)) (λ l. let p = rows-by-in c.rows s a l in (p.1, p.2))
      (append_cases (missing_at c s a) m)

  -- where a row lacks there is none
  at-ascends : Ascending c.rows → (s a : ℕ) → s < c.states → Ascending (repaired_at c s a)
  unfolding repaired_at missing_at
  at-ascends up s a h = go (lacks_row c s a) refl
    where
      go : (b : Bool) → lacks_row c s a ≡ b → Ascending (cond b (loop_at s a ∷ []) [] ++ rows_by c.rows s a)
      go true e = (λ q m. absurd ((lack-broken c s a h e).lacks (rows-by-lead c s a m)), rows-by-ascend c.rows s a up)
      go false e = rows-by-ascend c.rows s a up

  -- ---- all rows
  rows-of-state : (s : ℕ) {x : Row} → In x (spread (repaired_at c s) 0 max_actions) → x.from ≡ s
  rows-of-state s m = let p = spread-in (repaired_at c s) 0 max_actions m in (at-in-rows s p.0 p.3).0

  module _ (w : WellComp c) where
    up : Ascending c.rows
    up = rows-ascending c w

    state-ascends : (s : ℕ) → s < c.states → Ascending (spread (repaired_at c s) 0 max_actions)
    state-ascends s h = pairwise-spread Before (repaired_at c s) 0 max_actions (λ a p q. at-ascends up s a h) (λ a b x y p l q m n.
        let e = at-in-rows s a m in
        let f = at-in-rows s b n in
        by-action x y (e.0 ∙ sym f.0) (omega (arith, e.1, f.1, l)))

    repaired-ascends : Ascending (repaired c).rows
    unfolding repaired
    repaired-ascends = pairwise-spread Before (λ s. spread (repaired_at c s) 0 max_actions) 0 c.states (λ s p q. state-ascends s (omega arith))
        (λ s u x y p l q m n.
        by-from x y (omega (arith, rows-of-state s m, rows-of-state u n, l)))

    well-in : {r : Row} → In r c.rows → WellRow c r
    well-in m = let p = at_in no_row c.rows m in rw p.2 at (w.rows p.0 p.1)

    pub repaired-has : (r : Row) → In r (repaired c).rows ↔ (In r c.rows ⊎ SelfLoop c r)
    unfolding repaired repaired_at missing_at
    repaired-has r = (there-to, ⊎_elim old new)
      where
        there-to : In r (spread (λ s. spread (repaired_at c s) 0 max_actions) 0 c.states) → In r c.rows ⊎ SelfLoop c r
        there-to m =
            let p = spread-in (λ s. spread (repaired_at c s) 0 max_actions) 0 c.states m in
            let q = spread-in (repaired_at c p.0) 0 max_actions p.3 in
            ⊎_elim
            (λ l. let e = missing-in p.0 q.0 l in inr (record {
              state = p.0;
              action = q.0;
              lacked = lack-broken c p.0 q.0 (omega (arith, p.2)) e.0;
              row = e.1;
            }))
            (λ l. inl (rows-by-in c.rows p.0 q.0 l).0) (append_cases (missing_at c p.0 q.0) q.3)

        placed : (s a : ℕ) → s < c.states → a < max_actions → In r (repaired_at c s a) → In r (spread (λ s. spread (repaired_at c s) 0 max_actions) 0 c.states)
        placed s a h k m = in-spread (λ s. spread (repaired_at c s) 0 max_actions) 0 c.states s (omega arith) (omega arith)
            (in-spread (repaired_at c s) 0 max_actions a (omega arith) (omega arith) m)

        old : In r c.rows → In r (spread (λ s. spread (repaired_at c s) 0 max_actions) 0 c.states)
        old m =
            let v = well-in m in
            placed r.from r.action v.from (act-below c w r.action v.action)
            (in_right (missing_at c r.from r.action) (in-rows-by c.rows r.from r.action m refl refl))

        new : SelfLoop c r → In r (spread (λ s. spread (repaired_at c s) 0 max_actions) 0 c.states)
        new l =
            let b = l.lacked in
            placed l.state l.action b.state (act-below c w l.action (or-in-l (inputs c) (outputs c) l.action b.input))
            (in_left {s = missing_at c l.state l.action} (rows_by c.rows l.state l.action)
            (when-in (lacks_row c l.state l.action) (broken-lack c l.state l.action b) l.row))

    -- ---- it is the component that the relation says, and no other
    pub repaired-as : RepairedComp c (repaired c)
    unfolding repaired
    repaired-as = record {
      states = refl;
      start = refl;
      ins = refl;
      outs = refl;
      uins = refl;
      uouts = refl;
      clocks = refl;
      started = refl;
      rows = repaired-has;
      ascend = pairwise-next Before no_row (repaired c).rows repaired-ascends;
    }

    pub only-repaired : (e : Comp) → RepairedComp c e → e ≡ repaired c
    unfolding repaired
    only-repaired e r =
        let q : e.rows ≡ (repaired c).rows = same_rows e.rows (repaired c).rows
        (pairwise-from Before no_row before-transitive e.rows r.ascend) repaired-ascends
        (λ z m. (repaired-has z).1 ((r.rows z).0 m)) (λ z m. (r.rows z).1 ((repaired-has z).0 m)) in
        λ i. record {
          states = r.states i;
          start = r.start i;
          ins = r.ins i;
          outs = r.outs i;
          uins = r.uins i;
          uouts = r.uouts i;
          clocks = r.clocks i;
          started = r.started i;
          rows = q i;
        }

    -- ---- a component that a text can state
    loop-well : {r : Row} → SelfLoop c r → WellRow c r
    loop-well l =
        let b = l.lacked in
        let e = l.row in
        record {
          from = rw e b.state;
          guard = rw e (λ x m. absurd (none_in x m));
          action = rw e (or-in-l (inputs c) (outputs c) l.action b.input);
          resets = rw e (λ x m. absurd (none_in x m));
          target = rw e b.state;
        }

    same-well : {r : Row} → WellRow c r → WellRow (repaired c) r
    unfolding repaired
    same-well v = record { from = v.from; guard = v.guard; action = v.action; resets = v.resets; target = v.target }

    pub repaired-well : WellComp (repaired c)
    unfolding repaired
    repaired-well = record {
      some = w.some;
      states = w.states;
      start = w.start;
      ins = w.ins;
      outs = w.outs;
      uins = w.uins;
      uouts = w.uouts;
      ins-outs = w.ins-outs;
      ins-uins = w.ins-uins;
      ins-uouts = w.ins-uouts;
      outs-uins = w.outs-uins;
      outs-uouts = w.outs-uouts;
      uins-uouts = w.uins-uouts;
      clocks = w.clocks;
      started = w.started;
      rows = λ k h. same-well (⊎_elim well-in loop-well ((repaired-has (row_at (repaired c) k)).0 (in-at no_row (repaired c).rows k h)));
      ascend = repaired-as.ascend;
    }

    -- ---- no state lacks a row
    pub none-lacked : (s a : ℕ) → Broken12 (repaired c) s a → ⊥
    unfolding repaired
    none-lacked s a b = go (row_for c s a) refl
      where
        here-is : (r : Row) → r.from ≡ s → r.action ≡ a → In r c.rows ⊎ SelfLoop c r → ⊥
        here-is r p q m = b.lacks (rows-by-lead (repaired c) s a (in-rows-by (repaired c).rows s a ((repaired-has r).1 m) p q))

        lacked : row_for c s a ≡ none → Broken12 c s a
        lacked e = record { state = b.state; input = b.input; lacks = row-missing c s a e }

        go : (o : Option Row) → row_for c s a ≡ o → ⊥
        go none e = here-is (loop_at s a) refl refl (inr (record { state = s; action = a; lacked = lacked e; row = refl }))
        go (some r) e = let f = row-found c s a r e in here-is r f.from f.action (inl (rw f.row at (in-at no_row c.rows f.place f.inside)))
