-- 13 "(e) or the house rule broken": the test of a state and an action, and that the search finds none exactly if (e) holds.
use mathlib.Core.Path.{◌≡◌, refl, sym, ◌∙◌}
use mathlib.Core.Logic.{◌↔◌}
use mathlib.Core.Bool.{true, ◌&&◌, true≢false}
use mathlib.Core.Option.{none}
use Prim.Native.Nat.{ℕ, ◌<◌}
use native.Mathlib.Omega.{arith}
use lib.ListN.{length}
use Rattle.laws.specs.Sets.{has, ◌∈◌}
use Rattle.laws.specs.Search.{any}
use Rattle.laws.proofs.SearchLaws.{any-true, true-any, least2-none, none-least2}
use Rattle.laws.proofs.TestLaws.{and-true, not_so, apart-cases}
use Rattle.answer.specs.Limits.{max_actions}
use Rattle.model.specs.Model.{Comp, row_at, guard_set}
use Rattle.model.specs.WellFormed.{WellComp}
use Rattle.iosa.specs.Automaton.{Leads, auto_of, CondE}
use Rattle.iosa.specs.Checks.{leaves, unclocked, twice, cell_of, check13}
use Rattle.iosa.specs.Faults.{Broken13}
use Rattle.iosa.proofs.Acceptance.Guards.{guard-same}
use Rattle.iosa.proofs.Acceptance.Order.{rows-differ}
use Rattle.iosa.proofs.Acceptance.Rows.{leaves-true, leaves-parts, row-eq, same_place, unclocked-below, from-below}

module _ (c : Comp) where
  -- two rows for s and a
  pub record TwoRows (s a : ℕ) : Type 0 where
    pub first : ℕ
    pub second : ℕ
    pub order : first < second
    pub inside : second < length c.rows
    pub here : leaves (row_at c first) s a ≡ true
    pub there : leaves (row_at c second) s a ≡ true

  twice-rows : (s a : ℕ) → twice c s a ≡ true → (a ∈ unclocked c) × TwoRows s a
  unfolding twice
  twice-rows s a e =
      let p = and-true (has (unclocked c) a) (any (λ k. leaves (row_at c k) s a && any (λ j. leaves (row_at c j) s a) k) (length c.rows)) e in
      let k = any-true (λ k. leaves (row_at c k) s a && any (λ j. leaves (row_at c j) s a) k) (length c.rows) p.1 in
      let q = and-true (leaves (row_at c k.0) s a) (any (λ j. leaves (row_at c j) s a) k.0) k.2 in
      let j = any-true (λ j. leaves (row_at c j) s a) k.0 q.1 in
      (p.0, record { first = j.0; second = k.0; order = j.1; inside = k.1; here = j.2; there = q.0 })

  rows-twice : (s a : ℕ) → a ∈ unclocked c → TwoRows s a → twice c s a ≡ true
  unfolding twice
  rows-twice s a un t = simp (un) (
      true-any (λ k. leaves (row_at c k) s a && any (λ j. leaves (row_at c j) s a) k) (length c.rows) t.second t.inside
      (simp (t.there, true-any (λ j. leaves (row_at c j) s a) t.second t.first t.order t.here)))

  at-action : (k s a : ℕ) → k < length c.rows → leaves (row_at c k) s a ≡ true → Leads c s (guard_set (row_at c k).guard) a (row_at c k).resets
      (row_at c k).target
  at-action k s a h e =
      let p = leaves-parts (row_at c k) s a e in
      record { place = k; inside = h; from = p.0; guard = refl; action = p.1; resets = refl; target = refl }

  two-rows : {s a C D R Q t u : ℕ} (l : Leads c s C a R t) (m : Leads c s D a Q u) → l.place < m.place → TwoRows s a
  two-rows {s} {a} l m h = record {
    first = l.place;
    second = m.place;
    order = h;
    inside = m.inside;
    here = leaves-true (row_at c l.place) s a l.from l.action;
    there = leaves-true (row_at c m.place) s a m.from m.action;
  }

  -- ---- the test of a state and an action
  module _ (w : WellComp c) where
    pub twice-broken : (s a : ℕ) → twice c s a ≡ true → Broken13 c s a
    twice-broken s a e =
        let p = twice-rows s a e in
        let t = p.1 in
        let j = t.first in
        let k = t.second in
        let f = leaves-parts (row_at c j) s a t.here in
        let g = leaves-parts (row_at c k) s a t.there in
        record {
          kind = p.0;
          guard = guard_set (row_at c j).guard;
          resets = (row_at c j).resets;
          target = (row_at c j).target;
          row = at-action j s a (omega (arith, t.order, t.inside)) t.here;
          guard' = guard_set (row_at c k).guard;
          resets' = (row_at c k).resets;
          target' = (row_at c k).target;
          other = at-action k s a t.inside t.there;
          differ = λ d. rows-differ c w j k t.order t.inside
              (row-eq (row_at c j) (row_at c k) (f.0 ∙ sym g.0) (guard-same (row_at c j).guard (row_at c k).guard d.0) (f.1 ∙ sym g.1) d.1 d.2);
        }

    pub broken-twice : (s a : ℕ) → Broken13 c s a → twice c s a ≡ true
    broken-twice s a b = apart-cases b.row.place b.other.place
        (λ e. let p = same_place b.row b.other e in absurd (b.differ (p.0, p.2, p.3)))
        (λ h. rows-twice s a b.kind (two-rows b.row b.other h))
        (λ h. rows-twice s a b.kind (two-rows b.other b.row h))

    -- ---- the search
    once : check13 c ≡ none → {s a C D R Q t u : ℕ} → a ∈ unclocked c → (l : Leads c s C a R t) (m : Leads c s D a Q u) → l.place < m.place → ⊥
    unfolding check13
    once e {s} {a} un l m h = true≢false (
        sym (rows-twice s a un (two-rows l m h))
        ∙ least2-none (twice c) cell_of c.states max_actions e s a (from-below c w l) (unclocked-below c w a un))

    pub check13-exactly : (check13 c ≡ none) ↔ CondE (auto_of c)
    unfolding check13
    check13-exactly = (
      λ e. record {
        same =
            λ un l m. apart-cases l.place m.place (λ q. let p = same_place l m q in (p.0, p.2, p.3)) (λ h. absurd (once e un l m h))
            (λ h. absurd (once e un m l h));
      },
      λ ce. none-least2 (twice c) cell_of c.states max_actions
          (λ s a h n. not_so (twice c s a) (λ e. let b = twice-broken s a e in b.differ (ce.same b.kind b.row b.other))),
    )
