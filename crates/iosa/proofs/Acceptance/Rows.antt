-- The row that `row_for` finds is a row of the relation, and where (a) and (e) hold it is the only one.
use mathlib.Core.Path.{◌≡◌, refl, sym, ◌∙◌, ap}
use mathlib.Core.Logic.{⊎_elim}
use mathlib.Core.Bool.{true, false, true≢false}
use mathlib.Core.Option.{Option, none, some}
use Prim.Native.Nat.{ℕ, ◌<◌}
use native.Mathlib.Omega.{arith}
use lib.ListN.{length}
use lib.Dec.{eqb}
use borrow.Author.Tests.{eqb-true, eq-eqb}
use Rattle.laws.specs.Sets.{◌∈◌}
use Rattle.laws.specs.Search.{when}
use Rattle.laws.proofs.SetLaws.{or-in-l, or-in-r, in-or, in-below}
use Rattle.laws.proofs.SearchLaws.{seek-some, seek-none, when-some, when-none}
use Rattle.laws.proofs.TestLaws.{and-true}
use Rattle.answer.specs.Limits.{max_actions}
use Rattle.model.specs.Model.{Row, Comp, row_at, guard_set, inputs, outputs, urgents, acts}
use Rattle.model.specs.WellFormed.{WellComp}
use Rattle.iosa.specs.Automaton.{Leads, auto_of, CondA, CondE}
use Rattle.iosa.specs.Checks.{leaves, row_for, unclocked}

-- ---- the test of one row
pub leaves-true : (r : Row) (s a : ℕ) → r.from ≡ s → r.action ≡ a → leaves r s a ≡ true
leaves-true r s a p q = simp (eq-eqb r.from s p, eq-eqb r.action a q)

pub leaves-parts : (r : Row) (s a : ℕ) → leaves r s a ≡ true → (r.from ≡ s) × (r.action ≡ a)
leaves-parts r s a e = let p = and-true (eqb r.from s) (eqb r.action a) e in (eqb-true r.from s p.0, eqb-true r.action a p.1)

-- row k as a row of the relation
pub leads-at : (c : Comp) (k : ℕ) → k < length c.rows → Leads c (row_at c k).from (guard_set (row_at c k).guard) (row_at c k).action
    (row_at c k).resets (row_at c k).target
leads-at c k h = record { place = k; inside = h; from = refl; guard = refl; action = refl; resets = refl; target = refl }

pub row-eq : (r q : Row) → r.from ≡ q.from → r.guard ≡ q.guard → r.action ≡ q.action → r.resets ≡ q.resets → r.target ≡ q.target → r ≡ q
row-eq r q f g a s t = λ i. record { from = f i; guard = g i; action = a i; resets = s i; target = t i }

-- two rows of the relation at one place are one
pub same_place : {c : Comp} {s v C D a b R Q t u : ℕ} (l : Leads c s C a R t) (m : Leads c v D b Q u) → l.place ≡ m.place
    → (C ≡ D) × (a ≡ b) × (R ≡ Q) × (t ≡ u)
same_place {c} l m e = (
  sym l.guard ∙ ap (λ k. guard_set (row_at c k).guard) e ∙ m.guard,
  sym l.action ∙ ap (λ k. (row_at c k).action) e ∙ m.action,
  sym l.resets ∙ ap (λ k. (row_at c k).resets) e ∙ m.resets,
  sym l.target ∙ ap (λ k. (row_at c k).target) e ∙ m.target,
)

-- ---- what the search finds
pub record FoundRow (c : Comp) (s a : ℕ) (r : Row) : Type 0 where
  pub place : ℕ
  pub inside : place < length c.rows
  pub row : row_at c place ≡ r
  pub from : r.from ≡ s
  pub action : r.action ≡ a
  pub first : (j : ℕ) → j < place → leaves (row_at c j) s a ≡ false

module _ (c : Comp) (s a : ℕ) where
  pub row-found : (r : Row) → row_for c s a ≡ some r → FoundRow c s a r
  unfolding row_for
  row-found r e =
      let f = seek-some (λ k. when (leaves (row_at c k) s a) (row_at c k)) 0 (length c.rows) r e in
      let w = when-some (leaves (row_at c f.place) s a) (row_at c f.place) f.here in
      let p = leaves-parts (row_at c f.place) s a w.0 in
      record {
        place = f.place;
        inside = f.below;
        row = w.1;
        from = ap (λ q. q.from) (sym w.1) ∙ p.0;
        action = ap (λ q. q.action) (sym w.1) ∙ p.1;
        first = λ j h. when-none (leaves (row_at c j) s a) (row_at c j) (f.least j (omega arith) h);
      }

  pub found-leads : (r : Row) → FoundRow c s a r → Leads c s (guard_set r.guard) a r.resets r.target
  found-leads r f = record {
    place = f.place;
    inside = f.inside;
    from = ap (λ q. q.from) f.row ∙ f.from;
    guard = ap (λ q. guard_set q.guard) f.row;
    action = ap (λ q. q.action) f.row ∙ f.action;
    resets = ap (λ q. q.resets) f.row;
    target = ap (λ q. q.target) f.row;
  }

  -- nothing found: no row of the relation
  pub row-missing : row_for c s a ≡ none → {C R t : ℕ} → Leads c s C a R t → ⊥
  unfolding row_for
  row-missing e l =
      let n = seek-none (λ k. when (leaves (row_at c k) s a) (row_at c k)) 0 (length c.rows) e l.place (omega arith) l.inside in
      true≢false (sym (leaves-true (row_at c l.place) s a l.from l.action) ∙ when-none (leaves (row_at c l.place) s a) (row_at c l.place) n)

  -- a row of the relation: something is found
  pub leads-found : {C R t : ℕ} → Leads c s C a R t → (r : Row) × (row_for c s a ≡ some r)
  leads-found l = go (row_for c s a) refl
    where
      go : (o : Option Row) → row_for c s a ≡ o → (r : Row) × (row_for c s a ≡ some r)
      go none e = absurd (row-missing e l)
      go (some r) e = (r, e)

-- ---- the actions that have no clock
pub input-unclocked : (c : Comp) (a : ℕ) → a ∈ inputs c → a ∈ unclocked c
input-unclocked c a h = or-in-l (inputs c) (urgents c) a h

pub urgent-unclocked : (c : Comp) (a : ℕ) → a ∈ urgents c → a ∈ unclocked c
urgent-unclocked c a h = or-in-r (inputs c) (urgents c) a h

module _ (c : Comp) (w : WellComp c) (a : ℕ) where
  pub input-below : a ∈ inputs c → a < max_actions
  input-below h = ⊎_elim (in-below max_actions c.ins a w.ins) (in-below max_actions c.uins a w.uins) (in-or c.ins c.uins a h)

  pub output-below : a ∈ outputs c → a < max_actions
  output-below h = ⊎_elim (in-below max_actions c.outs a w.outs) (in-below max_actions c.uouts a w.uouts) (in-or c.outs c.uouts a h)

  pub urgent-below : a ∈ urgents c → a < max_actions
  urgent-below h = ⊎_elim (in-below max_actions c.uins a w.uins) (in-below max_actions c.uouts a w.uouts) (in-or c.uins c.uouts a h)

  pub unclocked-below : a ∈ unclocked c → a < max_actions
  unclocked-below h = ⊎_elim input-below urgent-below (in-or (inputs c) (urgents c) a h)

  pub act-below : a ∈ acts c → a < max_actions
  act-below h = ⊎_elim input-below output-below (in-or (inputs c) (outputs c) a h)

-- where a row leads from and to
module _ (c : Comp) (w : WellComp c) where
  pub from-below : {s C a R t : ℕ} → Leads c s C a R t → s < c.states
  from-below l = rw l.from at (w.rows l.place l.inside).from

  pub target_below : {s C a R t : ℕ} → Leads c s C a R t → t < c.states
  target_below l = rw l.target at (w.rows l.place l.inside).target

-- ---- (a) and (e): a state and an action without clock have at most one row
pub record Single (c : Comp) : Type 0 where
  pub cond_a : CondA (auto_of c)
  pub cond_e : CondE (auto_of c)

module _ (c : Comp) (one : Single c) (s a : ℕ) (un : a ∈ unclocked c) where
  unguarded : {C R t : ℕ} → Leads c s C a R t → Leads c s 0 a R t
  unguarded l = rw (one.cond_a.unguarded l un) at l

  -- the row found is a row of the relation
  pub row-leads : (r : Row) → row_for c s a ≡ some r → Leads c s 0 a r.resets r.target
  row-leads r e = unguarded (found-leads c s a r (row-found c s a r e))

  -- and the only one
  pub leads-row : {C R t : ℕ} → Leads c s C a R t → (r : Row) × (row_for c s a ≡ some r) × (r.resets ≡ R) × (r.target ≡ t)
  leads-row l =
      let f = leads-found c s a l in
      let p = one.cond_e.same un (row-leads f.0 f.1) l in
      (f.0, f.1, p.1, p.2)
