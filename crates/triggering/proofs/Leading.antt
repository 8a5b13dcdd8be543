-- What each action triggers in some component, and what it leads on to, exactly.
use mathlib.Core.Path.{◌≡◌, refl, sym, ◌∙◌, ap}
use mathlib.Core.Logic.{◌↔◌, ◌⊎◌, inl, inr, ⊎_elim}
use mathlib.Core.Bool.{Bool, true, false, ◌||◌, ◌&&◌, cond}
use mathlib.Core.List.{List}
use Prim.Native.Nat.{ℕ, zero, suc, ◌≤◌, ◌<◌}
use native.Mathlib.Omega.{arith}
use native.Mathlib.Numerals.{add-one}
use lib.ListN.{length, get_or}
use Rattle.laws.specs.Sets.{has, ◌∪◌, ◌∈◌, only}
use Rattle.laws.specs.Fold.{over, tab}
use Rattle.laws.proofs.SetLaws.{has-or, in_one, one_in, none_in}
use Rattle.laws.proofs.TestLaws.{not_so}
use Rattle.laws.proofs.FoldLaws.{over-end}
use Rattle.laws.proofs.UnionLaws.{over_last}
use Rattle.answer.specs.Limits.{max_actions}
use Rattle.model.specs.Model.{Model, comp_at}
use Rattle.model.specs.WellFormed.{WellFormed}
use Rattle.iosa.proofs.Acceptance.Rows.{urgent-below}
use Rattle.marks.specs.Ways.{Way, edge, join}
use Rattle.marks.proofs.Going.{links, one_more, way-map}
use Rattle.triggering.specs.Triggering.{part, Triggers, LeadsOn, itself, onward}
use Rattle.triggering.specs.Test.{triggers_in, triggers_of, go_on, leads_of}
use Rattle.triggering.proofs.Known.{joined}
use Rattle.triggering.proofs.Tables.{tab-here, grows-over}
use Rattle.triggering.proofs.Rows.{grows-triggers}

-- ---- going on
has-cond : (x : Bool) (s b : ℕ) → has (cond x s 0) b ≡ (x && has s b)
has-cond true s b = refl
has-cond false s b = not_so (has 0 b) (none_in b)

-- one number more to go by
goes_on : (k : ℕ) (T : List ℕ) (a b : ℕ) → a < max_actions
    → has (get_or (go_on k T) a 0) b ≡ (has (get_or T a 0) b || (has (get_or T a 0) k && has (get_or T k 0) b))
unfolding go_on
goes_on k T a b h =
    ap (λ s. has s b) (tab-here (λ a. get_or T a 0 ∪ cond (has (get_or T a 0) k) (get_or T k 0) 0) max_actions a h)
    ∙ has-or (get_or T a 0) (cond (has (get_or T a 0) k) (get_or T k 0) 0) b
    ∙ ap (λ x. has (get_or T a 0) b || x) (has-cond (has (get_or T a 0) k) (get_or T k 0) b)

module _ (T : List ℕ) where
  abbrev Edge : ℕ → ℕ → Type 0
  Edge x y = y ∈ get_or T x 0

  pub ways-exactly : (n : ℕ) → n ≤ max_actions → (a b : ℕ) → a < max_actions → b < max_actions → (b ∈ get_or (over go_on 0 n T) a 0) ↔ Way Edge n a b
  ways-exactly zero l a b h k = rw (over-end go_on 0 0 T (omega arith)) links
  ways-exactly (suc n) l a b h k =
      let e : over go_on 0 (suc n) T ≡ go_on n (over go_on 0 n T) = rw add-one at (over_last go_on 0 n T (omega arith)) in
      rw (e, ← add-one n) (one_more Edge n max_actions (λ x y. has (get_or (over go_on 0 n T) x 0) y) (λ x y. has (get_or (go_on n (over go_on 0 n T)) x 0) y) l
      (ways-exactly n (omega arith)) (λ x y p q. goes_on n (over go_on 0 n T) x y p) a b h k)

-- ---- a system
module _ (m : Model) (w : WellFormed m) where
  -- in some component
  abbrev Somewhere : ℕ → ℕ → Type 0
  Somewhere a b = (i : ℕ) × (i < length m) × Triggers (part m i) a b

  pub triggers-exactly : (a b : ℕ) → a < max_actions → (b ∈ get_or (triggers_of m) a 0) ↔ (a ≡ b) ⊎ Somewhere a b
  unfolding triggers_of
  triggers-exactly a b h =
      let g = (grows-over (λ i. triggers_in (comp_at m i)) (λ i a b. Triggers (part m i) a b) (length m) (λ i l. grows-triggers (comp_at m i) (w.each i l))
      ).at (tab only 0 max_actions) a b h in
      let e : get_or (tab only 0 max_actions) a 0 ≡ only a = tab-here only max_actions a h in (
        λ x. ⊎_elim (λ y. inl (sym (one_in a b (rw e at y)))) inr (g.0 x),
        ⊎_elim (λ q. g.1 (inl (rw (← q, e) (in_one a)))) (λ p. g.1 (inr p)),
      )

  abbrev Link : ℕ → ℕ → Type 0
  Link a b = (a ≡ b) ⊎ Somewhere a b

  way-leads : {a b : ℕ} → Way Link max_actions a b → LeadsOn m a b
  way-leads (edge (inl e)) = rw e itself
  way-leads (edge (inr p)) = onward itself p.0 p.1 p.2
  way-leads (join h p q) = joined (way-leads p) (way-leads q)

  leads-way : {a b : ℕ} → LeadsOn m a b → Way Link max_actions a b
  leads-way itself = edge (inl refl)
  leads-way (onward {b} {d} l i h t) = join {k = b} (urgent-below (comp_at m i) (w.each i h) b t.urgent) (leads-way l) (edge (inr (i, h, t)))

  pub leads-exactly : (a b : ℕ) → a < max_actions → b < max_actions → (b ∈ get_or (leads_of m) a 0) ↔ LeadsOn m a b
  unfolding leads_of
  leads-exactly a b h k =
      let x = ways-exactly (triggers_of m) max_actions (omega arith) a b h k in (
        λ e. way-leads (way-map max_actions (λ u v p q y. (triggers-exactly u v p).0 y) h k (x.0 e)),
        λ l. x.1 (way-map max_actions (λ u v p q y. (triggers-exactly u v p).1 y) h k (leads-way l)),
      )
