-- Steps exactly: the composed step that computes takes the urgent rows of the product by R1, R2 and R3 from the left, both ways; our rule takes
-- the lowest-numbered one; a state is stable exactly when none leaves it.
use mathlib.Core.Path.{◌≡◌, refl, sym, ◌∙◌, ap}
use mathlib.Core.Logic.{◌↔◌, ◌⊎◌, inl, inr}
use mathlib.Core.Bool.{Bool, true, false, not, false≢true}
use mathlib.Core.Option.{Option, none, some}
use mathlib.Core.List.{List, [], ◌∷◌}
use Prim.Native.Nat.{ℕ, ◌<◌}
use native.Mathlib.Omega.{arith}
use lib.ListN.{length}
use Rattle.laws.specs.Sets.{◌∈◌}
use Rattle.laws.specs.Search.{is_some}
use Rattle.laws.proofs.SetLaws.{or-in-r}
use Rattle.laws.proofs.SearchLaws.{no-some}
use Rattle.model.specs.Model.{Comp, Model, inputs, outputs}
use Rattle.model.specs.WellFormed.{WellComp, WellFormed}
use Rattle.iosa.specs.Automaton.{Automaton, alphabet, auto_of, UrgentRow, Stable, Conforming, Joinable, Conditions}
use Rattle.iosa.specs.Product.{◌⊗◌, product, embed, state_of, Within, OneList}
use Rattle.iosa.specs.Step.{RowStep, Went, move_all, is_uout, urgent_step, lowest, is_stable}
use Rattle.iosa.specs.Stepped.{Gone}
use Rattle.iosa.specs.Demand3.{GoesOn}
use Rattle.iosa.proofs.Acceptance.Rows.{Single, urgent-unclocked}
use Rattle.iosa.proofs.Settling.Each.{All, each_all, all_map}
use Rattle.iosa.proofs.Settling.Parts.{parts-row, row-parts, within-length}
use Rattle.iosa.proofs.Settling.ProductOfMany.{Pairwise, joinable-pairwise, wells, in-range-is-a-state, state-has-a-list}
use Rattle.iosa.proofs.Settling.UrgentOutputs.{uout-urgent, uout-labels, labels-uout, uout-below}
use Rattle.iosa.proofs.Settling.Moves.{Unclocked, moves-go, go-moves, go-within}
use Rattle.iosa.proofs.Settling.Rule.{Bounded, lowest-none, lowest-some}
use Rattle.iosa.proofs.Settling.Descent.{Stuck, Keeps}

-- ---- what the urgent step asks first
pub step-uout : (m : Model) (s : List ℕ) (a : ℕ) (g : Gone (List ℕ)) → urgent_step m s a ≡ some g → (is_uout m a ≡ true) × (move_all m s a ≡ some g)
unfolding urgent_step
step-uout m s a g e = go (is_uout m a) refl e
  where
    go : (u : Bool) → is_uout m a ≡ u → (elim u as (λ _. Option (Gone (List ℕ))) [ true ↦ move_all m s a | false ↦ none ]) ≡ some g
        → (is_uout m a ≡ true) × (move_all m s a ≡ some g)
    go true h e = (h, e)
    go false h e = absurd (no-some refl e)

pub uout-step : (m : Model) (s : List ℕ) (a : ℕ) (g : Gone (List ℕ)) → is_uout m a ≡ true → move_all m s a ≡ some g → urgent_step m s a ≡ some g
unfolding urgent_step
uout-step m s a g u e = rw (u, urgent_step) e

-- ---- one state of the product, one list of numbers
embed-injective : (cs : List Comp) (A : Automaton) (x y : A.State) (ss ts : List ℕ) → length ss ≡ length cs → length ts ≡ length cs
    → embed A cs x ss ≡ embed A cs y ts → (x ≡ y) × (ss ≡ ts)
embed-injective [] A x y [] [] p q e = (e, refl)
embed-injective [] A x y [] (t ∷ ts) p q e = absurd (omega arith)
embed-injective [] A x y (s ∷ ss) ts p q e = absurd (omega arith)
embed-injective (c ∷ cs) A x y [] ts p q e = absurd (omega arith)
embed-injective (c ∷ cs) A x y (s ∷ ss) [] p q e = absurd (omega arith)
embed-injective (c ∷ cs) A x y (s ∷ ss) (t ∷ ts) p q e =
    let r = embed-injective cs (A ⊗ auto_of c) (x, s) (y, t) ss ts (omega arith) (omega arith) e in
    (ap (λ z. z.0) r.0, λ i. (r.0 i).1 ∷ r.1 i)

pub state-is-one-list : (c : Comp) (cs : List Comp) (s t : List ℕ) → length s ≡ length (c ∷ cs) → length t ≡ length (c ∷ cs)
    → state_of c cs s ≡ state_of c cs t → s ≡ t
state-is-one-list c cs [] t p q e = absurd (omega arith)
state-is-one-list c cs (s ∷ ss) [] p q e = absurd (omega arith)
state-is-one-list c cs (s ∷ ss) (t ∷ ts) p q e =
    let r = embed-injective cs (auto_of c) s t ss ts (omega arith) (omega arith) e in
    λ i. r.0 i ∷ r.1 i

-- every state of the product is the state of exactly one list in range, and of a list in range is one
pub states-are-lists : (c : Comp) (cs : List Comp) (y : (product c cs).State) → (product c cs).States y ↔ OneList c cs y
states-are-lists c cs y = (
  λ h.
      let p = state-has-a-list c cs y h in
      record {
        list = p.0;
        within = p.1;
        state = p.2;
        only = λ t w e. state-is-one-list c cs t p.0 (within-length (c ∷ cs) t w) (within-length (c ∷ cs) p.0 p.1) (sym e ∙ p.2);
      },
  λ o. rw o.state (in-range-is-a-state c cs o.list o.within),
)

-- the list s, t, u is the state ((s, t), u)
pub three-parts : (c d e : Comp) (s t u : ℕ) → state_of c (d ∷ e ∷ []) (s ∷ t ∷ u ∷ []) ≡ ((s, t), u)
three-parts c d e s t u = refl

module _ (c : Comp) (cs : List Comp) (well : WellFormed (c ∷ cs)) (conf : Conforming (c ∷ cs)) (join : Joinable (c ∷ cs)) where
  each-well : All WellComp (c ∷ cs)
  each-well = wells (c ∷ cs) well

  single : All Single (c ∷ cs)
  single = all_map (c ∷ cs) (λ d k. record { cond_a = k.cond_a; cond_e = k.cond_e }) (each_all (λ d. Conditions (auto_of d)) (c ∷ cs) conf.each)

  pairs : Pairwise (c ∷ cs)
  pairs = joinable-pairwise (c ∷ cs) join

  unclocked-uout : (a : ℕ) → is_uout (c ∷ cs) a ≡ true → Unclocked a (c ∷ cs)
  unclocked-uout a u = all_map (c ∷ cs) (λ d f h. urgent-unclocked d a (f h)) (uout-urgent c cs a pairs u)

  known : (a : ℕ) → a ∈ (product c cs).outputs → a ∈ alphabet (product c cs)
  known a o = or-in-r (product c cs).inputs (product c cs).outputs a o

  -- what computes is an urgent row of the product, without guard, and stays in range
  pub step-is-a-row : (s : List ℕ) → Within (c ∷ cs) s → (a : ℕ) (g : Gone (List ℕ)) → urgent_step (c ∷ cs) s a ≡ some g
      → UrgentRow (product c cs) (state_of c cs s) 0 a g.resets (state_of c cs g.after) × Within (c ∷ cs) g.after
  step-is-a-row s w a g e =
      let u = step-uout (c ∷ cs) s a g e in
      let o = uout-labels c cs a u.0 in
      let r = moves-go (c ∷ cs) a single (unclocked-uout a u.0) s w g u.1 in
      (record { output = o.0; urgent = o.1; row = parts-row c cs a (known a o.0) r }, (go-within (c ∷ cs) a each-well r).1)

  -- every urgent row of the product computes
  pub row-is-a-step : (s : List ℕ) → Within (c ∷ cs) s → {C a R : ℕ} (y : (product c cs).State) → UrgentRow (product c cs) (state_of c cs s) C a R y
      → RowStep c cs s C a R y
  row-is-a-step s w {C} {a} {R} y r =
      let u = labels-uout c cs a each-well pairs r.output r.urgent in
      let p = row-parts c cs a s y (within-length (c ∷ cs) s w) (known a r.output) r.row in
      let q = go-moves (c ∷ cs) a single (unclocked-uout a u) p.1 in
      record {
        guard = q.0;
        after = p.0;
        within = (go-within (c ∷ cs) a each-well p.1).1;
        step = uout-step (c ∷ cs) s a (record { resets = R; after = p.0 }) u q.1;
        state = p.2;
      }

  -- both ways at once
  pub steps-exactly : (s : List ℕ) → Within (c ∷ cs) s → (a : ℕ) (g : Gone (List ℕ))
      → (urgent_step (c ∷ cs) s a ≡ some g) ↔ UrgentRow (product c cs) (state_of c cs s) 0 a g.resets (state_of c cs g.after) × Within (c ∷ cs) g.after
  steps-exactly s w a g = (step-is-a-row s w a g, λ r. back (row-is-a-step s w (state_of c cs g.after) r.0) r.1)
    where
      back : RowStep c cs s 0 a g.resets (state_of c cs g.after) → Within (c ∷ cs) g.after → urgent_step (c ∷ cs) s a ≡ some g
      back p v =
          let e = state-is-one-list c cs g.after p.after (within-length (c ∷ cs) g.after v) (within-length (c ∷ cs) p.after p.within)
          p.state in
          p.step ∙ (λ i. some (record { resets = g.resets; after = sym e i }))

  pub steps-keep-the-range : Keeps (urgent_step (c ∷ cs)) (Within (c ∷ cs))
  steps-keep-the-range s a g w e = (step-is-a-row s w a g e).1

  pub steps-are-bounded : Bounded (urgent_step (c ∷ cs))
  steps-are-bounded s a g e = uout-below (c ∷ cs) each-well a (step-uout (c ∷ cs) s a g e).0

  -- where no urgent row by a leaves, no step does
  pub no-row-no-step : (s : List ℕ) → Within (c ∷ cs) s → (a : ℕ)
      → ((C R : ℕ) (y : (product c cs).State) → UrgentRow (product c cs) (state_of c cs s) C a R y → ⊥)
      → urgent_step (c ∷ cs) s a ≡ none
  no-row-no-step s w a f = go (urgent_step (c ∷ cs) s a) refl
    where
      go : (o : Option (Gone (List ℕ))) → urgent_step (c ∷ cs) s a ≡ o → o ≡ none
      go none e = refl
      go (some g) e = absurd (f 0 g.resets (state_of c cs g.after) (step-is-a-row s w a g e).0)

  -- ---- stable
  pub stable-stuck : (s : List ℕ) → Within (c ∷ cs) s → Stable (product c cs) (state_of c cs s) → Stuck (urgent_step (c ∷ cs)) s
  stable-stuck s w st a = no-row-no-step s w a (λ C R y r. st.rests r)

  pub stuck-stable : (s : List ℕ) → Within (c ∷ cs) s → Stuck (urgent_step (c ∷ cs)) s → Stable (product c cs) (state_of c cs s)
  stuck-stable s w st = record { rests = λ {C} {a} {R} {t} r. no-some (st a) (row-is-a-step s w t r).step }

  pub stable-exactly : (s : List ℕ) → Within (c ∷ cs) s → (is_stable (c ∷ cs) s ≡ true) ↔ Stable (product c cs) (state_of c cs s)
  unfolding is_stable
  stable-exactly s w = go (lowest (urgent_step (c ∷ cs)) s) refl
    where
      go : (o : Option (Went (List ℕ))) → lowest (urgent_step (c ∷ cs)) s ≡ o → (not (is_some o) ≡ true) ↔ Stable (product c cs) (state_of c cs s)
      go none e = (λ h. stuck-stable s w (lowest-none (urgent_step (c ∷ cs)) s steps-are-bounded e), λ h. refl)
      go (some v) e = (λ h. absurd (false≢true h), λ st. absurd (no-some (stable-stuck s w st v.action) (lowest-some (urgent_step (c ∷ cs)) s v e).0))

  -- "Settling takes the lowest-numbered one"
  pub lowest-numbered : (s : List ℕ) → Within (c ∷ cs) s → (v : Went (List ℕ)) → lowest (urgent_step (c ∷ cs)) s ≡ some v
      → UrgentRow (product c cs) (state_of c cs s) 0 v.action v.gone.resets (state_of c cs v.gone.after)
      × ((b : ℕ) → b < v.action → (C R : ℕ) (y : (product c cs).State) → UrgentRow (product c cs) (state_of c cs s) C b R y → ⊥)
  lowest-numbered s w v e =
      let p = lowest-some (urgent_step (c ∷ cs)) s v e in
      ((step-is-a-row s w v.action v.gone p.0).0, λ b h C R y r. no-some (p.1 b h) (row-is-a-step s w y r).step)

  -- a state is stable, or an urgent row leaves it
  pub stable-or-goes-on : (s : List ℕ) → Within (c ∷ cs) s
      → Stable (product c cs) (state_of c cs s) ⊎ GoesOn (product c cs) (state_of c cs s)
  stable-or-goes-on s w = go (lowest (urgent_step (c ∷ cs)) s) refl
    where
      go : (o : Option (Went (List ℕ))) → lowest (urgent_step (c ∷ cs)) s ≡ o
          → Stable (product c cs) (state_of c cs s) ⊎ GoesOn (product c cs) (state_of c cs s)
      go none e = inl (stuck-stable s w (lowest-none (urgent_step (c ∷ cs)) s steps-are-bounded e))
      go (some v) e = inr (0, v.action, v.gone.resets, state_of c cs v.gone.after, (lowest-numbered s w v e).0)
