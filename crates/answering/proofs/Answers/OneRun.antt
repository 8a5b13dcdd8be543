-- Settling by our rule is one run: whatever is a run by our rule, over when stable or when its budget is, is what settling computes.
use mathlib.Core.Path.{◌≡◌, refl, sym, ◌∙◌, ap}
use mathlib.Core.Logic.{◌↔◌, ⊎_elim}
use mathlib.Core.Bool.{Bool, true, false, true≢false}
use mathlib.Core.Option.{Option, none, some}
use mathlib.Core.List.{List, ◌∷◌}
use Prim.Native.Nat.{ℕ, zero, suc, ◌≤◌, ◌<◌}
use native.Mathlib.Omega.{arith}
use lib.ListN.{length}
use Rattle.laws.proofs.SearchLaws.{no-some}
use Rattle.model.specs.Model.{Comp}
use Rattle.model.specs.WellFormed.{WellFormed}
use Rattle.iosa.specs.Automaton.{UrgentRow, Conforming, Joinable}
use Rattle.iosa.specs.Product.{product, state_of, Within}
use Rattle.iosa.specs.Step.{Went, lowest, urgent_step}
use Rattle.iosa.specs.Stepped.{Gone}
use Rattle.iosa.specs.Settle.{resting, after, settle}
use Rattle.iosa.specs.Orders.{LowestSeries, rest, take, OurRun, Settling}
use Rattle.iosa.proofs.Settling.Descent.{Stuck}
use Rattle.iosa.proofs.Settling.Rule.{Bounded, LowRun, stay, low, lowest-none}
use Rattle.iosa.proofs.Settling.Parts.{within-length}
use Rattle.iosa.proofs.Settling.Steps.{row-is-a-step, no-row-no-step, state-is-one-list, steps-are-bounded, stable-stuck, stable-or-goes-on}
use Rattle.iosa.proofs.Settling.StepCalled.{stuck-lowest, some-lowest}
use Rattle.iosa.proofs.Settling.Demand3.{our-run-is-a-series}

module _ {S : Type 0} (step : S → ℕ → Option (Gone S)) (bd : Bounded step) where
  -- what is known of a run to u that answers b after n steps at most
  record Over (n : ℕ) (u : S) (l : List ℕ) (b : Bool) : Type 0 where
    within : length l ≤ n
    stable : b ≡ true → Stuck step u
    going : b ≡ false → (length l ≡ n) × ((a : ℕ) × (g : Gone S) × (step u a ≡ some g))

  some-step : (s : S) (a : ℕ) (g : Gone S) → step s a ≡ some g → (o : Option (Went S)) → lowest step s ≡ o → (w : Went S) × (o ≡ some w)
  some-step s a g e none h = absurd (no-some (lowest-none step s bd h a) e)
  some-step s a g e (some w) h = (w, refl)

  -- what settling answers by the step that is left: with no budget, and with a budget of n more
  abbrev lastly : S → Option (Went S) → Settling S
  lastly s p = elim p as (λ _. Settling S) [ none ↦ resting true s | some w ↦ resting false s ]

  abbrev onward : ℕ → S → Option (Went S) → Settling S
  onward n s p = elim p as (λ _. Settling S) [ none ↦ resting true s | some w ↦ after w (settle step n w.gone.after) ]

  is-settled : (n : ℕ) {s u : S} {l : List ℕ} {R : ℕ} (b : Bool) → LowRun step s l R u → Over n u l b
      → settle step n s ≡ record { stable = b; steps = length l; resets = R; trace = l; state = u }
  unfolding settle
  is-settled zero {s} true stay o =
      ap (lastly s) (stuck-lowest step s (o.stable refl))
  is-settled zero {s} false stay o =
      let q = (o.going refl).1 in
      let w = some-step s q.0 q.1 q.2 (lowest step s) refl in
      ap (lastly s) w.1
  is-settled zero b (low a g e f more) o = absurd (omega (arith, o.within))
  is-settled (suc n) {s} true stay o =
      ap (onward n s) (stuck-lowest step s (o.stable refl))
  is-settled (suc n) false stay o = absurd (omega (arith, (o.going refl).0))
  is-settled (suc n) {s} b (low {l = l} a g e f more) o =
      let fewer : b ≡ false → length l ≡ n = λ h. omega (arith, (o.going h).0) in
      let ih = is-settled n b more (record { within = omega (arith, o.within); stable = o.stable; going = λ h. (fewer h, (o.going h).1) }) in
      ap (onward n s) (some-lowest step s a g (bd s a g e) e f) ∙ ap (after (record { action = a; gone = g })) ih

module _ (c : Comp) (cs : List Comp) (well : WellFormed (c ∷ cs)) (conf : Conforming (c ∷ cs)) (join : Joinable (c ∷ cs)) where
  low-series-is-a-run : (s : List ℕ) → Within (c ∷ cs) s → {x y : (product c cs).State} {l : List ℕ} {R : ℕ} → x ≡ state_of c cs s
      → LowestSeries (product c cs) x l R y → (t : List ℕ) × LowRun (urgent_step (c ∷ cs)) s l R t × (y ≡ state_of c cs t) × Within (c ∷ cs) t
  low-series-is-a-run s w e rest = (s, stay, e, w)
  low-series-is-a-run s w e (take {y = y} {C = C} {a = a} {R = R} r f more) =
      let p = row-is-a-step c cs well conf join s w y (rw e at r) in
      let q = low-series-is-a-run p.after p.within p.state more in
      let g : (b D P : ℕ) (v : (product c cs).State) → b < a → UrgentRow (product c cs) (state_of c cs s) D b P v → ⊥ = rw e at f in
      let lower : (b : ℕ) → b < a → urgent_step (c ∷ cs) s b ≡ none = λ b h. no-row-no-step c cs well conf join s w b (λ D P v u. g b D P v h u) in
      (q.0, low a (record { resets = R; after = p.after }) p.step lower q.1, q.2, q.3)

  module _ (s : List ℕ) (w : Within (c ∷ cs) s) (n : ℕ) where
    of-our-run : (d : Settling (List ℕ)) → OurRun c cs s n d → settle (urgent_step (c ∷ cs)) n s ≡ d
    of-our-run d r =
        let p = low-series-is-a-run s w refl r.series in
        let e = state-is-one-list c cs d.state p.0 (within-length (c ∷ cs) d.state r.range) (within-length (c ∷ cs) p.0 p.3) p.2 in
        let run : LowRun (urgent_step (c ∷ cs)) s d.trace d.resets d.state = rw e p.1 in
        is-settled (urgent_step (c ∷ cs)) (steps-are-bounded c cs well conf join) n d.stable run over
        ∙ (λ i. record { stable = d.stable; steps = sym r.steps i; resets = d.resets; trace = d.trace; state = d.state })
      where
        goes : d.stable ≡ false → (a : ℕ) × (g : Gone (List ℕ)) × (urgent_step (c ∷ cs) d.state a ≡ some g)
        goes e = ⊎_elim
            (λ st. absurd (true≢false (sym (r.stable.1 st) ∙ e)))
            (λ g. let p = row-is-a-step c cs well conf join d.state r.range g.3 g.4 in (g.1, record { resets = g.2; after = p.after }, p.step))
            (stable-or-goes-on c cs well conf join d.state r.range)

        over : Over (urgent_step (c ∷ cs)) (steps-are-bounded c cs well conf join) n d.state d.trace d.stable
        over = record {
          within = omega (arith, r.steps, r.bounded);
          stable = λ e. stable-stuck c cs well conf join d.state r.range (r.stable.0 e);
          going = λ e. (sym r.steps ∙ r.unsettled e, goes e);
        }

    -- settling computes our run, and no other run is ours
    pub our-run-exactly : (d : Settling (List ℕ)) → (settle (urgent_step (c ∷ cs)) n s ≡ d) ↔ OurRun c cs s n d
    our-run-exactly d = (λ e. rw (← e) (our-run-is-a-series c cs well conf join s w n), of-our-run d)
