-- Settling by a list: a list that is a series is answered as that series, and any other is refused at its first action that is not enabled.
use mathlib.Core.Path.{◌≡◌, refl, sym, ◌∙◌, ap, subst}
use mathlib.Core.Logic.{◌↔◌}
use mathlib.Core.Bool.{Bool, true, false}
use mathlib.Core.Option.{Option, none, some}
use mathlib.Core.List.{List, [], ◌∷◌, ◌++◌}
use Prim.Native.Nat.{ℕ, suc, ◌+◌}
use native.Mathlib.Omega.{arith}
use lib.ListN.{length}
use Rattle.laws.specs.Sets.{◌∪◌}
use Rattle.laws.proofs.SearchLaws.{no-some}
use Rattle.answer.specs.Told.{Told, tell, Answer, answered, refused}
use Rattle.model.specs.Model.{Comp, Model}
use Rattle.model.specs.WellFormed.{WellFormed}
use Rattle.iosa.specs.Automaton.{Conforming, Joinable}
use Rattle.iosa.specs.Product.{product, state_of, Within}
use Rattle.iosa.specs.Step.{urgent_step, is_stable}
use Rattle.iosa.specs.Stepped.{Gone}
use Rattle.iosa.specs.Settle.{after_listed, play}
use Rattle.iosa.specs.Orders.{Settling}
use Rattle.iosa.specs.Demand3.{Listed, NotEnabledAt, not-enabled}
use Rattle.iosa.proofs.Settling.Parts.{within-length}
use Rattle.iosa.proofs.Settling.Descent.{Run, stop, then}
use Rattle.iosa.proofs.Settling.Steps.{state-is-one-list, stable-exactly, row-is-a-step, no-row-no-step}
use Rattle.iosa.proofs.Settling.SeriesAndRuns.{series-is-a-run, run-is-a-series}
use Rattle.iosa.proofs.Settling.Called.{no_answer, same_answer, same-refusal}

-- what a list that is a run to t with resets R is answered
abbrev played : Model → List ℕ → ℕ → List ℕ → Settling (List ℕ)
played m l R t = record { stable = is_stable m t; steps = length l; resets = R; trace = []; state = t }

-- the list ran up to an action that is not enabled
record Broke (m : Model) (s l : List ℕ) (i : ℕ) : Type 0 where
  before : List ℕ
  action : ℕ
  later : List ℕ
  split : l ≡ before ++ (action ∷ later)
  index : length before ≡ i
  resets : ℕ
  end : List ℕ
  run : Run (urgent_step m) s before resets end
  disabled : urgent_step m end action ≡ none

module _ (m : Model) where
  run-played : (i : ℕ) {s t l : List ℕ} {R : ℕ} → Run (urgent_step m) s l R t → play m i l s ≡ answered (played m l R t)
  unfolding play
  run-played i stop = refl
  run-played i (then a g e more) = rw (e, play) (rw (run-played (suc i) more))

  played-run : (i : ℕ) (l s : List ℕ) (d : Settling (List ℕ)) → play m i l s ≡ answered d → Run (urgent_step m) s l d.resets d.state
      × (played m l d.resets d.state ≡ d)
  unfolding play
  played-run i [] s d e = rw (← same_answer e) (stop, refl)
  played-run i (a ∷ l) s d e = go (played-run (suc i) l) (urgent_step m s a) refl e
    where
      by : ((t : List ℕ) (x : Settling (List ℕ)) → play m (suc i) l t ≡ answered x → Run (urgent_step m) t l x.resets x.state
          × (played m l x.resets x.state ≡ x))
          → (g : Gone (List ℕ)) → urgent_step m s a ≡ some g → (x : Answer (Settling (List ℕ))) → play m (suc i) l g.after ≡ x → after_listed g x ≡ answered d
          → Run (urgent_step m) s (a ∷ l) d.resets d.state × (played m (a ∷ l) d.resets d.state ≡ d)
      by ih g h (refused t) f e = absurd (no_answer e)
      by ih g h (answered y) f e =
          let r = ih g.after y f in
          let q = r.1 in
          rw (← same_answer e) (
            then a g h r.0,
            λ j. record { stable = (q j).stable; steps = suc (q j).steps; resets = g.resets ∪ y.resets; trace = []; state = y.state },
          )

      go : ((t : List ℕ) (x : Settling (List ℕ)) → play m (suc i) l t ≡ answered x → Run (urgent_step m) t l x.resets x.state
          × (played m l x.resets x.state ≡ x))
          → (o : Option (Gone (List ℕ))) → urgent_step m s a ≡ o
          → (elim o as (λ _. Answer (Settling (List ℕ))) [ none ↦ refused (tell 23 (i ∷ [])) | some g ↦ after_listed g (play m (suc i) l g.after) ])
          ≡ answered d
          → Run (urgent_step m) s (a ∷ l) d.resets d.state × (played m (a ∷ l) d.resets d.state ≡ d)
      go ih none h e = absurd (no_answer e)
      go ih (some g) h e = by ih g h (play m (suc i) l g.after) refl e

  -- ---- refused
  run-breaks : (i : ℕ) {s t b : List ℕ} {R : ℕ} (a : ℕ) (l : List ℕ) → Run (urgent_step m) s b R t → urgent_step m t a ≡ none
      → play m i (b ++ (a ∷ l)) s ≡ refused (tell 23 ((i + length b) ∷ []))
  unfolding play
  run-breaks i a l stop n = rw (n, play) (ap (λ k. refused (tell 23 (k ∷ []))) (omega arith))
  run-breaks i a l (then {l = b} c g e more) n =
      let k : suc i + length b ≡ i + suc (length b) = omega arith in
      rw (e, play) (rw (run-breaks (suc i) a l more n) (ap (λ k. refused (tell 23 (k ∷ []))) k))

  refused-breaks : (i : ℕ) (l s : List ℕ) (t : Told) → play m i l s ≡ refused t → (j : ℕ) × (t ≡ tell 23 ((i + j) ∷ [])) × Broke m s l j
  unfolding play
  refused-breaks i [] s t e = absurd (no_answer (sym e))
  refused-breaks i (a ∷ l) s t e = go (refused-breaks (suc i) l) (urgent_step m s a) refl e
    where
      by : ((u : List ℕ) (w : Told) → play m (suc i) l u ≡ refused w → (j : ℕ) × (w ≡ tell 23 ((suc i + j) ∷ [])) × Broke m u l j)
          → (g : Gone (List ℕ)) → urgent_step m s a ≡ some g → (x : Answer (Settling (List ℕ))) → play m (suc i) l g.after ≡ x → after_listed g x ≡ refused t
          → (j : ℕ) × (t ≡ tell 23 ((i + j) ∷ [])) × Broke m s (a ∷ l) j
      by ih g h (answered y) f e = absurd (no_answer (sym e))
      by ih g h (refused w) f e =
          let r = ih g.after w f in
          let b = r.2 in
          let n : suc i + r.0 ≡ i + suc r.0 = omega arith in (
            suc r.0,
            sym (same-refusal e) ∙ r.1 ∙ ap (λ k. tell 23 (k ∷ [])) n,
            record {
              before = a ∷ b.before;
              action = b.action;
              later = b.later;
              split = ap (λ k. a ∷ k) b.split;
              index = ap suc b.index;
              resets = g.resets ∪ b.resets;
              end = b.end;
              run = then a g h b.run;
              disabled = b.disabled;
            },
          )

      go : ((u : List ℕ) (w : Told) → play m (suc i) l u ≡ refused w → (j : ℕ) × (w ≡ tell 23 ((suc i + j) ∷ [])) × Broke m u l j)
          → (o : Option (Gone (List ℕ))) → urgent_step m s a ≡ o
          → ◌≡◌ {A =
          Answer (Settling (List ℕ))} (elim o as (λ _. Answer (Settling (List ℕ))) [
            | none ↦ refused (tell 23 (i ∷ []))
            | some g ↦ after_listed g (play m (suc i) l g.after)
          ]) (refused t)
          → (j : ℕ) × (t ≡ tell 23 ((i + j) ∷ [])) × Broke m s (a ∷ l) j
      go ih none h e = (
        0,
        sym (same-refusal e) ∙ ap (λ k. tell 23 (k ∷ [])) (omega arith),
        record { before = []; action = a; later = l; split = refl; index = refl; resets = 0; end = s; run = stop; disabled = h },
      )
      go ih (some g) h e = by ih g h (play m (suc i) l g.after) refl e

both-tell : {X : Type 0} (a b : Bool) → (a ≡ true) ↔ X → (b ≡ true) ↔ X → a ≡ b
both-tell true b f g = sym (g.1 (f.0 refl))
both-tell false true f g = f.1 (g.0 refl)
both-tell false false f g = refl

module _ (c : Comp) (cs : List Comp) (well : WellFormed (c ∷ cs)) (conf : Conforming (c ∷ cs)) (join : Joinable (c ∷ cs)) (s : List ℕ)
    (w : Within (c ∷ cs) s) (l : List ℕ) where
  -- the list is answered exactly as the series that it is
  pub list-that-is-a-series : (d : Settling (List ℕ)) → (play (c ∷ cs) 0 l s ≡ answered d) ↔ Listed c cs s l d
  list-that-is-a-series d = (there, back)
    where
      there : play (c ∷ cs) 0 l s ≡ answered d → Listed c cs s l d
      there e =
          let p = played-run (c ∷ cs) 0 l s d e in
          let q = run-is-a-series c cs well conf join w p.0 in
          record {
            series = q.0;
            steps = ap (λ x. x.steps) (sym p.1);
            range = q.1;
            stable = rw (ap (λ x. x.stable) (sym p.1)) (stable-exactly c cs well conf join d.state q.1);
            trace = ap (λ x. x.trace) (sym p.1);
          }

      back : Listed c cs s l d → play (c ∷ cs) 0 l s ≡ answered d
      back x =
          let p = series-is-a-run c cs well conf join s w refl x.series in
          let e = state-is-one-list c cs d.state p.0 (within-length (c ∷ cs) d.state x.range) (within-length (c ∷ cs) p.0 p.3) p.2 in
          let f = both-tell (is_stable (c ∷ cs) d.state) d.stable (stable-exactly c cs well conf join d.state x.range) x.stable in
          run-played (c ∷ cs) 0 p.1 ∙ (λ i. answered (record {
            stable = (ap (is_stable (c ∷ cs)) (sym e) ∙ f) i;
            steps = sym x.steps i;
            resets = d.resets;
            trace = sym x.trace i;
            state = sym e i;
          }))

  -- and refused, 23, exactly at its first action that is not enabled
  pub list-that-is-no-series : (t : Told) → (play (c ∷ cs) 0 l s ≡ refused t) ↔ (i : ℕ) × (t ≡ tell 23 (i ∷ [])) × NotEnabledAt (product c cs)
      (state_of c cs s) l i
  list-that-is-no-series t = (λ e. there (refused-breaks (c ∷ cs) 0 l s t e), back)
    where
      there : (j : ℕ) × (t ≡ tell 23 ((0 + j) ∷ [])) × Broke (c ∷ cs) s l j → (i : ℕ) × (t ≡ tell 23 (i ∷ [])) × NotEnabledAt (product c cs)
          (state_of c cs s) l i
      there p =
          let b = p.2 in
          let q = run-is-a-series c cs well conf join w b.run in
          let n : 0 + p.0 ≡ p.0 = omega arith in (
            p.0,
            p.1 ∙ ap (λ k. tell 23 (k ∷ [])) n,
            subst (λ k. NotEnabledAt (product c cs) (state_of c cs s) k p.0) (sym b.split)
                (subst (NotEnabledAt (product c cs) (state_of c cs s) (b.before ++ (b.action ∷ b.later))) b.index
                (not-enabled b.before b.action b.later q.0
                (λ C R y r. no-some b.disabled (row-is-a-step c cs well conf join b.end q.1 y r).step))),
          )

      broken : {k : List ℕ} {i : ℕ} → NotEnabledAt (product c cs) (state_of c cs s) k i → play (c ∷ cs) 0 k s ≡ refused (tell 23 (i ∷ []))
      broken (not-enabled k a later r f) =
          let q = series-is-a-run c cs well conf join s w refl r in
          let n : 0 + length k ≡ length k = omega arith in
          run-breaks (c ∷ cs) 0 a later q.1 (no-row-no-step c cs well conf join q.0 q.3 a (rw q.2 at f))
          ∙ ap (λ j. refused (tell 23 (j ∷ []))) n

      back : (i : ℕ) × (t ≡ tell 23 (i ∷ [])) × NotEnabledAt (product c cs) (state_of c cs s) l i → play (c ∷ cs) 0 l s ≡ refused t
      back p = broken p.2 ∙ ap refused (sym p.1)
