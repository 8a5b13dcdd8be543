-- Demand 3: one theorem over series of urgent outputs of the product's own rows, from any composed state made of reached parts; and our run is one of them.
use mathlib.Core.Path.{◌≡◌, refl, sym, ◌∙◌, ap}
use mathlib.Core.Logic.{◌↔◌, ◌⊎◌, inl, by_cases}
use mathlib.Core.Bool.{Bool, true, false, true≢false}
use mathlib.Core.Option.{none}
use mathlib.Core.List.{List, ◌∷◌}
use Prim.Native.Nat.{ℕ, ◌≤◌}
use native.Mathlib.Omega.{arith}
use native.Mathlib.Decide.{dec_lt}
use lib.ListN.{length}
use Rattle.laws.proofs.SearchLaws.{no-some}
use Rattle.model.specs.Model.{Comp}
use Rattle.model.specs.WellFormed.{WellFormed}
use Rattle.iosa.specs.Automaton.{Conforming, Joinable, Stable, ReachedIn, AllConfluent}
use Rattle.iosa.specs.Product.{product, state_of, Within, Reached, MadeOf, Series}
use Rattle.iosa.specs.Checks.{confluent_of}
use Rattle.iosa.specs.Step.{urgent_step}
use Rattle.iosa.specs.Settle.{settle}
use Rattle.iosa.specs.Orders.{Settling}
use Rattle.iosa.specs.Demand3.{Demand3, Stops, Same, GoesOn, OurRun}
use Rattle.iosa.proofs.Acceptance.Accepted.{accepted-exactly}
use Rattle.iosa.proofs.Acceptance.ConfluentExactly.{confluent-exactly, confluent-accepted}
use Rattle.iosa.proofs.Settling.Descent.{Run, Stuck, Keeps, Diamond, none-is-longer, all-that-stop-are-alike}
use Rattle.iosa.proofs.Settling.Rule.{Ran, Exact, settle-ran, settle-exact, settle-never}
use Rattle.iosa.proofs.Settling.Steps.{step-is-a-row, steps-are-bounded, stable-stuck, stuck-stable, stable-or-goes-on}
use Rattle.iosa.proofs.Settling.ProductOfMany.{wells}
use Rattle.iosa.proofs.Settling.SystemConfluent.{system-is-confluent}
use Rattle.iosa.proofs.Settling.Commute.{confluent-steps-commute}
use Rattle.iosa.proofs.Settling.SeriesAndRuns.{series-is-a-run, run-is-a-series, low-run-is-a-series}
use Rattle.iosa.proofs.Reaching.Keeps.{reached-within, row-keeps-reached-parts}

module _ (c : Comp) (cs : List Comp) (well : WellFormed (c ∷ cs)) (conf : Conforming (c ∷ cs)) (join : Joinable (c ∷ cs)) where
  -- ---- over any composed states that urgent steps keep and in which they commute
  module _ (P : List ℕ → Type 0) (keeps : Keeps (urgent_step (c ∷ cs)) P) (dia : Diamond (urgent_step (c ∷ cs)) P) (s : List ℕ) (w : Within (c ∷ cs) s)
      (ok : P s) where
    series-stops : {l : List ℕ} {R : ℕ} {y : (product c cs).State} → Series (product c cs) (state_of c cs s) l R y → Stable (product c cs) y → Stops c cs s l R y
    series-stops {l} {R} {y} run st = build (series-is-a-run c cs well conf join s w refl run)
      where
        build : (t : List ℕ) × Run (urgent_step (c ∷ cs)) s l R t × (y ≡ state_of c cs t) × Within (c ∷ cs) t → Stops c cs s l R y
        build p =
            let u = stable-stuck c cs well conf join p.0 p.3 (rw p.2 at st) in
            record {
              longest = λ other. none-is-longer (urgent_step (c ∷ cs)) P keeps dia u ok p.1 (series-is-a-run c cs well conf join s w refl other).1;
              same = λ other st'. alike u p.1 p.2 (series-is-a-run c cs well conf join s w refl other) st';
              exactly = λ n. exactly n (settle-exact (urgent_step (c ∷ cs)) P keeps dia (steps-are-bounded c cs well conf join) u ok p.1 n);
              enough = λ n h.
                  let x = (settle-exact (urgent_step (c ∷ cs)) P keeps dia (steps-are-bounded c cs well conf join) u ok p.1 n).enough h in
                  record { stable = x.0; steps = x.1; resets = x.2; state = ap (state_of c cs) x.3 ∙ sym p.2 };
              short = λ n h.
                  let x = (settle-exact (urgent_step (c ∷ cs)) P keeps dia (steps-are-bounded c cs well conf join) u ok p.1 n).short h in
                  record { unstable = x.0; steps = x.1 };
            }
          where
            exactly : (n : ℕ) {t : List ℕ} {d : Settling (List ℕ)} → Exact (urgent_step (c ∷ cs)) n l R t d → (d.stable ≡ true) ↔ (length l ≤ n)
            exactly n x = (λ e. by_cases (dec_lt n (length l)) (λ h. absurd (true≢false (sym e ∙ (x.short h).0))) (λ h. omega arith), λ h. (x.enough h).0)

            alike : {t : List ℕ} → Stuck (urgent_step (c ∷ cs)) t → Run (urgent_step (c ∷ cs)) s l R t → y ≡ state_of c cs t
                → {k : List ℕ} {Q : ℕ} {z : (product c cs).State}
                → (v : List ℕ) × Run (urgent_step (c ∷ cs)) s k Q v × (z ≡ state_of c cs v) × Within (c ∷ cs) v → Stable (product c cs) z
                → Same (product c cs) l R y k Q z
            alike u run e q st' =
                let a = all-that-stop-are-alike (urgent_step (c ∷ cs)) P keeps dia u ok run
                (stable-stuck c cs well conf join q.0 q.3 (rw q.2 at st')) q.1 in
                record { steps = a.steps; actions = a.acts; resets = a.resets; end = q.2 ∙ ap (state_of c cs) a.state ∙ sym e }

    pub commuting-steps-settle : Demand3 c cs s
    commuting-steps-settle = record {
      ends = λ run. ends (series-is-a-run c cs well conf join s w refl run);
      stops = series-stops;
      never = λ f n.
          let x = settle-never (urgent_step (c ∷ cs)) (steps-are-bounded c cs well conf join) (λ t l R run st. no_run f run st) n in
          record { unstable = x.0; steps = x.1 };
    }
      where
        ends : {l : List ℕ} {R : ℕ} {y : (product c cs).State} → (t : List ℕ) × Run (urgent_step (c ∷ cs)) s l R t × (y ≡ state_of c cs t) × Within (c ∷ cs) t
            → Stable (product c cs) y ⊎ GoesOn (product c cs) y
        ends p = rw p.2 (stable-or-goes-on c cs well conf join p.0 p.3)

        no_run : ((l : List ℕ) (R : ℕ) (y : (product c cs).State) → Series (product c cs) (state_of c cs s) l R y → Stable (product c cs) y → ⊥)
            → {t l : List ℕ} {R : ℕ} → Run (urgent_step (c ∷ cs)) s l R t → Stuck (urgent_step (c ∷ cs)) t → ⊥
        no_run f {t} {l} {R} run st =
            let r = run-is-a-series c cs well conf join w run in
            f l R (state_of c cs t) r.0 (stuck-stable c cs well conf join t r.1 st)

  pub our-run-is-a-series : (s : List ℕ) → Within (c ∷ cs) s → (n : ℕ) → OurRun c cs s n (settle (urgent_step (c ∷ cs)) n s)
  our-run-is-a-series s w n = build (settle (urgent_step (c ∷ cs)) n s) (settle-ran (urgent_step (c ∷ cs)) (steps-are-bounded c cs well conf join) n s)
    where
      build : (d : Settling (List ℕ)) → Ran (urgent_step (c ∷ cs)) n s d → OurRun c cs s n d
      build d ran =
          let r = low-run-is-a-series c cs well conf join w ran.run in
          record {
            series = r.0;
            steps = ran.steps;
            range = r.1;
            stable = (
              λ e. stuck-stable c cs well conf join d.state r.1 (ran.stable e),
              λ st. settled d.stable refl (stable-stuck c cs well conf join d.state r.1 st),
            );
            bounded = ran.within;
            unsettled = λ e. (ran.going e).0;
          }
        where
          settled : (b : Bool) → d.stable ≡ b → Stuck (urgent_step (c ∷ cs)) d.state → d.stable ≡ true
          settled true e st = e
          settled false e st = let v = (ran.going e).1 in absurd (no-some (st v.0.action) v.1)

  -- ---- made of reached parts
  abbrev Good : List ℕ → Type 0
  Good s = Within (c ∷ cs) s × MadeOf ReachedIn c cs (state_of c cs s)

  pub steps-keep-reached-parts : Keeps (urgent_step (c ∷ cs)) Good
  steps-keep-reached-parts s a g ok e =
      let p = step-is-a-row c cs well conf join s ok.0 a g e in
      (p.1, row-keeps-reached-parts c cs well conf join 0 a g.resets (state_of c cs s) (state_of c cs g.after) (inl p.0.urgent) p.0.row ok.1)

  pub demand-3-from-reached-parts : AllConfluent (c ∷ cs) → (s : List ℕ) → Reached (c ∷ cs) s → Demand3 c cs s
  demand-3-from-reached-parts al s r =
      let w = reached-within (c ∷ cs) s (wells (c ∷ cs) well) r in
      commuting-steps-settle Good steps-keep-reached-parts
      (confluent-steps-commute c cs well conf join (MadeOf ReachedIn c cs) (system-is-confluent c cs well join al)) s w
      (w, record { list = s; parts = r; state = refl })

-- any accepted model whose components pass 18, and "any composed state made of such parts"
pub demand-3 : (c : Comp) (cs : List Comp) → WellFormed (c ∷ cs) → confluent_of (c ∷ cs) ≡ none → (s : List ℕ) → Reached (c ∷ cs) s → Demand3 c cs s
demand-3 c cs well e =
    let ok = confluent-accepted (c ∷ cs) e in
    let k = (accepted-exactly (c ∷ cs) well).0 ok in
    demand-3-from-reached-parts c cs well k.0 k.1 ((confluent-exactly (c ∷ cs) well ok).0 e)
