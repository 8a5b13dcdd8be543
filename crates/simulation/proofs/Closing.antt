-- How a round closes: what settling by our rule and feeding answer, said of series of urgent steps that are chosen freely.
use mathlib.Core.Path.{◌≡◌, refl, sym, ◌∙◌, ap, subst}
use mathlib.Core.Logic.{◌↔◌}
use mathlib.Core.Option.{none}
use mathlib.Core.Bool.{Bool, true, false, true≢false}
use mathlib.Core.List.{List, [], ◌∷◌}
use Prim.Native.Nat.{ℕ}
use native.Mathlib.Omega.{arith}
use lib.ListN.{length}
use lib.IntN.{ℤ}
use Rattle.laws.specs.Sets.{◌∪◌}
use Rattle.laws.specs.Lowest.{Lowest}
use Rattle.answer.specs.Limits.{max_budget, max_clocks}
use Rattle.answer.specs.Told.{tell, Answer, answered, refused}
use Rattle.model.specs.Model.{Comp}
use Rattle.model.specs.WellFormed.{WellFormed}
use Rattle.iosa.specs.Product.{product, Within}
use Rattle.iosa.specs.Checks.{accept_of}
use Rattle.iosa.specs.Step.{urgent_step}
use Rattle.iosa.specs.Settle.{settle}
use Rattle.iosa.specs.Orders.{Settling, OurRun}
use Rattle.iosa.proofs.Acceptance.Accepted.{accepted-exactly}
use Rattle.iosa.proofs.Settling.Demand3.{our-run-is-a-series}
use Rattle.iosa.proofs.Settling.SeriesAndRuns.{lowest-is-a-series}
use Rattle.simulation.specs.Simulate.{Supply, Round, end_of, close_of}
use Rattle.simulation.specs.Free.{Settles, Closes, Lacks, Counting}
use Rattle.simulation.proofs.Fed.{end-exactly, runs-out-exactly}
use Rattle.simulation.proofs.Agree.{one_list}

module _ (c : Comp) (cs : List Comp) (well : WellFormed (c ∷ cs)) (acc : accept_of (c ∷ cs) ≡ none) (P : List ℕ → Type 0) (count : Counting c cs P)
    (p : Supply) where
  -- settling by our rule
  abbrev ours : List ℕ → Settling (List ℕ)
  ours s = settle (urgent_step (c ∷ cs)) max_budget s

  our-run : (s : List ℕ) → Within (c ∷ cs) s → OurRun c cs s max_budget (ours s)
  our-run s i = let a = (accepted-exactly (c ∷ cs) well).0 acc in our-run-is-a-series c cs well a.0 a.1 s i max_budget

  -- where it is stable, it is a series that stops
  ours-settles : (s : List ℕ) → Within (c ∷ cs) s → (ours s).stable ≡ true → Settles c cs s (ours s).resets (ours s).state
  ours-settles s i e =
      let run = our-run s i in
      record {
        actions = (ours s).trace;
        series = lowest-is-a-series (product c cs) run.series;
        within = run.range;
        stable = run.stable.0 e;
        budget = omega (arith, run.steps, run.bounded);
      }

  -- where some series stops, ours does, in the same state and with the same resets
  pub record Ours (s : List ℕ) (R : ℕ) (t : List ℕ) : Type 0 where
    pub stable : (ours s).stable ≡ true
    pub resets : (ours s).resets ≡ R
    pub state : (ours s).state ≡ t

  pub settles-ours : (s : List ℕ) → Within (c ∷ cs) s → P s → {R : ℕ} {t : List ℕ} → Settles c cs s R t → Ours s R t
  settles-ours s i ok {R} {t} k =
      let x = ((count.settles s i ok).stops k.series k.stable).enough max_budget k.budget in
      record { stable = x.stable; resets = x.resets; state = one_list c cs {s = (ours s).state} {t = t} (our-run s i).range k.within x.state }

  -- ---- the end, 42, or 41
  pub data CloseAnswer (r w : ℕ) (s : List ℕ) (vs : List ℤ) (ts : List ℕ) : Answer Round → Type 0 where
    closes : {q : Round} → Closes c cs p w s vs ts q → CloseAnswer r w s vs ts (answered q)
    unsettled : ((R : ℕ) (t : List ℕ) → Settles c cs s R t → ⊥) → CloseAnswer r w s vs ts (refused (tell 42 (r ∷ [])))
    has_run_out : {R x : ℕ} {t : List ℕ} → Settles c cs s R t → Lowest (Lacks p (w ∪ R) ts) x → CloseAnswer r w s vs ts (refused (tell p.ran_out (x ∷ [])))

  -- what is known where a round begins to settle
  pub record Standing (s : List ℕ) (vs : List ℤ) (ts : List ℕ) : Type 0 where
    pub within : Within (c ∷ cs) s
    pub counts : P s
    pub values : length vs ≡ max_clocks
    pub taken : length ts ≡ max_clocks

  module _ (r w : ℕ) (s : List ℕ) (vs : List ℤ) (ts : List ℕ) (k : Standing s vs ts) where
    abbrev Or : Bool → Answer Round → Answer Round
    Or b e = elim b as (λ _. Answer Round) [ false ↦ refused (tell 42 (r ∷ [])) | true ↦ e ]

    close-is : (a : Answer Round) → close_of (c ∷ cs) p r w s vs ts ≡ a → CloseAnswer r w s vs ts a
    unfolding close_of
    close-is a e = go (ours s).stable refl (end_of p (w ∪ (ours s).resets) (ours s).state vs ts) refl e
      where
        end : (ours s).stable ≡ true → (o : Answer Round) → end_of p (w ∪ (ours s).resets) (ours s).state vs ts ≡ o → CloseAnswer r w s vs ts o
        end b (answered q) h =
            let t = (end-exactly p (w ∪ (ours s).resets) ts (ours s).state vs k.values k.taken q).0 h in
            let done = subst (Settles c cs s (ours s).resets) (sym t.0) (ours-settles s k.within b) in
            closes (record { resets = (ours s).resets; settles = done; takes = t.1 })
        end b (refused u) h =
            let t = (runs-out-exactly p (w ∪ (ours s).resets) ts (ours s).state vs k.values k.taken u).0 h in
            rw t.2 (has_run_out (ours-settles s k.within b) t.1)

        go : (b : Bool) → (ours s).stable ≡ b → (o : Answer Round) → end_of p (w ∪ (ours s).resets) (ours s).state vs ts ≡ o → Or b o ≡ a
            → CloseAnswer r w s vs ts a
        go false b o h e = rw (← e) (unsettled (λ R t x. true≢false (sym (settles-ours s k.within k.counts x).stable ∙ b)))
        go true b o h e = rw (← e) (end b o h)

    is-close : (a : Answer Round) → CloseAnswer r w s vs ts a → close_of (c ∷ cs) p r w s vs ts ≡ a
    unfolding close_of
    is-close (answered q) (closes d) =
        let x = settles-ours s k.within k.counts d.settles in
        ap (λ b. Or b (end_of p (w ∪ (ours s).resets) (ours s).state vs ts)) x.stable ∙ ap (λ R. end_of p (w ∪ R) (ours s).state vs ts) x.resets
        ∙ (end-exactly p (w ∪ d.resets) ts (ours s).state vs k.values k.taken q).1 (sym x.state, d.takes)
    is-close a (unsettled f) = go (ours s).stable refl
      where
        go : (b : Bool) → (ours s).stable ≡ b → Or b (end_of p (w ∪ (ours s).resets) (ours s).state vs ts) ≡ refused (tell 42 (r ∷ []))
        go false b = refl
        go true b = absurd (f (ours s).resets (ours s).state (ours-settles s k.within b))
    is-close a (has_run_out {R = R} {x = y} d l) =
        let x = settles-ours s k.within k.counts d in
        ap (λ b. Or b (end_of p (w ∪ (ours s).resets) (ours s).state vs ts)) x.stable ∙ ap (λ R. end_of p (w ∪ R) (ours s).state vs ts) x.resets
        ∙ (runs-out-exactly p (w ∪ R) ts (ours s).state vs k.values k.taken (tell p.ran_out (y ∷ []))).1 (y, l, refl)

    pub close-exactly : (a : Answer Round) → (close_of (c ∷ cs) p r w s vs ts ≡ a) ↔ CloseAnswer r w s vs ts a
    close-exactly a = (close-is a, is-close a)
