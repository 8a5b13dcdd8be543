-- A series of the product's urgent rows is a run of the step that computes, and back.
use mathlib.Core.Path.{◌≡◌}
use mathlib.Core.List.{List, ◌∷◌}
use Prim.Native.Nat.{ℕ}
use Rattle.laws.proofs.SearchLaws.{no-some}
use Rattle.model.specs.Model.{Comp}
use Rattle.model.specs.WellFormed.{WellFormed}
use Rattle.iosa.specs.Automaton.{Automaton, Conforming, Joinable}
use Rattle.iosa.specs.Product.{product, state_of, Within, Series, over, next}
use Rattle.iosa.specs.Step.{urgent_step}
use Rattle.iosa.specs.Demand3.{LowestSeries, rest, take}
use Rattle.iosa.proofs.Settling.Steps.{step-is-a-row, row-is-a-step}
use Rattle.iosa.proofs.Settling.Descent.{Run, stop, then}
use Rattle.iosa.proofs.Settling.Rule.{LowRun, stay, low}

pub lowest-is-a-series : (A : Automaton) {x y : A.State} {l : List ℕ} {R : ℕ} → LowestSeries A x l R y → Series A x l R y
lowest-is-a-series A rest = over
lowest-is-a-series A (take r f more) = next r (lowest-is-a-series A more)

module _ (c : Comp) (cs : List Comp) (well : WellFormed (c ∷ cs)) (conf : Conforming (c ∷ cs)) (join : Joinable (c ∷ cs)) where
  pub series-is-a-run : (s : List ℕ) → Within (c ∷ cs) s → {x y : (product c cs).State} {l : List ℕ} {R : ℕ} → x ≡ state_of c cs s → Series (product c cs) x l R y
      → (t : List ℕ) × Run (urgent_step (c ∷ cs)) s l R t × (y ≡ state_of c cs t) × Within (c ∷ cs) t
  series-is-a-run s w e over = (s, stop, e, w)
  series-is-a-run s w e (next {y = y} {a = a} {R = R} r more) =
      let p = row-is-a-step c cs well conf join s w y (rw e at r) in
      let q = series-is-a-run p.after p.within p.state more in
      (q.0, then a (record { resets = R; after = p.after }) p.step q.1, q.2, q.3)

  pub run-is-a-series : {s t : List ℕ} {l : List ℕ} {R : ℕ} → Within (c ∷ cs) s → Run (urgent_step (c ∷ cs)) s l R t
      → Series (product c cs) (state_of c cs s) l R (state_of c cs t) × Within (c ∷ cs) t
  run-is-a-series w stop = (over, w)
  run-is-a-series w (then {s = s} a g e more) =
      let p = step-is-a-row c cs well conf join s w a g e in
      let q = run-is-a-series p.1 more in
      (next p.0 q.0, q.1)

  pub low-run-is-a-series : {s t : List ℕ} {l : List ℕ} {R : ℕ} → Within (c ∷ cs) s → LowRun (urgent_step (c ∷ cs)) s l R t
      → LowestSeries (product c cs) (state_of c cs s) l R (state_of c cs t) × Within (c ∷ cs) t
  low-run-is-a-series w stay = (rest, w)
  low-run-is-a-series w (low {s = s} a g e f more) =
      let p = step-is-a-row c cs well conf join s w a g e in
      let q = low-run-is-a-series p.1 more in
      (take p.0 (λ b D P y h r. no-some (f b h) (row-is-a-step c cs well conf join s w y r).step) q.0, q.1)
