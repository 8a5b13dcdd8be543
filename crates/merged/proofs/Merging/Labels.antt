-- The merged component's start, actions, urgency and clocks are the product's.
use mathlib.Core.Path.{◌≡◌, ◌∙◌, ap₂}
use mathlib.Core.Logic.{⊎_elim}
use Prim.Native.Nat.{ℕ}
use Rattle.laws.specs.Sets.{◌∪◌, ◌∖◌, ◌∈◌, Apart}
use Rattle.laws.proofs.SetLaws.{in-or, or-in-l, or-in-r, or-regroup, without-or, without-regroup}
use Rattle.model.specs.Model.{Comp, inputs, outputs, urgents, acts}
use Rattle.model.specs.WellFormed.{WellComp}
use Rattle.iosa.specs.Automaton.{auto_of, Compatible}
use Rattle.iosa.specs.Product.{◌⊗◌}
use Rattle.iosa.specs.Checks.{calm_acts}
use Rattle.merged.specs.Merge.{merged}

-- an action that is not urgent is one of the component's
pub calm-act : (c : Comp) (a : ℕ) → a ∈ calm_acts c → a ∈ acts c
calm-act c a h =
    ⊎_elim
    (λ k. or-in-l (inputs c) (outputs c) a (or-in-l c.ins c.uins a k))
    (λ k. or-in-r (inputs c) (outputs c) a (or-in-l c.outs c.uouts a k))
    (in-or c.ins c.outs a h)

-- "`in`, `out`, `uin` or `uout`": no action is urgent and not
pub calm-or-urgent : (c : Comp) → WellComp c → Apart (calm_acts c) (urgents c)
calm-or-urgent c w a h k =
    ⊎_elim
    (λ i. ⊎_elim (w.ins-uins a i) (w.ins-uouts a i) (in-or c.uins c.uouts a k))
    (λ o. ⊎_elim (w.outs-uins a o) (w.outs-uouts a o) (in-or c.uins c.uouts a k))
    (in-or c.ins c.outs a h)

module _ (c d : Comp) (wc : WellComp c) (wd : WellComp d) (j : Compatible (auto_of c) (auto_of d)) where
  -- "an action is urgent in all components that have it or in none"
  pub calm-or-urgent-in-both : Apart (calm_acts c ∪ calm_acts d) (urgents c ∪ urgents d)
  calm-or-urgent-in-both a h k =
      ⊎_elim
      (λ p. calm-or-urgent c wc a p (⊎_elim (λ u. u) (λ u. j.right a u (calm-act c a p)) (in-or (urgents c) (urgents d) a k)))
      (λ p. calm-or-urgent d wd a p (⊎_elim (λ u. j.left a u (calm-act d a p)) (λ u. u) (in-or (urgents c) (urgents d) a k)))
      (in-or (calm_acts c) (calm_acts d) a h)

  pub kinds-apart : Apart ((c.ins ∪ d.ins) ∪ (c.outs ∪ d.outs)) ((c.uins ∪ d.uins) ∪ (c.uouts ∪ d.uouts))
  kinds-apart a h k =
      calm-or-urgent-in-both a
      (rw (or-regroup c.ins d.ins c.outs d.outs) at h)
      (rw (or-regroup c.uins d.uins c.uouts d.uouts) at k)

  pub merged-inputs : inputs (merged c d) ≡ (auto_of c ⊗ auto_of d).inputs
  unfolding merged
  merged-inputs =
      without-regroup (c.ins ∪ d.ins) (c.outs ∪ d.outs) (c.uins ∪ d.uins) (c.uouts ∪ d.uouts) kinds-apart
      ∙ ap₂ ◌∖◌ (or-regroup c.ins d.ins c.uins d.uins) (or-regroup c.outs d.outs c.uouts d.uouts)

pub merged-outputs : (c d : Comp) → outputs (merged c d) ≡ (auto_of c ⊗ auto_of d).outputs
unfolding merged
merged-outputs c d = or-regroup c.outs d.outs c.uouts d.uouts

pub merged-urgent : (c d : Comp) → urgents (merged c d) ≡ (auto_of c ⊗ auto_of d).urgent
unfolding merged
merged-urgent c d = without-or (c.uins ∪ d.uins) (c.uouts ∪ d.uouts) ∙ or-regroup c.uins d.uins c.uouts d.uouts
