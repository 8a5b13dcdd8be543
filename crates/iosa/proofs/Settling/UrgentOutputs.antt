-- The urgent outputs of a system: what `is_uout` computes are the product's actions that are outputs and urgent.
use mathlib.Core.Path.{◌≡◌, refl}
use mathlib.Core.Logic.{inl, inr, ⊎_elim, ⊎_map}
use mathlib.Core.Bool.{true, false≢true}
use mathlib.Core.List.{List, [], ◌∷◌}
use Prim.Native.Nat.{ℕ, ◌<◌}
use Rattle.laws.specs.Sets.{has, ◌∈◌}
use Rattle.laws.proofs.SetLaws.{or-in-r, in-or, or_cases, in-below}
use Rattle.laws.proofs.TestLaws.{or-true}
use Rattle.answer.specs.Limits.{max_actions}
use Rattle.model.specs.Model.{Comp, Model, inputs, outputs, urgents, acts}
use Rattle.model.specs.WellFormed.{WellComp}
use Rattle.iosa.specs.Automaton.{auto_of}
use Rattle.iosa.specs.Product.{product}
use Rattle.iosa.specs.Step.{is_uout}
use Rattle.iosa.proofs.Settling.Each.{All, Any, all_map, all-zip, any-map, any-zip}
use Rattle.iosa.proofs.Settling.Parts.{label-parts, parts-label}
use Rattle.iosa.proofs.Settling.ProductOfMany.{Pairwise}

-- some component has the urgent output a
uout-any : (m : Model) (a : ℕ) → is_uout m a ≡ true → Any (λ c. a ∈ c.uouts) m
unfolding is_uout
uout-any [] a u = absurd (false≢true u)
uout-any (c ∷ cs) a u = ⊎_map (λ h. h) (uout-any cs a) (or_cases (has c.uouts a) (is_uout cs a) u)

any-uout : (m : Model) (a : ℕ) → Any (λ c. a ∈ c.uouts) m → is_uout m a ≡ true
unfolding is_uout
any-uout [] a u = absurd u
any-uout (c ∷ cs) a (inl h) = rw h
any-uout (c ∷ cs) a (inr h) = rw (any-uout cs a h) (or-true (has c.uouts a))

any-so : {X : Type 0} (m : Model) → Any (λ c. X) m → X
any-so [] u = absurd u
any-so (c ∷ cs) (inl h) = h
any-so (c ∷ cs) (inr h) = any-so cs h

-- what is urgent somewhere is urgent wherever it is known
pub urgent-everywhere : (m : Model) (a : ℕ) → Pairwise m → Any (λ c. a ∈ urgents c) m → All (λ c. a ∈ acts c → a ∈ urgents c) m
urgent-everywhere [] a p u = absurd u
urgent-everywhere (c ∷ cs) a p (inl h) = (λ k. h, all_map cs (λ d f k. f.left a h k) p.0)
urgent-everywhere (c ∷ cs) a p (inr h) = (any-so cs (any-zip cs (λ d f g k. f.right a g k) p.0 h), urgent-everywhere cs a p.1 h)

-- an output that is urgent wherever it is known is a `uout`
urgent-output : (c : Comp) (a : ℕ) → WellComp c → (a ∈ acts c → a ∈ urgents c) → a ∈ outputs c → a ∈ c.uouts
urgent-output c a w u h = ⊎_elim
    (λ k. ⊎_elim (λ i. absurd (w.outs-uins a k i)) (λ i. i) (in-or c.uins c.uouts a (u (or-in-r (inputs c) (outputs c) a h))))
    (λ k. k)
    (in-or c.outs c.uouts a h)

module _ (c : Comp) (cs : List Comp) (a : ℕ) where
  pub uout-urgent : Pairwise (c ∷ cs) → is_uout (c ∷ cs) a ≡ true → All (λ d. a ∈ acts d → a ∈ urgents d) (c ∷ cs)
  uout-urgent p u = urgent-everywhere (c ∷ cs) a p (any-map (c ∷ cs) (λ d h. or-in-r d.uins d.uouts a h) (uout-any (c ∷ cs) a u))

  -- what computes is an output of the product, and urgent
  pub uout-labels : is_uout (c ∷ cs) a ≡ true → (a ∈ (product c cs).outputs) × (a ∈ (product c cs).urgent)
  uout-labels u =
      let n = uout-any (c ∷ cs) a u in (
        parts-label (λ A. A.outputs) (λ A B. refl) cs (auto_of c) a (any-map (c ∷ cs) (λ d h. or-in-r d.outs d.uouts a h) n),
        parts-label (λ A. A.urgent) (λ A B. refl) cs (auto_of c) a (any-map (c ∷ cs) (λ d h. or-in-r d.uins d.uouts a h) n),
      )

  -- and back
  pub labels-uout : All WellComp (c ∷ cs) → Pairwise (c ∷ cs) → a ∈ (product c cs).outputs → a ∈ (product c cs).urgent → is_uout (c ∷ cs) a ≡ true
  labels-uout w p o u =
      let ur = urgent-everywhere (c ∷ cs) a p (label-parts (λ A. A.urgent) (λ A B. refl) cs (auto_of c) a u) in
      any-uout (c ∷ cs) a (any-zip (c ∷ cs) (λ d k h. k h) (all-zip (c ∷ cs) (λ d i j. urgent-output d a i j) w ur)
      (label-parts (λ A. A.outputs) (λ A B. refl) cs (auto_of c) a o))

-- it is one of the model's actions
pub uout-below : (m : Model) → All WellComp m → (a : ℕ) → is_uout m a ≡ true → a < max_actions
uout-below m w a u = any-so m (any-zip m (λ c k h. in-below max_actions c.uouts a k.uouts h) w (uout-any m a u))
