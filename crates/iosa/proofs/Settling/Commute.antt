-- Where the product is confluent, two different urgent steps of a composed state commute.
use mathlib.Core.Path.{◌≡◌, sym, ◌∙◌}
use mathlib.Core.Option.{some}
use mathlib.Core.List.{List, ◌∷◌}
use Prim.Native.Nat.{ℕ}
use Rattle.model.specs.Model.{Comp}
use Rattle.model.specs.WellFormed.{WellFormed}
use Rattle.iosa.specs.Automaton.{Confluent, Conforming, Joinable}
use Rattle.iosa.specs.Product.{product, state_of, Within}
use Rattle.iosa.specs.Step.{urgent_step, RowStep}
use Rattle.iosa.specs.Stepped.{Gone}
use Rattle.iosa.proofs.Settling.Parts.{within-length}
use Rattle.iosa.proofs.Settling.Steps.{state-is-one-list, step-is-a-row, row-is-a-step}
use Rattle.iosa.proofs.Settling.Descent.{Diamond}

module _ (c : Comp) (cs : List Comp) (well : WellFormed (c ∷ cs)) (conf : Conforming (c ∷ cs)) (join : Joinable (c ∷ cs)) where
  -- over the states that count
  pub confluent-steps-commute : (Counts : (product c cs).State → Type 0) → Confluent (product c cs) Counts
      → Diamond (urgent_step (c ∷ cs)) (λ s. Within (c ∷ cs) s × Counts (state_of c cs s))
  confluent-steps-commute N k s a b g h ok ne e f =
      let p = step-is-a-row c cs well conf join s ok.0 a g e in
      let q = step-is-a-row c cs well conf join s ok.0 b h f in
      let d = ((k.pair a b ne p.0.urgent q.0.urgent).meets (state_of c cs s) ok.1).meet p.0.row q.0.row in
      close g h
      (row-is-a-step c cs well conf join g.after p.1 d.0 (record { output = q.0.output; urgent = q.0.urgent; row = d.1 }))
      (row-is-a-step c cs well conf join h.after q.1 d.0 (record { output = p.0.output; urgent = p.0.urgent; row = d.2 }))
    where
      close : (g h : Gone (List ℕ)) {v : (product c cs).State} → RowStep c cs g.after 0 b h.resets v → RowStep c cs h.after 0 a g.resets v
          → (w : List ℕ) × (urgent_step (c ∷ cs) g.after b ≡ some (record { resets = h.resets; after = w }))
          × (urgent_step (c ∷ cs) h.after a ≡ some (record { resets = g.resets; after = w }))
      close g h x y =
          let e = state-is-one-list c cs y.after x.after (within-length (c ∷ cs) y.after y.within)
          (within-length (c ∷ cs) x.after x.within) (sym y.state ∙ x.state) in
          (x.after, x.step, y.step ∙ (λ i. some (record { resets = g.resets; after = e i })))
