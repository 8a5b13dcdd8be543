-- "what request 4 proves holds for both": its theorems are stated over any supply, and so hold for draws.
use mathlib.Core.Path.{◌≡◌}
use mathlib.Core.Option.{Option}
use mathlib.Core.List.{List, ◌∷◌}
use Prim.Native.Nat.{ℕ, ◌≤◌}
use Rattle.answer.specs.Told.{answered}
use Rattle.model.specs.Model.{Comp, declared}
use Rattle.model.specs.WellFormed.{WellFormed}
use Rattle.iosa.specs.Automaton.{Joinable}
use Rattle.iosa.specs.Thesis.{AllDefinition41}
use Rattle.iosa.specs.TimedExactly.{Waits, BelowZero, Fires, Ready}
use Rattle.walkable.specs.Orderly.{EitherTest}
use Rattle.simulation.specs.Simulate.{Round}
use Rattle.simulation.specs.Free.{After}
use Rattle.simulation.proofs.Whole.{rounds-agree, rounds-are-ready, firings-take-a-tick}
use Rattle.draw.specs.declared.Law.{Law}
use Rattle.drawing.specs.File.{FileAnswer}
use Rattle.drawing.specs.Draws.{draws}
use Rattle.drawing.proofs.Fair.{draws-fair}

module _ (c : Comp) (cs : List Comp) (well : WellFormed (c ∷ cs)) (d : AllDefinition41 (c ∷ cs))
    (join : Joinable (c ∷ cs)) (ls : List (Option Law)) (ns : List ℕ) where
  -- two simulations over the same distributions and numbers, urgent steps freely chosen and neither refused, end each round with equal state and clock values
  pub drawn-rounds-agree : EitherTest (c ∷ cs) → {k : ℕ} {q q' : Round} → After c cs (draws ls ns) k q → After c cs (draws ls ns) k q' → q ≡ q'
  drawn-rounds-agree = rounds-agree c cs well d join (draws ls ns)

  module _ {t : List ℕ} (file : FileAnswer (declared (c ∷ cs)) t (answered ls)) where
    -- as a round ends the timed step is ready: none of 21, 27 and 28, nor 29
    pub drawn-rounds-are-ready : {k : ℕ} {q : Round} → After c cs (draws ls ns) k q
        → Ready c cs q.state q.values × ((x : ℕ) → BelowZero (Waits c cs q.state) q.values x → ⊥)
    drawn-rounds-are-ready = rounds-are-ready c cs well d join (draws ls ns) (draws-fair file ns)

    pub drawn-firings-take-a-tick : {k x v a R : ℕ} {q : Round} {s : List ℕ} → After c cs (draws ls ns) k q
        → Fires c cs q.state q.values x v a R s → 1 ≤ v
    drawn-firings-take-a-tick = firings-take-a-tick c cs well d join (draws ls ns) (draws-fair file ns)
