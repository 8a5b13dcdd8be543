-- The rounds of every simulation, with nothing in them that computes: they agree, no firing is refused but for a tie, and each takes a tick or more.
use mathlib.Core.Path.{◌≡◌, refl}
use mathlib.Core.Logic.{◌⊎◌, inl, inr}
use mathlib.Core.Option.{none}
use mathlib.Core.List.{List, ◌∷◌}
use Prim.Native.Nat.{ℕ, ◌≤◌}
use Rattle.answer.specs.Told.{Told, refused}
use Rattle.model.specs.Model.{Comp}
use Rattle.model.specs.WellFormed.{WellFormed}
use Rattle.iosa.specs.Automaton.{Joinable}
use Rattle.iosa.specs.Thesis.{AllDefinition41}
use Rattle.iosa.specs.Checks.{accept_of}
use Rattle.iosa.specs.TimedExactly.{Waits, BelowZero, Fires, Ready}
use Rattle.iosa.proofs.Acceptance.Accepted.{accepted-exactly}
use Rattle.iosa.proofs.Thesis.Proposition41.{accepted-is-definition-4-1}
use Rattle.walkable.specs.Orderly.{EitherTest}
use Rattle.simulation.specs.Simulate.{Supply, Round}
use Rattle.simulation.specs.Free.{After, Fair, Simulates, is30, is41, is42}
use Rattle.simulation.proofs.Agree.{rounds-agree-over}
use Rattle.simulation.proofs.Counts.{Reaches, reached-states-count}
use Rattle.simulation.proofs.Sound.{always-ready, none-below-zero, firing-takes-a-tick}

module _ (c : Comp) (cs : List Comp) (well : WellFormed (c ∷ cs)) (d : AllDefinition41 (c ∷ cs)) (join : Joinable (c ∷ cs)) (p : Supply) where
  acc : accept_of (c ∷ cs) ≡ none
  acc = (accepted-is-definition-4-1 (c ∷ cs) well).1 (d, join)

  -- "two simulations over the same lists, urgent steps freely chosen and neither refused, end each round with equal state and clock values"
  pub rounds-agree : EitherTest (c ∷ cs) → {k : ℕ} {q q' : Round} → After c cs p k q → After c cs p k q' → q ≡ q'
  rounds-agree either h h' =
      let k = (accepted-exactly (c ∷ cs) well).0 acc in
      let count = reached-states-count c cs well (record { conforms = k.0; joins = k.1; either = either }) in
      rounds-agree-over c cs well acc (Reaches c cs) count p h h'

  -- as a round ends the timed step is ready: none of 21, 27 and 28, nor 29
  pub rounds-are-ready : Fair p → {k : ℕ} {q : Round} → After c cs p k q
      → Ready c cs q.state q.values × ((x : ℕ) → BelowZero (Waits c cs q.state) q.values x → ⊥)
  rounds-are-ready fair h = (always-ready c cs well acc p fair h, none-below-zero c cs well acc p fair h)

  pub firings-take-a-tick : Fair p → {k x v a R : ℕ} {q : Round} {s : List ℕ} → After c cs p k q → Fires c cs q.state q.values x v a R s → 1 ≤ v
  firings-take-a-tick fair h f = firing-takes-a-tick c cs well acc p fair h f

-- "then round by round 30, 42 .., 41", and nothing else
pub refused_why : {c : Comp} {cs : List Comp} {p : Supply} {n : ℕ} {f : Told} → Simulates c cs p n (refused f)
    → (f.number ≡ 30) ⊎ ((f.number ≡ 42) ⊎ (f.number ≡ p.ran_out))
refused_why (is30 h l t) = inl refl
refused_why (is42 o l z) = inr (inl refl)
refused_why (is41 o l z t) = inr (inr refl)
