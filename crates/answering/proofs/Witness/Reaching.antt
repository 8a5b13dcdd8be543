-- Reached states speak of something: a clash in a state that is not reached harms no run from reached parts, and it harms one from that state.
use mathlib.Core.Path.{◌≡◌, refl}
use mathlib.Core.Bool.{true, false}
use mathlib.Core.Option.{none, some}
use mathlib.Core.List.{List, [], ◌∷◌}
use Prim.Native.Nat.{ℕ}
use Rattle.laws.specs.Fold.{all}
use Rattle.laws.specs.Tests.{all_of}
use Rattle.answer.specs.Told.{tell, answered, refused, stable}
use Rattle.model.specs.Model.{Row, Comp}
use Rattle.model.specs.WellFormed.{WellFormed}
use Rattle.iosa.specs.Checks.{reach_of, confluent_of}
use Rattle.iosa.specs.Step.{step_of}
use Rattle.iosa.specs.Settle.{reach_fault, play, settle_of, settle_list_of}
use Rattle.iosa.specs.Orders.{Settling}
use Rattle.merged.specs.Merge.{merged}
use Rattle.iosa.specs.Demand3.{Demand3}
use Rattle.answering.specs.Examples.{reply}
use Rattle.iosa.proofs.Settling.Range.{range-exactly}
use Rattle.iosa.proofs.Settling.WellFormedTest.{well_formed, well_comp, well_row, well-formed}
use Rattle.answering.proofs.Witness.Settling.{M₀, M₁, T₀, T₁}
use Rattle.iosa.proofs.Settling.ProductOfMany.{wells}
use Rattle.iosa.proofs.Settling.Demand3.{demand-3}
use Rattle.iosa.proofs.Reaching.Refused19.{reach-faultless}

-- a row without a guard and without resets: from, action, target
abbrev row : ℕ → ℕ → ℕ → Row
row f a t = record { from = f; guard = 0; action = a; resets = 0; target = t }

-- the end of a run: stable, n steps, resets r, state s
abbrev ended : ℕ → ℕ → List ℕ → Settling (List ℕ)
ended n r s = record { stable = true; steps = n; resets = r; trace = []; state = s }

-- ---- the input 1 may not leave state 0, which is not stable: state 2 is not reached
unfoldable pub hasty : Comp
hasty =
    record {
      states = 3;
      start = 0;
      ins = 2;
      outs = 0;
      uins = 0;
      uouts = 1;
      clocks = 0;
      started = 0;
      rows = row 0 0 1 ∷ row 0 1 2 ∷ row 1 1 1 ∷ row 2 1 2 ∷ [];
    }

pub hasty-reaches-two : (reach_of hasty 0 ≡ true) × (reach_of hasty 1 ≡ true) × (reach_of hasty 2 ≡ false)
unfolding reply hasty
hasty-reaches-two = (refl, refl, refl)

-- from 1 and from 2, with a budget that is too large, from 3; and a step asks for no reached part
pub hasty-answers : (settle_of (hasty ∷ []) (1 ∷ []) 9 9 ≡ answered (ended 0 0 (1 ∷ []))) × (settle_of (hasty ∷ []) (2 ∷ []) 9 9 ≡ refused (tell 19 (0 ∷ [])))
    × (settle_of (hasty ∷ []) (2 ∷ []) 9999 0 ≡ refused (tell 19 (0 ∷ []))) × (settle_of (hasty ∷ []) (3 ∷ []) 9 9 ≡ refused (tell 21 (0 ∷ [])))
    × (settle_list_of (hasty ∷ []) (2 ∷ []) [] ≡ refused (tell 19 (0 ∷ [])))
    × (step_of (hasty ∷ []) (2 ∷ []) ≡ answered (record { step = stable; state = 2 ∷ [] }))
unfolding reply hasty step_of
hasty-answers = (refl, refl, refl, refl, refl, refl)

-- ---- two urgent inputs that clash in state 3 alone, which is not reached, or is the start
abbrev hears : ℕ → Comp
hears start =
    record {
      states = 4;
      start = start;
      ins = 0;
      outs = 0;
      uins = 3;
      uouts = 0;
      clocks = 0;
      started = 0;
      rows = row 0 0 0 ∷ row 0 1 0 ∷ row 1 0 1 ∷ row 1 1 1 ∷ row 2 0 2 ∷ row 2 1 2 ∷ row 3 0 1 ∷ row 3 1 2 ∷ [];
    }

unfoldable pub wary : Comp
wary = hears 0

pub clash-where-not-reached : (confluent_of (wary ∷ []) ≡ none) × (confluent_of (hears 3 ∷ []) ≡ some (tell 18 (0 ∷ 3 ∷ 0 ∷ 1 ∷ [])))
unfolding reply wary
clash-where-not-reached = (refl, refl)

-- ---- with two that output 0 and 1: demand 3 from reached parts, though the third clashes in a state
system-well : WellFormed (T₀ ∷ T₁ ∷ wary ∷ [])
unfolding reply T₀ T₁ wary well_formed well_comp well_row all all_of
system-well = well-formed (T₀ ∷ T₁ ∷ wary ∷ []) refl

system-confluent : confluent_of (T₀ ∷ T₁ ∷ wary ∷ []) ≡ none
unfolding reply T₀ T₁ wary
system-confluent = refl

pub demand-3-beside-a-clash : Demand3 T₀ (T₁ ∷ wary ∷ []) (0 ∷ 0 ∷ 0 ∷ [])
unfolding reply T₀ T₁ wary
demand-3-beside-a-clash = demand-3 T₀ (T₁ ∷ wary ∷ []) system-well system-confluent (0 ∷ 0 ∷ 0 ∷ [])
    ((reach-faultless (T₀ ∷ T₁ ∷ wary ∷ []) (0 ∷ 0 ∷ 0 ∷ []) (wells (T₀ ∷ T₁ ∷ wary ∷ []) system-well)
    ((range-exactly (T₀ ∷ T₁ ∷ wary ∷ []) (0 ∷ 0 ∷ 0 ∷ [])).0 refl)).0 refl)

-- from the state that is not reached the orders differ: 19 is needed
pub orders-differ-where-not-reached : (reach_fault (T₀ ∷ T₁ ∷ wary ∷ []) (0 ∷ 0 ∷ 3 ∷ []) ≡ some (tell 19 (2 ∷ [])))
    × (play (T₀ ∷ T₁ ∷ wary ∷ []) 0 (0 ∷ 1 ∷ []) (0 ∷ 0 ∷ 3 ∷ []) ≡ answered (ended 2 3 (1 ∷ 1 ∷ 1 ∷ [])))
    × (play (T₀ ∷ T₁ ∷ wary ∷ []) 0 (1 ∷ 0 ∷ []) (0 ∷ 0 ∷ 3 ∷ []) ≡ answered (ended 2 3 (1 ∷ 1 ∷ 2 ∷ [])))
unfolding reply T₀ T₁ wary
orders-differ-where-not-reached = (refl, refl, refl)

-- ---- M merged at 0: both reach state 1, and the pair (1, 1), state 4, is not reached, since the clock may not fire in the unstable pair (0, 1)
pub merged-reaches-fewer : (reach_of M₀ 1 ≡ true) × (reach_of M₁ 1 ≡ true) × (reach_of (merged M₀ M₁) 4 ≡ false)
unfolding reply M₀ M₁
merged-reaches-fewer = (refl, refl, refl)
