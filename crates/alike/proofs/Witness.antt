-- That merging does not matter is not empty: the paper's M, and three components that share actions, merged both ways; every hypothesis is computed.
use mathlib.Core.Path.{◌≡◌, refl}
use mathlib.Core.Bool.{true}
use mathlib.Core.Option.{none}
use mathlib.Core.List.{List, [], ◌∷◌}
use Prim.Native.Nat.{ℕ}
use lib.ListN.{length}
use Rattle.laws.specs.Fold.{all}
use Rattle.laws.specs.Tests.{all_of}
use Rattle.answer.specs.Told.{tell, answered, refused}
use Rattle.model.specs.Model.{Model}
use Rattle.model.specs.WellFormed.{WellFormed}
use Rattle.iosa.specs.Checks.{confluent_of}
use Rattle.iosa.specs.Settle.{settle_of, settle_list_of}
use Rattle.iosa.specs.Orders.{Settling}
use Rattle.merged.specs.Merge.{merged, merge_of}
use Rattle.answering.specs.Examples.{reply}
use Rattle.iosa.proofs.Settling.WellFormedTest.{well_formed, well_comp, well_row, well-formed}
use Rattle.answering.proofs.Witness.Settling.{M₀, M₁, T₀, T₁, T₂}
use Rattle.alike.specs.Alike.{MergedInto}
use Rattle.alike.proofs.Models.{answered-into}

-- the end of a run: stable, n steps, resets R, trace l, state s
abbrev ended : ℕ → ℕ → List ℕ → List ℕ → Settling (List ℕ)
ended n R l s = record { stable = true; steps = n; resets = R; trace = l; state = s }

-- ---- M, and M merged at 0
pub M-is-merged : (merge_of (M₀ ∷ M₁ ∷ []) 0 none ≡ answered (merged M₀ M₁ ∷ [])) × (confluent_of (merged M₀ M₁ ∷ []) ≡ none)
unfolding reply M₀ M₁
M-is-merged = (refl, refl)

-- from 1,0, which is state 3; by a list that is a series, and by one that is not
pub M-settles-alike : (settle_of (M₀ ∷ M₁ ∷ []) (1 ∷ 0 ∷ []) 100 100 ≡ answered (ended 2 1 (1 ∷ 2 ∷ []) (0 ∷ 2 ∷ [])))
    × (settle_of (merged M₀ M₁ ∷ []) (3 ∷ []) 100 100 ≡ answered (ended 2 1 (1 ∷ 2 ∷ []) (2 ∷ [])))
    × (settle_list_of (M₀ ∷ M₁ ∷ []) (1 ∷ 0 ∷ []) (1 ∷ 2 ∷ []) ≡ answered (ended 2 1 [] (0 ∷ 2 ∷ [])))
    × (settle_list_of (merged M₀ M₁ ∷ []) (3 ∷ []) (1 ∷ 2 ∷ []) ≡ answered (ended 2 1 [] (2 ∷ [])))
    × (settle_list_of (M₀ ∷ M₁ ∷ []) (1 ∷ 0 ∷ []) (1 ∷ 1 ∷ []) ≡ refused (tell 23 (1 ∷ [])))
    × (settle_list_of (merged M₀ M₁ ∷ []) (3 ∷ []) (1 ∷ 1 ∷ []) ≡ refused (tell 23 (1 ∷ [])))
unfolding reply M₀ M₁
M-settles-alike = (refl, refl, refl, refl, refl, refl)

-- M settles from 1,1, and merged it does not accept the pair: nothing is said there
pub M-accepts-more : (settle_of (M₀ ∷ M₁ ∷ []) (1 ∷ 1 ∷ []) 100 100 ≡ answered (ended 2 1 (1 ∷ 2 ∷ []) (0 ∷ 2 ∷ [])))
    × (settle_of (merged M₀ M₁ ∷ []) (4 ∷ []) 100 100 ≡ refused (tell 19 (0 ∷ [])))
unfolding reply M₀ M₁
M-accepts-more = (refl, refl)

-- ---- three components that share actions
abbrev T : Model
T = T₀ ∷ T₁ ∷ T₂ ∷ []

abbrev first_two : Model
first_two = merged T₀ T₁ ∷ T₂ ∷ []

abbrev last_two : Model
last_two = T₀ ∷ merged T₁ T₂ ∷ []

-- none of the four calls is refused, and both ways end in one model, of 48 rows
pub T-is-merged : (merge_of T 0 none ≡ answered first_two) × (merge_of first_two 0 none ≡ answered (merged (merged T₀ T₁) T₂ ∷ []))
    × (merge_of T 1 none ≡ answered last_two) × (merge_of last_two 0 none ≡ answered (merged T₀ (merged T₁ T₂) ∷ []))
unfolding reply T₀ T₁ T₂
T-is-merged = (refl, refl, refl, refl)

pub T-either-way : (merged (merged T₀ T₁) T₂ ≡ merged T₀ (merged T₁ T₂)) × (length (merged T₀ (merged T₁ T₂)).rows ≡ 48)
unfolding reply T₀ T₁ T₂
T-either-way = (refl, refl)

-- from 0,1,2, which is 1,2 where the first two are merged, and 0,7 where the last two are: two steps in each
pub T-settles-alike : (settle_of T (0 ∷ 1 ∷ 2 ∷ []) 9 9 ≡ answered (ended 2 5 (0 ∷ 2 ∷ []) (1 ∷ 1 ∷ 4 ∷ [])))
    × (settle_of first_two (1 ∷ 2 ∷ []) 9 9 ≡ answered (ended 2 5 (0 ∷ 2 ∷ []) (3 ∷ 4 ∷ [])))
    × (settle_of last_two (0 ∷ 7 ∷ []) 9 9 ≡ answered (ended 2 5 (0 ∷ 2 ∷ []) (1 ∷ 9 ∷ [])))
unfolding reply T₀ T₁ T₂
T-settles-alike = (refl, refl, refl)

-- what the theorems ask for is there
T-well : WellFormed T
unfolding reply T₀ T₁ T₂ well_formed well_comp well_row all all_of
T-well = well-formed T refl

pub T-is-merged-into : MergedInto T 0 first_two × MergedInto T 1 last_two
T-is-merged-into = (answered-into T 0 none first_two T-well T-is-merged.0, answered-into T 1 none last_two T-well T-is-merged.2)
