-- A composed state as a list: "a composed state is one number per component" (paper 01, "Composition").
use Rattle.std.specs.Prelude.{List, [], ◌∷◌, ◌++◌, ℕ, zero, suc, get_or, drop}
use Rattle.answer.specs.declared.State.{State}

-- n numbers of the list from place k on; places past its end are 0
unfoldable pub numbers_from : List ℕ → ℕ → ℕ → List ℕ
numbers_from ps k zero = []
numbers_from ps k (suc n) = get_or ps k 0 ∷ numbers_from ps (suc k) n

-- the numbers of a state: as many as its count says, so that a wrong count is a wrong length (21)
unfoldable pub parts_of : State → List ℕ
parts_of x = numbers_from x.parts 0 x.count

-- the state with other numbers; "Places at and past `count` are no part of it": they stay
unfoldable pub with_parts : State → List ℕ → State
with_parts x ps = record { count = x.count; parts = ps ++ drop x.count x.parts }
