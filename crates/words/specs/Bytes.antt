-- A composed state from the bytes that a caller lends: "a composed state is one number per component" (paper 01, "Composition").
use Rattle.std.specs.Prelude.{List, ◌++◌, ℕ, length, take, drop, Result, Ok, Err}
use Rattle.answer.specs.Limits.{max_components, no_state}
use Rattle.answer.specs.State.{numbers_from}
use Rattle.answer.specs.declared.Outcome.{Outcome}
use Rattle.answer.specs.declared.Outcome.TheVariants.{Moved, Stable}
use Rattle.answer.specs.declared.Refusal.{Refusal}
use Rattle.answer.specs.declared.State.{State}
use Rattle.answer.specs.declared.Stepped.{Stepped}

-- as many numbers as there are bytes, so that a wrong length is told by 21; places past the last are 0
unfoldable pub state_of : List ℕ → State
state_of bs = record { count = length bs; parts = numbers_from bs 0 max_components }

-- the places of the state that a call leaves; beside a refusal the bytes are 0
abbrev pub places_in : {A : Type 0} → (A → State) → Result A Refusal → List ℕ
places_in f (Ok p) = (f p).parts
places_in f (Err q) = no_state.parts

-- a state's places laid over the bytes that a caller lent, as many as there are bytes; bytes past the places stay
unfoldable pub laid_over : List ℕ → List ℕ → List ℕ
laid_over ps old = take (length old) ps ++ drop (length ps) old

-- the same where a step moved, with its state; else every byte stays
abbrev pub bytes_over : Outcome → List ℕ → List ℕ → List ℕ
bytes_over (Moved a r) ps old = laid_over ps old
bytes_over Stable ps old = old

abbrev pub moved_over : Result Stepped Refusal → List ℕ → List ℕ
moved_over (Ok p) old = bytes_over p.outcome p.state.parts old
moved_over (Err q) old = old
