-- Narrowing in the order of the table's rows, one pass after the other (01, "Conditions on a component", (f)).
use Rattle.std.specs.Prelude.{◌≡◌, Bool, true, false, List, ℕ, suc, ◌<◌, length, get_or}
use Rattle.laws.specs.Fold.{over, sum}
use Rattle.answer.specs.Limits.{max_states}
use Rattle.model.specs.Model.{Comp}
use Rattle.iosa.specs.Checks.{allowed, narrowed}
use Rattle.layout.specs.Layout.{block_word, first_of}
use Rattle.layout.specs.Image.{row_in}

-- each row that leaves s narrows the sets
unfoldable pub narrow_state : List ℕ → ℕ → ℕ → List ℕ → List ℕ
narrow_state t i s A = over (λ r B. narrowed B (row_in t s r)) (first_of t i s) (first_of t i (suc s)) A

-- each row of component i
unfoldable pub pass : List ℕ → ℕ → List ℕ → List ℕ
pass t i A = over (narrow_state t i) 0 (block_word t i 0) A

-- the sets that the start and stability allow
pub record FirstSets (c : Comp) (A : List ℕ) : Type 0 where
  pub places : length A ≡ max_states
  pub first : (s : ℕ) → s < c.states → get_or A s 0 ≡ allowed c s

-- from A to B: true, a set became smaller, and so did their sum; false, no set changed
abbrev pub Fell : Bool → List ℕ → List ℕ → Type 0
Fell true A B = sum B < sum A
Fell false A B = B ≡ A
