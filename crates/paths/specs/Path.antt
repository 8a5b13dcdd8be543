-- "a listed path of such steps, 0 to 4,096, each an action and its guard" (02, 8/13): two bytes for a step, the action and the guard as in a row of the
-- table, 0 for `-` and x + 1 for clock x.
use Rattle.std.proofs.Math.Option.{Option, none, some}
use Rattle.std.specs.Prelude.{Bool, true, false, List, [], ◌∷◌, ℕ, zero, suc, ◌*◌, length, eqb, ltb}
use Rattle.laws.specs.Sets.{◌∈◌, only}
use Rattle.laws.specs.Search.{when, map_some}
use Rattle.answer.specs.Limits.{max_budget}
use Rattle.answer.specs.Told.{Told, tell, Answer, answered, refused}
use Rattle.model.specs.Model.{Row, Model}
use Rattle.iosa.specs.Automaton.{Automaton, UrgentRow, Stable}
use Rattle.iosa.specs.Stepped.{Gone}
use Rattle.iosa.specs.Step.{urgent_step, is_stable}
use Rattle.timing.specs.Timed.{clock_row_of, fire_all}

-- ---- "steps of which each non-urgent one leaves a stable state"
-- one step: an urgent output with guard `-`, or a non-urgent output with its clock, from a stable state
pub data Steps (A : Automaton) (a : ℕ) : A.State → ℕ → A.State → Type 0 where
  urgently : {x y : A.State} {C R : ℕ} → UrgentRow A x C a R y → Steps A a x 0 y
  calmly : {x y : A.State} {k R : ℕ} → a ∈ A.outputs → (a ∈ A.urgent → ⊥) → Stable A x → A.Row x (only k) a R y → Steps A a x (suc k) y

-- the bytes of a path that is possible from x, and where it ends
pub data Path (A : Automaton) : A.State → List ℕ → A.State → Type 0 where
  over : {x : A.State} → Path A x [] x
  next : {x y z : A.State} {a g : ℕ} {l : List ℕ} → Steps A a x g y → Path A y l z → Path A x (a ∷ g ∷ l) z

-- the bytes of a path that is not possible from x, and the index of its first step that is not; a last byte alone begins a step that has no guard
pub data StopsAt (A : Automaton) : A.State → List ℕ → ℕ → Type 0 where
  no-guard : {x : A.State} {a : ℕ} → StopsAt A x (a ∷ []) 0
  not-possible : {x : A.State} {a g : ℕ} {l : List ℕ} → ((y : A.State) → Steps A a x g y → ⊥) → StopsAt A x (a ∷ g ∷ l) 0
  later : {x y : A.State} {a g i : ℕ} {l : List ℕ} → Steps A a x g y → StopsAt A y l i → StopsAt A x (a ∷ g ∷ l) (suc i)

-- ---- the same as values that compute
abbrev pub after_of : Option (Gone (List ℕ)) → Option (List ℕ)
after_of o = map_some (λ g. g.after) o

abbrev pub only_if : Bool → Option (List ℕ) → Option (List ℕ)
only_if true o = o
only_if false o = none

abbrev pub by_row : (Row → Option (List ℕ)) → Option Row → Option (List ℕ)
by_row f none = none
by_row f (some r) = f r

-- by clock x, in a stable state, if the row that it guards has the action
unfoldable pub calm_step : Model → List ℕ → ℕ → ℕ → Option (List ℕ)
calm_step m s a x = only_if (is_stable m s) (by_row (λ r. only_if (eqb r.action a) (after_of (fire_all m s x a))) (clock_row_of m s x))

unfoldable pub path_step : Model → List ℕ → ℕ → ℕ → Option (List ℕ)
path_step m s a zero = after_of (urgent_step m s a)
path_step m s a (suc x) = calm_step m s a x

abbrev pub walk_on : (List ℕ → Answer (List ℕ)) → ℕ → Option (List ℕ) → Answer (List ℕ)
walk_on f i none = refused (tell 46 (i ∷ []))
walk_on f i (some t) = f t

-- 46 "path not possible, with its index": the bytes from step i on; a last byte alone begins a step that has no guard
unfoldable pub walk : Model → ℕ → List ℕ → List ℕ → Answer (List ℕ)
walk m i [] s = answered s
walk m i (a ∷ []) s = refused (tell 46 (i ∷ []))
walk m i (a ∷ g ∷ l) s = walk_on (walk m (suc i) l) i (path_step m s a g)

-- 22 for more than 4,096 steps
unfoldable pub long_path : List ℕ → Option Told
long_path l = when (ltb (2 * max_budget) (length l)) (tell 22 (0 ∷ []))
