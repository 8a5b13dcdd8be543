-- 10 to 14 of one component, part by part, and what an answer says of a fault (01, "Refusal numbers").
use Rattle.std.specs.Prelude.{◌≡◌, Bool, ◌&&◌, ◌||◌, not, List, [], ◌∷◌, ℕ, suc, ◌+◌, ◌-◌, ◌<◌, eqb}
use Rattle.std.proofs.Math.Option.{Option, some}
use Rattle.laws.specs.Sets.{has, ◌∪◌, only}
use Rattle.laws.specs.Search.{seek, when, map_some}
use Rattle.laws.specs.Fold.{over}
use Rattle.answer.specs.Limits.{max_actions}
use Rattle.answer.specs.Told.{Told, tell, says_checked}
use Rattle.answer.specs.Told.{Checked}
use Rattle.model.specs.Model.{Comp}
use Rattle.iosa.specs.Checks.{check10, check11, check12, check13, check14, repeats, lacks_row, twice}
use Rattle.iosa.specs.Step.{unless}
use Rattle.layout.specs.Layout.{first_of, action_at}
use Rattle.layout.specs.Image.{comp_of}

-- the answer is this fault, or fine where there is none
abbrev pub Says : Checked → Option Told → Type 0
Says r o = says_checked r ≡ some (unless o tt)

-- ---- the parts of `fault_at`: component i, whose first row is row n of the system
unfoldable pub fault10 : ℕ → Comp → Option Told
fault10 n c = map_some (λ k. tell 10 ((n + k) ∷ [])) (check10 c)

unfoldable pub fault11 : ℕ → Comp → Option Told
fault11 n c = map_some (λ k. tell 11 ((n + k) ∷ [])) (check11 c)

unfoldable pub fault12 : ℕ → Comp → Option Told
fault12 i c = map_some (λ p. tell 12 (i ∷ p)) (check12 c)

unfoldable pub fault13 : ℕ → Comp → Option Told
fault13 i c = map_some (λ p. tell 13 (i ∷ p)) (check13 c)

unfoldable pub fault14 : ℕ → Comp → Option Told
fault14 i c = when (check14 c) (tell 14 (i ∷ []))

-- a guard against (a) or (b): calm are the actions that have no clock
unfoldable pub bad_guard_by : ℕ → ℕ → ℕ → ℕ → Bool
bad_guard_by calm outs a g = (has calm a && not (eqb g 0)) || (has outs a && eqb g 0)

-- ---- 11, 12 and 13 in state s of component i of a table
unfoldable pub repeat_fault : List ℕ → ℕ → ℕ → Option Told
repeat_fault t i s = seek (λ r. when (repeats (comp_of t i) (r - first_of t i 0)) (tell 11 (r ∷ []))) (first_of t i s) (first_of t i (suc s))

unfoldable pub lack_fault : List ℕ → ℕ → ℕ → Option Told
lack_fault t i s = seek (λ a. when (lacks_row (comp_of t i) s a) (tell 12 (i ∷ s ∷ a ∷ []))) 0 max_actions

unfoldable pub twice_fault : List ℕ → ℕ → ℕ → Option Told
twice_fault t i s = seek (λ a. when (twice (comp_of t i) s a) (tell 13 (i ∷ s ∷ a ∷ []))) 0 max_actions

-- the actions that leave s, as a set
unfoldable pub actions_in : List ℕ → ℕ → ℕ → ℕ
actions_in t i s = over (λ r x. x ∪ only (action_at t r)) (first_of t i s) (first_of t i (suc s)) 0

-- row k has the action of the row before it, one of calm
unfoldable pub again_at : List ℕ → ℕ → ℕ → Bool
again_at t calm k = eqb (action_at t k) (action_at t (k - 1)) && has calm (action_at t k)

abbrev pub LowAction : List ℕ → ℕ → Type 0
LowAction t k = action_at t k < max_actions
