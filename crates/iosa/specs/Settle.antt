-- Settling, by our rule or by a list (01, "Confluence and settling").
use Rattle.std.proofs.Math.Option.{Option, none, some}
use Rattle.std.specs.Prelude.{Bool, true, false, not, List, [], ◌∷◌, ℕ, zero, suc, ◌+◌, length, ltb}
use Rattle.laws.specs.Sets.{◌∪◌}
use Rattle.laws.specs.Search.{when, or_else, map_some}
use Rattle.answer.specs.Limits.{max_budget}
use Rattle.answer.specs.Told.{Told, tell, Answer, answered, refused}
use Rattle.model.specs.Model.{Model}
use Rattle.iosa.specs.Checks.{reach_of, confluent_of}
use Rattle.iosa.specs.Step.{Went, lowest, urgent_step, is_stable, state_fault, unless}
use Rattle.iosa.specs.Stepped.{Gone}
use Rattle.iosa.specs.Orders.{Settling}

-- no step taken, and whether the state is stable
abbrev pub resting : {S : Type 0} → Bool → S → Settling S
resting b s = record { stable = b; steps = 0; resets = 0; trace = []; state = s }

-- one step, before what is known of the others
abbrev pub after : {S : Type 0} → Went S → Settling S → Settling S
after w d = record { stable = d.stable; steps = suc d.steps; resets = w.gone.resets ∪ d.resets; trace = w.action ∷ d.trace; state = d.state }

-- "Settling takes the lowest-numbered one, at most the budget .. times"
unfoldable pub settle : {S : Type 0} → (S → ℕ → Option (Gone S)) → ℕ → S → Settling S
settle step zero s = elim (lowest step s) [ none ↦ resting true s | some w ↦ resting false s ]
settle step (suc n) s = elim (lowest step s) [ none ↦ resting true s | some w ↦ after w (settle step n w.gone.after) ]

-- 19 "component, a part not reachable": the lowest
unfoldable pub unreached_from : ℕ → Model → List ℕ → Option ℕ
unreached_from i [] ss = none
unreached_from i (c ∷ cs) [] = none
unreached_from i (c ∷ cs) (s ∷ ss) = elim (reach_of c s) [ true ↦ unreached_from (suc i) cs ss | false ↦ some i ]

unfoldable pub reach_fault : Model → List ℕ → Option Told
reach_fault m s = map_some (λ i. tell 19 (i ∷ [])) (unreached_from 0 m s)

-- "it stands directly after 21": may settling begin in s?
unfoldable pub begin_fault : Model → List ℕ → Option Told
begin_fault m s = let b = reach_fault m s in or_else (state_fault m s) b

-- 22 "budget or list over 4,096", place 0
unfoldable pub budget_fault : ℕ → Option Told
budget_fault n = when (ltb max_budget n) (tell 22 (0 ∷ []))

-- 24 "trace shorter than the budget": "bytes needed"
unfoldable pub trace_fault : ℕ → ℕ → Option Told
trace_fault budget room = when (ltb room budget) (tell 24 (budget ∷ []))

-- settling with a trace of `room` bytes: as the confluence check, "then the call's own"
unfoldable pub settle_of : Model → List ℕ → ℕ → ℕ → Answer (Settling (List ℕ))
settle_of m s budget room =
    let b = begin_fault m s in
    let d = budget_fault budget in
    let e = trace_fault budget room in
    let x = settle (urgent_step m) budget s in
    elim (or_else (confluent_of m) (or_else b (or_else d e))) [ some t ↦ refused t | none ↦ answered x ]

-- ---- "Settling by list takes the listed actions (0 to 4,096) in order and answers likewise, but writes no trace; stable tells only of the last state"
abbrev pub after_listed : {S : Type 0} → Gone S → Answer (Settling S) → Answer (Settling S)
after_listed g (refused t) = refused t
after_listed g (answered d) = answered (record { stable = d.stable; steps = suc d.steps; resets = g.resets ∪ d.resets; trace = []; state = d.state })

-- the list from index i on; 23 "listed action not an enabled urgent output", place its index
unfoldable pub play : Model → ℕ → List ℕ → List ℕ → Answer (Settling (List ℕ))
play m i [] s = answered (resting (is_stable m s) s)
play m i (a ∷ l) s = elim (urgent_step m s a) [ none ↦ refused (tell 23 (i ∷ [])) | some g ↦ after_listed g (play m (suc i) l g.after) ]

unfoldable pub settle_list_of : Model → List ℕ → List ℕ → Answer (Settling (List ℕ))
settle_list_of m s l =
    let b = begin_fault m s in
    let d = budget_fault (length l) in
    let x = play m 0 l s in
    elim (or_else (confluent_of m) (or_else b d)) [ some t ↦ refused t | none ↦ x ]
