-- The timed step (01, "The timed step"; 27 to 30), on signed ticks.
use Rattle.std.proofs.Math.Option.{Option, none, some}
use Rattle.std.specs.Prelude.{Bool, true, false, ◌&&◌, ◌||◌, not, cond, List, [], ◌∷◌, ℕ, zero, suc, length, eqb, ℤ, pos, negsuc, ◌-ℤ◌}
use Rattle.std.specs.Int.Signed.{lt_z, le_z}
use Rattle.laws.specs.Sets.{has, ◌∪◌}
use Rattle.laws.specs.Search.{seek, when, or_else, least, any}
use Rattle.answer.specs.Limits.{max_clocks, max_ticks}
use Rattle.answer.specs.Told.{Told, tell, Answer, answered, refused, fired, quiet}
use Rattle.model.specs.Model.{Row, Comp, Model, row_at, declared}
use Rattle.iosa.specs.Checks.{enabling_of, accept_of}
use Rattle.iosa.specs.Step.{gone_by, move, together, is_stable, state_fault}
use Rattle.iosa.specs.Stepped.{Gone}
use Rattle.iosa.specs.TimedExactly.{floor, value_of, Timing}

-- the enabling clocks of a composed state: those of all components' states
unfoldable pub enabling_all : Model → List ℕ → ℕ
enabling_all [] ss = 0
enabling_all (c ∷ cs) [] = 0
enabling_all (c ∷ cs) (s ∷ ss) = enabling_of c s ∪ enabling_all cs ss

-- 27 "timed: state not stable", place 0
unfoldable pub unstable_fault : Model → List ℕ → Option Told
unstable_fault m s = when (not (is_stable m s)) (tell 27 (0 ∷ []))

-- 28 "timed: not 64 values, or a declared one outside -2^40 to 2^40", place 0
unfoldable pub out_of_ticks : Model → List ℤ → ℕ → Bool
out_of_ticks m vs x = has (declared m) x && not (le_z floor (value_of vs x) && le_z (value_of vs x) (pos max_ticks))

unfoldable pub values_fault : Model → List ℤ → Option Told
values_fault m vs = when (not (eqb (length vs) max_clocks) || any (out_of_ticks m vs) max_clocks) (tell 28 (0 ∷ []))

-- 29 "timed: an enabling clock below zero": "lowest such clock"; e is the set of enabling clocks
unfoldable pub below_zero : ℕ → List ℤ → ℕ → Bool
below_zero e vs x = has e x && lt_z (value_of vs x) (pos 0)

unfoldable pub check29 : ℕ → List ℤ → Option ℕ
check29 e vs = least (below_zero e vs) max_clocks

-- "the enabling clock with the least value": no enabling clock has a smaller one
unfoldable pub is_least : ℕ → List ℤ → ℕ → Bool
is_least e vs x = has e x && not (any (λ y. has e y && lt_z (value_of vs y) (value_of vs x)) max_clocks)

-- 30 "timed: two enabling clocks share the least value": "lowest such clock"
unfoldable pub shares : ℕ → List ℤ → ℕ → Bool
shares e vs x = is_least e vs x && any (λ y. not (eqb y x) && is_least e vs y) max_clocks

unfoldable pub check30 : ℕ → List ℤ → Option ℕ
check30 e vs = least (shares e vs) max_clocks

-- ---- the step
-- "The row of that clock": the row with guard x that leaves s
unfoldable pub clock_row : Comp → ℕ → ℕ → Option Row
clock_row c s x = seek (λ k. when (eqb (row_at c k).from s && eqb (row_at c k).guard (suc x)) (row_at c k)) 0 (length c.rows)

unfoldable pub clock_row_of : Model → List ℕ → ℕ → Option Row
clock_row_of [] ss x = none
clock_row_of (c ∷ cs) [] x = none
clock_row_of (c ∷ cs) (s ∷ ss) x = or_else (clock_row c s x) (clock_row_of cs ss x)

-- one component: the one with the clock by that row, the others by the row's action
unfoldable pub fire_one : Comp → ℕ → ℕ → ℕ → Option (Gone ℕ)
fire_one c s x a = elim (has c.clocks x) [ true ↦ gone_by (clock_row c s x) | false ↦ move c s a ]

unfoldable pub fire_all : Model → List ℕ → ℕ → ℕ → Option (Gone (List ℕ))
fire_all [] [] x a = some (record { resets = 0; after = [] })
fire_all [] (s ∷ ss) x a = none
fire_all (c ∷ cs) [] x a = none
fire_all (c ∷ cs) (s ∷ ss) x a = together (fire_one c s x a) (fire_all cs ss x a)

-- a value less v, and no less than the floor: "runs on below zero and stops at -2^40"
unfoldable pub fallen : ℤ → ℤ → ℤ
fallen v z = cond (lt_z (z -ℤ v) floor) floor (z -ℤ v)

-- "every declared clock falls by v, .. undeclared places stay": from clock k on
unfoldable pub aged_from : ℕ → ℤ → ℕ → List ℤ → List ℤ
aged_from d v k [] = []
aged_from d v k (z ∷ zs) = cond (has d k) (fallen v z) z ∷ aged_from d v (suc k) zs

abbrev pub ticks_of : ℤ → ℕ
ticks_of (pos n) = n
ticks_of (negsuc n) = 0

-- ---- what the answer and the lent values are then
-- "With no enabling clock the answer is quiet and nothing changes"
abbrev pub quietly : List ℕ → List ℤ → Timing
quietly s vs = record { shot = quiet; state = s; values = vs }

abbrev pub fired_by : Model → List ℤ → ℕ → ℕ → Gone (List ℕ) → Timing
fired_by m vs x a g = record { shot = fired (ticks_of (value_of vs x)) a g.resets; state = g.after; values = aged_from (declared m) (value_of vs x) 0 vs }

-- clock x fires. An accepted model has its row, and the others theirs, so the last cases do not arise
unfoldable pub fire : Model → List ℕ → List ℤ → ℕ → Timing
fire m s vs x = elim (clock_row_of m s x) [
  | none ↦ quietly s vs
  | some r ↦ elim (fire_all m s x r.action) [ none ↦ quietly s vs | some g ↦ fired_by m vs x r.action g ]
]

-- quiet, or 29, 30, or the least clock fires; e is the set of enabling clocks
unfoldable pub timed_from : Model → List ℕ → List ℤ → ℕ → Answer Timing
timed_from m s vs e = elim (check29 e vs) [
  | some x ↦ refused (tell 29 (x ∷ []))
  | none ↦ elim (check30 e vs) [
    | some x ↦ refused (tell 30 (x ∷ []))
    | none ↦ elim (least (is_least e vs) max_clocks) [ none ↦ answered (quietly s vs) | some x ↦ answered (fire m s vs x) ]
  ]
]

unfoldable pub timed_of : Model → List ℕ → List ℤ → Answer Timing
timed_of m s vs =
    let b = state_fault m s in
    let d = unstable_fault m s in
    let e = values_fault m vs in
    let x = timed_from m s vs (enabling_all m s) in
    elim (or_else (accept_of m) (or_else b (or_else d e))) [ some t ↦ refused t | none ↦ x ]
