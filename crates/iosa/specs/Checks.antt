-- The checks on a component and on a system as searches for the least place (01, "Refusal numbers", 10 to 18).
use Rattle.std.proofs.Math.Option.{Option, none, some}
use Rattle.std.specs.Prelude.{Bool, true, false, ◌&&◌, ◌||◌, not, cond, List, [], ◌∷◌, ℕ, zero, suc, ◌+◌, ◌<◌, length, get_or, set, take, eqb, ltb}
use Rattle.laws.specs.Sets.{has, ◌∪◌, ◌∩◌, ◌∖◌, within}
use Rattle.laws.specs.Search.{seek, when, is_some, or_else, map_some, least, any, least2}
use Rattle.laws.specs.Fold.{tab, sum}
use Rattle.answer.specs.Limits.{max_actions, max_clocks}
use Rattle.answer.specs.Told.{Told, tell}
use Rattle.model.specs.Model.{Row, Comp, Model, row_at, comp_at, inputs, outputs, urgents, acts, guard_set, row_count}

-- row r leaves s by action a
abbrev pub leaves : Row → ℕ → ℕ → Bool
leaves r s a = eqb r.from s && eqb r.action a

-- the first row by which action a leaves state s
unfoldable pub row_for : Comp → ℕ → ℕ → Option Row
row_for c s a = seek (λ k. when (leaves (row_at c k) s a) (row_at c k)) 0 (length c.rows)

-- the actions `in`, `uin` and `uout`, whose rows have no clock
abbrev pub unclocked : Comp → ℕ
unclocked c = inputs c ∪ urgents c

-- ---- 10 "(a) or (b) broken": the row
unfoldable pub bad_guard : Comp → ℕ → Bool
bad_guard c k = (has (unclocked c) (row_at c k).action && not (eqb (row_at c k).guard 0)) || (has c.outs (row_at c k).action && eqb (row_at c k).guard 0)

unfoldable pub check10 : Comp → Option ℕ
check10 c = least (bad_guard c) (length c.rows)

-- ---- 11 "(c) broken": "first row that repeats a clock"
abbrev pub same_clock : Row → Row → Bool
same_clock r q = not (eqb r.guard 0) && (eqb r.guard q.guard && eqb r.from q.from)

unfoldable pub repeats : Comp → ℕ → Bool
repeats c k = any (λ j. same_clock (row_at c j) (row_at c k)) k

unfoldable pub check11 : Comp → Option ℕ
check11 c = least (repeats c) (length c.rows)

-- ---- 12 "(d) broken": the lowest state, then the lowest input, without a row
unfoldable pub lacks_row : Comp → ℕ → ℕ → Bool
lacks_row c s a = has (inputs c) a && not (is_some (row_for c s a))

abbrev pub cell_of : ℕ → ℕ → List ℕ
cell_of s a = s ∷ a ∷ []

unfoldable pub check12 : Comp → Option (List ℕ)
check12 c = least2 (lacks_row c) cell_of c.states max_actions

-- ---- 13 "(e) or the house rule broken": the lowest state, then the lowest action, with two rows
unfoldable pub twice : Comp → ℕ → ℕ → Bool
twice c s a = has (unclocked c) a && any (λ k. leaves (row_at c k) s a && any (λ j. leaves (row_at c j) s a) k) (length c.rows)

unfoldable pub check13 : Comp → Option (List ℕ)
check13 c = least2 (twice c) cell_of c.states max_actions

-- ---- 14 "(f) broken". The greatest sets that the rows allow: if any sets will do, these will
-- "enabling(s) is the set of clocks that guard rows leaving s"
abbrev pub enabling_in : List Row → ℕ → ℕ
enabling_in [] s = 0
enabling_in (r ∷ rs) s = cond (eqb r.from s) (guard_set r.guard) 0 ∪ enabling_in rs s

unfoldable pub enabling_of : Comp → ℕ → ℕ
enabling_of c s = enabling_in c.rows s

-- "A state is stable if no row with a `uout` action leaves it"
unfoldable pub unstable : Comp → ℕ → Bool
unstable c s = any (λ k. eqb (row_at c k).from s && has c.uouts (row_at c k).action) (length c.rows)

-- what the start and stability allow at s
unfoldable pub allowed : Comp → ℕ → ℕ
allowed c s = c.clocks ∩ (cond (eqb s c.start) c.started c.clocks ∩ cond (unstable c s) c.clocks (enabling_of c s))

-- what a row hands on to its target, from the sets A: "(active(t) without C) joined with R"
abbrev pub handed_on : List ℕ → Row → ℕ
handed_on A r = get_or A r.from 0 ∖ guard_set r.guard ∪ r.resets

abbrev pub breaks : List ℕ → Row → Bool
breaks A r = not (within (get_or A r.target 0) (handed_on A r))

-- the target keeps what the row hands on
abbrev pub narrowed : List ℕ → Row → List ℕ
narrowed A r = set A r.target (get_or A r.target 0 ∩ handed_on A r)

-- the first row that breaks the sets narrows them, at most n times
unfoldable pub narrow : Comp → ℕ → List ℕ → List ℕ
narrow c zero A = A
narrow c (suc n) A = elim (least (λ k. breaks A (row_at c k)) (length c.rows)) [ none ↦ A | some k ↦ narrow c n (narrowed A (row_at c k)) ]

-- each narrowing takes a member off, so the sum of the sets as numbers is enough
unfoldable pub greatest : Comp → List ℕ
greatest c = narrow c (sum (tab (allowed c) 0 c.states)) (tab (allowed c) 0 c.states)

-- some enabling(s) does not lie within
unfoldable pub check14 : Comp → Bool
check14 c = any (λ s. not (within (enabling_of c s) (get_or (greatest c) s 0))) c.states

-- ---- 10 to 14 of component i, whose first row is row n of the system
unfoldable pub fault_at : ℕ → ℕ → Comp → Option Told
fault_at i n c =
    let b = map_some (λ k. tell 11 ((n + k) ∷ [])) (check11 c) in
    let d = map_some (λ p. tell 12 (i ∷ p)) (check12 c) in
    let e = map_some (λ p. tell 13 (i ∷ p)) (check13 c) in
    let f = when (check14 c) (tell 14 (i ∷ [])) in
    or_else (map_some (λ k. tell 10 ((n + k) ∷ [])) (check10 c)) (or_else b (or_else d (or_else e f)))

-- "10 to 14 for each component in turn"
unfoldable pub fault_from : ℕ → ℕ → Model → Option Told
fault_from i n [] = none
fault_from i n (c ∷ cs) = elim (fault_at i n c) [ none ↦ fault_from (suc i) (n + length c.rows) cs | some t ↦ some t ]

-- ---- 15 to 17: "the lowest action or clock, then the lowest two components that clash"
abbrev pub clash_in : (ℕ → Comp → Comp → Bool) → Model → ℕ → ℕ → Option (List ℕ)
clash_in f m x i = seek (λ j. when (f x (comp_at m i) (comp_at m j)) (x ∷ i ∷ j ∷ [])) (suc i) (length m)

unfoldable pub clash_for : (ℕ → Comp → Comp → Bool) → ℕ → Model → Option (List ℕ)
clash_for f n m = seek (λ x. seek (clash_in f m x) 0 (length m)) 0 n

-- "no action is an output of two components"
abbrev pub share_output : ℕ → Comp → Comp → Bool
share_output a c d = has (outputs c) a && has (outputs d) a

-- "no clock belongs to two"
abbrev pub share_clock : ℕ → Comp → Comp → Bool
share_clock x c d = has c.clocks x && has d.clocks x

-- "an action is urgent in all components that have it or in none"
abbrev pub calm_acts : Comp → ℕ
calm_acts c = c.ins ∪ c.outs

abbrev pub differ_urgent : ℕ → Comp → Comp → Bool
differ_urgent a c d = (has (urgents c) a && has (calm_acts d) a) || (has (calm_acts c) a && has (urgents d) a)

unfoldable pub check15 : Model → Option (List ℕ)
check15 m = clash_for share_output max_actions m

unfoldable pub check16 : Model → Option (List ℕ)
check16 m = clash_for share_clock max_clocks m

unfoldable pub check17 : Model → Option (List ℕ)
check17 m = clash_for differ_urgent max_actions m

-- ---- where the component can get: for each state 0 where it is known to be reached, else 1
-- row r leads from a reached state, as allowed, to one that is not known to be
abbrev pub leads_on : Comp → List ℕ → Row → Bool
leads_on c left r = eqb (get_or left r.from 0) 0 && ((has (urgents c) r.action || not (unstable c r.from)) && not (eqb (get_or left r.target 0) 0))

-- the first such row makes its target known, at most n times
unfoldable pub follow : Comp → ℕ → List ℕ → List ℕ
follow c zero left = left
follow c (suc n) left = elim (least (λ k. leads_on c left (row_at c k)) (length c.rows)) [ none ↦ left | some k ↦ follow c n (set left (row_at c k).target 0) ]

-- each takes a 1 off, so as many times as there are states are enough
unfoldable pub unreached : Comp → List ℕ
unreached c = follow c c.states (tab (λ s. cond (eqb s c.start) 0 1) 0 c.states)

unfoldable pub reach_of : Comp → ℕ → Bool
reach_of c s = eqb (get_or (unreached c) s 0) 0

-- ---- 18 "not confluent": "component, state, lower and higher action"
-- after p then b, and after q then a: the same state, b resets what it did from s, and so does a
abbrev pub closes : Option Row → Option Row → Row → Row → Bool
closes none o p q = false
closes (some q') none p q = false
closes (some q') (some p') p q = eqb q'.target p'.target && (eqb q'.resets q.resets && eqb p'.resets p.resets)

abbrev pub parted : Comp → ℕ → ℕ → Option Row → Option Row → Bool
parted c a b none o = false
parted c a b (some p) none = false
parted c a b (some p) (some q) = not (closes (row_for c p.target b) (row_for c q.target a) p q)

-- urgent actions a and b both leave s, and no s3 closes them
unfoldable pub clashes : Comp → ℕ → ℕ → ℕ → Bool
clashes c s a b = (has (urgents c) a && has (urgents c) b) && parted c a b (row_for c s a) (row_for c s b)

abbrev pub clashes_from : Comp → ℕ → ℕ → Option (List ℕ)
clashes_from c s a = seek (λ b. when (clashes c s a b) (s ∷ a ∷ b ∷ [])) (suc a) max_actions

-- "Check 18 looks at such states alone" (02, 3/13)
unfoldable pub check18 : Comp → Option (List ℕ)
check18 c =
    let left = unreached c in
    seek (λ s. elim (eqb (get_or left s 0) 0) [ true ↦ seek (clashes_from c s) 0 max_actions | false ↦ none ]) 0 c.states

unfoldable pub clash_among : ℕ → Model → Option Told
clash_among i [] = none
clash_among i (c ∷ cs) = elim (check18 c) [ none ↦ clash_among (suc i) cs | some p ↦ some (tell 18 (i ∷ p)) ]

-- ---- one component by itself (02, 10/13): "takes an index and gives 25 if there is none", place 0; then its 10 to 14, rows counted over the system
unfoldable pub index_fault : Model → ℕ → Option Told
index_fault m i = when (not (ltb i (length m))) (tell 25 (0 ∷ []))

unfoldable pub component_of : Model → ℕ → Option Told
component_of m i = let b = fault_at i (row_count (take i m)) (comp_at m i) in or_else (index_fault m i) b

-- "another for the compatibility of several": 15 to 17
abbrev pub compatible_of : Model → Option Told
compatible_of m =
    let b = map_some (tell 15) (check15 m) in
    let d = map_some (tell 16) (check16 m) in
    let e = map_some (tell 17) (check17 m) in
    or_else b (or_else d e)

-- ---- "then 10 to 14 for each component in turn; then 15 to 17"
unfoldable pub accept_of : Model → Option Told
accept_of m = let b = compatible_of m in or_else (fault_from 0 0 m) b

-- "then 18 where settling, by rule or list, or the confluence check is called"
unfoldable pub confluent_of : Model → Option Told
confluent_of m = let b = clash_among 0 m in or_else (accept_of m) b
