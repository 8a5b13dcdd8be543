-- The modules of document 000, section 5.5 (Figure 5.8, AND, OR, PAND, the repair box with priority policy), and the model of a tree.
use Rattle.std.proofs.Math.Option.{Option, none, some}
use Rattle.std.specs.Prelude.{Bool, true, false, ◌&&◌, ◌||◌, not, cond, List, [], ◌∷◌, ℕ, zero, suc, ◌+◌, ◌*◌, ◌-◌, ◌/◌, ◌%◌, ◌^◌, length, get_or, eqb}
use Rattle.laws.specs.Sets.{has, ◌∪◌, ◌∖◌, only}
use Rattle.laws.specs.Search.{when, map_some, any}
use Rattle.model.specs.Text.{Kind, in-kind, out-kind, uin-kind, uout-kind}
use Rattle.model.specs.Model.{Comp, Model}
use Rattle.trees.specs.Module.{Move, Module, comp_by}
use Rattle.trees.specs.Tree.{Sort, be-sort, and-sort, or-sort, pand-sort, rbox-sort, Element, Tree, is_be, Signal, fl, up, f, u, r, Meaning, meaning_of}

abbrev pub plain_move : ℕ → Move
plain_move t = record { guard = 0; resets = 0; target = t }

-- what a meaning is to a module, and to none where there is no action
abbrev pub of_meaning : {A : Type 0} → (Meaning → Option A) → Option Meaning → Option A
of_meaning g none = none
of_meaning g (some x) = g x

-- ---- BE: signal [0..2], broken [0..2]; clocks fc = 2 k and rc = 2 k + 1
abbrev pub be_state : ℕ → ℕ → ℕ
be_state signal broken = signal * 3 + broken

abbrev pub be_kind : Signal → Kind
be_kind fl = out-kind
be_kind up = out-kind
be_kind f = uout-kind
be_kind u = uout-kind
be_kind r = uin-kind

abbrev pub be_move : ℕ → ℕ → ℕ → Signal → Option Move
be_move k signal broken fl = when (eqb broken 0) (record { guard = suc (2 * k); resets = 0; target = be_state 1 1 })
be_move k signal broken up = when (eqb broken 2) (record { guard = suc (2 * k + 1); resets = only (2 * k); target = be_state 2 0 })
be_move k signal broken f = when (eqb signal 1) (plain_move (be_state 0 broken))
be_move k signal broken u = when (eqb signal 2) (plain_move (be_state 0 broken))
be_move k signal broken r = some (cond (eqb broken 1) (record { guard = 0; resets = only (2 * k + 1); target = be_state signal 2 }) (plain_move (be_state signal broken)))

unfoldable pub be_role : Element → Meaning → Option Signal
be_role e x = when (eqb x.of e.number) x.signal

-- ---- gates: f and u of its own, f and u of its inputs, and, of PAND, any passing of time
pub data GateRole : Type 0 where
  own-f own-u f0 u0 f1 u1 tick : GateRole

abbrev pub gate_kind : GateRole → Kind
gate_kind own-f = uout-kind
gate_kind own-u = uout-kind
gate_kind f0 = uin-kind
gate_kind u0 = uin-kind
gate_kind f1 = uin-kind
gate_kind u1 = uin-kind
gate_kind tick = in-kind

abbrev pub told : GateRole → GateRole → Signal → Option GateRole
told a b fl = none
told a b up = none
told a b f = some a
told a b u = some b
told a b r = none

abbrev pub ticked : Signal → Option GateRole
ticked fl = some tick
ticked up = some tick
ticked f = none
ticked u = none
ticked r = none

unfoldable pub gate_role : Element → Meaning → Option GateRole
gate_role e x =
    cond (eqb x.of e.number) (told own-f own-u x.signal)
    (cond (eqb x.of (get_or e.ins 0 0)) (told f0 u0 x.signal) (cond (eqb x.of (get_or e.ins 1 0)) (told f1 u1 x.signal) none))

-- "The PAND row for any passing of time becomes one input for every failure and repair of a basic element in the tree"
unfoldable pub pand_role : Element → Meaning → Option GateRole
pand_role e x = elim (ticked x.signal) [ some t ↦ some t | none ↦ gate_role e x ]

-- AND and OR: signalf, signalu, count [0..2]
abbrev pub count_state : ℕ → ℕ → ℕ → ℕ
count_state signalf signalu count = signalf * 6 + signalu * 3 + count

-- an input fails: where it is the n-th to be down, the gate has to tell it
abbrev pub one_more : ℕ → ℕ → ℕ → ℕ → ℕ
one_more n sf su c = cond (eqb c 2) (count_state sf su 2) (count_state (cond (eqb (suc c) n) 1 sf) su (suc c))

-- an input is repaired: where n were down, the gate has to tell it
abbrev pub one_less : ℕ → ℕ → ℕ → ℕ → ℕ
one_less n sf su c = cond (eqb c 0) (count_state sf su 0) (count_state sf (cond (eqb c n) 1 su) (c - 1))

-- the gate is down where at least n inputs are: n is 2 for AND and 1 for OR
abbrev pub count_move : ℕ → ℕ → ℕ → ℕ → GateRole → Option ℕ
count_move n sf su c own-f = when (eqb sf 1 && not (eqb (suc c - n) 0)) (count_state 0 su c)
count_move n sf su c own-u = when (eqb su 1 && eqb (suc c - n) 0) (count_state sf 0 c)
count_move n sf su c f0 = some (one_more n sf su c)
count_move n sf su c f1 = some (one_more n sf su c)
count_move n sf su c u0 = some (one_less n sf su c)
count_move n sf su c u1 = some (one_less n sf su c)
-- (no action has this role here)
count_move n sf su c tick = some (count_state sf su c)

-- PAND: f0, f1, st [0..4] (0 up, 1 inform fail, 2 failed, 3 inform up, 4 unbreakable)
abbrev pub pand_state : ℕ → ℕ → ℕ → ℕ
pand_state x y st = x * 10 + y * 5 + st

abbrev pub pand_move : ℕ → ℕ → ℕ → GateRole → Option ℕ
pand_move x y st own-f = when (eqb st 1) (pand_state x y 2)
pand_move x y st own-u = when (eqb st 3) (pand_state x y 0)
pand_move x y st f0 = some (cond (eqb x 1) (pand_state x y st) (pand_state 1 y (cond (eqb st 0 && eqb y 1) 1 st)))
pand_move x y st f1 = some (cond (eqb y 1) (pand_state x y st) (pand_state x 1 (cond (eqb st 0 && eqb x 1) 1 (cond (eqb st 3) 2 st))))
pand_move x y st u0 = some (cond (eqb x 0) (pand_state x y st) (pand_state 0 y (cond (eqb st 1) 0 st)))
pand_move x y st u1 = some (cond (eqb y 0) (pand_state x y st) (pand_state x 0 (cond (eqb st 1 || eqb st 4) 0 (cond (eqb st 2) 3 st))))
pand_move x y st tick = some (cond (eqb st 0 && (eqb y 1 && eqb x 0)) (pand_state x y 4) (pand_state x y st))

-- ---- RBOX: broken[0] to broken[n - 1], busy; broken[i] is digit n - i of the state, busy digit 0
pub data BoxRole : Type 0 where
  box-fl box-up box-r : ℕ → BoxRole

abbrev pub box_kind : BoxRole → Kind
box_kind (box-fl i) = in-kind
box_kind (box-up i) = in-kind
box_kind (box-r i) = uout-kind

abbrev pub box_move : ℕ → ℕ → BoxRole → Option ℕ
box_move n s (box-fl i) = some (s ∪ only (n - i))
box_move n s (box-up i) = some (s ∖ only (n - i) ∖ only 0)
box_move n s (box-r i) = when (not (has s 0) && (has s (n - i) && not (any (λ j. has s (n - j)) i))) (s ∪ only 0)

-- the place of v in the list
unfoldable pub place_of : ℕ → List ℕ → Option ℕ
place_of v [] = none
place_of v (x ∷ xs) = elim (eqb v x) [ true ↦ some 0 | false ↦ map_some suc (place_of v xs) ]

abbrev pub box_hears : Signal → ℕ → Option BoxRole
box_hears fl i = some (box-fl i)
box_hears up i = some (box-up i)
box_hears f i = none
box_hears u i = none
box_hears r i = some (box-r i)

unfoldable pub box_role : Element → Meaning → Option BoxRole
box_role e x = elim (place_of x.of e.ins) [ none ↦ none | some i ↦ box_hears x.signal i ]

-- ---- the module of an element; k basic elements stand before it
abbrev pub bound {ℓ} : {A : Type 0} {B : Type ℓ} → Option A → (A → Option B) → Option B
bound none g = none
bound (some x) g = g x

unfoldable pub be_module : Tree → ℕ → Element → Module
be_module t k e = record {
  states = 9;
  clocks = only (2 * k) ∪ only (2 * k + 1);
  started = only (2 * k);
  kind = λ a. map_some be_kind (of_meaning (be_role e) (meaning_of t a));
  move = λ s a. bound (of_meaning (be_role e) (meaning_of t a)) (be_move k (s / 3) (s % 3));
}

-- a module with no clock
unfoldable pub clockless : {A : Type 0} → ℕ → (ℕ → Option A) → (A → Kind) → (ℕ → A → Option ℕ) → Module
clockless n role kind_of to = record {
  states = n;
  clocks = 0;
  started = 0;
  kind = λ a. map_some kind_of (role a);
  move = λ s a. bound (role a) (λ x. map_some plain_move (to s x));
}

abbrev pub role_in : {A : Type 0} → Tree → (Meaning → Option A) → ℕ → Option A
role_in t g a = of_meaning g (meaning_of t a)

unfoldable pub count_module : ℕ → Tree → Element → Module
count_module n t e = clockless 12 (role_in t (gate_role e)) gate_kind (λ s. count_move n (s / 6) (s / 3 % 2) (s % 3))

unfoldable pub pand_module : Tree → Element → Module
pand_module t e = clockless 20 (role_in t (pand_role e)) gate_kind (λ s. pand_move (s / 10) (s / 5 % 2) (s % 5))

unfoldable pub box_module : Tree → Element → Module
box_module t e = clockless (2 ^ suc (length e.ins)) (role_in t (box_role e)) box_kind (box_move (length e.ins))

abbrev pub module_for : Sort → Tree → ℕ → Element → Module
module_for be-sort t k e = be_module t k e
module_for and-sort t k e = count_module 2 t e
module_for or-sort t k e = count_module 1 t e
module_for pand-sort t k e = pand_module t e
module_for rbox-sort t k e = box_module t e

unfoldable pub components_from : Tree → ℕ → List Element → Model
components_from t k [] = []
components_from t k (e ∷ es) = comp_by (module_for e.sort t k e) ∷ components_from t (cond (is_be e.sort) (suc k) k) es

-- "the order of components": of the lines
unfoldable pub tree_model : Tree → Model
tree_model t = components_from t 0 t
