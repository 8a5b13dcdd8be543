-- The moves and roles of the modules, case by case, as the code has them.
use mathlib.Core.Path.{◌≡◌, refl, sym, ◌∙◌, ap}
use mathlib.Core.Option.{some}
use mathlib.Core.Bool.{Bool, true, false, not, ◌&&◌}
use Prim.Native.Nat.{ℕ, suc, ◌+◌, ◌*◌, ◌-◌}
use native.Mathlib.Omega.{arith}
use native.Mathlib.Decide.{dec_le}
use lib.Dec.{eqb, leb, ltb}
use borrow.Author.Tests.{eq-eqb, ne_eqb, le-leb, lt-leb, lt-ltb, le-ltb}
use Rattle.laws.specs.Sets.{has, ◌∪◌, only}
use Rattle.laws.specs.Search.{when, map_some, any}
use Rattle.trees.specs.Tree.{Element, f, u}
use Rattle.trees.specs.Modules.{be_state, be_move, told, gate_role, pand_role, own-f, own-u, f0, u0, f1, u1, count_state, one_more, one_less, count_move}
use Rattle.trees.specs.Modules.{box-r, box_move, plain_move}
use Rattle.roles.specs.declared.Signal.{Signal}
use Rattle.roles.specs.declared.Signal.TheVariants as OfSignal
use Rattle.roles.specs.declared.GateRole.TheVariants as OfRole
use Rattle.std.specs.Prelude.{Option as Answered, Some, None}
use Rattle.std.specs.Bool.{then_some}
use Rattle.roles.specs.declared.Move.{Move}
use Rattle.roles.specs.Roles.{signal_is, move_as, move_is, gate_is, told_as, gate_of, meant_as}

-- a move where there is one
pub move-when : (b : Bool) (m : Move) (r : Answered Move) → r ≡ then_some b m → move_is r ≡ when b (move_as m)
move-when true m r e = ap move_is e
move-when false m r e = ap move_is e

-- a target where there is one
pub map-when : (b : Bool) (x y : ℕ) → x ≡ y → when b (plain_move x) ≡ map_some plain_move (when b y)
map-when true x y e = ap (λ z. some (plain_move z)) e
map-when false x y e = refl

-- ---- BE
pub be-told : (k sg b : ℕ) → when (eqb sg 1) (plain_move b) ≡ be_move k sg b f
be-told k sg b = ap (λ x. when (eqb sg 1) (plain_move x)) (let z : b ≡ be_state 0 b = omega arith in z)

pub be-mended : (k sg b : ℕ) → when (eqb sg 2) (plain_move b) ≡ be_move k sg b u
be-mended k sg b = ap (λ x. when (eqb sg 2) (plain_move x)) (let z : b ≡ be_state 0 b = omega arith in z)

-- ---- gates: what an action is to them
module _ (number first second of : ℕ) (signal : Signal) where
  pub own-told : of ≡ number → gate_is (told_as OfRole.OwnF OfRole.OwnU signal) ≡ gate_role (gate_of number first second) (meant_as of signal)
  unfolding gate_role
  own-told h = rw (eq-eqb of number h) (go signal)
    where
      go : (s : Signal) → gate_is (told_as OfRole.OwnF OfRole.OwnU s) ≡ told own-f own-u (signal_is s)
      go OfSignal.Fl = refl
      go OfSignal.Up = refl
      go OfSignal.F = refl
      go OfSignal.U = refl
      go OfSignal.R = refl

  pub first-told : ¬ (of ≡ number) → of ≡ first → gate_is (told_as OfRole.F0 OfRole.U0 signal) ≡ gate_role (gate_of number first second) (meant_as of signal)
  unfolding gate_role
  first-told h k = rw (ne_eqb of number h, eq-eqb of first k) (go signal)
    where
      go : (s : Signal) → gate_is (told_as OfRole.F0 OfRole.U0 s) ≡ told f0 u0 (signal_is s)
      go OfSignal.Fl = refl
      go OfSignal.Up = refl
      go OfSignal.F = refl
      go OfSignal.U = refl
      go OfSignal.R = refl

  pub second-told : ¬ (of ≡ number) → ¬ (of ≡ first) → of ≡ second → gate_is (told_as OfRole.F1 OfRole.U1 signal)
      ≡ gate_role (gate_of number first second) (meant_as of signal)
  unfolding gate_role
  second-told h k l = rw (ne_eqb of number h, ne_eqb of first k, eq-eqb of second l) (go signal)
    where
      go : (s : Signal) → gate_is (told_as OfRole.F1 OfRole.U1 s) ≡ told f1 u1 (signal_is s)
      go OfSignal.Fl = refl
      go OfSignal.Up = refl
      go OfSignal.F = refl
      go OfSignal.U = refl
      go OfSignal.R = refl

  pub none_told : ¬ (of ≡ number) → ¬ (of ≡ first) → ¬ (of ≡ second) → gate_is None ≡ gate_role (gate_of number first second) (meant_as of signal)
  unfolding gate_role
  none_told h k l = rw (ne_eqb of number h, ne_eqb of first k, ne_eqb of second l)

module _ (e : Element) (of : ℕ) where
  pub ticks-fl : gate_is (Some OfRole.Tick) ≡ pand_role e (meant_as of OfSignal.Fl)
  unfolding pand_role
  ticks-fl = refl

  pub ticks-up : gate_is (Some OfRole.Tick) ≡ pand_role e (meant_as of OfSignal.Up)
  unfolding pand_role
  ticks-up = refl

  pub hears-f : gate_role e (meant_as of OfSignal.F) ≡ pand_role e (meant_as of OfSignal.F)
  unfolding pand_role
  hears-f = refl

  pub hears-u : gate_role e (meant_as of OfSignal.U) ≡ pand_role e (meant_as of OfSignal.U)
  unfolding pand_role
  hears-u = refl

  pub hears-r : gate_role e (meant_as of OfSignal.R) ≡ pand_role e (meant_as of OfSignal.R)
  unfolding pand_role
  hears-r = refl

-- ---- AND and OR
-- at least n are down
down : (n c : ℕ) → leb n c ≡ not (eqb (suc c - n) 0)
down n c = elim (dec_le n c) [
  | yes h ↦ le-leb n c h ∙ sym (ap not (ne_eqb (suc c - n) 0 (λ e. omega (arith, e))))
  | no h ↦ lt-leb n c (omega arith) ∙ sym (ap not (eq-eqb (suc c - n) 0 (omega arith)))
]

up : (n c : ℕ) → ltb c n ≡ eqb (suc c - n) 0
up n c = elim (dec_le n c) [
  | yes h ↦ le-ltb c n h ∙ sym (ne_eqb (suc c - n) 0 (λ e. omega (arith, e)))
  | no h ↦ lt-ltb c n (omega arith) ∙ sym (eq-eqb (suc c - n) 0 (omega arith))
]

module _ (n sf su c : ℕ) where
  pub tells-f : when (eqb sf 1 && leb n c) (plain_move (su * 3 + c)) ≡ map_some plain_move (count_move n sf su c own-f)
  tells-f =
      ap (λ b. when (eqb sf 1 && b) (plain_move (su * 3 + c))) (down n c)
      ∙ map-when (eqb sf 1 && not (eqb (suc c - n) 0)) (su * 3 + c) (count_state 0 su c) (omega arith)

  pub tells-u : when (eqb su 1 && ltb c n) (plain_move (sf * 6 + c)) ≡ map_some plain_move (count_move n sf su c own-u)
  tells-u =
      ap (λ b. when (eqb su 1 && b) (plain_move (sf * 6 + c))) (up n c)
      ∙ map-when (eqb su 1 && eqb (suc c - n) 0) (sf * 6 + c) (count_state sf 0 c) (omega arith)

  pub more-all : c ≡ 2 → sf * 6 + su * 3 + 2 ≡ one_more n sf su c
  more-all h = rw (eq-eqb c 2 h)

  pub more-told : ¬ (c ≡ 2) → c + 1 ≡ n → 6 + su * 3 + (c + 1) ≡ one_more n sf su c
  more-told h k = rw (ne_eqb c 2 h, eq-eqb (suc c) n (omega (arith, k))) (omega arith)

  pub more-calm : ¬ (c ≡ 2) → ¬ (c + 1 ≡ n) → sf * 6 + su * 3 + (c + 1) ≡ one_more n sf su c
  more-calm h k = rw (ne_eqb c 2 h, ne_eqb (suc c) n (λ e. k (omega (arith, e)))) (omega arith)

  pub less_none : c ≡ 0 → sf * 6 + su * 3 ≡ one_less n sf su c
  less_none h = rw (eq-eqb c 0 h) (omega arith)

  pub less-told : ¬ (c ≡ 0) → c ≡ n → sf * 6 + 3 + (c - 1) ≡ one_less n sf su c
  less-told h k = rw (ne_eqb c 0 h, eq-eqb c n k) (omega arith)

  pub less-calm : ¬ (c ≡ 0) → ¬ (c ≡ n) → sf * 6 + su * 3 + (c - 1) ≡ one_less n sf su c
  less-calm h k = rw (ne_eqb c 0 h, ne_eqb c n k)

-- ---- RBOX
pub begin-is : (n s i t : ℕ) (busy broken before : Bool) → busy ≡ has s 0 → broken ≡ has s (n - i) → before ≡ any (λ j. has s (n - j)) i → t ≡ (s ∪ 1)
    → when (not busy && (broken && not before)) (plain_move t) ≡ map_some plain_move (box_move n s (box-r i))
begin-is n s i t busy broken before p q r e =
    rw (p, q, r) (map-when (not (has s 0) && (has s (n - i) && not (any (λ j. has s (n - j)) i))) t (s ∪ only 0) e)
