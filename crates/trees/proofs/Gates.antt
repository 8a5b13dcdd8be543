-- AND, OR and PAND are sound: antt computes their moves from every state.
use mathlib.Core.Path.{◌≡◌, refl, sym, ◌∙◌, ap}
use mathlib.Core.Option.{Option, none, some}
use mathlib.Core.Bool.{Bool, true, false, false≢true, ◌&&◌, ◌||◌, cond}
use Prim.Native.Nat.{ℕ, ◌/◌, ◌%◌, ◌≤◌, ◌<◌}
use native.Mathlib.Omega.{arith}
use lib.Dec.{ltb}
use borrow.Author.Tests.{ltb-true}
use Rattle.laws.specs.Fold.{all, all_from}
use Rattle.laws.proofs.FoldLaws.{all_true}
use Rattle.laws.proofs.TestLaws.{and-true}
use Rattle.laws.proofs.SetLaws.{or_left, or_right}
use Rattle.answer.specs.Limits.{max_states}
use Rattle.trees.specs.Module.{is_in, is_out, is_uin, Sound}
use Rattle.trees.specs.Tree.{Element, Tree}
use Rattle.trees.specs.Modules.{GateRole, own-f, own-u, f0, u0, f1, u1, tick, gate_kind, gate_role, pand_role, role_in, count_move, pand_move}
use Rattle.trees.specs.Modules.{clockless, count_module, pand_module}
use Rattle.trees.proofs.Clockless.{clockless-is-sound}

-- a move stays among n states
unfoldable stays : ℕ → Option ℕ → Bool
stays n none = true
stays n (some t) = ltb t n

unfoldable goes : Option ℕ → Bool
goes none = false
goes (some t) = true

stays-below : (n : ℕ) (o : Option ℕ) (t : ℕ) → stays n o ≡ true → o ≡ some t → t < n
unfolding stays
stays-below n o t e h = ltb-true t n (sym (ap (stays n) h) ∙ e)

goes_to : (o : Option ℕ) → goes o ≡ true → (t : ℕ) × (o ≡ some t)
unfolding goes
goes_to none e = absurd (false≢true e)
goes_to (some t) e = (t, refl)

-- every role
unfoldable pub every_role : (GateRole → Bool) → Bool
every_role g = g own-f && (g own-u && (g f0 && (g u0 && (g f1 && (g u1 && g tick)))))

pub at-role : (g : GateRole → Bool) → every_role g ≡ true → (x : GateRole) → g x ≡ true
unfolding every_role
at-role g e own-f = (and-true (g own-f) _ e).0
at-role g e own-u = let a = (and-true (g own-f) _ e).1 in (and-true (g own-u) _ a).0
at-role g e f0 = let a = (and-true (g own-f) _ e).1 in let b = (and-true (g own-u) _ a).1 in (and-true (g f0) _ b).0
at-role g e u0 = let a = (and-true (g own-f) _ e).1 in let b = (and-true (g own-u) _ a).1 in let c = (and-true (g f0) _ b).1 in (and-true (g u0) _ c).0
at-role g e f1 =
    let a = (and-true (g own-f) _ e).1 in
    let b = (and-true (g own-u) _ a).1 in
    let c = (and-true (g f0) _ b).1 in
    let d = (and-true (g u0) _ c).1 in
    (and-true (g f1) _ d).0
at-role g e u1 =
    let a = (and-true (g own-f) _ e).1 in
    let b = (and-true (g own-u) _ a).1 in
    let c = (and-true (g f0) _ b).1 in
    let d = (and-true (g u0) _ c).1 in
    (and-true (g u1) _ (and-true (g f1) _ d).1).0
at-role g e tick =
    let a = (and-true (g own-f) _ e).1 in
    let b = (and-true (g own-u) _ a).1 in
    let c = (and-true (g f0) _ b).1 in
    let d = (and-true (g u0) _ c).1 in
    (and-true (g u1) _ (and-true (g f1) _ d).1).1

-- a move stays, and an input has one
unfoldable good : ℕ → (ℕ → GateRole → Option ℕ) → ℕ → GateRole → Bool
good n to s x = stays n (to s x) && cond (is_in (some (gate_kind x)) || is_uin (some (gate_kind x))) (goes (to s x)) true

unfoldable fit : ℕ → (ℕ → GateRole → Option ℕ) → Bool
fit n to = all (λ s. every_role (good n to s)) 0 n

and-fits : fit 12 (λ s. count_move 2 (s / 6) (s / 3 % 2) (s % 3)) ≡ true
unfolding fit every_role good stays goes all all_from
and-fits = refl

or-fits : fit 12 (λ s. count_move 1 (s / 6) (s / 3 % 2) (s % 3)) ≡ true
unfolding fit every_role good stays goes all all_from
or-fits = refl

pand-fits : fit 20 (λ s. pand_move (s / 10) (s / 5 % 2) (s % 5)) ≡ true
unfolding fit every_role good stays goes all all_from
pand-fits = refl

no-clock : (x : GateRole) → is_out (some (gate_kind x)) ≡ false
no-clock own-f = refl
no-clock own-u = refl
no-clock f0 = refl
no-clock u0 = refl
no-clock f1 = refl
no-clock u1 = refl
no-clock tick = refl

module _ (n : ℕ) (to : ℕ → GateRole → Option ℕ) (h : fit n to ≡ true) where
  here : (s : ℕ) (x : GateRole) → s < n → good n to s x ≡ true
  unfolding fit
  here s x k = at-role (good n to s) (all_true (λ s. every_role (good n to s)) 0 n h s (omega arith) k) x

  below : (s t : ℕ) (x : GateRole) → s < n → to s x ≡ some t → t < n
  unfolding good
  below s t x k e = stays-below n (to s x) t (and-true (stays n (to s x)) _ (here s x k)).0 e

  hears : (s : ℕ) (x : GateRole) → s < n → (is_in (some (gate_kind x)) || is_uin (some (gate_kind x))) ≡ true → (t : ℕ) × (to s x ≡ some t)
  unfolding good
  hears s x k e = goes_to (to s x) (let p = (and-true (stays n (to s x)) _ (here s x k)).1 in rw e at p)

  gate-is-sound : 1 ≤ n → n ≤ max_states → (role : ℕ → Option GateRole) → Sound (clockless n role gate_kind to)
  gate-is-sound one few role =
      clockless-is-sound n role gate_kind to one few no-clock
      (λ s a t x k e f. below s t x k f)
      (λ s x k e. hears s x k (or_left (is_in (some (gate_kind x))) (is_uin (some (gate_kind x))) e))
      (λ s x k e. hears s x k (or_right (is_in (some (gate_kind x))) (is_uin (some (gate_kind x))) e))

pub and-is-sound : (t : Tree) (e : Element) → Sound (count_module 2 t e)
unfolding count_module
and-is-sound t e = gate-is-sound 12 (λ s. count_move 2 (s / 6) (s / 3 % 2) (s % 3)) and-fits (omega arith) (omega arith) (role_in t (gate_role e))

pub or-is-sound : (t : Tree) (e : Element) → Sound (count_module 1 t e)
unfolding count_module
or-is-sound t e = gate-is-sound 12 (λ s. count_move 1 (s / 6) (s / 3 % 2) (s % 3)) or-fits (omega arith) (omega arith) (role_in t (gate_role e))

pub pand-is-sound : (t : Tree) (e : Element) → Sound (pand_module t e)
unfolding pand_module
pand-is-sound t e = gate-is-sound 20 (λ s. pand_move (s / 10) (s / 5 % 2) (s % 5)) pand-fits (omega arith) (omega arith) (role_in t (pand_role e))
