-- Every urgent action of a tree has the colour of its signal: where each component keeps colours, the system passes the test of 02, 8/13.
use mathlib.Core.Path.{◌≡◌, refl, sym, ◌∙◌, ap}
use mathlib.Core.Logic.{◌≢◌}
use mathlib.Core.Option.{Option, some, some_inj}
use mathlib.Core.Bool.{Bool, true, false, false≢true, not, cond}
use Prim.Native.Nat.{ℕ, ◌<◌}
use native.Mathlib.Omega.{arith}
use lib.ListN.{length}
use Rattle.laws.specs.Search.{map_some}
use Rattle.model.specs.Model.{Model}
use Rattle.iosa.specs.Automaton.{Automaton, MeetsAt}
use Rattle.triggering.specs.Triggering.{Enabled, part, Triggers, LeadsOn, itself, onward, Woken, Together, start, in_one_set, in_two_parts, Led, Passes}
use Rattle.trees.specs.Tree.{Tree, Signal, fl, up, f, u, r, Meaning, meaning_of}
use Rattle.trees.proofs.Owners.{urgent_signal}

-- the signal of an action
abbrev signal_of : Meaning → Signal
signal_of x = x.signal

unfoldable pub signal_at : Tree → ℕ → Option Signal
signal_at t a = map_some signal_of (meaning_of t a)

pub signal-at : (t : Tree) (a : ℕ) {x : Meaning} → meaning_of t a ≡ some x → signal_at t a ≡ some x.signal
unfolding signal_at
signal-at t a e = ap (map_some signal_of) e

-- two signals are told apart by a number
abbrev pub code_of : Signal → ℕ
code_of fl = 0
code_of up = 1
code_of f = 2
code_of u = 3
code_of r = 4

-- a failure told, or else a repair
abbrev pub told_as : Bool → Signal
told_as true = f
told_as false = u

abbrev pub same : Bool → Bool → Bool
same a b = cond a b (not b)

pub alike : (b c : Bool) → same b c ≡ true → b ≡ c
alike true c e = sym e
alike false true e = absurd (false≢true e)
alike false false e = refl

-- ---- what the failure and the repair of a basic element enable: telling it, or the order to begin a repair
pub data Wakes (e b : Signal) : Type 0 where
  failure-told : e ≡ fl → b ≡ f → Wakes e b
  failure-ordered : e ≡ fl → b ≡ r → Wakes e b
  repair-told : e ≡ up → b ≡ u → Wakes e b
  repair-ordered : e ≡ up → b ≡ r → Wakes e b

-- both are urgent, and they are not one a failure and the other a repair
pub data Peaceful (c d : Signal) : Type 0 where
  failures : c ≡ f → d ≡ f → Peaceful c d
  mendings : c ≡ u → d ≡ u → Peaceful c d
  order-left : c ≡ r → urgent_signal d ≡ true → Peaceful c d
  order-right : urgent_signal c ≡ true → d ≡ r → Peaceful c d

woken-urgent : {e d : Signal} → Wakes e d → urgent_signal d ≡ true
woken-urgent (failure-told p q) = ap urgent_signal q
woken-urgent (failure-ordered p q) = ap urgent_signal q
woken-urgent (repair-told p q) = ap urgent_signal q
woken-urgent (repair-ordered p q) = ap urgent_signal q

not-both : {e : Signal} → e ≡ fl → e ≡ up → ⊥
not-both p q = omega (arith, ap code_of (sym p ∙ q))

peace : {e c d : Signal} → Wakes e c → Wakes e d → Peaceful c d
peace (failure-told p q) (failure-told x y) = failures q y
peace (failure-told p q) (failure-ordered x y) = order-right (ap urgent_signal q) y
peace (failure-told p q) (repair-told x y) = absurd (not-both p x)
peace (failure-told p q) (repair-ordered x y) = absurd (not-both p x)
peace (repair-told p q) (failure-told x y) = absurd (not-both x p)
peace (repair-told p q) (failure-ordered x y) = absurd (not-both x p)
peace (repair-told p q) (repair-told x y) = mendings q y
peace (repair-told p q) (repair-ordered x y) = order-right (ap urgent_signal q) y
peace (failure-ordered p q) w = order-left q (woken-urgent w)
peace (repair-ordered p q) w = order-left q (woken-urgent w)

pub peaceful-urgent : {c d : Signal} → Peaceful c d → (urgent_signal c ≡ true) × (urgent_signal d ≡ true)
peaceful-urgent (failures p q) = (ap urgent_signal p, ap urgent_signal q)
peaceful-urgent (mendings p q) = (ap urgent_signal p, ap urgent_signal q)
peaceful-urgent (order-left p q) = (ap urgent_signal p, q)
peaceful-urgent (order-right p q) = (p, ap urgent_signal q)

-- ---- a component that keeps colours
-- e enables b
pub record Woke (t : Tree) (e b : ℕ) : Type 0 where
  pub cause : Signal
  pub effect : Signal
  pub of-cause : signal_at t e ≡ some cause
  pub of-effect : signal_at t b ≡ some effect
  pub wakes : Wakes cause effect

pub record Tame (t : Tree) (A : Automaton) : Type 0 where
  -- "the start enables nothing"
  pub quiet : {b : ℕ} → Enabled A A.start b → ⊥
  -- a trigger keeps the signal
  pub keeps : {a b : ℕ} → Triggers A a b → signal_at t a ≡ signal_at t b
  pub wakes : {e b : ℕ} {s : A.State} → Woken A e s → Enabled A s b → Woke t e b
  -- the two of an unconfluent pair are one a failure and one a repair
  pub meets : {a b : ℕ} {c d : Signal} (s : A.State) → a ≢ b → signal_at t a ≡ some c → signal_at t b ≡ some d → Peaceful c d → MeetsAt A s a b

-- in state x only what is at peace with c is enabled
pub record Clear (t : Tree) (A : Automaton) (x : A.State) (c : Signal) : Type 0 where
  pub peace : {b : ℕ} → Enabled A x b → (d : Signal) × (signal_at t b ≡ some d) × Peaceful c d

-- ---- the system
module _ (t : Tree) (m : Model) (tame : (i : ℕ) → i < length m → Tame t (part m i)) where
  pub record AtPeace (a b : ℕ) : Type 0 where
    pub left : Signal
    pub right : Signal
    pub of_left : signal_at t a ≡ some left
    pub of_right : signal_at t b ≡ some right
    pub peaceful : Peaceful left right

  leads-on : {a b : ℕ} → LeadsOn m a b → signal_at t a ≡ signal_at t b
  leads-on itself = refl
  leads-on (onward l i h x) = leads-on l ∙ (tame i h).keeps x

  by_one : {e c d : ℕ} → Woke t e c → Woke t e d → AtPeace c d
  by_one x y =
      let z : y.cause ≡ x.cause = some_inj.0 (sym y.of-cause ∙ x.of-cause) in
      record { left = x.effect; right = y.effect; of_left = x.of-effect; of_right = y.of-effect; peaceful = peace x.wakes (rw z at y.wakes) }

  together : {c d : ℕ} → Together m c d → AtPeace c d
  together (start x y) = absurd ((tame x.index x.inside).quiet x.enabled)
  together (in_one_set i h w x y) = by_one ((tame i h).wakes w x) ((tame i h).wakes w y)
  together (in_two_parts i j h k ne w z x y) = by_one ((tame i h).wakes w x) ((tame j k).wakes z y)

  -- what is led to is at peace
  pub led-at-peace : {a b : ℕ} → Led m a b → AtPeace a b
  led-at-peace l =
      let p = together l.both in
      record {
        left = p.left;
        right = p.right;
        of_left = sym (leads-on l.leftward) ∙ p.of_left;
        of_right = sym (leads-on l.rightward) ∙ p.of_right;
        peaceful = p.peaceful;
      }

  pub tame-passes : Passes m
  tame-passes = record {
    confluent = λ {a} {b} ne led i h. record {
      meets = λ s reached. let p = led-at-peace led in (tame i h).meets s ne p.of_left p.of_right p.peaceful;
    };
  }
