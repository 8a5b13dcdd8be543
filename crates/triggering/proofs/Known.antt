-- What is known of a reached composed state: any two urgent outputs that are enabled in it are led to. At the start, after a row by an urgent action,
-- and after a row by another action that leaves stable parts.
use mathlib.Core.Path.{◌≡◌, refl, sym}
use mathlib.Core.Logic.{◌⊎◌, inl, inr, ⊎_elim}
use mathlib.Core.Option.{Option, none, some}
use mathlib.Core.List.{List}
use Prim.Native.Nat.{ℕ, zero, suc, ◌<◌}
use native.Mathlib.Omega.{arith}
use native.Mathlib.Decide.{ℕ_discrete}
use lib.ListN.{length, get_or}
use Rattle.laws.specs.Sets.{◌∈◌}
use Rattle.model.specs.Model.{Row, Comp, Model, comp_at, outputs, urgents}
use Rattle.iosa.specs.Automaton.{alphabet, auto_of, Stable, Reachable}
use Rattle.iosa.specs.Parts.{Go, goes, sits-out, GoAll, end, and}
use Rattle.iosa.specs.Start.{start_all}
use Rattle.iosa.specs.Checks.{row_for}
use Rattle.iosa.proofs.Acceptance.Rows.{Single, row-leads, row-missing, urgent-unclocked}
use Rattle.iosa.proofs.Settling.Start.{start-at}
use Rattle.triggering.specs.Triggering.{Enabled, part, Triggers, LeadsOn, itself, onward, AtStart, Woken, Together, start, in_one_set, in_two_parts, Led}

-- ---- one component: is b enabled?
enabled-or-not : (c : Comp) → Single c → (s b : ℕ) → b ∈ outputs c → b ∈ urgents c → Enabled (auto_of c) s b ⊎ (Enabled (auto_of c) s b → ⊥)
enabled-or-not c one s b o u = go (row_for c s b) refl
  where
    go : (r : Option Row) → row_for c s b ≡ r → Enabled (auto_of c) s b ⊎ (Enabled (auto_of c) s b → ⊥)
    go none e = inr (λ x. row-missing c s b e x.row.row)
    go (some r) e = inl (record {
      guard = 0;
      resets = r.resets;
      target = r.target;
      row = record { output = o; urgent = u; row = row-leads c one s b (urgent-unclocked c b u) r e };
    })

-- every component's part of a step
pub go-at : {a : ℕ} {m : Model} {s t : List ℕ} {C R : ℕ} → GoAll a m s C R t → (i : ℕ) → i < length m
    → (D : ℕ) × (Q : ℕ) × Go (part m i) a (get_or s i 0) D Q (get_or t i 0)
go-at end i h = absurd (omega arith)
go-at (and g rest) zero h = (_, _, g)
go-at (and g rest) (suc i) h = go-at rest i (omega arith)

-- the urgent output b of some component is enabled in its part
pub record On (m : Model) (s : List ℕ) (b : ℕ) : Type 0 where
  pub index : ℕ
  pub inside : index < length m
  pub enabled : Enabled (part m index) (get_or s index 0) b

-- every two of them are led to
abbrev pub AllLed : Model → List ℕ → Type 0
AllLed m s = (a b : ℕ) → On m s a → On m s b → Led m a b

-- ---- at the start
pub start-led : (m : Model) → AllLed m (start_all m)
start-led m = λ a b x y. record { left = a; right = b; both = start (at-start x) (at-start y); leftward = itself; rightward = itself }
  where
    at-start : {b : ℕ} → On m (start_all m) b → AtStart m b
    at-start x = record { index = x.index; inside = x.inside; enabled = rw (start-at m x.index) at x.enabled }

pub joined : {m : Model} {b d e : ℕ} → LeadsOn m b d → LeadsOn m d e → LeadsOn m b e
joined l itself = l
joined l (onward k i h z) = onward (joined l k) i h z

-- ---- a step from s to t by a, part by part, where every part of s is reached
module _ (m : Model) (single : (i : ℕ) → i < length m → Single (comp_at m i)) (s t : List ℕ) (a : ℕ)
    (step : (i : ℕ) → i < length m → (C : ℕ) × (R : ℕ) × Go (part m i) a (get_or s i 0) C R (get_or t i 0))
    (reached : (i : ℕ) → i < length m → Reachable (part m i) (get_or s i 0)) where
  -- where the action is urgent: b was enabled before, or is triggered by a
  module _ (urgent : (i : ℕ) → i < length m → a ∈ alphabet (part m i) → a ∈ (part m i).urgent) where
    was : {b i C R x y : ℕ} → (h : i < length m) → Reachable (part m i) x → Go (part m i) a x C R y → Enabled (part m i) y b
        → Enabled (part m i) x b ⊎ Triggers (part m i) a b
    was h ok (sits-out k p) e = inl e
    was {b} {i} {C} {R} {x} {y} h ok (goes k r) e =
        ⊎_elim
        inl
        (λ n. inr (record { from = x; to = y; guard = C; resets = R; reached = ok; urgent = urgent i h k; row = r; enabled = e; new = λ d z. n z }))
        (enabled-or-not (comp_at m i) (single i h) x b e.row.output e.row.urgent)

    -- what was enabled before and leads on to b
    record Came (b : ℕ) : Type 0 where
      by : ℕ
      before : On m s by
      then : LeadsOn m by b

    came : On m s a → {b : ℕ} → On m t b → Came b
    came on {b} x =
        let i = x.index in
        let h = x.inside in
        ⊎_elim
        (λ e. record { by = b; before = record { index = i; inside = h; enabled = e }; then = itself })
        (λ z. record { by = a; before = on; then = onward itself i h z })
        (was h (reached i h) (step i h).2 x.enabled)

    pub urgent-led : AllLed m s → On m s a → AllLed m t
    urgent-led kn on = λ b d x y.
        let p = came on x in
        let q = came on y in
        let l = kn p.by q.by p.before q.before in
        record { left = l.left; right = l.right; both = l.both; leftward = joined l.leftward p.then; rightward = joined l.rightward q.then }

  -- where it is not, and every part is stable: what is enabled was woken by it
  module _ (calm : (i : ℕ) → i < length m → a ∈ (part m i).urgent → ⊥) (stable : (i : ℕ) → i < length m → Stable (part m i) (get_or s i 0)) where
    woken : {i C R b x y : ℕ} → i < length m → Reachable (part m i) x → Stable (part m i) x → Go (part m i) a x C R y → Enabled (part m i) y b
        → Woken (part m i) a y
    woken h ok st (sits-out k p) e = absurd (st.rests e.row)
    woken {i} {C} {R} {x = x} h ok st (goes k r) e = record { from = x; guard = C; resets = R; reached = ok; stable = st; calm = calm i h; row = r }

    wake : {b : ℕ} (x : On m t b) → Woken (part m x.index) a (get_or t x.index 0)
    wake x =
        let i = x.index in
        let h = x.inside in
        woken h (reached i h) (stable i h) (step i h).2 x.enabled

    pub calm-led : AllLed m t
    calm-led = λ b d x y. record { left = b; right = d; both = both x y; leftward = itself; rightward = itself }
      where
        both : {b d : ℕ} → On m t b → On m t d → Together m b d
        both {d = d} x y = elim (ℕ_discrete y.index x.index) [
          | yes p ↦ in_one_set x.index x.inside (wake x) x.enabled (rw p at y.enabled)
          | no p ↦ in_two_parts x.index y.index x.inside y.inside (λ q. p (sym q)) (wake x) (wake y) x.enabled y.enabled
        ]
