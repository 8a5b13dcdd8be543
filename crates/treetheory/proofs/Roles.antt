-- A module's actions by their roles: where the moves of the roles keep colours, the component does.
use mathlib.Core.Path.{◌≡◌, refl, sym, ◌∙◌, ap}
use mathlib.Core.Logic.{◌≢◌}
use mathlib.Core.Option.{Option, none, some, some_inj}
use mathlib.Core.Bool.{true, false, false≢true, true≢false}
use Prim.Native.Nat.{ℕ, ◌<◌}
use native.Mathlib.Decide.{ℕ_discrete}
use Rattle.laws.specs.Search.{map_some}
use Rattle.laws.proofs.SearchLaws.{no-some}
use Rattle.laws.proofs.TestLaws.{not_so}
use Rattle.answer.specs.Limits.{max_actions}
use Rattle.model.specs.Text.{Kind, in-kind, out-kind, uin-kind, uout-kind}
use Rattle.laws.specs.Sets.{◌∈◌}
use Rattle.model.specs.Model.{guard_set, urgents}
use Rattle.iosa.specs.Automaton.{Leads, auto_of, MeetsAt}
use Rattle.iosa.specs.Parts.{Go, goes, sits-out}
use Rattle.triggering.specs.Triggering.{Enabled, Triggers, Woken}
use Rattle.trees.specs.Module.{Move, Module, is_uout, comp_by}
use Rattle.trees.specs.Tree.{Element, Tree, Signal, Meaning, meaning_of}
use Rattle.trees.specs.Modules.{of_meaning, bound}
use Rattle.trees.proofs.Modules.{lead-is-made, made-is-lead, own-action}
use Rattle.trees.proofs.Numbers.{Ascends, one_number}
use Rattle.trees.proofs.Owners.{is_urgent, is_output, urgent_signal, Has}
use Rattle.trees.proofs.Accepted.{in-outputs, in-urgents, urgent-in}
use Rattle.treetheory.proofs.Colours.{signal_at, signal-at, Wakes, Peaceful, peaceful-urgent, Woke, Tame, Clear}
use Rattle.treetheory.proofs.Owned.{output-in}

-- ---- what the moves of the roles have to meet
module _ {A : Type 0} (g : Meaning → Option A) (kind_of : A → Kind) (n : ℕ) (to : ℕ → A → Option Move) where
  -- after v by q and after w by p to one state
  pub record Meet (p q : A) (v w : Move) : Type 0 where
    pub left : Move
    pub right : Move
    pub goes_left : to v.target q ≡ some left
    pub goes-right : to w.target p ≡ some right
    pub guard-left : left.guard ≡ 0
    pub guard-right : right.guard ≡ 0
    pub resets-left : left.resets ≡ w.resets
    pub resets-right : right.resets ≡ v.resets
    pub target : left.target ≡ right.target

  -- from x to z by an action that means y: a move of its role, or rest where it has none
  pub data Moved (y : Meaning) (x z : ℕ) : Type 0 where
    by-role : {p : A} {v : Move} → g y ≡ some p → x < n → to x p ≡ some v → v.target ≡ z → Moved y x z
    by-none : g y ≡ none → x ≡ z → Moved y x z

  pub record TameRoles : Type 0 where
    -- an urgent role is that of one signal
    pub single : {x y : Meaning} {p : A} → g x ≡ some p → g y ≡ some p → is_urgent (kind_of p) ≡ true → (x.of ≡ y.of) × (x.signal ≡ y.signal)
    pub quiet : {q : A} {v : Move} → is_uout (some (kind_of q)) ≡ true → to 0 q ≡ some v → ⊥
    pub keeps : {x y : Meaning} {p q : A} {s : ℕ} {v w : Move} → s < n → g x ≡ some p → g y ≡ some q → is_urgent (kind_of p) ≡ true
        → is_uout (some (kind_of q)) ≡ true
        → to s p ≡ some v → to v.target q ≡ some w → to s q ≡ none → x.signal ≡ y.signal
    pub wakes : {x y : Meaning} {p q : A} {s : ℕ} {v w : Move} → s < n → g x ≡ some p → g y ≡ some q → is_urgent (kind_of p) ≡ false
        → is_uout (some (kind_of q)) ≡ true
        → to s p ≡ some v → to v.target q ≡ some w → to s q ≡ none → Wakes x.signal y.signal
    pub meets : {x y : Meaning} {p q : A} {s : ℕ} {v w : Move} → s < n → g x ≡ some p → g y ≡ some q → is_urgent (kind_of p) ≡ true → is_urgent (kind_of q) ≡ true
        → p ≢ q
        → Peaceful x.signal y.signal → to s p ≡ some v → to s q ≡ some w → Meet p q v w

pub map-some : {A B : Type 0} (k : A → B) (o : Option A) {y : B} → map_some k o ≡ some y → (x : A) × (o ≡ some x) × (y ≡ k x)
map-some k none e = absurd (no-some refl e)
map-some k (some x) e = (x, refl, sym (some_inj.0 e))

pub map-none : {A B : Type 0} (k : A → B) (o : Option A) → map_some k o ≡ none → o ≡ none
map-none k none e = refl
map-none k (some x) e = absurd (no-some e refl)

urgent-output : (k : Kind) → is_output k ≡ true → is_urgent k ≡ true → is_uout (some k) ≡ true
urgent-output in-kind o u = absurd (false≢true o)
urgent-output out-kind o u = absurd (false≢true u)
urgent-output uin-kind o u = absurd (false≢true o)
urgent-output uout-kind o u = refl

uout-both : (k : Kind) → is_uout (some k) ≡ true → (is_output k ≡ true) × (is_urgent k ≡ true)
uout-both in-kind o = absurd (false≢true o)
uout-both out-kind o = absurd (false≢true o)
uout-both uin-kind o = absurd (false≢true o)
uout-both uout-kind o = (refl, refl)

-- ---- so of the module's component
module _ (t : Tree) (asc : Ascends t) (e : Element) (m : Module) {A : Type 0} (g : Meaning → Option A) (kind_of : A → Kind) (to : ℕ → A → Option Move)
    (kinds : (a : ℕ) → m.kind a ≡ map_some kind_of (of_meaning g (meaning_of t a)))
    (moves : (s a : ℕ) → m.move s a ≡ bound (of_meaning g (meaning_of t a)) (to s))
    (parts : (a : ℕ) (k : Kind) → m.kind a ≡ some k → Has t e a k)
    (below : (s a : ℕ) (v : Move) → s < m.states → m.move s a ≡ some v → v.target < m.states) where
  record Role (a : ℕ) : Type 0 where
    x : Meaning
    p : A
    means : meaning_of t a ≡ some x
    role : g x ≡ some p

  role-of : (a : ℕ) (k : Kind) → m.kind a ≡ some k → Role a
  role-of a k h = go (meaning_of t a) refl (sym (kinds a) ∙ h)
    where
      at-role : (x : Meaning) → meaning_of t a ≡ some x → (o : Option A) → g x ≡ o → map_some kind_of o ≡ some k → Role a
      at-role x w none q h = absurd (no-some refl h)
      at-role x w (some p) q h = record { x = x; p = p; means = w; role = q }

      go : (o : Option Meaning) → meaning_of t a ≡ o → map_some kind_of (of_meaning g o) ≡ some k → Role a
      go none w h = absurd (no-some refl h)
      go (some x) w h = at-role x w (g x) refl h

  kind-is : {a : ℕ} (y : Role a) → m.kind a ≡ some (kind_of y.p)
  kind-is {a} y = kinds a ∙ ap (λ o. map_some kind_of (of_meaning g o)) y.means ∙ ap (map_some kind_of) y.role

  move-is : {a : ℕ} (y : Role a) (s : ℕ) → m.move s a ≡ to s y.p
  move-is {a} y s = moves s a ∙ ap (λ o. bound (of_meaning g o) (to s)) y.means ∙ ap (λ o. bound o (to s)) y.role

  same_kind : {a : ℕ} (y : Role a) {k : Kind} → m.kind a ≡ some k → k ≡ kind_of y.p
  same_kind y h = some_inj.0 (sym h ∙ kind-is y)

  urgency : {a : ℕ} (y : Role a) → is_urgent (kind_of y.p) ≡ urgent_signal y.x.signal
  urgency {a} y =
      let h = parts a (kind_of y.p) (kind-is y) in
      let z : h.x ≡ y.x = some_inj.0 (sym h.means ∙ y.means) in
      h.part.urgency ∙ ap (λ (x : Meaning). urgent_signal x.signal) z

  -- ---- rows
  record Step (s a R u : ℕ) : Type 0 where
    by : Role a
    v : Move
    s-below : s < m.states
    a-below : a < max_actions
    leads : to s by.p ≡ some v
    resets : v.resets ≡ R
    target : v.target ≡ u

  step_of : {s C a R u : ℕ} → Leads (comp_by m) s C a R u → Step s a R u
  step_of {s} {C} {a} l =
      let d = lead-is-made m l in
      let y = role-of a d.kind d.is-kind in
      record { by = y; v = d.move; s-below = d.s-below; a-below = d.a-below; leads = sym (move-is y s) ∙ d.is_move; resets = d.resets; target = d.target }

  row_of : {s a : ℕ} (y : Role a) {v : Move} → s < m.states → a < max_actions → to s y.p ≡ some v
      → Leads (comp_by m) s (guard_set v.guard) a v.resets v.target
  row_of {s} {a} y {v} hs ha h = made-is-lead m s a (kind_of y.p) v hs ha (kind-is y) (move-is y s ∙ h)

  is-urgent : {a : ℕ} (y : Role a) → a ∈ urgents (comp_by m) → is_urgent (kind_of y.p) ≡ true
  is-urgent {a} y h = let k = in-urgents m a h in ap is_urgent (sym (same_kind y k.1)) ∙ k.2

  is-calm : {a : ℕ} (y : Role a) → a < max_actions → (a ∈ urgents (comp_by m) → ⊥) → is_urgent (kind_of y.p) ≡ false
  is-calm {a} y ha not-one = not_so (is_urgent (kind_of y.p)) (λ h. not-one (urgent-in m a (kind_of y.p) ha (kind-is y) h))

  is-uout : {s b : ℕ} (y : Role b) → Enabled (auto_of (comp_by m)) s b → is_uout (some (kind_of y.p)) ≡ true
  is-uout {s} {b} y n =
      let k = in-outputs m b n.row.output in
      urgent-output (kind_of y.p) (ap is_output (sym (same_kind y k.1)) ∙ k.2) (is-urgent y n.row.urgent)

  -- what is not enabled has no move
  before : {s u b : ℕ} (y : Role b) → Enabled (auto_of (comp_by m)) u b → s < m.states → b < max_actions → (Enabled (auto_of (comp_by m)) s b → ⊥)
      → to s y.p ≡ none
  before {s} {u} {b} y n hs hb not_on = go (to s y.p) refl
    where
      go : (o : Option Move) → to s y.p ≡ o → to s y.p ≡ none
      go none h = h
      go (some v) h = absurd (not_on (record {
        guard = _;
        resets = _;
        target = _;
        row = record { output = n.row.output; urgent = n.row.urgent; row = row_of y hs hb h };
      }))

  -- after a row, an enabled action's move
  next : {s a R u b Q w : ℕ} (d : Step s a R u) (q : Step u b Q w) → to d.v.target q.by.p ≡ some q.v
  next d q = ap (λ z. to z q.by.p) d.target ∙ q.leads

  -- ---- a step of the component, or its rest
  pub go-moved : {a x C R z : ℕ} {y : Meaning} → meaning_of t a ≡ some y → a < max_actions → Go (auto_of (comp_by m)) a x C R z
      → Moved g kind_of m.states to y x z
  go-moved {y = y} means ha (goes k l) =
      let d = step_of l in
      let w : d.by.x ≡ y = some_inj.0 (sym d.by.means ∙ means) in
      by-role (rw w at d.by.role) d.s-below d.leads d.target
  go-moved {a} {y = y} means ha (sits-out k o) = by-none (go (g y) refl) refl
    where
      go : (o : Option A) → g y ≡ o → g y ≡ none
      go none h = h
      go (some p) h = absurd (true≢false (sym (own-action m a (kind_of p) ha (kind-is (record { x = y; p = p; means = means; role = h }))) ∙ k))

  -- what is not at peace with c is not enabled
  pub clear_none : {b x : ℕ} {z : Meaning} {p : A} {c : Signal} → meaning_of t b ≡ some z → g z ≡ some p → is_uout (some (kind_of p)) ≡ true → x < m.states
      → b < max_actions
      → Clear t (auto_of (comp_by m)) x c → (Peaceful c z.signal → ⊥) → to x p ≡ none
  clear_none {b} {x} {z} {p} {c} means role o hx hb clear no-peace = go (to x p) refl
    where
      go : (w : Option Move) → to x p ≡ w → to x p ≡ none
      go none h = h
      go (some v) h =
          let y : Role b = record { x = z; p = p; means = means; role = role } in
          let k = uout-both (kind_of p) o in
          let q = clear.peace (record {
            guard = _;
            resets = _;
            target = _;
            row =
                record {
                  output = output-in m b (kind_of p) hb (kind-is y) k.0;
                  urgent = urgent-in m b (kind_of p) hb (kind-is y) k.1;
                  row = row_of y hx hb h;
                };
          }) in
          let d : q.0 ≡ z.signal = some_inj.0 (sym q.1 ∙ signal-at t b means) in
          absurd (no-peace (rw d at q.2))

  module _ (roles : TameRoles g kind_of m.states to) where
    keeping : {a b : ℕ} → Triggers (auto_of (comp_by m)) a b → signal_at t a ≡ signal_at t b
    keeping {a} {b} x = elim (ℕ_discrete a b) [
      | yes w ↦ ap (signal_at t) w
      | no ne ↦ (
          let d = step_of x.row in
          let q = step_of x.enabled.row.row in
          let same = roles.keeps d.s-below d.by.role q.by.role (is-urgent d.by x.urgent) (is-uout q.by x.enabled) d.leads (next d q)
          (before q.by x.enabled d.s-below q.a-below (x.new ne)) in
          signal-at t a d.by.means ∙ ap some same ∙ sym (signal-at t b q.by.means))
    ]

    waking : {e b s : ℕ} → Woken (auto_of (comp_by m)) e s → Enabled (auto_of (comp_by m)) s b → Woke t e b
    waking {e} {b} x n =
        let d = step_of x.row in
        let q = step_of n.row.row in
        record {
          cause = d.by.x.signal;
          effect = q.by.x.signal;
          of-cause = signal-at t e d.by.means;
          of-effect = signal-at t b q.by.means;
          wakes = roles.wakes d.s-below d.by.role q.by.role (is-calm d.by d.a-below x.calm) (is-uout q.by n) d.leads (next d q)
              (before q.by n d.s-below q.a-below (λ o. x.stable.rests o.row));
        }

    -- different actions have different roles
    apart : {a b : ℕ} (y : Role a) (z : Role b) → a ≢ b → is_urgent (kind_of y.p) ≡ true → y.p ≢ z.p
    apart {a} {b} y z ne h w =
        let s = roles.single y.role (z.role ∙ ap some (sym w)) h in
        ne (one_number t asc a b y.means z.means s.0 s.1)

    to_one : {a b R Q u w : ℕ} {s : ℕ} (d : Step s a R u) (q : Step s b Q w) → Meet g kind_of m.states to d.by.p q.by.p d.v q.v
        → (z : ℕ) × Leads (comp_by m) u 0 b Q z × Leads (comp_by m) w 0 a R z
    to_one {a} {b} {R} {Q} {u} {w} {s} d q x =
        let hu = below s a d.v d.s-below (move-is d.by s ∙ d.leads) in
        let hw = below s b q.v q.s-below (move-is q.by s ∙ q.leads) in
        let l = row_of q.by hu q.a-below x.goes_left in
        let n = row_of d.by hw d.a-below x.goes-right in (
          x.left.target,
          rowed d.target (ap guard_set x.guard-left) (x.resets-left ∙ q.resets) refl l,
          rowed q.target (ap guard_set x.guard-right) (x.resets-right ∙ d.resets) (sym x.target) n,
        )
      where
        rowed : {c i j k l : ℕ} {C D K L : ℕ} → i ≡ j → C ≡ D → K ≡ L → k ≡ l → Leads (comp_by m) i C c K k → Leads (comp_by m) j D c L l
        rowed p q r s x = rw (← p, ← q, ← r, ← s) x

    meeting : {a b : ℕ} {c d : Signal} (s : ℕ) → a ≢ b → signal_at t a ≡ some c → signal_at t b ≡ some d → Peaceful c d → MeetsAt (auto_of (comp_by m)) s a b
    meeting {a} {b} {c} {d} s ne ea eb pe = record {
      meet = λ l n.
          let x = step_of l in
          let y = step_of n in
          let p : c ≡ x.by.x.signal = some_inj.0 (sym ea ∙ signal-at t a x.by.means) in
          let q : d ≡ y.by.x.signal = some_inj.0 (sym eb ∙ signal-at t b y.by.means) in
          let z = peaceful-urgent pe in
          let hx = urgency x.by ∙ ap urgent_signal (sym p) ∙ z.0 in
          let hy = urgency y.by ∙ ap urgent_signal (sym q) ∙ z.1 in
          to_one x y (roles.meets x.s-below x.by.role y.by.role hx hy (apart x.by y.by ne hx) (rw (p, q) at pe) x.leads y.leads);
    }

    starting : {b : ℕ} → Enabled (auto_of (comp_by m)) (comp_by m).start b → ⊥
    unfolding comp_by
    starting n = let q = step_of n.row.row in roles.quiet (is-uout q.by n) q.leads

    pub tame-module : Tame t (auto_of (comp_by m))
    tame-module = record { quiet = starting; keeps = keeping; wakes = waking; meets = meeting }
