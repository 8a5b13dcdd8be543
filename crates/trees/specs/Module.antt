-- A module (000, section 5.3) as a component: what each action is to it, and where it leads from each state.
use Rattle.std.specs.Prelude.{◌≡◌, Bool, true, false, cond, List, [], ◌∷◌, ℕ, zero, suc, ◌^◌, ◌≤◌, ◌<◌}
use Rattle.std.proofs.Math.Option.{Option, none, some}
use Rattle.laws.specs.Sets.{◌∪◌, ◌∖◌, only, ◌∈◌, ◌⊆◌}
use Rattle.laws.specs.Fold.{spread}
use Rattle.answer.specs.Limits.{max_actions, max_states, max_clocks}
use Rattle.model.specs.Text.{Kind, in-kind, out-kind, uin-kind, uout-kind}
use Rattle.model.specs.Model.{Row, Comp, guard_set}

-- where an action leads: guard is 0 for `-` and x + 1 for clock x
pub record Move : Type 0 where
  pub guard : ℕ
  pub resets : ℕ
  pub target : ℕ

-- at most one row for each state and action; the start is state 0
pub record Module : Type 0 where
  pub states : ℕ
  pub clocks : ℕ
  pub started : ℕ
  pub kind : ℕ → Option Kind
  pub move : ℕ → ℕ → Option Move

-- the set of the numbers below n with the test f
unfoldable pub those : (ℕ → Bool) → ℕ → ℕ
those f zero = 0
those f (suc n) = cond (f n) (only n) 0 ∪ those f n

abbrev pub is_in : Option Kind → Bool
is_in none = false
is_in (some in-kind) = true
is_in (some out-kind) = false
is_in (some uin-kind) = false
is_in (some uout-kind) = false

abbrev pub is_out : Option Kind → Bool
is_out none = false
is_out (some in-kind) = false
is_out (some out-kind) = true
is_out (some uin-kind) = false
is_out (some uout-kind) = false

abbrev pub is_uin : Option Kind → Bool
is_uin none = false
is_uin (some in-kind) = false
is_uin (some out-kind) = false
is_uin (some uin-kind) = true
is_uin (some uout-kind) = false

abbrev pub is_uout : Option Kind → Bool
is_uout none = false
is_uout (some in-kind) = false
is_uout (some out-kind) = false
is_uout (some uin-kind) = false
is_uout (some uout-kind) = true

-- the row by which action a leaves s, if there is one
abbrev pub rows_for : Option Kind → Option Move → ℕ → ℕ → List Row
rows_for none o s a = []
rows_for (some k) none s a = []
rows_for (some k) (some v) s a = record { from = s; guard = v.guard; action = a; resets = v.resets; target = v.target } ∷ []

unfoldable pub rows_of : Module → ℕ → ℕ → List Row
rows_of m s a = rows_for (m.kind a) (m.move s a) s a

unfoldable pub all_rows : Module → List Row
all_rows m = spread (λ s. spread (rows_of m s) 0 max_actions) 0 m.states

unfoldable pub comp_by : Module → Comp
comp_by m = record {
  states = m.states;
  start = 0;
  ins = those (λ a. is_in (m.kind a)) max_actions;
  outs = those (λ a. is_out (m.kind a)) max_actions;
  uins = those (λ a. is_uin (m.kind a)) max_actions;
  uouts = those (λ a. is_uout (m.kind a)) max_actions;
  clocks = m.clocks;
  started = m.started;
  rows = all_rows m;
}

-- what a module has to meet
pub record Sound (m : Module) : Type 0 where
  pub some-state : 1 ≤ m.states
  pub few : m.states ≤ max_states
  pub clocks-below : m.clocks < 2 ^ max_clocks
  pub started-own : m.started ⊆ m.clocks
  pub target_below : {s a : ℕ} {v : Move} → s < m.states → m.move s a ≡ some v → v.target < m.states
  pub resets-own : {s a : ℕ} {v : Move} → s < m.states → m.move s a ≡ some v → v.resets ⊆ m.clocks
  -- (a), (b)
  pub plain : {s a : ℕ} {v : Move} → s < m.states → is_out (m.kind a) ≡ false → m.move s a ≡ some v → v.guard ≡ 0
  pub clocked : {s a : ℕ} {v : Move} → s < m.states → is_out (m.kind a) ≡ true → m.move s a ≡ some v → (x : ℕ) × (v.guard ≡ suc x) × (x ∈ m.clocks)
  -- (c)
  pub one-clock : {s a b x : ℕ} {v w : Move} → s < m.states → m.move s a ≡ some v → m.move s b ≡ some w → v.guard ≡ suc x → w.guard ≡ suc x → a ≡ b
  -- (d)
  pub hears : {s a : ℕ} → s < m.states → is_in (m.kind a) ≡ true → (v : Move) × (m.move s a ≡ some v)
  pub hears-urgent : {s a : ℕ} → s < m.states → is_uin (m.kind a) ≡ true → (v : Move) × (m.move s a ≡ some v)
  -- (f): in every state, stable or not, the clocks that it waits for will do
  pub waits : ℕ → ℕ
  pub own : (s : ℕ) → waits s ⊆ m.clocks
  pub first : waits 0 ⊆ m.started
  pub waited : {s a x : ℕ} {v : Move} → s < m.states → m.move s a ≡ some v → v.guard ≡ suc x → x ∈ waits s
  pub no_more : {s x : ℕ} → s < m.states → x ∈ waits s → (a : ℕ) × (v : Move) × (a < max_actions) × (is_out (m.kind a) ≡ true) × (m.move s a ≡ some v) × (v.guard ≡ suc x)
  pub kept : {s a : ℕ} {v : Move} → s < m.states → m.move s a ≡ some v → waits v.target ⊆ waits s ∖ guard_set v.guard ∪ v.resets
