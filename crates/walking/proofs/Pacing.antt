-- One step of a path over a table: what the tests decide, and where the step leads.
use mathlib.Core.Path.{◌≡◌, refl, sym, ◌∙◌, ap, subst}
use mathlib.Core.Logic.{inl, inr, by_cases}
use mathlib.Core.Bool.{Bool, true, false, ◌&&◌, true≢false}
use mathlib.Core.Option.{Option, none, some, some_inj}
use mathlib.Core.List.{List, [], ◌∷◌}
use Prim.Native.Nat.{ℕ, zero, suc, ◌-◌, ◌≤◌, ◌<◌}
use native.Mathlib.Decide.{dec_lt}
use native.Mathlib.Omega.{arith}
use lib.Dec.{eqb}
use Rattle.std.specs.Prelude as Code
use Rattle.std.specs.Prelude.{Some, None}
use borrow.Author.Tests.{eqb-true, ne_eqb}
use Rattle.laws.specs.Sets.{◌∈◌}
use Rattle.laws.proofs.TestLaws.{and-true, and-not-both}
use Rattle.answer.specs.Limits.{max_actions, max_clocks}
use Rattle.answer.specs.State.{with_parts}
use Rattle.answer.specs.declared.State.{State}
use Rattle.model.specs.Model.{Row, Model, outputs}
use Rattle.model.specs.WellFormed.{WellComp, WellFormed}
use Rattle.iosa.specs.Automaton.{auto_of, Conditions, Conforming, Joinable}
use Rattle.iosa.specs.Product.{Within}
use Rattle.iosa.specs.Step.{urgent_step, is_stable}
use Rattle.timing.specs.Timed.{clock_row_of, fire_all}
use Rattle.iosa.proofs.Acceptance.Rows.{output-below}
use Rattle.iosa.proofs.Settling.Each.{All, Any, each_all}
use Rattle.iosa.proofs.Settling.ProductOfMany.{joinable-pairwise, wells}
use Rattle.timing.proofs.Timing.Enabling.{enables-clock, clock-declared, declared-below}
use Rattle.timing.proofs.Timing.Fire.{Shoots, enabling-shoots}
use Rattle.moves.specs.Moves.{after_by}
use Rattle.firing.specs.Fired.{action_or, fired_one}
use Rattle.firing.proofs.Shoots.{fires-as-all}
use Rattle.paths.specs.Path.{after_of, only_if, by_row, calm_step, path_step}
use Rattle.paths.proofs.Stepping.{row-enables, calm-some, step-there}
use Rattle.walking.specs.Walks.{has_action, waits_for, Trod}

owner-low : (m : Model) → All WellComp m → (a x : ℕ) → Any (λ c. (a ∈ outputs c) × (x ∈ c.clocks)) m → a < max_actions
owner-low [] w a x h = absurd h
owner-low (c ∷ cs) w a x (inl h) = output-below c w.0 a h.0
owner-low (c ∷ cs) w a x (inr h) = owner-low cs w.1 a x h

module _ (m : Model) (well : WellFormed m) (good : Conforming m) (fit : Joinable m) (s : List ℕ) (w : Within m s) (a x : ℕ) where
  -- ---- what a row with a clock that is found tells
  module _ (r : Row) (e : clock_row_of m s x ≡ some r) where
    shoots : Shoots m s x r
    shoots =
        let p = enabling-shoots m (wells m well) (each_all (λ d. Conditions (auto_of d)) m good.each) (joinable-pairwise m fit) s w x
        (row-enables m s x r e) in
        subst (Shoots m s x) (some_inj.0 (sym p.1.row ∙ e)) p.1

    row-action : r.action < max_actions
    row-action = owner-low m (wells m well) r.action x shoots.owner

    row-clock : x < max_clocks
    row-clock = declared-below m (wells m well) x (clock-declared m x (enables-clock m (wells m well) s x (row-enables m s x r e)))

  -- ---- the tests
  pub unstable-waits : is_stable m s ≡ false → waits_for m s a x ≡ false
  unfolding waits_for
  unstable-waits e = ap (λ b. b && has_action a (clock_row_of m s x)) e

  no-row-waits : ((r : Row) → clock_row_of m s x ≡ some r → r.action ≡ a → ⊥) → waits_for m s a x ≡ false
  unfolding waits_for
  no-row-waits never = and-not-both (is_stable m s) (has_action a (clock_row_of m s x)) (λ p q. go (clock_row_of m s x) refl q)
    where
      go : (o : Option Row) → clock_row_of m s x ≡ o → has_action a o ≡ true → ⊥
      go none f q = true≢false (sym q)
      go (some r) f q = never r f (eqb-true r.action a q)

  pub no-clock-waits : max_clocks ≤ x → waits_for m s a x ≡ false
  no-clock-waits h = no-row-waits (λ r e q. let k = row-clock r e in omega arith)

  pub no-action-waits : max_actions ≤ a → waits_for m s a x ≡ false
  no-action-waits h = no-row-waits (λ r e q. let k = row-action r e in omega arith)

  pub waits-clock : waits_for m s a x ≡ true → x < max_clocks
  waits-clock e = by_cases (dec_lt x max_clocks) (λ h. h) (λ h. absurd (true≢false (sym e ∙ no-clock-waits (omega arith))))

  pub action-waits : is_stable m s ≡ true → a < max_actions → (b : ℕ) → b ≡ action_or (clock_row_of m s x) → eqb b a ≡ waits_for m s a x
  unfolding waits_for
  action-waits st h b e = go (clock_row_of m s x) e ∙ ap (λ t. t && has_action a (clock_row_of m s x)) (sym st)
    where
      go : (o : Option Row) → b ≡ action_or o → eqb b a ≡ has_action a o
      go none f = ne_eqb b a (λ q. omega arith)
      go (some r) f = ap (λ n. eqb n a) f

  -- ---- where a step with a clock leads
  pub calm-taken : waits_for m s a x ≡ true → calm_step m s a x ≡ some (after_by (fired_one x a) m s)
  unfolding waits_for
  calm-taken e = let p = and-true (is_stable m s) (has_action a (clock_row_of m s x)) e in go (clock_row_of m s x) refl p.0 p.1
    where
      go : (o : Option Row) → clock_row_of m s x ≡ o → is_stable m s ≡ true → has_action a o ≡ true → calm_step m s a x ≡ some (after_by (fired_one x a) m s)
      go none f st q = absurd (true≢false (sym q))
      go (some r) f st q =
          let k = shoots r f in
          let act = eqb-true r.action a q in
          let fires : fire_all m s x a ≡ some k.all.gone = ap (fire_all m s x) (sym act) ∙ k.all.fires in
          calm-some m s a x r k.all.gone st f act fires ∙ ap (λ g. some g.after) (fires-as-all m s x a k.all.gone fires)

  pub calm-left : waits_for m s a x ≡ false → calm_step m s a x ≡ none
  unfolding waits_for calm_step
  calm-left e = go (is_stable m s) (clock_row_of m s x) e
    where
      go : (b : Bool) (o : Option Row) → (b && has_action a o) ≡ false → only_if b (by_row (λ r. only_if (eqb r.action a) (after_of (fire_all m s x a))) o) ≡ none
      go false o e = refl
      go true none e = refl
      go true (some r) e = ap (λ b. only_if b (after_of (fire_all m s x a))) e

-- ---- by the guard
pub step-urgent : (m : Model) (s : List ℕ) (a g : ℕ) → g ≡ 0 → after_of (urgent_step m s a) ≡ path_step m s a g
unfolding path_step
step-urgent m s a g e = ap (path_step m s a) (sym e)

pub step-calm : (m : Model) (s : List ℕ) (a g : ℕ) → (g ≡ 0 → ⊥) → calm_step m s a (g - 1) ≡ path_step m s a g
unfolding path_step
step-calm m s a g n = go g n
  where
    go : (g : ℕ) → (g ≡ 0 → ⊥) → calm_step m s a (g - 1) ≡ path_step m s a g
    go zero n = absurd (n refl)
    go (suc k) n = ap (calm_step m s a) (omega arith)

-- the state after a step is in range again
pub step-within : (m : Model) → WellFormed m → Conforming m → Joinable m → (s : List ℕ) → Within m s → (a g : ℕ) (u : List ℕ)
    → path_step m s a g ≡ some u → Within m u
step-within [] well good fit s w a g u e = absurd (omega (arith, well.some))
step-within (c ∷ cs) well good fit s w a g u e = (step-there c cs well good fit s w a g u e).1

-- ---- what the code's step says of the step
pub trod-some : (o : Option (List ℕ)) (s : List ℕ) → o ≡ some s → (x y : State) → y ≡ with_parts x s → Trod o x (Some y)
trod-some o s e x y f = subst (λ (v : Option (List ℕ)). Trod v x (Some y)) (sym e) (ap (λ z. Some z) f)

pub trod-none : (o : Option (List ℕ)) → o ≡ none → (x : State) → Trod o x None
trod-none o e x = subst (λ (v : Option (List ℕ)). Trod v x None) (sym e) refl

pub trod-as : (o p : Option (List ℕ)) → o ≡ p → (x : State) (r : Code.Option State) → Trod o x r → Trod p x r
trod-as o p e x r h = subst (λ (v : Option (List ℕ)). Trod v x r) e h

pub trod-on : (o : Option (List ℕ)) (x y : State) → Trod o x (Some y) → (s : List ℕ) × (o ≡ some s) × (y ≡ with_parts x s)
trod-on none x y h = let z : ◌≡◌ {A = ℕ} 0 1 = cc in absurd (omega arith)
trod-on (some s) x y h = let e : y ≡ with_parts x s = cc in (s, refl, e)

pub trod-no-further : (o : Option (List ℕ)) (x : State) → Trod o x None → o ≡ none
trod-no-further none x h = refl
trod-no-further (some s) x h = let z : ◌≡◌ {A = ℕ} 0 1 = cc in absurd (omega arith)
