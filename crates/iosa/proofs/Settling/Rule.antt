-- Settling by our rule, over any step and any predicate of states that steps keep: what the lowest-numbered action is, what one run did, and how
-- that compares with a series that stops.
use mathlib.Core.Path.{◌≡◌, refl, sym, ◌∙◌, ap}
use mathlib.Core.Bool.{Bool, true, false, true≢false, false≢true}
use mathlib.Core.Option.{Option, none, some, some_inj}
use mathlib.Core.List.{List, [], ◌∷◌}
use Prim.Native.Nat.{ℕ, zero, suc, ◌≤◌, ◌<◌}
use native.Mathlib.Omega.{arith}
use lib.ListN.{length}
use Rattle.laws.specs.Sets.{◌∪◌}
use Rattle.laws.proofs.SearchLaws.{no-some, seek-some, seek-none}
use Rattle.answer.specs.Limits.{max_actions}
use Rattle.iosa.specs.Step.{Went, named, lowest}
use Rattle.iosa.specs.Stepped.{Gone}
use Rattle.iosa.specs.Settle.{resting, after, settle}
use Rattle.iosa.specs.Orders.{Settling}
use Rattle.iosa.proofs.Settling.Descent.{Run, stop, then, Stuck, Keeps, Diamond, none-is-longer, all-that-stop-are-alike}

module _ {S : Type 0} where
  named_some : (a : ℕ) (o : Option (Gone S)) (w : Went S) → named a o ≡ some w → (a ≡ w.action) × (o ≡ some w.gone)
  named_some a none w e = absurd (no-some refl e)
  named_some a (some g) w e = let p = some_inj.0 e in (ap (λ v. v.action) p, ap (λ v. some v.gone) p)

  named_none : (a : ℕ) (o : Option (Gone S)) → named a o ≡ none → o ≡ none
  named_none a none e = refl
  named_none a (some g) e = absurd (no-some refl (sym e))

module _ {S : Type 0} (step : S → ℕ → Option (Gone S)) where
  -- an enabled action is one of the model's
  abbrev pub Bounded : Type 0
  Bounded = (s : S) (a : ℕ) (g : Gone S) → step s a ≡ some g → a < max_actions

  pub lowest-none : (s : S) → Bounded → lowest step s ≡ none → Stuck step s
  unfolding lowest
  lowest-none s bd e a = go (step s a) refl
    where
      go : (o : Option (Gone S)) → step s a ≡ o → o ≡ none
      go none h = refl
      go (some g) h = sym h ∙ named_none a (step s a) (seek-none (λ b. named b (step s b)) 0 max_actions e a (omega arith) (bd s a g h))

  -- "Settling takes the lowest-numbered one": it is enabled, and no lower one is
  pub lowest-some : (s : S) (w : Went S) → lowest step s ≡ some w → (step s w.action ≡ some w.gone) × ((b : ℕ) → b < w.action → step s b ≡ none)
  unfolding lowest
  lowest-some s w e =
      let f = seek-some (λ b. named b (step s b)) 0 max_actions w e in
      let p = named_some f.place (step s f.place) w f.here in
      (rw (← p.0) p.1, λ b h. named_none b (step s b) (f.least b (omega arith) (omega (arith, p.0))))

  -- a series that takes the lowest-numbered enabled action at each step
  pub data LowRun : S → List ℕ → ℕ → S → Type 0 where
    stay : {s : S} → LowRun s [] 0 s
    low : {s u : S} {l : List ℕ} {r : ℕ} (a : ℕ) (g : Gone S) → step s a ≡ some g → ((b : ℕ) → b < a → step s b ≡ none) → LowRun g.after l r u
        → LowRun s (a ∷ l) (g.resets ∪ r) u

  pub low_run : {s u : S} {l : List ℕ} {r : ℕ} → LowRun s l r u → Run step s l r u
  low_run stay = stop
  low_run (low a g e f more) = then a g e (low_run more)

  -- what settling from s with budget n found
  pub record Ran (n : ℕ) (s : S) (d : Settling S) : Type 0 where
    pub run : LowRun s d.trace d.resets d.state
    pub steps : d.steps ≡ length d.trace
    pub within : d.steps ≤ n
    pub stable : d.stable ≡ true → Stuck step d.state
    pub going : d.stable ≡ false → (d.steps ≡ n) × ((w : Went S) × (step d.state w.action ≡ some w.gone))

  pub settle-ran : Bounded → (n : ℕ) (s : S) → Ran n s (settle step n s)
  unfolding settle
  settle-ran bd zero s = go (lowest step s) refl
    where
      go : (o : Option (Went S)) → lowest step s ≡ o → Ran zero s (elim o as (λ p. Settling S) [ none ↦ resting true s | some w ↦ resting false s ])
      go none h = record { run = stay; steps = refl; within = omega arith; stable = λ e. lowest-none s bd h; going = λ e. absurd (true≢false e) }
      go (some w) h =
          record {
            run = stay;
            steps = refl;
            within = omega arith;
            stable = λ e. absurd (false≢true e);
            going = λ e. (refl, (w, (lowest-some s w h).0));
          }
  settle-ran bd (suc n) s = go (settle-ran bd n) (lowest step s) refl
    where
      go : ((t : S) → Ran n t (settle step n t)) → (o : Option (Went S)) → lowest step s ≡ o
          → Ran (suc n) s (elim o as (λ p. Settling S) [ none ↦ resting true s | some w ↦ after w (settle step n w.gone.after) ])
      go ih none h = record { run = stay; steps = refl; within = omega arith; stable = λ e. lowest-none s bd h; going = λ e. absurd (true≢false e) }
      go ih (some w) h =
          let r = ih w.gone.after in
          let p = lowest-some s w h in
          record {
            run = low w.action w.gone p.0 p.1 r.run;
            steps = omega (arith, r.steps);
            within = omega (arith, r.within);
            stable = r.stable;
            going = λ e. (ap suc (r.going e).0, (r.going e).1);
          }

  -- a series and one step more
  extend : {s u : S} {l : List ℕ} {r : ℕ} → Run step s l r u → (a : ℕ) (g : Gone S) → step u a ≡ some g
      → (k : List ℕ) × (q : ℕ) × Run step s k q g.after × (length k ≡ suc (length l))
  extend stop a g e = (a ∷ [], g.resets ∪ 0, then a g e stop, refl)
  extend (then b h f run) a g e =
      let x = extend run a g e in
      (b ∷ x.0, h.resets ∪ x.1, then b h f x.2, ap suc x.3)

  -- where a series l with resets r stops in u: settling says so, with l's number of steps, resets and state, exactly if the budget is enough
  pub record Exact (n : ℕ) (l : List ℕ) (r : ℕ) (u : S) (d : Settling S) : Type 0 where
    pub enough : length l ≤ n → (d.stable ≡ true) × (d.steps ≡ length l) × (d.resets ≡ r) × (d.state ≡ u)
    pub short : n < length l → (d.stable ≡ false) × (d.steps ≡ n)

  pub settle-exact : (P : S → Type 0) → Keeps step P → Diamond step P → Bounded → {s u : S} {l : List ℕ} {r : ℕ} → Stuck step u → P s → Run step s l r u
      → (n : ℕ) → Exact n l r u (settle step n s)
  settle-exact P keeps dia bd {s} {u} {l} {r} st ok run n = go (settle step n s) (settle-ran bd n s) (settle step n s).stable refl
    where
      go : (d : Settling S) → Ran n s d → (b : Bool) → d.stable ≡ b → Exact n l r u d
      go d ran true e =
          let a = all-that-stop-are-alike step P keeps dia st ok run (ran.stable e) (low_run ran.run) in
          record {
            enough = λ h. (e, ran.steps ∙ a.steps, a.resets, a.state);
            short = λ h. absurd (omega (arith, ran.steps, a.steps, ran.within));
          }
      go d ran false e =
          let w = (ran.going e).1 in
          let x = extend (low_run ran.run) w.0.action w.0.gone w.1 in
          record {
            enough = λ h. absurd (omega (arith, none-is-longer step P keeps dia st ok run x.2, x.3, ran.steps, (ran.going e).0));
            short = λ h. (e, (ran.going e).0);
          }

  -- where no series stops: settling never says stable, and uses up its budget
  pub settle-never : Bounded → {s : S} → ((u : S) (l : List ℕ) (r : ℕ) → Run step s l r u → Stuck step u → ⊥) → (n : ℕ)
      → ((settle step n s).stable ≡ false) × ((settle step n s).steps ≡ n)
  settle-never bd {s} no_stop n = go (settle step n s) (settle-ran bd n s) (settle step n s).stable refl
    where
      go : (d : Settling S) → Ran n s d → (b : Bool) → d.stable ≡ b → (d.stable ≡ false) × (d.steps ≡ n)
      go d ran true e = absurd (no_stop d.state d.trace d.resets (low_run ran.run) (ran.stable e))
      go d ran false e = (e, (ran.going e).0)
