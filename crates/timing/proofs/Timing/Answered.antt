-- What follows where the timed step answers: quiet exactly when no clock waits, a row of the product else, and values that the next call takes.
use mathlib.Core.Path.{◌≡◌, refl, sym, ◌∙◌, ap}
use mathlib.Core.Logic.{◌↔◌}
use mathlib.Core.Option.{Option, none, some}
use mathlib.Core.Bool.{false, true≢false}
use mathlib.Core.List.{List, ◌∷◌}
use Prim.Native.Nat.{ℕ, ◌<◌}
use native.Mathlib.Omega.{arith}
use native.Mathlib.Decide.{ℕ_discrete}
use lib.IntN.{ℤ, pos}
use lib.Signed.{lt_z}
use Rattle.laws.specs.Sets.{◌∈◌}
use Rattle.laws.proofs.SetLaws.{same-members, none_in}
use Rattle.laws.proofs.TestLaws.{not_so}
use Rattle.laws.proofs.TickLaws.{less-irreflexive, less-transitive}
use Rattle.answer.specs.Limits.{max_clocks}
use Rattle.laws.specs.Search.{or_else}
use Rattle.answer.specs.Told.{Told, Answer, answered, refused, fired, quiet}
use Rattle.model.specs.Model.{Comp, Model, declared}
use Rattle.model.specs.WellFormed.{WellFormed}
use Rattle.iosa.specs.Product.{product, state_of, Within}
use Rattle.iosa.specs.Checks.{accept_of}
use Rattle.timing.specs.Timed.{enabling_all, unstable_fault, values_fault, timed_from, timed_of, quietly}
use Rattle.iosa.specs.Step.{state_fault}
use Rattle.iosa.specs.TimedExactly.{Waits, InTicks, Fires, TimedAnswer, is-quiet, is-fired, value_of, Timing}
use Rattle.iosa.proofs.Acceptance.Accepted.{accepted-exactly}
use Rattle.timing.proofs.Timing.Enabling.{declared-below}
use Rattle.timing.proofs.Timing.Values.{falls-in-ticks, falls-not-below}
use Rattle.iosa.proofs.Settling.ProductOfMany.{wells}
use Rattle.timing.proofs.Timing.Shots.{waits-declared}
use Rattle.timing.proofs.Timing.Exactly.{timed-exactly}

not-quiet : {v a R : ℕ} → fired v a R ≡ quiet → ⊥
not-quiet e = let z : ◌≡◌ {A = ℕ} 0 1 = cc in omega arith

-- an answer stands behind no refusal of 10 to 17
timed-accepted : (m : Model) (s : List ℕ) (vs : List ℤ) (τ : Timing) → timed_of m s vs ≡ answered τ → accept_of m ≡ none
unfolding timed_of
timed-accepted m s vs τ e = go (accept_of m) e
  where
    go : (o : Option Told)
        → (elim (or_else o (or_else (state_fault m s) (or_else (unstable_fault m s) (values_fault m vs)))) as (λ _. Answer Timing)
        [ some t ↦ refused t | none ↦ timed_from m s vs (enabling_all m s) ]) ≡ answered τ
        → o ≡ none
    go none e = refl
    go (some t) e = absurd (let z : ◌≡◌ {A = ℕ} 0 1 = cc in omega arith)

module _ (c : Comp) (cs : List Comp) (s : List ℕ) (vs : List ℤ) where
  quiet-so : {τ : Timing} → TimedAnswer c cs s vs (answered τ) → (τ.shot ≡ quiet) ↔ ((x : ℕ) → Waits c cs s x → ⊥)
  quiet-so (is-quiet r n) = (λ e. n, λ h. refl)
  quiet-so (is-fired {x} r f g) = (λ e. absurd (not-quiet e), λ h. absurd (h x f.waits))

  unchanged-so : {τ : Timing} → TimedAnswer c cs s vs (answered τ) → τ.shot ≡ quiet → τ ≡ quietly s vs
  unchanged-so (is-quiet r n) e = refl
  unchanged-so (is-fired r f g) e = absurd (not-quiet e)

  within-so : {τ : Timing} → TimedAnswer c cs s vs (answered τ) → Within (c ∷ cs) τ.state
  within-so (is-quiet r n) = r.within
  within-so (is-fired r f g) = f.within

  ticks-so : ((x : ℕ) → x ∈ declared (c ∷ cs) → x < max_clocks) → {τ : Timing} → TimedAnswer c cs s vs (answered τ) → InTicks (c ∷ cs) τ.values
  ticks-so below (is-quiet r n) = r.ticks
  ticks-so below (is-fired {v = v} {vs' = us} r f g) = falls-in-ticks (c ∷ cs) vs v us below r.ticks g

  -- an enabling clock has a value of v or more
  at_least : {x v a R : ℕ} {s' : List ℕ} → Fires c cs s vs x v a R s' → (y : ℕ) → Waits c cs s y → lt_z (value_of vs y) (pos v) ≡ false
  at_least {x} {v} f y h = elim (ℕ_discrete y x) [
    | yes e ↦ ap (λ n. lt_z (value_of vs n) (pos v)) e ∙ ap (λ z. lt_z z (pos v)) f.value ∙ less-irreflexive (pos v)
    | no e ↦ not_so (lt_z (value_of vs y) (pos v)) (λ t. true≢false (sym (less-transitive (pos v) (value_of vs y) (pos v) (f.least y e h) t)
        ∙ less-irreflexive (pos v)))
  ]

  not-below-so : (y : ℕ) → y ∈ declared (c ∷ cs) → y < max_clocks → {τ : Timing} → TimedAnswer c cs s vs (answered τ) → Waits c cs s y
      → lt_z (value_of τ.values y) (pos 0) ≡ false
  not-below-so y d b (is-quiet r n) h = absurd (n y h)
  not-below-so y d b (is-fired {v = v} {vs' = us} r f g) h = falls-not-below (c ∷ cs) vs v us y (omega (arith, r.ticks.count)) d (at_least f y h) g

  in-range-so : {τ : Timing} → TimedAnswer c cs s vs (answered τ) → Within (c ∷ cs) s
  in-range-so (is-quiet r n) = r.within
  in-range-so (is-fired r f g) = r.within

-- ---- for a model that is accepted, where the timed step answers
module _ (c : Comp) (cs : List Comp) (well : WellFormed (c ∷ cs)) (s : List ℕ) (vs : List ℤ) (τ : Timing) (e : timed_of (c ∷ cs) s vs ≡ answered τ) where
  answered-so : TimedAnswer c cs s vs (answered τ)
  answered-so = (timed-exactly c cs well (timed-accepted (c ∷ cs) s vs τ e) s vs (answered τ)).0 e

  -- "With no enabling clock the answer is quiet", and only then
  pub quiet-exactly : (τ.shot ≡ quiet) ↔ ((x : ℕ) → Waits c cs s x → ⊥)
  quiet-exactly = quiet-so c cs s vs answered-so

  -- quiet exactly when no guarded row leaves the product's state
  pub quiet-exactly-unguarded : (τ.shot ≡ quiet) ↔ ((C a R : ℕ) (y : (product c cs).State) → (product c cs).Row (state_of c cs s) C a R y → C ≡ 0)
  quiet-exactly-unguarded = (
    λ q C a R y r. same-members C 0 (λ x h. absurd
        (quiet-exactly.0 q x (record { guard = C; action = a; resets = R; target = y; guards = h; row = r }))) (λ x h. absurd (none_in x h)),
    λ n. quiet-exactly.1 (λ x k. none_in x (rw (n k.guard k.action k.resets k.target k.row) at k.guards)),
  )

  -- "and nothing changes"
  pub quiet-changes-nothing : τ.shot ≡ quiet → τ ≡ quietly s vs
  quiet-changes-nothing = unchanged-so c cs s vs answered-so

  -- the next call is not 21
  pub timed-state-is-in-range : Within (c ∷ cs) τ.state
  timed-state-is-in-range = within-so c cs s vs answered-so

  declared-clock : (x : ℕ) → x ∈ declared (c ∷ cs) → x < max_clocks
  declared-clock = declared-below (c ∷ cs) (wells (c ∷ cs) well)

  -- the next call is not 28
  pub timed-values-are-in-ticks : InTicks (c ∷ cs) τ.values
  timed-values-are-in-ticks = ticks-so c cs s vs declared-clock answered-so

  -- an enabling clock never ends below zero
  pub enabling-clocks-end-from-zero-on : (x : ℕ) → Waits c cs s x → lt_z (value_of τ.values x) (pos 0) ≡ false
  enabling-clocks-end-from-zero-on x h =
      let a = (accepted-exactly (c ∷ cs) well).0 (timed-accepted (c ∷ cs) s vs τ e) in
      let d = waits-declared c cs well a.0 a.1 s (in-range-so c cs s vs answered-so) x h in
      not-below-so c cs s vs x d (declared-clock x d) answered-so h
