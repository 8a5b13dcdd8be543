-- The answers of the call on an accepted model: refusals in their order, and what is left to the clocks.
use mathlib.Core.Path.{◌≡◌, refl, sym, ◌∙◌, ap, ap₂}
use mathlib.Core.Option.{Option, none, some}
use mathlib.Core.Bool.{Bool, true, false, ◌||◌, not}
use mathlib.Core.List.{List, [], ◌∷◌}
use Prim.Native.Nat.{ℕ, ◌≤◌}
use lib.ListN.{length}
use lib.Dec.{eqb}
use lib.IntN.{ℤ}
use Rattle.laws.specs.Search.{when, or_else, is_some, any}
use Rattle.answer.specs.Limits.{max_clocks}
use Rattle.answer.specs.Told.{Told, tell, told, Answer, answered, refused}
use Rattle.answer.specs.State.{parts_of}
use Rattle.answer.specs.declared.State.{State}
use Rattle.answer.specs.declared.Refusal.{Refusal}
use Rattle.answer.specs.declared.Firing.TheVariants.{Quiet}
use Rattle.std.specs.Prelude.{Ok, Err}
use Rattle.answer.proofs.StateLaws.{with-own-parts}
use Rattle.model.specs.Model.{Model, declared}
use Rattle.model.specs.WellFormed.{WellFormed}
use Rattle.iosa.specs.Checks.{accept_of}
use Rattle.iosa.specs.Step.{Went, is_stable, in_range, state_fault, lowest, urgent_step}
use Rattle.timing.specs.Timed.{enabling_all, unstable_fault, out_of_ticks, values_fault, timed_from, timed_of, quietly}
use Rattle.iosa.specs.TimedExactly.{Timing}
use Rattle.iosa.proofs.Settling.ProductOfMany.{wells}
use Rattle.timing.proofs.Timing.Ticks.{bad_values, values-exactly}
use Rattle.ticks.specs.Ticks.{Ticking, outside, by_value}
use Rattle.firing.specs.Choices.{Choice, choice_of, answer_of}
use Rattle.firing.specs.Shots.{TimingAnswers}
use Rattle.firing.proofs.Choosing.{timed-by-choice}

-- ---- a refusal, and quiet
pub refuses : (a : Answer Timing) (f : Told) → a ≡ refused f → (q : Refusal) → told q ≡ some f → (x : State) (vs : List ℤ) → TimingAnswers a x vs (Err q) vs
refuses a f e q t x vs = rw e (record { told = t; values = refl })

pub stays-quiet : (a : Answer Timing) (x : State) (vs : List ℤ) → a ≡ answered (quietly (parts_of x) vs) → x.count ≤ length x.parts → TimingAnswers a x vs (Ok (record { firing = Quiet; state = x })) vs
stays-quiet a x vs e h = rw e (record { firing = refl; state = sym (with-own-parts x h); values = refl })

pub chosen-answer : (m : Model) (s : List ℕ) (vs : List ℤ) (e : ℕ) (d k : Choice) → e ≡ enabling_all m s → d ≡ choice_of e vs → d ≡ k → timed_from m s vs (enabling_all m s) ≡ answer_of m s vs k
chosen-answer m s vs e d k ee ed ek = timed-by-choice m s vs (enabling_all m s) ∙ ap (answer_of m s vs) (ap (λ n. choice_of n vs) (sym ee) ∙ sym ed ∙ ek)

-- ---- the refusals in their order
abbrev RefusedOr : Option Told → Answer Timing → Answer Timing
RefusedOr o x = elim o as (λ _. Answer Timing) [ some t ↦ refused t | none ↦ x ]

module _ (m : Model) (s : List ℕ) (vs : List ℤ) (acc : accept_of m ≡ none) where
  by-faults : (o : Option Told) → or_else (state_fault m s) (or_else (unstable_fault m s) (values_fault m vs)) ≡ o → timed_of m s vs ≡ RefusedOr o (timed_from m s vs (enabling_all m s))
  unfolding timed_of
  by-faults o e = ap₂ (λ p q. RefusedOr (or_else p q) (timed_from m s vs (enabling_all m s))) acc e

  pub is-21 : in_range m s ≡ false → timed_of m s vs ≡ refused (tell 21 (0 ∷ []))
  unfolding state_fault
  is-21 h = by-faults (some (tell 21 (0 ∷ []))) (ap (λ b. or_else (when (not b) (tell 21 (0 ∷ []))) (or_else (unstable_fault m s) (values_fault m vs))) h)

  module _ (in-range : in_range m s ≡ true) where
    no-21 : state_fault m s ≡ none
    unfolding state_fault
    no-21 = ap (λ b. when (not b) (tell 21 (0 ∷ []))) in-range

    pub is-27 : is_stable m s ≡ false → timed_of m s vs ≡ refused (tell 27 (0 ∷ []))
    unfolding unstable_fault
    is-27 h = by-faults (some (tell 27 (0 ∷ []))) (ap₂ (λ o b. or_else o (or_else (when (not b) (tell 27 (0 ∷ []))) (values_fault m vs))) no-21 h)

    module _ (stable : is_stable m s ≡ true) where
      no-27 : unstable_fault m s ≡ none
      unfolding unstable_fault
      no-27 = ap (λ b. when (not b) (tell 27 (0 ∷ []))) stable

      by_values : (b : Bool) → bad_values m vs ≡ b → timed_of m s vs ≡ RefusedOr (when b (tell 28 (0 ∷ []))) (timed_from m s vs (enabling_all m s))
      unfolding values_fault
      by_values b h =
          by-faults (when b (tell 28 (0 ∷ []))) (ap₂ (λ o p. or_else o (or_else p (values_fault m vs))) no-21 no-27 ∙ ap (λ c. when c (tell 28 (0 ∷ []))) h)

      pub is-28 : bad_values m vs ≡ true → timed_of m s vs ≡ refused (tell 28 (0 ∷ []))
      is-28 h = by_values true h

      pub is-on : bad_values m vs ≡ false → timed_of m s vs ≡ timed_from m s vs (enabling_all m s)
      is-on h = by_values false h

-- ---- what the tests decide
pub moves-on : (m : Model) (s : List ℕ) (w : Went (List ℕ)) → lowest (urgent_step m) s ≡ some w → is_stable m s ≡ false
unfolding is_stable
moves-on m s w e = ap (λ o. not (is_some o)) e

pub at_rest : (m : Model) (s : List ℕ) → lowest (urgent_step m) s ≡ none → is_stable m s ≡ true
unfolding is_stable
at_rest m s e = ap (λ o. not (is_some o)) e

module _ (m : Model) (vs : List ℤ) where
  tests_agree : any (out_of_ticks m vs) max_clocks ≡ any (by_value (outside (declared m)) vs) max_clocks
  unfolding out_of_ticks outside
  tests_agree = refl

  pub bad-count : eqb (length vs) max_clocks ≡ false → bad_values m vs ≡ true
  bad-count h = ap (λ b. not b || any (out_of_ticks m vs) max_clocks) h

  pub bad-by-test : eqb (length vs) max_clocks ≡ true → (b : Bool) → b ≡ any (by_value (outside (declared m)) vs) max_clocks → bad_values m vs ≡ b
  bad-by-test h b e = ap (λ c. not c || any (out_of_ticks m vs) max_clocks) h ∙ tests_agree ∙ sym e

  pub ticking-so : WellFormed m → bad_values m vs ≡ false → Ticking (declared m) vs
  ticking-so well h = let t = (values-exactly m (wells m well) vs).0 h in record { count = t.count; each = λ x i. record { low = t.low x i; high = t.high x i } }
