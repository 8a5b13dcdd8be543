-- What the values of the enabling clocks decide, from what the loops over them find.
use mathlib.Core.Path.{◌≡◌, refl, sym, ◌∙◌, ap, ap₂, subst}
use mathlib.Core.Option.{Option, none, some}
use mathlib.Core.Bool.{Bool, true, false}
use mathlib.Core.List.{List, [], ◌∷◌}
use Prim.Native.Nat.{ℕ, ◌<◌}
use native.Mathlib.Omega.{arith}
use lib.IntN.{ℤ, pos}
use lib.Signed.{lt_z}
use Rattle.laws.specs.Search.{when, least, any}
use Rattle.laws.specs.Sets.{has}
use Rattle.laws.proofs.SearchLaws.{least-some, least-none}
use Rattle.laws.proofs.TestLaws.{and-true, and-false}
use Rattle.laws.specs.Sets.{◌∈◌}
use Rattle.answer.specs.Limits.{max_clocks}
use Rattle.std.specs.Prelude.{Some, None, Ok, Err}
use Rattle.answer.specs.Told.{tell, told, values_at, Answer, answered, refused}
use Rattle.answer.specs.declared.Refusal.{Refusal}
use Rattle.model.specs.Model.{Model}
use Rattle.timing.specs.Timed.{below_zero, check29, is_least, check30, fire, timed_from, quietly}
use Rattle.iosa.specs.TimedExactly.{value_of, Timing}
use Rattle.ticks.specs.Ticks.{rivals, by_value, Clock, clock_of}
use Rattle.ticks.proofs.Chosen.{shared-by-rival, none-shared}
use Rattle.firing.specs.Choices.{Choice, at_clock, refused_or, choice_of, answer_of}

-- ---- a clock, or none
clock-some : (o : Option ℕ) (x : ℕ) → clock_of o ≡ Some x → o ≡ some x
clock-some none x h = absurd (let z : ◌≡◌ {A = ℕ} 0 1 = cc in omega arith)
clock-some (some y) x h = let e : y ≡ x = cc in ap some e

clock-none : (o : Option ℕ) → clock_of o ≡ None → o ≡ none
clock-none none h = refl
clock-none (some y) h = absurd (let z : ◌≡◌ {A = ℕ} 0 1 = cc in omega arith)

module _ (e : ℕ) (vs : List ℤ) (low : Clock) (el : low ≡ clock_of (check29 e vs)) where
  abbrev decided : Option ℕ → Option ℕ → Option ℕ → Choice
  decided o p q = refused_or 29 o (refused_or 30 p (Ok (clock_of q)))

  pub choice-negative : (x : ℕ) → low ≡ Some x → Err (at_clock 29 x) ≡ choice_of e vs
  unfolding choice_of
  choice-negative x h = sym (ap (λ o. decided o (check30 e vs) (least (is_least e vs) max_clocks)) (clock-some (check29 e vs) x (sym el ∙ h)))

  module _ (n : low ≡ None) (b : Clock) (eb : b ≡ clock_of (least (is_least e vs) max_clocks)) where
    none_below : check29 e vs ≡ none
    none_below = clock-none (check29 e vs) (sym el ∙ n)

    pub choice-quiet : b ≡ None → Ok None ≡ choice_of e vs
    unfolding choice_of
    choice-quiet h =
        let l = clock-none (least (is_least e vs) max_clocks) (sym eb ∙ h) in
        sym (ap (λ o. decided o (check30 e vs) (least (is_least e vs) max_clocks)) none_below ∙ ap₂ (decided none) (none-shared e vs l) l)

    module _ (x : ℕ) (h : b ≡ Some x) where
      one : least (is_least e vs) max_clocks ≡ some x
      one = clock-some (least (is_least e vs) max_clocks) x (sym eb ∙ h)

      pub chosen-low : x < max_clocks
      chosen-low = (least-some (is_least e vs) max_clocks x one).below

      module _ (r : Bool) (er : r ≡ any (by_value (rivals e x (value_of vs x)) vs) max_clocks) where
        decides : choice_of e vs ≡ decided none (when r x) (some x)
        unfolding choice_of
        decides =
            ap (λ o. decided o (check30 e vs) (least (is_least e vs) max_clocks)) none_below
            ∙ ap₂ (decided none) (shared-by-rival e vs x one ∙ ap (λ b. when b x) (sym er)) one

        pub choice-shared : r ≡ true → Err (at_clock 30 x) ≡ choice_of e vs
        choice-shared t = sym (decides ∙ ap (λ b. decided none (when b x) (some x)) t)

        pub choice-fires : r ≡ false → Ok (Some x) ≡ choice_of e vs
        choice-fires t = sym (decides ∙ ap (λ b. decided none (when b x) (some x)) t)

-- ---- the definition by its choice
pub timed-by-choice : (m : Model) (s : List ℕ) (vs : List ℤ) (e : ℕ) → timed_from m s vs e ≡ answer_of m s vs (choice_of e vs)
unfolding timed_from choice_of answer_of
timed-by-choice m s vs e = go (check29 e vs) (check30 e vs) (least (is_least e vs) max_clocks)
  where
    go : (o p q : Option ℕ)
        → ◌≡◌ {A = Answer Timing} (elim o as (λ _. Answer Timing) [
          | some x ↦ refused (tell 29 (x ∷ []))
          | none ↦ elim p as (λ _. Answer Timing) [
            | some x ↦ refused (tell 30 (x ∷ []))
            | none ↦ elim q as (λ _. Answer Timing) [ none ↦ answered (quietly s vs) | some x ↦ answered (fire m s vs x) ]
          ]
        ]) (answer_of m s vs (refused_or 29 o (refused_or 30 p (Ok (clock_of q)))))
    go (some x) p q = refl
    go none (some x) q = refl
    go none none none = refl
    go none none (some x) = refl

-- ---- the clock that fires
pub record Chosen (e : ℕ) (vs : List ℤ) (x : ℕ) : Type 0 where
  pub below : x < max_clocks
  pub own : x ∈ e
  pub from_zero : lt_z (value_of vs x) (pos 0) ≡ false

pub fires-chosen : (e : ℕ) (vs : List ℤ) (x : ℕ) → choice_of e vs ≡ Ok (Some x) → Chosen e vs x
unfolding choice_of check29 below_zero is_least
fires-chosen e vs x h = go (check29 e vs) refl (check30 e vs) (least (is_least e vs) max_clocks) refl h
  where
    by : check29 e vs ≡ none → (y : ℕ) → least (is_least e vs) max_clocks ≡ some y → (◌≡◌ {A = Choice} (Ok (Some y)) (Ok (Some x))) → Chosen e vs x
    by n y q h =
        let l = least-some (is_least e vs) max_clocks y q in
        let own = (and-true (has e y) _ l.here).0 in
        let same : y ≡ x = cc in
        rw (← same) (record { below = l.below; own = own; from_zero = and-false (has e y) (lt_z (value_of vs y) (pos 0)) (least-none (below_zero e vs) max_clocks n y l.below) own })

    go : (o : Option ℕ) → check29 e vs ≡ o → (p q : Option ℕ) → least (is_least e vs) max_clocks ≡ q → refused_or 29 o (refused_or 30 p (Ok (clock_of q))) ≡ Ok (Some x) → Chosen e vs x
    go (some y) n p q r h = absurd (let z : ◌≡◌ {A = ℕ} 0 1 = cc in omega arith)
    go none n (some y) q r h = absurd (let z : ◌≡◌ {A = ℕ} 0 1 = cc in omega arith)
    go none n none none r h = absurd (let z : ◌≡◌ {A = ℕ} 0 1 = cc in omega arith)
    go none n none (some y) r h = by n y r h

-- ---- a refusal tells its clock
tells-clock : (n x : ℕ) (q : Refusal) → told (at_clock n x) ≡ some (tell n (x ∷ [])) → at_clock n x ≡ q → told q ≡ some (tell q.number (values_at q.place))
tells-clock n x q t same = subst (λ (z : Refusal). told z ≡ some (tell z.number (values_at z.place))) same t

tells-29 : (x : ℕ) → told (at_clock 29 x) ≡ some (tell 29 (x ∷ []))
unfolding told
tells-29 x = refl

tells-30 : (x : ℕ) → told (at_clock 30 x) ≡ some (tell 30 (x ∷ []))
unfolding told
tells-30 x = refl

pub choice-told : (e : ℕ) (vs : List ℤ) (q : Refusal) → choice_of e vs ≡ Err q → told q ≡ some (tell q.number (values_at q.place))
unfolding choice_of
choice-told e vs q h = go (check29 e vs) (check30 e vs) (least (is_least e vs) max_clocks) h
  where
    go : (o p r : Option ℕ) → refused_or 29 o (refused_or 30 p (Ok (clock_of r))) ≡ Err q → told q ≡ some (tell q.number (values_at q.place))
    go (some x) p r h = tells-clock 29 x q (tells-29 x) (let same : at_clock 29 x ≡ q = cc in same)
    go none (some x) r h = tells-clock 30 x q (tells-30 x) (let same : at_clock 30 x ≡ q = cc in same)
    go none none r h = absurd (let z : ◌≡◌ {A = ℕ} 0 1 = cc in omega arith)
