-- In an accepted model settling and a firing lead from a state to a state, and a firing from values in range to such.
use mathlib.Core.Path.{◌≡◌, refl, sym, ◌∙◌, ap, subst}
use mathlib.Core.List.{List, [], ◌∷◌}
use Prim.Native.Nat.{ℕ}
use native.Mathlib.Omega.{arith}
use lib.IntN.{ℤ, pos}
use Rattle.laws.proofs.TickLaws.{count-of}
use Rattle.answer.specs.Told.{tell, values_at, answered, refused, fired, quiet}
use Rattle.model.specs.Model.{Model, declared}
use Rattle.model.specs.WellFormed.{WellFormed}
use Rattle.iosa.specs.Automaton.{Conforming, Joinable}
use Rattle.iosa.specs.Product.{Within}
use Rattle.iosa.specs.Step.{urgent_step}
use Rattle.iosa.specs.Settle.{settle}
use Rattle.timing.specs.Timed.{enabling_all, timed_from, quietly, fire, aged_from}
use Rattle.iosa.specs.TimedExactly.{InTicks, Timing, value_of}
use Rattle.iosa.proofs.Settling.Called.{no_answer, same_answer}
use Rattle.iosa.proofs.Settling.Demand3.{our-run-is-a-series}
use Rattle.iosa.proofs.Settling.ProductOfMany.{wells}
use Rattle.timing.proofs.Timing.Enabling.{declared-below}
use Rattle.timing.proofs.Timing.Shots.{waiting, fire-is-a-row}
use Rattle.timing.proofs.Timing.Values.{aged-falls, falls-in-ticks}
use Rattle.std.specs.Prelude.{Some, None, Ok, Err}
use Rattle.answer.specs.declared.Refusal.{Refusal}
use Rattle.firing.specs.Choices.{Choice, choice_of, answer_of}
use Rattle.firing.proofs.Choosing.{timed-by-choice, fires-chosen}

-- what a shot keeps
pub record Kept (m : Model) (vs : List ℤ) (τ : Timing) : Type 0 where
  pub within : Within m τ.state
  pub ticks : InTicks m τ.values
  pub rests : τ.shot ≡ quiet → τ.values ≡ vs

-- ---- what each choice answers
module _ (m : Model) (s : List ℕ) (vs : List ℤ) where
  answer-refused : (q : Refusal) → answer_of m s vs (Err q) ≡ refused (tell q.number (values_at q.place))
  unfolding answer_of
  answer-refused q = refl

  answer-quiet : answer_of m s vs (Ok None) ≡ answered (quietly s vs)
  unfolding answer_of
  answer-quiet = refl

  answer-fires : (x : ℕ) → answer_of m s vs (Ok (Some x)) ≡ answered (fire m s vs x)
  unfolding answer_of
  answer-fires x = refl

pub settle-keeps : (m : Model) → WellFormed m → Conforming m → Joinable m → (s : List ℕ) → Within m s → (n : ℕ) → Within m (settle (urgent_step m) n s).state
settle-keeps [] well good fit s w n = absurd (omega (arith, well.some))
settle-keeps (c ∷ cs) well good fit s w n = (our-run-is-a-series c cs well good fit s w n).range

pub shot-keeps : (m : Model) → WellFormed m → Conforming m → Joinable m → (s : List ℕ) → Within m s → (vs : List ℤ) → InTicks m vs → (τ : Timing)
    → timed_from m s vs (enabling_all m s) ≡ answered τ → Kept m vs τ
shot-keeps [] well good fit s w vs k τ e = absurd (omega (arith, well.some))
shot-keeps (c ∷ cs) well good fit s w vs k τ e = go (choice_of (enabling_all (c ∷ cs) s) vs) refl (sym (timed-by-choice (c ∷ cs) s vs (enabling_all (c ∷ cs) s)) ∙ e)
  where
    fires : (x : ℕ) → choice_of (enabling_all (c ∷ cs) s) vs ≡ Ok (Some x) → fire (c ∷ cs) s vs x ≡ τ → Kept (c ∷ cs) vs τ
    fires x q f =
        let chosen = fires-chosen (enabling_all (c ∷ cs) s) vs x q in
        let v = count-of (value_of vs x) chosen.from_zero in
        let row = fire-is-a-row c cs well good fit s w vs x v.0 ((waiting c cs well good fit s w).to x chosen.own) v.1 in
        let is : record { shot = fired v.0 row.a row.R; state = row.s'; values = aged_from (declared (c ∷ cs)) (pos v.0) 0 vs } ≡ τ = sym row.answer ∙ f in
        subst (Kept (c ∷ cs) vs) is (record {
          within = row.within;
          ticks = falls-in-ticks (c ∷ cs) vs v.0 (aged_from (declared (c ∷ cs)) (pos v.0) 0 vs)
              (declared-below (c ∷ cs) (wells (c ∷ cs) well)) k (aged-falls (c ∷ cs) vs v.0);
          rests = λ h. let z : ◌≡◌ {A = ℕ} 0 1 = cc (h) in absurd (omega arith);
        })

    go : (d : Choice) → choice_of (enabling_all (c ∷ cs) s) vs ≡ d → answer_of (c ∷ cs) s vs (choice_of (enabling_all (c ∷ cs) s) vs) ≡ answered τ → Kept (c ∷ cs) vs τ
    go d q h = by d q (sym (ap (answer_of (c ∷ cs) s vs) q) ∙ h)
      where
        by : (d : Choice) → choice_of (enabling_all (c ∷ cs) s) vs ≡ d → answer_of (c ∷ cs) s vs d ≡ answered τ → Kept (c ∷ cs) vs τ
        by (Err f) q h = absurd (no_answer (sym (answer-refused (c ∷ cs) s vs f) ∙ h))
        by (Ok None) q h = subst (Kept (c ∷ cs) vs) (same_answer (sym (answer-quiet (c ∷ cs) s vs) ∙ h)) (record { within = w; ticks = k; rests = λ _. refl })
        by (Ok (Some x)) q h = fires x q (same_answer (sym (answer-fires (c ∷ cs) s vs x) ∙ h))
