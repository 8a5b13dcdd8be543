-- What computes is exactly each call's relation: of the timed step, and of reading a text.
use mathlib.Core.Path.{◌≡◌, refl, sym, ◌∙◌, ap, subst}
use mathlib.Core.Logic.{◌↔◌}
use mathlib.Core.Option.{none}
use mathlib.Core.List.{List, ◌∷◌}
use Prim.Native.Nat.{ℕ}
use lib.IntN.{ℤ}
use Rattle.laws.specs.Search.{or_else}
use Rattle.answer.specs.Told.{Answer, refused}
use Rattle.model.specs.Model.{Comp, Model}
use Rattle.iosa.specs.Automaton.{Stable, Conforming, Joinable}
use Rattle.iosa.specs.Product.{product, state_of}
use Rattle.model.specs.WellFormed.{WellFormed}
use Rattle.iosa.specs.Checks.{accept_of}
use Rattle.model.specs.Reading.{read_of}
use Rattle.model.specs.Faulty.{ReadsAs, is-model, is-too-long, is-empty, has-fault}
use Rattle.iosa.specs.Step.{state_fault}
use Rattle.timing.specs.Timed.{unstable_fault, values_fault, enabling_all, timed_from, timed_of}
use Rattle.iosa.specs.TimedExactly.{Waits, InTicks, BelowZero, Shares, Timing, Shoots, no-shot, one-shot, Ready}
use Rattle.iosa.specs.TimedExactly.{TimedAnswer, is21, is27, is28, is29, is30, is-quiet, is-fired}
use Rattle.iosa.specs.InOrder.{◌▹◌, refuses, passes, Gives, gives, needs, no_clock}
use Rattle.answering.specs.Answers.{state_ok, TimedStepAnswer, ReadAnswer, is1, is-fault, is8, is-text}
use Rattle.iosa.proofs.Acceptance.Accepted.{accepted-exactly}
use Rattle.model.proofs.Reading.LowestFault.{fault-number}
use Rattle.model.proofs.Reading.Faults.{too-long-exactly, no-component-exactly, fault-exactly, read-answers}
use Rattle.model.proofs.Reading.ReadOfText.{read-exactly}
use Rattle.timing.proofs.Timing.Exactly.{timed-exactly, not_negative, not-shared}
use Rattle.answering.proofs.Answers.InOrder.{refused_or, either, or-refused}
use Rattle.answering.proofs.Answers.Models.{check-accepted}

-- the timed step answer by answer, and as a chain of checks
module _ (c : Comp) (cs : List Comp) (s : List ℕ) (vs : List ℤ) where
  abbrev W : ℕ → Type 0
  W = Waits c cs s

  abbrev Chain : Answer Timing → Type 0
  Chain = state_ok c cs s ▹ needs 27 (Stable (product c cs) (state_of c cs s)) ▹ needs 28 (InTicks (c ∷ cs) vs)
      ▹ no_clock 29 (BelowZero W vs) ▹ no_clock 30 (Shares W vs) ▹ Gives (Shoots c cs s vs)

  ready : {R : Answer Timing → Type 0} {a : Answer Timing} → Ready c cs s vs → R a
      → (state_ok c cs s ▹ needs 27 (Stable (product c cs) (state_of c cs s)) ▹ needs 28 (InTicks (c ∷ cs) vs) ▹ R) a
  ready r k = passes r.within (passes r.stable (passes r.ticks k))

  -- the clock that fires is not below zero, and alone with its value
  timed-chain : WellFormed (c ∷ cs) → Conforming (c ∷ cs) × Joinable (c ∷ cs) → accept_of (c ∷ cs) ≡ none → {a : Answer Timing}
      → TimedAnswer c cs s vs a → Chain a
  timed-chain well k ok (is21 n) = refuses (n, refl)
  timed-chain well k ok (is27 w n) = passes w (refuses (n, refl))
  timed-chain well k ok (is28 w t n) = passes w (passes t (refuses (n, refl)))
  timed-chain well k ok (is29 {x = x} r l) = ready r (refuses (x, l, refl))
  timed-chain well k ok (is30 {x = x} r n l) = ready r (passes n (refuses (x, l, refl)))
  timed-chain well k ok (is-quiet r n) = ready r (passes (λ y b. n y b.waits) (passes (λ y b. n y b.here.waits) (gives (no-shot n))))
  timed-chain well k ok (is-fired r f g) =
      ready r (passes (not_negative c cs well k.0 k.1 s vs ok r f) (passes (not-shared c cs well k.0 k.1 s vs ok r f) (gives (one-shot f g))))

  chain-timed : {a : Answer Timing} → Chain a → TimedAnswer c cs s vs a
  chain-timed (refuses p) = subst (λ t. TimedAnswer c cs s vs (refused t)) (sym p.1) (is21 p.0)
  chain-timed (passes w (refuses p)) = subst (λ t. TimedAnswer c cs s vs (refused t)) (sym p.1) (is27 w p.0)
  chain-timed (passes w (passes t (refuses p))) = subst (λ t. TimedAnswer c cs s vs (refused t)) (sym p.1) (is28 w t p.0)
  chain-timed (passes w (passes t (passes k (refuses p)))) =
      subst (λ t. TimedAnswer c cs s vs (refused t)) (sym p.2) (is29 (record { within = w; stable = t; ticks = k }) p.1)
  chain-timed (passes w (passes t (passes k (passes n (refuses p))))) =
      subst (λ t. TimedAnswer c cs s vs (refused t)) (sym p.2) (is30 (record { within = w; stable = t; ticks = k }) n p.1)
  chain-timed (passes w (passes t (passes k (passes n (passes m (gives (no-shot q))))))) = is-quiet (record { within = w; stable = t; ticks = k }) q
  chain-timed (passes w (passes t (passes k (passes n (passes m (gives (one-shot f g))))))) = is-fired (record { within = w; stable = t; ticks = k }) f g

pub timed-step-model-exactly : (c : Comp) (cs : List Comp) → WellFormed (c ∷ cs) → (s : List ℕ) (vs : List ℤ) (a : Answer Timing)
    → (timed_of (c ∷ cs) s vs ≡ a) ↔ TimedStepAnswer c cs s vs a
unfolding timed_of
timed-step-model-exactly c cs well s vs a =
    let m = c ∷ cs in
    let p = or_else (state_fault m s) (or_else (unstable_fault m s) (values_fault m vs)) in
    let x = timed_from m s vs (enabling_all m s) in
    let e = either (or_else (accept_of m) p) x ∙ or-refused (accept_of m) p x in
    rw e (check-accepted m well (refused_or p x) (Chain c cs s vs) (λ k b.
    let ok = (accepted-exactly m well).1 k in
    let f = e ∙ ap (λ o. refused_or o (refused_or p x)) ok in
    let t = timed-exactly c cs well ok s vs b in
    rw (← f) ((λ q. timed-chain c cs s vs well k ok (t.0 q), λ q. t.1 (chain-timed c cs s vs q)))) a)

pub read-text-exactly : (t : List ℕ) (a : Answer Model) → (read_of t ≡ a) ↔ ReadAnswer t a
read-text-exactly t a = (λ e. subst (ReadAnswer t) e (there (read-answers t)), back)
  where
    there : ReadsAs t (read_of t) → ReadAnswer t (read_of t)
    there (is-model m e) = let p = (read-exactly t m).0 e in subst (ReadAnswer t) (sym e) (is-text p.0 p.1)
    there (is-too-long h e) = subst (ReadAnswer t) (sym e) (is1 h)
    there (is-empty h e) = subst (ReadAnswer t) (sym e) (is8 h)
    there (has-fault n k column f e) = subst (ReadAnswer t) (sym e) (is-fault f)

    back : {b : Answer Model} → ReadAnswer t b → read_of t ≡ b
    back (is1 h) = (too-long-exactly t).1 h
    back (is-fault {n = n} {k = k} {column = column} f) = let h = fault-number f.lowest.here in (fault-exactly t n k column h.0 h.1).1 f
    back (is8 e) = (no-component-exactly t).1 e
    back (is-text {m = m} w e) = (read-exactly t m).1 (w, e)
