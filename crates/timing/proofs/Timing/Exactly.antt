-- The timed step of an accepted model answers exactly what paper 01 says of the product and its clocks.
use mathlib.Core.Path.{◌≡◌, refl, sym, ◌∙◌, ap}
use mathlib.Core.Logic.{◌↔◌, ◌≢◌, ◌⊎◌, inl, inr}
use mathlib.Core.Option.{Option, none, some}
use mathlib.Core.Bool.{true, false, not, true≢false}
use mathlib.Core.List.{List, [], ◌∷◌}
use Prim.Native.Nat.{ℕ}
use native.Mathlib.Omega.{arith}
use native.Mathlib.Decide.{ℕ_discrete}
use lib.IntN.{ℤ, pos}
use lib.Signed.{lt_z}
use borrow.Author.Tests.{le-ltb}
use Rattle.laws.specs.Search.{or_else, least}
use Rattle.laws.proofs.SetLaws.{in_one}
use Rattle.laws.proofs.SearchLaws.{when-fine, when-faulty}
use Rattle.laws.proofs.TestLaws.{not_so, decided, not-exactly}
use Rattle.laws.proofs.TickLaws.{less-irreflexive, less-transitive, count-of}
use Rattle.answer.specs.Limits.{max_clocks}
use Rattle.answer.specs.Told.{Told, tell, Answer, answered, refused, fired}
use Rattle.model.specs.Model.{Comp, Model, declared}
use Rattle.model.specs.WellFormed.{WellFormed}
use Rattle.iosa.specs.Automaton.{Stable, Conforming, Joinable}
use Rattle.iosa.specs.Product.{product, state_of, Within}
use Rattle.iosa.specs.Checks.{accept_of}
use Rattle.iosa.specs.Step.{is_stable, in_range, state_fault}
use Rattle.timing.specs.Timed.{enabling_all, unstable_fault, values_fault, below_zero, check29, is_least, shares, check30, aged_from, fire, timed_from}
use Rattle.timing.specs.Timed.{timed_of, quietly}
use Rattle.iosa.specs.TimedExactly.{Waits, InTicks, LeastOf, BelowZero, Shares, Fires, Falls, Ready, TimedAnswer, is21, is27, is28, is29, is30}
use Rattle.iosa.specs.TimedExactly.{is-quiet, is-fired, value_of, Timing}
use Rattle.iosa.proofs.Acceptance.Accepted.{accepted-exactly}
use Rattle.iosa.proofs.Settling.Parts.{within-length}
use Rattle.iosa.proofs.Settling.ProductOfMany.{system-is-an-automaton}
use Rattle.iosa.proofs.Settling.Range.{range-exactly}
use Rattle.iosa.proofs.Settling.Steps.{stable-exactly, state-is-one-list}
use Rattle.timing.proofs.Timing.Values.{aged-falls, falls-once}
use Rattle.timing.proofs.Timing.Least.{Clocks, lowest-found, found-lowest, none_found, found_none, negatives, leasts, sharers}
use Rattle.timing.proofs.Timing.Least.{none-least-none-waits, none-waits-none-least, alone-is-less, less-is-alone}
use Rattle.timing.proofs.Timing.Ticks.{bad_values, values-exactly}
use Rattle.timing.proofs.Timing.Shots.{each-well, waiting, fire-is-a-row}

-- ---- where an answer is found
abbrev RefusedOr : Option Told → Answer Timing → Answer Timing
RefusedOr o x = elim o as (λ _. Answer Timing) [ some t ↦ refused t | none ↦ x ]

module _ (m : Model) (s : List ℕ) (vs : List ℤ) (acc : accept_of m ≡ none) where
  by-faults : (o : Option Told) → or_else (accept_of m) (or_else (state_fault m s) (or_else (unstable_fault m s) (values_fault m vs))) ≡ o
      → timed_of m s vs ≡ RefusedOr o (timed_from m s vs (enabling_all m s))
  unfolding timed_of
  by-faults o e = ap (λ z. RefusedOr z (timed_from m s vs (enabling_all m s))) e

  at21 : (t : Told) → state_fault m s ≡ some t → timed_of m s vs ≡ refused t
  at21 t e = by-faults (some t) (rw (acc, e))

  at27 : (t : Told) → state_fault m s ≡ none → unstable_fault m s ≡ some t → timed_of m s vs ≡ refused t
  at27 t e f = by-faults (some t) (rw (acc, e, f))

  at28 : (t : Told) → state_fault m s ≡ none → unstable_fault m s ≡ none → values_fault m vs ≡ some t → timed_of m s vs ≡ refused t
  at28 t e f g = by-faults (some t) (rw (acc, e, f, g))

  at_ready : state_fault m s ≡ none → unstable_fault m s ≡ none → values_fault m vs ≡ none → timed_of m s vs ≡ timed_from m s vs (enabling_all m s)
  at_ready e f g = by-faults none (rw (acc, e, f, g))

module _ (m : Model) (s : List ℕ) (vs : List ℤ) (e : ℕ) where
  at29 : (x : ℕ) → check29 e vs ≡ some x → timed_from m s vs e ≡ refused (tell 29 (x ∷ []))
  unfolding timed_from
  at29 x h = rw (h, timed_from)

  at30 : (x : ℕ) → check29 e vs ≡ none → check30 e vs ≡ some x → timed_from m s vs e ≡ refused (tell 30 (x ∷ []))
  unfolding timed_from
  at30 x h k = rw (h, timed_from) (rw k)

  at-quiet : check29 e vs ≡ none → check30 e vs ≡ none → least (is_least e vs) max_clocks ≡ none → timed_from m s vs e ≡ answered (quietly s vs)
  unfolding timed_from
  at-quiet h k l = rw (h, timed_from) (rw k (rw l))

  at-fire : (x : ℕ) → check29 e vs ≡ none → check30 e vs ≡ none → least (is_least e vs) max_clocks ≡ some x → timed_from m s vs e ≡ answered (fire m s vs x)
  unfolding timed_from
  at-fire x h k l = rw (h, timed_from) (rw k (rw l))

-- ---- the answers
module _ (c : Comp) (cs : List Comp) (well : WellFormed (c ∷ cs)) (conf : Conforming (c ∷ cs)) (join : Joinable (c ∷ cs)) (s : List ℕ) (vs : List ℤ) where
  range-decided : (not (in_range (c ∷ cs) s) ≡ false) ↔ Within (c ∷ cs) s
  range-decided = not-exactly (in_range (c ∷ cs) s) (range-exactly (c ∷ cs) s)

  stable-decided : Within (c ∷ cs) s → (not (is_stable (c ∷ cs) s) ≡ false) ↔ Stable (product c cs) (state_of c cs s)
  stable-decided ok = not-exactly (is_stable (c ∷ cs) s) (stable-exactly c cs well conf join s ok)

  values-decided : (bad_values (c ∷ cs) vs ≡ false) ↔ InTicks (c ∷ cs) vs
  values-decided = values-exactly (c ∷ cs) (each-well c cs well conf join) vs

  state-fine : Within (c ∷ cs) s → state_fault (c ∷ cs) s ≡ none
  unfolding state_fault
  state-fine ok = when-fine (not (in_range (c ∷ cs) s)) range-decided (tell 21 (0 ∷ [])) ok

  state-faulty : (Within (c ∷ cs) s → ⊥) → state_fault (c ∷ cs) s ≡ some (tell 21 (0 ∷ []))
  unfolding state_fault
  state-faulty n = when-faulty (not (in_range (c ∷ cs) s)) range-decided (tell 21 (0 ∷ [])) n

  stable-fine : Within (c ∷ cs) s → Stable (product c cs) (state_of c cs s) → unstable_fault (c ∷ cs) s ≡ none
  unfolding unstable_fault
  stable-fine ok st = when-fine (not (is_stable (c ∷ cs) s)) (stable-decided ok) (tell 27 (0 ∷ [])) st

  stable-faulty : Within (c ∷ cs) s → (Stable (product c cs) (state_of c cs s) → ⊥) → unstable_fault (c ∷ cs) s ≡ some (tell 27 (0 ∷ []))
  unfolding unstable_fault
  stable-faulty ok n = when-faulty (not (is_stable (c ∷ cs) s)) (stable-decided ok) (tell 27 (0 ∷ [])) n

  values-fine : InTicks (c ∷ cs) vs → values_fault (c ∷ cs) vs ≡ none
  unfolding values_fault
  values-fine t = when-fine (bad_values (c ∷ cs) vs) values-decided (tell 28 (0 ∷ [])) t

  values-faulty : (InTicks (c ∷ cs) vs → ⊥) → values_fault (c ∷ cs) vs ≡ some (tell 28 (0 ∷ []))
  unfolding values_fault
  values-faulty n = when-faulty (bad_values (c ∷ cs) vs) values-decided (tell 28 (0 ∷ [])) n

  module _ (acc : accept_of (c ∷ cs) ≡ none) where
    when-ready : Ready c cs s vs → timed_of (c ∷ cs) s vs ≡ timed_from (c ∷ cs) s vs (enabling_all (c ∷ cs) s)
    when-ready r = at_ready (c ∷ cs) s vs acc (state-fine r.within) (stable-fine r.within r.stable) (values-fine r.ticks)

    -- ---- what is answered is what 01 says
    from-ready : Ready c cs s vs → TimedAnswer c cs s vs (timed_from (c ∷ cs) s vs (enabling_all (c ∷ cs) s))
    unfolding check29 check30
    from-ready r = go (check29 e vs) refl
      where
        W : ℕ → Type 0
        W = Waits c cs s

        e : ℕ
        e = enabling_all (c ∷ cs) s

        k : Clocks W e
        k = waiting c cs well conf join s r.within

        fires : (x : ℕ) → check29 e vs ≡ none → check30 e vs ≡ none → least (is_least e vs) max_clocks ≡ some x
            → TimedAnswer c cs s vs (timed_from (c ∷ cs) s vs e)
        fires x h i l =
            let lo = (lowest-found (LeastOf W vs) (is_least e vs) max_clocks (leasts W e vs k) x l).here in
            let no = none_found (BelowZero W vs) (below_zero e vs) max_clocks (negatives W e vs k) h in
            let alone = none_found (Shares W vs) (shares e vs) max_clocks (sharers W e vs k) i in
            let v = count-of (value_of vs x) (not_so (lt_z (value_of vs x) (pos 0)) (λ n. no x (record { waits = lo.waits; negative = n }))) in
            let f = fire-is-a-row c cs well conf join s r.within vs x v.0 lo.waits v.1 in
            rw (at-fire (c ∷ cs) s vs e x h i l, f.answer) (is-fired r (record {
              waits = lo.waits;
              value = v.1;
              least = λ y d q. rw (← v.1) (alone-is-less W e vs k alone x lo y d q);
              row = f.row;
              within = f.within;
            }) (aged-falls (c ∷ cs) vs v.0))

        last : check29 e vs ≡ none → check30 e vs ≡ none → (o : Option ℕ) → least (is_least e vs) max_clocks ≡ o
            → TimedAnswer c cs s vs (timed_from (c ∷ cs) s vs e)
        last h i none l = rw (at-quiet (c ∷ cs) s vs e h i l) (is-quiet r (none-least-none-waits W e vs k l))
        last h i (some x) l = fires x h i l

        next : check29 e vs ≡ none → (o : Option ℕ) → check30 e vs ≡ o → TimedAnswer c cs s vs (timed_from (c ∷ cs) s vs e)
        next h none i = last h i (least (is_least e vs) max_clocks) refl
        next h (some x) i =
            rw (at30 (c ∷ cs) s vs e x h i)
            (is30 r (none_found (BelowZero W vs) (below_zero e vs) max_clocks (negatives W e vs k) h)
            (lowest-found (Shares W vs) (shares e vs) max_clocks (sharers W e vs k) x i))

        go : (o : Option ℕ) → check29 e vs ≡ o → TimedAnswer c cs s vs (timed_from (c ∷ cs) s vs e)
        go none h = next h (check30 e vs) refl
        go (some x) h = rw (at29 (c ∷ cs) s vs e x h) (is29 r (lowest-found (BelowZero W vs) (below_zero e vs) max_clocks (negatives W e vs k) x h))

    answers-so : TimedAnswer c cs s vs (timed_of (c ∷ cs) s vs)
    answers-so = go (decided (Within (c ∷ cs) s) (not (in_range (c ∷ cs) s)) range-decided)
      where
        ticks : Within (c ∷ cs) s → Stable (product c cs) (state_of c cs s) → InTicks (c ∷ cs) vs ⊎ (InTicks (c ∷ cs) vs → ⊥)
            → TimedAnswer c cs s vs (timed_of (c ∷ cs) s vs)
        ticks ok st (inl t) = let r : Ready c cs s vs = record { within = ok; stable = st; ticks = t } in rw (when-ready r) (from-ready r)
        ticks ok st (inr n) = rw (at28 (c ∷ cs) s vs acc (tell 28 (0 ∷ [])) (state-fine ok) (stable-fine ok st) (values-faulty n)) (is28 ok st n)

        stable : Within (c ∷ cs) s → Stable (product c cs) (state_of c cs s) ⊎ (Stable (product c cs) (state_of c cs s) → ⊥)
            → TimedAnswer c cs s vs (timed_of (c ∷ cs) s vs)
        stable ok (inl st) = ticks ok st (decided (InTicks (c ∷ cs) vs) (bad_values (c ∷ cs) vs) values-decided)
        stable ok (inr n) = rw (at27 (c ∷ cs) s vs acc (tell 27 (0 ∷ [])) (state-fine ok) (stable-faulty ok n)) (is27 ok n)

        go : Within (c ∷ cs) s ⊎ (Within (c ∷ cs) s → ⊥) → TimedAnswer c cs s vs (timed_of (c ∷ cs) s vs)
        go (inl ok) = stable ok (decided (Stable (product c cs) (state_of c cs s)) (not (is_stable (c ∷ cs) s)) (stable-decided ok))
        go (inr n) = rw (at21 (c ∷ cs) s vs acc (tell 21 (0 ∷ [])) (state-faulty n)) (is21 n)

    -- ---- and what 01 says is what is answered
    -- the firing clock is the only one with the least value, and no enabling clock is below zero
    module _ (r : Ready c cs s vs) {x v a R : ℕ} {s' : List ℕ} (f : Fires c cs s vs x v a R s') where
      above : (y : ℕ) → y ≢ x → Waits c cs s y → lt_z (value_of vs x) (value_of vs y) ≡ true
      above y d h = rw f.value (f.least y d h)

      pub not_negative : (y : ℕ) → BelowZero (Waits c cs s) vs y → ⊥
      not_negative y b = elim (ℕ_discrete y x) [
        | yes w ↦ true≢false (sym b.negative ∙ ap (λ n. lt_z (value_of vs n) (pos 0)) w ∙ ap (λ z. lt_z z (pos 0)) f.value ∙ le-ltb v 0 (omega arith))
        | no w ↦ true≢false (sym (less-transitive (pos v) (value_of vs y) (pos 0) (f.least y w b.waits) b.negative) ∙ le-ltb v 0 (omega arith))
      ]

      only-least : (y : ℕ) → LeastOf (Waits c cs s) vs y → y ≡ x
      only-least = less-is-alone (Waits c cs s) (enabling_all (c ∷ cs) s) vs (waiting c cs well conf join s r.within) x f.waits above

      is-least : LeastOf (Waits c cs s) vs x
      is-least = record {
        waits = f.waits;
        least = λ y h. not_so (lt_z (value_of vs y) (value_of vs x)) (λ t. elim (ℕ_discrete y x) [
          | yes w ↦ true≢false (sym t ∙ ap (λ n. lt_z (value_of vs n) (value_of vs x)) w ∙ less-irreflexive (value_of vs x))
          | no w ↦ true≢false (sym (less-transitive (value_of vs y) (value_of vs x) (value_of vs y) t (above y w h)) ∙ less-irreflexive (value_of vs y))
        ]);
      }

      pub not-shared : (y : ℕ) → Shares (Waits c cs s) vs y → ⊥
      not-shared y z = z.differs (only-least z.other z.there ∙ sym (only-least y z.here))

      fire-found : timed_from (c ∷ cs) s vs (enabling_all (c ∷ cs) s) ≡ answered (fire (c ∷ cs) s vs x)
      unfolding check29 check30
      fire-found =
          let W = Waits c cs s in
          let e = enabling_all (c ∷ cs) s in
          let k = waiting c cs well conf join s r.within in
          at-fire (c ∷ cs) s vs e x
          (found_none (BelowZero W vs) (below_zero e vs) max_clocks (negatives W e vs k) not_negative)
          (found_none (Shares W vs) (shares e vs) max_clocks (sharers W e vs k) not-shared)
          (found-lowest (LeastOf W vs) (is_least e vs) max_clocks (leasts W e vs k) x
          (record { here = is-least; before = λ y l h. omega (arith, only-least y h) }))

      -- (c): the product has one row with that clock
      fire-answers : (us : List ℤ) → Falls (c ∷ cs) vs v us → answered (fire (c ∷ cs) s vs x)
          ≡ answered (record { shot = fired v a R; state = s'; values = us })
      fire-answers us g =
          let p = fire-is-a-row c cs well conf join s r.within vs x v f.waits f.value in
          let q = (system-is-an-automaton c cs well conf join).cond_c.same x (in_one x) (in_one x) p.row f.row in
          let t = state-is-one-list c cs p.s' s' (within-length (c ∷ cs) p.s' p.within) (within-length (c ∷ cs) s' f.within) q.3 in
          let u = falls-once (c ∷ cs) vs v (aged_from (declared (c ∷ cs)) (pos v) 0 vs) us (aged-falls (c ∷ cs) vs v) g in
          ap answered (p.answer ∙ (λ i. record { shot = fired v (q.1 i) (q.2 i); state = t i; values = u i }))

    so-answers : {t : Answer Timing} → TimedAnswer c cs s vs t → timed_of (c ∷ cs) s vs ≡ t
    unfolding check29 check30
    so-answers (is21 n) = at21 (c ∷ cs) s vs acc (tell 21 (0 ∷ [])) (state-faulty n)
    so-answers (is27 ok n) = at27 (c ∷ cs) s vs acc (tell 27 (0 ∷ [])) (state-fine ok) (stable-faulty ok n)
    so-answers (is28 ok st n) = at28 (c ∷ cs) s vs acc (tell 28 (0 ∷ [])) (state-fine ok) (stable-fine ok st) (values-faulty n)
    so-answers (is29 {x} r l) =
        let W = Waits c cs s in
        let e = enabling_all (c ∷ cs) s in
        when-ready r ∙ at29 (c ∷ cs) s vs e x (found-lowest (BelowZero W vs) (below_zero e vs) max_clocks
        (negatives W e vs (waiting c cs well conf join s r.within)) x l)
    so-answers (is30 {x} r n l) =
        let W = Waits c cs s in
        let e = enabling_all (c ∷ cs) s in
        let k = waiting c cs well conf join s r.within in
        when-ready r
        ∙ at30 (c ∷ cs) s vs e x (found_none (BelowZero W vs) (below_zero e vs) max_clocks (negatives W e vs k) n)
        (found-lowest (Shares W vs) (shares e vs) max_clocks (sharers W e vs k) x l)
    so-answers (is-quiet r n) =
        let W = Waits c cs s in
        let e = enabling_all (c ∷ cs) s in
        let k = waiting c cs well conf join s r.within in
        when-ready r
        ∙ at-quiet (c ∷ cs) s vs e (found_none (BelowZero W vs) (below_zero e vs) max_clocks (negatives W e vs k) (λ y b. n y b.waits))
        (found_none (Shares W vs) (shares e vs) max_clocks (sharers W e vs k) (λ y z. n y z.here.waits)) (none-waits-none-least W e vs k n)
    so-answers (is-fired {vs' = us} r f g) = when-ready r ∙ fire-found r f ∙ fire-answers r f us g

-- an accepted model's timed step answers t exactly when t is what 01 says of the product's rows and clocks
pub timed-exactly : (c : Comp) (cs : List Comp) → WellFormed (c ∷ cs) → accept_of (c ∷ cs) ≡ none → (s : List ℕ) (vs : List ℤ) (t : Answer Timing)
    → (timed_of (c ∷ cs) s vs ≡ t) ↔ TimedAnswer c cs s vs t
timed-exactly c cs well acc s vs t =
    let a = (accepted-exactly (c ∷ cs) well).0 acc in
    (λ e. rw e at (answers-so c cs well a.0 a.1 s vs acc), so-answers c cs well a.0 a.1 s vs acc)
