-- The simulation that the engine runs is one of those with free choice, and goes as far as any of them;
-- so what it answers, or is refused with, is exactly what they say.
use mathlib.Core.Path.{◌≡◌, refl, sym, ◌∙◌, ap, subst}
use mathlib.Core.Logic.{◌↔◌}
use mathlib.Core.Option.{none}
use mathlib.Core.Bool.{not}
use mathlib.Core.List.{List, [], ◌∷◌}
use Prim.Native.Nat.{ℕ, zero, suc, ◌+◌, ◌-◌, ◌≤◌}
use native.Mathlib.Nat.{zero-add}
use native.Mathlib.Omega.{arith}
use lib.ListN.{length, length-replicate}
use lib.IntN.{ℤ, pos}
use Rattle.laws.specs.Search.{when, or_else}
use Rattle.answer.specs.Limits.{max_clocks}
use Rattle.answer.specs.Told.{tell, Answer, answered, refused, fired, quiet}
use Rattle.model.specs.Model.{Comp}
use Rattle.model.specs.WellFormed.{WellFormed}
use Rattle.iosa.specs.Checks.{accept_of}
use Rattle.iosa.specs.Start.{start_all, started_all}
use Rattle.iosa.specs.Step.{state_fault}
use Rattle.timing.specs.Timed.{enabling_all, unstable_fault, values_fault, timed_from, timed_of, quietly}
use Rattle.iosa.specs.TimedExactly.{Timing, Ready, TimedAnswer, is-quiet, is-fired, is21, is27, is28, is29, is30, Fires, Falls}
use Rattle.iosa.proofs.Acceptance.Accepted.{accepted-exactly}
use Rattle.iosa.proofs.Settling.Called.{not-refused, state-faultless}
use Rattle.iosa.proofs.Settling.ProductOfMany.{wells}
use Rattle.iosa.proofs.Settling.Start.{start-in-range}
use Rattle.iosa.proofs.Settling.Steps.{stable-exactly}
use Rattle.timing.proofs.Timing.Exactly.{timed-exactly}
use Rattle.timing.proofs.Timing.Ticks.{values-exactly}
use Rattle.simulation.specs.Simulate.{Supply, Round, Simulation, close_of, no_values, none_taken, round_zero, and_then, rounds_from, simulate_of}
use Rattle.simulation.specs.Free.{Closes, After, first, later, Opens, at-start, by-firing, Fair, Counting}
use Rattle.simulation.specs.Free.{Simulates, is-done, is30 as tie, is41 as out, is42 as unending}
use Rattle.simulation.proofs.Agree.{after-counts, after-within, after-stable}
use Rattle.simulation.proofs.Sound.{always-ready, none-below-zero}
use Rattle.simulation.proofs.Closing.{CloseAnswer, closes, unsettled, has_run_out, Standing, close-exactly}

right : (j : ℕ) → j + 0 ≡ j
right j = omega arith

moved : (j i : ℕ) → j + suc i ≡ suc j + i
moved j i = omega arith

rest : (n k : ℕ) → k ≤ n → n - k + k ≡ n
rest n k h = omega arith

-- ---- the timed step of a round: nothing stands before what the clocks decide
module _ (c : Comp) (cs : List Comp) (well : WellFormed (c ∷ cs)) (acc : accept_of (c ∷ cs) ≡ none) {s : List ℕ} {vs : List ℤ} (k : Ready c cs s vs) where
  steady : unstable_fault (c ∷ cs) s ≡ none
  unfolding unstable_fault
  steady =
      let a = (accepted-exactly (c ∷ cs) well).0 acc in
      ap (λ b. when (not b) (tell 27 (0 ∷ []))) ((stable-exactly c cs well a.0 a.1 s k.within).1 k.stable)

  ticking : values_fault (c ∷ cs) vs ≡ none
  unfolding values_fault
  ticking = ap (λ b. when b (tell 28 (0 ∷ []))) ((values-exactly (c ∷ cs) (wells (c ∷ cs) well) vs).1 k.ticks)

  pub timed-here : timed_from (c ∷ cs) s vs (enabling_all (c ∷ cs) s) ≡ timed_of (c ∷ cs) s vs
  unfolding timed_of
  timed-here =
      let faults = or_else (accept_of (c ∷ cs)) (or_else (state_fault (c ∷ cs) s) (or_else (unstable_fault (c ∷ cs) s) (values_fault (c ∷ cs) vs))) in
      let none-of-them : faults ≡ none = simp (acc, (state-faultless (c ∷ cs) s).1 k.within, steady, ticking) in
      sym (not-refused faults (timed_from (c ∷ cs) s vs (enabling_all (c ∷ cs) s)) none-of-them)

  -- the timed step of the round is paper 01's
  pub timed-is : (a : Answer Timing) → TimedAnswer c cs s vs a → timed_from (c ∷ cs) s vs (enabling_all (c ∷ cs) s) ≡ a
  timed-is a h = timed-here ∙ (timed-exactly c cs well acc s vs a).1 h

  pub timed-as : TimedAnswer c cs s vs (timed_from (c ∷ cs) s vs (enabling_all (c ∷ cs) s))
  timed-as = (timed-exactly c cs well acc s vs (timed_from (c ∷ cs) s vs (enabling_all (c ∷ cs) s))).0 (sym timed-here)

module _ (c : Comp) (cs : List Comp) (p : Supply) where
  after-values : {k : ℕ} {q : Round} → After c cs p k q → length q.values ≡ max_clocks
  after-values (first k) = k.takes.count-values
  after-values (later h f g k) = k.takes.count-values

  after-taken : {k : ℕ} {q : Round} → After c cs p k q → length q.taken ≡ max_clocks
  after-taken (first k) = k.takes.count-taken
  after-taken (later h f g k) = k.takes.count-taken

module _ (c : Comp) (cs : List Comp) (well : WellFormed (c ∷ cs)) (acc : accept_of (c ∷ cs) ≡ none) (P : List ℕ → Type 0) (count : Counting c cs P)
    (p : Supply) (fair : Fair p) where
  pub ready : {k : ℕ} {q : Round} → After c cs p k q → Ready c cs q.state q.values
  ready h = always-ready c cs well acc p fair h

  -- where a round begins to settle
  pub stands : {k w : ℕ} {s : List ℕ} {vs : List ℤ} {ts : List ℕ} → Opens c cs p k w s vs ts → Standing c cs well acc P count p s vs ts
  unfolding no_values none_taken
  stands at-start = record {
    within = start-in-range (c ∷ cs) well;
    counts = count.start;
    values = length-replicate max_clocks (pos 0);
    taken = length-replicate {A = ℕ} max_clocks 0;
  }
  stands (by-firing h f g) = record {
    within = f.within;
    counts = count.fires (after-counts c cs well acc P count p h) (after-within c cs p h) (after-stable c cs p h) f;
    values = g.count ∙ after-values c cs p h;
    taken = after-taken c cs p h;
  }

  abbrev Close : ℕ → ℕ → List ℕ → List ℤ → List ℕ → Answer Round
  Close k w s vs ts = close_of (c ∷ cs) p k w s vs ts

  pub closes-ours : {k w : ℕ} {s : List ℕ} {vs : List ℤ} {ts : List ℕ} {q : Round} → Opens c cs p k w s vs ts → Closes c cs p w s vs ts q
      → Close k w s vs ts ≡ answered q
  closes-ours {k} {w} {s} {vs} {ts} {q} o z = (close-exactly c cs well acc P count p k w s vs ts (stands o) (answered q)).1 (closes z)

  -- ---- a simulation with free choice is ours, as far as it goes
  -- what follows round k, which ended with q
  abbrev Next : ℕ → ℕ → Round → Timing → Answer Simulation
  Next n k q τ = elim τ.shot as (λ _. Answer Simulation) [
    | quiet ↦ answered (record { rounds = k; last = q })
    | fired v a R ↦ and_then (Close (suc k) R τ.state τ.values q.taken) (rounds_from (c ∷ cs) p n (suc k))
  ]

  fires-ours : {k x v a R : ℕ} {q : Round} {s : List ℕ} {vs : List ℤ} (n : ℕ) → After c cs p k q → Fires c cs q.state q.values x v a R s
      → Falls (c ∷ cs) q.values v vs
      → rounds_from (c ∷ cs) p (suc n) k q ≡ and_then (Close (suc k) R s vs q.taken) (rounds_from (c ∷ cs) p n (suc k))
  unfolding rounds_from
  fires-ours {k} {v = v} {a} {R} {q} {s} {vs} n h f g =
      let τ : Timing = record { shot = fired v a R; state = s; values = vs } in
      ap (λ a. and_then a (Next n k q)) (timed-is c cs well acc (ready h) (answered τ) (is-fired (ready h) f g))

  -- if some choice of urgent steps comes to the end of round k with q, ours, asked for n rounds more, stands there with the same q
  pub ours-goes-along : {k : ℕ} {q : Round} → After c cs p k q → (n : ℕ) → simulate_of (c ∷ cs) p (n + k) ≡ rounds_from (c ∷ cs) p n k q
  unfolding simulate_of round_zero
  ours-goes-along {q = q} (first z) n =
      ap (λ o. and_then o (rounds_from (c ∷ cs) p (n + 0) 0)) (closes-ours at-start z) ∙ ap (λ j. rounds_from (c ∷ cs) p j 0 q) (right n)
  ours-goes-along {q = q} (later {k = k} h f g z) n =
      ap (simulate_of (c ∷ cs) p) (moved n k) ∙ ours-goes-along h (suc n) ∙ fires-ours n h f g
      ∙ ap (λ o. and_then o (rounds_from (c ∷ cs) p n (suc k))) (closes-ours (by-firing h f g) z)

  -- and to where it begins to settle in round k
  opens-along : {k w : ℕ} {s : List ℕ} {vs : List ℤ} {ts : List ℕ} → Opens c cs p k w s vs ts → (n : ℕ)
      → simulate_of (c ∷ cs) p (n + k) ≡ and_then (Close k w s vs ts) (rounds_from (c ∷ cs) p n k)
  unfolding simulate_of round_zero
  opens-along at-start n = ap (λ j. and_then (Close 0 (started_all (c ∷ cs)) (start_all (c ∷ cs)) no_values none_taken) (rounds_from (c ∷ cs) p j 0)) (right n)
  opens-along (by-firing {k = k} h f g) n = ap (simulate_of (c ∷ cs) p) (moved n k) ∙ ours-goes-along h (suc n) ∙ fires-ours n h f g

  -- ---- so it is one of them
  -- after round k, n rounds more
  abbrev Holds : ℕ → Type 0
  Holds n = (k : ℕ) (q : Round) → After c cs p k q → (a : Answer Simulation) → rounds_from (c ∷ cs) p n k q ≡ a → Simulates c cs p (k + n) a

  simulates-from : (n : ℕ) → Holds n
  unfolding rounds_from
  simulates-from zero k q h a e = rw (← e) (is-done h (omega arith) (λ l. absurd (omega arith)))
  simulates-from (suc n) k q h a e =
      go (timed_from (c ∷ cs) q.state q.values (enabling_all (c ∷ cs) q.state)) (timed-as c cs well acc (ready h)) (simulates-from n) e
    where
      close : {x v b R : ℕ} {s : List ℕ} {vs : List ℤ} (f : Fires c cs q.state q.values x v b R s)
          (g : Falls (c ∷ cs) q.values v vs) (o : Answer Round)
          → CloseAnswer c cs well acc P count p (suc k) R s vs q.taken o → Holds n → and_then o (rounds_from (c ∷ cs) p n (suc k)) ≡ a
          → Simulates c cs p (k + suc n) a
      close f g (answered r) (closes z) rec e = subst (λ j. Simulates c cs p j a) (sym (moved k n)) (rec (suc k) r (later h f g z) a e)
      close f g o (unsettled z) rec e = rw (← e) (unending (by-firing h f g) (omega arith) z)
      close f g o (has_run_out z l) rec e = rw (← e) (out (by-firing h f g) (omega arith) z l)

      go : (o : Answer Timing) → TimedAnswer c cs q.state q.values o → Holds n → and_then o (Next n k q) ≡ a → Simulates c cs p (k + suc n) a
      go o (is21 w) rec e = absurd (w (ready h).within)
      go o (is27 w s) rec e = absurd (s (ready h).stable)
      go o (is28 w s t) rec e = absurd (t (ready h).ticks)
      go o (is29 {x = x} j l) rec e = absurd (none-below-zero c cs well acc p fair h x l.here)
      go o (is30 j b l) rec e = rw (← e) (tie h (omega arith) l)
      go o (is-quiet j w) rec e = rw (← e) (is-done h (omega arith) (λ l. w))
      go o (is-fired {R = R} {s' = s} {vs' = vs} j f g) rec e =
          close f g (Close (suc k) R s vs q.taken)
          ((close-exactly c cs well acc P count p (suc k) R s vs q.taken (stands (by-firing h f g)) (Close (suc k) R s vs q.taken)).0 refl) rec e

  simulates : (n : ℕ) (a : Answer Simulation) → simulate_of (c ∷ cs) p n ≡ a → Simulates c cs p n a
  unfolding simulate_of round_zero
  simulates n a e =
      let o = Close 0 (started_all (c ∷ cs)) (start_all (c ∷ cs)) no_values none_taken in
      go o ((close-exactly c cs well acc P count p 0 (started_all (c ∷ cs)) (start_all (c ∷ cs)) no_values none_taken (stands at-start) o).0 refl) e
    where
      go : (o : Answer Round) → CloseAnswer c cs well acc P count p 0 (started_all (c ∷ cs)) (start_all (c ∷ cs)) no_values none_taken o
          → and_then o (rounds_from (c ∷ cs) p n 0) ≡ a → Simulates c cs p n a
      go (answered q) (closes z) e = subst (λ j. Simulates c cs p j a) (zero-add n) (simulates-from n 0 q (first z) a e)
      go o (unsettled z) e = rw (← e) (unending at-start (omega arith) z)
      go o (has_run_out z l) e = rw (← e) (out at-start (omega arith) z l)

  -- ---- and each of them is ours
  -- ours, asked for n rounds, does what it does from the end of round k on, or from where it begins to settle there
  from-after : {k n : ℕ} {q : Round} → After c cs p k q → k ≤ n → simulate_of (c ∷ cs) p n ≡ rounds_from (c ∷ cs) p (n - k) k q
  from-after {k} {n} h l = ap (simulate_of (c ∷ cs) p) (sym (rest n k l)) ∙ ours-goes-along h (n - k)

  from-opens : {k n w : ℕ} {s : List ℕ} {vs : List ℤ} {ts : List ℕ} → Opens c cs p k w s vs ts → k ≤ n
      → simulate_of (c ∷ cs) p n ≡ and_then (Close k w s vs ts) (rounds_from (c ∷ cs) p (n - k) k)
  from-opens {k} {n} h l = ap (simulate_of (c ∷ cs) p) (sym (rest n k l)) ∙ opens-along h (n - k)

  -- a timed step that is refused or quiet
  timed-then : {k : ℕ} {q : Round} (n : ℕ) → After c cs p k q → (o : Answer Timing) → TimedAnswer c cs q.state q.values o
      → rounds_from (c ∷ cs) p (suc n) k q ≡ and_then o (Next n k q)
  unfolding rounds_from
  timed-then {k} {q} n h o t = ap (λ a. and_then a (Next n k q)) (timed-is c cs well acc (ready h) o t)

  simulated : (n : ℕ) (a : Answer Simulation) → Simulates c cs p n a → simulate_of (c ∷ cs) p n ≡ a
  unfolding rounds_from
  simulated n a (is-done {k = k} {q = q} h l w) = from-after h l ∙ go (n - k) refl
    where
      go : (j : ℕ) → n - k ≡ j → rounds_from (c ∷ cs) p j k q ≡ answered (record { rounds = k; last = q })
      go zero e = refl
      go (suc j) e = timed-then j h (answered (quietly q.state q.values)) (is-quiet (ready h) (w (omega arith)))
  simulated n a (tie {k = k} {x = x} {q = q} h l t) =
      from-after h (omega arith) ∙ ap (λ j. rounds_from (c ∷ cs) p j k q) (let e : n - k ≡ suc (n - suc k) = omega arith in e)
      ∙ timed-then (n - suc k) h (refused (tell 30 (x ∷ []))) (is30 (ready h) (none-below-zero c cs well acc p fair h) t)
  simulated n a (unending {k = k} {w = w} {s = s} {ts = ts} {vs = vs} o l z) =
      from-opens o l ∙ ap (λ b. and_then b (rounds_from (c ∷ cs) p (n - k) k))
      ((close-exactly c cs well acc P count p k w s vs ts (stands o) (refused (tell 42 (k ∷ [])))).1 (unsettled z))
  simulated n a (out {k = k} {w = w} {x = x} {s = s} {ts = ts} {vs = vs} o l z t) =
      from-opens o l ∙ ap (λ b. and_then b (rounds_from (c ∷ cs) p (n - k) k))
      ((close-exactly c cs well acc P count p k w s vs ts (stands o) (refused (tell p.ran_out (x ∷ [])))).1 (has_run_out z t))

  -- "It answers later rounds done and state", or "round by round 30, 42 .., 41": each with its reason, and nothing else
  pub simulates-exactly : (n : ℕ) (a : Answer Simulation) → (simulate_of (c ∷ cs) p n ≡ a) ↔ Simulates c cs p n a
  simulates-exactly n a = (simulates n a, simulated n a)
