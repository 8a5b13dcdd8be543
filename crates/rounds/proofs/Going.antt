-- The rounds one after the other: what is left to simulate from here on is what is left from round 0 on.
use mathlib.Core.Path.{◌≡◌, refl, sym, ◌∙◌, ap, ap₂, subst}
use mathlib.Core.Bool.{true≢false}
use mathlib.Core.Option.{Option, none, some}
use mathlib.Core.List.{List}
use Prim.Native.Nat.{ℕ, zero, suc, ◌+◌, ◌-◌, ◌≤◌, ◌<◌}
use native.Mathlib.Numerals.{add-one}
use native.Mathlib.Omega.{arith}
use lib.ListN.{length, replicate, length-replicate}
use lib.IntN.{ℤ, pos}
use Rattle.answer.specs.Limits.{max_clocks, max_components}
use Rattle.answer.specs.Told.{Answer, answered, refused, Shot, fired, quiet}
use Rattle.answer.specs.declared.Refusal.{Refusal}
use Rattle.answer.specs.declared.State.{State}
use Rattle.answer.specs.declared.Simulated.{Simulated}
use Rattle.std.specs.Prelude.{Some, None, Result, Ok, Err}
use Rattle.answer.specs.State.{parts_of}
use Rattle.model.specs.Model.{Model}
use Rattle.iosa.specs.Start.{start_all, started_all}
use Rattle.timing.specs.Timed.{enabling_all, timed_from}
use Rattle.iosa.specs.TimedExactly.{Timing, value_of}
use Rattle.iosa.proofs.Settling.Start.{start-length, start-in-range}
use Rattle.layout.specs.Image.{model_of}
use Rattle.layout.proofs.RowsOfRange.{well-formed}
use Rattle.words.specs.Bytes.{state_of}
use Rattle.words.proofs.Laid.{state-numbers}
use Rattle.ticks.specs.Ticks.{Tick}
use Rattle.moves.proofs.Ready.{count-few}
use Rattle.simulation.specs.Simulate.{Supply, Round, close_of, and_then, Simulation, no_values, none_taken, round_zero, rounds_from, simulate_of}
use Rattle.feed.specs.Supply.{Lent, Supplies}
use Rattle.feed.proofs.Feeding.{count-tick}
use Rattle.feed.specs.declared.Source.{Source}
use Rattle.rounds.specs.declared.Stand.{Stand}
use Rattle.rounds.specs.Rounds.{Posed, Placed, RoundIs, Closing, Closes, later_of, Later, CloseCall, LaterCall, Runnable, Runs, RoundsCall, FirstCall, RunCall}

-- ---- one later round of those that are left
module _ (m : Model) (p : Supply) (n r : ℕ) (q : Round) where
  abbrev onward : Answer (Option Round) → Answer Simulation
  onward (refused f) = refused f
  onward (answered none) = answered (record { rounds = r; last = q })
  onward (answered (some o)) = rounds_from m p n (suc r) o

  one-round : rounds_from m p (suc n) r q ≡ onward (later_of m p (suc r) q.state q.values q.taken)
  unfolding rounds_from later_of
  one-round = go (timed_from m q.state q.values (enabling_all m q.state))
    where
      closed : (o : Answer Round) → and_then o (rounds_from m p n (suc r)) ≡ onward (and_then o (λ o. answered (some o)))
      closed (answered o) = refl
      closed (refused f) = refl

      shots : (τ : Timing) (s : Shot)
          → ◌≡◌ {A = Answer Simulation} (elim s as (λ _. Answer Simulation) [
            | quiet ↦ answered (record { rounds = r; last = q })
            | fired v a R ↦ and_then (close_of m p (suc r) R τ.state τ.values q.taken) (rounds_from m p n (suc r))
          ]) (onward (elim s as (λ _. Answer (Option Round)) [
            | quiet ↦ answered none
            | fired v a R ↦ and_then (close_of m p (suc r) R τ.state τ.values q.taken) (λ o. answered (some o))
          ]))
      shots τ quiet = refl
      shots τ (fired v a R) = closed (close_of m p (suc r) R τ.state τ.values q.taken)

      go : (o : Answer Timing)
          → ◌≡◌ {A = Answer Simulation} (and_then o (λ τ. elim τ.shot as (λ _. Answer Simulation) [
            | quiet ↦ answered (record { rounds = r; last = q })
            | fired v a R ↦ and_then (close_of m p (suc r) R τ.state τ.values q.taken) (rounds_from m p n (suc r))
          ])) (onward (and_then o (λ τ. elim τ.shot as (λ _. Answer (Option Round)) [
            | quiet ↦ answered none
            | fired v a R ↦ and_then (close_of m p (suc r) R τ.state τ.values q.taken) (λ o. answered (some o))
          ])))
      go (refused f) = refl
      go (answered τ) = shots τ τ.shot

no-round : (m : Model) (p : Supply) (n r : ℕ) (q : Round) → n ≡ 0 → rounds_from m p n r q ≡ answered (record { rounds = r; last = q })
unfolding rounds_from
no-round m p n r q e = rw (e, rounds_from)

-- ---- what a round ended with
abbrev ended : State → List ℤ → List ℕ → Round
ended x vs ts = record { state = parts_of x; values = vs; taken = ts }

round_is : (t : List ℕ) (l : Lent) (p : Supply) (q : Round) (x : State) (at used : List ℕ) (vs : List ℤ) → Posed t x vs → RoundIs l p q x at used vs
    → ended x vs q.taken ≡ q
unfolding state_of
round_is t l p q x at used vs k i =
    let c : x.count ≡ length q.state = ap (λ (y : State). y.count) i.state in
    let few : length q.state ≤ max_components = omega (arith, c, count-few t x k.ready.standing) in
    ap₂ (λ a b. record { state = a; values = b; taken = q.taken }) (ap parts_of i.state ∙ state-numbers q.state few) i.values

-- ---- the loop
-- x₀, at₀, used₀ and was are the state, places and values after round 0, and the others those after round k
pub record Going (t : List ℕ) (l : Lent) (n : ℕ) (x₀ : State) (at₀ used₀ : List ℕ) (was : List ℤ) (x : State) (at used : List ℕ) (vs : List ℤ) (k : ℕ) : Type 0 where
  pub below : k ≤ n
  pub placed : Placed at used
  pub posed : Posed t x vs
  pub along : (p : Supply) (ts : List ℕ) → Supplies l p ts at₀ used₀
      → (us : List ℕ) × Supplies l p us at used × (rounds_from (model_of t) p (n - k) k (ended x vs us) ≡ rounds_from (model_of t) p n 0 (ended x₀ was ts))

pub going-none : (t : List ℕ) (l : Lent) (n : ℕ) (x : State) (at used : List ℕ) (vs : List ℤ) → Placed at used → Posed t x vs → Going t l n x at used vs x at used vs 0
going-none t l n x at used vs c k = record {
  below = omega arith;
  placed = c;
  posed = k;
  along = λ p ts m. let e : n - 0 ≡ n = omega arith in (ts, m, ap (λ j. rounds_from (model_of t) p j 0 (ended x vs ts)) e);
}

module _ (t : List ℕ) (l : Lent) (n : ℕ) (x₀ : State) (at₀ used₀ : List ℕ) (was : List ℤ) (x : State) (at used : List ℕ) (vs : List ℤ) (k : ℕ)
    (w : Going t l n x₀ at₀ used₀ was x at used vs k) where
  -- the rounds are all done
  pub going_end : n ≤ k → RoundsCall t l n x₀ at₀ used₀ was (Ok (record { rounds = n; state = x })) vs
  going_end h = record {
    runs = λ p ts m.
        let g = w.along p ts m in
        let z : n - k ≡ 0 = omega arith in
        let e : n ≡ k = omega (arith, w.below) in
        subst (λ a. Runs a (Ok (record { rounds = n; state = x })) vs) (sym (no-round (model_of t) p (n - k) k (ended x vs g.0) z) ∙ g.2)
        (record { rounds = e; state = w.posed.zeros; values = refl });
  }

  module _ (h : k < n) (from : Source) (at' used' : List ℕ) (us : List ℤ) where
    abbrev stand : Stand
    stand = record { from = from; round = k + 1; state = x; resets = 0 }

    -- what is left is one round and the others
    Left : (p : Supply) (ts : List ℕ) → Type 0
    Left p ts = (ws : List ℕ) × Supplies l p ws at used
        × (onward (model_of t) p (n - (k + 1)) k (ended x vs ws) (later_of (model_of t) p (k + 1) (parts_of x) vs ws) ≡ rounds_from (model_of t) p n 0 (ended x₀ was ts))

    left : (p : Supply) (ts : List ℕ) (m : Supplies l p ts at₀ used₀) → Left p ts
    unfolding Left
    left p ts m =
        let g = w.along p ts m in
        let e : n - k ≡ suc (n - (k + 1)) = omega arith in (
          g.0,
          g.1,
          ap (λ i. onward (model_of t) p (n - (k + 1)) k (ended x vs g.0) (later_of (model_of t) p i (parts_of x) vs g.0)) (add-one k)
              ∙ sym (one-round (model_of t) p (n - (k + 1)) k (ended x vs g.0))
              ∙ sym (ap (λ i. rounds_from (model_of t) p i k (ended x vs g.0)) e)
              ∙ g.2,
        )

    pub going_more : (y : State) → LaterCall t l stand at used vs (Ok (Some y)) at' used' us → Going t l n x₀ at₀ used₀ was y at' used' us (k + 1)
    unfolding Left
    going_more y call = record { below = omega arith; placed = call.placed; posed = call.posed; along = λ p ts m. on p ts (left p ts m) }
      where
        on : (p : Supply) (ts : List ℕ) → Left p ts
            → (xs : List ℕ) × Supplies l p xs at' used'
            × (rounds_from (model_of t) p (n - (k + 1)) (k + 1) (ended y us xs) ≡ rounds_from (model_of t) p n 0 (ended x₀ was ts))
        on p ts g = go (later_of (model_of t) p (k + 1) (parts_of x) vs g.0) (call.goes p g.0 g.1) g.2
          where
            go : (o : Answer (Option Round)) → Later o l p vs (Ok (Some y)) at' used' us
                → onward (model_of t) p (n - (k + 1)) k (ended x vs g.0) o ≡ rounds_from (model_of t) p n 0 (ended x₀ was ts)
                → (xs : List ℕ) × Supplies l p xs at' used'
                × (rounds_from (model_of t) p (n - (k + 1)) (k + 1) (ended y us xs) ≡ rounds_from (model_of t) p n 0 (ended x₀ was ts))
            go (answered (some q)) i e = (
              q.taken,
              i.supplies,
              ap₂ (rounds_from (model_of t) p (n - (k + 1))) (add-one k) (round_is t l p q y at' used' us call.posed i) ∙ e,
            )
            go (answered none) i e = absurd (true≢false i.0)
            go (refused f) i e = absurd i

    pub going-quiet : LaterCall t l stand at used vs (Ok None) at' used' us → RoundsCall t l n x₀ at₀ used₀ was (Ok (record { rounds = k; state = x })) us
    unfolding Left
    going-quiet call = record {
      runs = λ p ts m.
          let g = left p ts m in go p ts (later_of (model_of t) p (k + 1) (parts_of x) vs g.0) (call.goes p g.0 g.1) g.0 g.2;
    }
      where
        go : (p : Supply) (ts : List ℕ) (o : Answer (Option Round)) → Later o l p vs (Ok None) at' used' us → (ws : List ℕ)
            → onward (model_of t) p (n - (k + 1)) k (ended x vs ws) o ≡ rounds_from (model_of t) p n 0 (ended x₀ was ts)
            → Runs (rounds_from (model_of t) p n 0 (ended x₀ was ts)) (Ok (record { rounds = k; state = x })) us
        go p ts (answered (some q)) i ws q' = absurd i
        go p ts (answered none) i ws q' =
            subst (λ a. Runs a (Ok (record { rounds = k; state = x })) us) q' (record { rounds = refl; state = w.posed.zeros; values = i.1 })
        go p ts (refused f) i ws q' = absurd i

    pub going-refused : (q : Refusal) → LaterCall t l stand at used vs (Err q) at' used' us → RoundsCall t l n x₀ at₀ used₀ was (Err q) us
    unfolding Left
    going-refused q call = record {
      runs = λ p ts m.
          let g = left p ts m in go p ts (later_of (model_of t) p (k + 1) (parts_of x) vs g.0) (call.goes p g.0 g.1) g.0 g.2;
    }
      where
        go : (p : Supply) (ts : List ℕ) (o : Answer (Option Round)) → Later o l p vs (Err q) at' used' us → (ws : List ℕ)
            → onward (model_of t) p (n - (k + 1)) k (ended x vs ws) o ≡ rounds_from (model_of t) p n 0 (ended x₀ was ts)
            → Runs (rounds_from (model_of t) p n 0 (ended x₀ was ts)) (Err q) us
        go p ts (answered (some o)) i ws q' = absurd i
        go p ts (answered none) i ws q' = absurd i.0
        go p ts (refused f) i ws q' = subst (λ a. Runs a (Err q) us) q' i

-- ---- round 0
zero-at : (n x : ℕ) → value_of (replicate n (pos 0)) x ≡ pos 0
zero-at zero x = refl
zero-at (suc n) zero = refl
zero-at (suc n) (suc x) = zero-at n x

module _ (t : List ℕ) (k : Runnable t) (x : State) (e : x ≡ state_of (start_all (model_of t))) where
  start-parts : parts_of x ≡ start_all (model_of t)
  start-parts =
      let well = well-formed t k.image in
      ap parts_of e ∙ state-numbers (start_all (model_of t)) (omega (arith, start-length (model_of t), well.components))

  pub first-posed : (vs : List ℤ) → vs ≡ no_values → Posed t x vs
  unfolding no_values
  first-posed vs v = record {
    ready = record {
      standing = record { image = k.image; within = rw start-parts (start-in-range (model_of t) (well-formed t k.image)) };
      conforming = k.conforming;
      joinable = k.joinable;
    };
    zeros = e ∙ sym (ap state_of start-parts);
    ticking = rw v (record { count = length-replicate {A = ℤ} max_clocks (pos 0); each = λ y h. subst Tick (sym (zero-at max_clocks y)) (count-tick 0 (omega arith)) });
  }

  pub first-closes : (l : Lent) (from : Source) (at used : List ℕ) (R : ℕ) → R ≡ started_all (model_of t) → (vs : List ℤ) → vs ≡ no_values → (r : Closing) (at' used' : List ℕ) (us : List ℤ)
      → CloseCall t l (record { from = from; round = 0; state = x; resets = R }) at used vs r at' used' us → FirstCall t l at used r at' used' us
  unfolding round_zero
  first-closes l from at used R er vs v r at' used' us c = record {
    closes = λ p m.
        subst (λ a. Closes a l p r at' used' us)
        (ap₂ (λ a b. close_of (model_of t) p 0 a b vs none_taken) er start-parts
        ∙ ap (λ u. close_of (model_of t) p 0 (started_all (model_of t)) (start_all (model_of t)) u none_taken) v)
        (c.closes p none_taken m);
    placed = c.placed;
    posed = c.posed;
    ticking = c.ticking;
  }

pub no-values-count : {vs : List ℤ} → vs ≡ no_values → length vs ≡ max_clocks
unfolding no_values
no-values-count e = ap length e ∙ length-replicate {A = ℤ} max_clocks (pos 0)

-- ---- all rounds
module _ (t : List ℕ) (l : Lent) (n : ℕ) (at used : List ℕ) (at' used' : List ℕ) (vs : List ℤ) where
  by_first : (b : Closing) (first : FirstCall t l at used b at' used' vs) (r : Result Simulated Refusal) (us : List ℤ)
      → ((p : Supply) (o : Answer Round) → Closes o l p b at' used' vs → Runs (and_then o (rounds_from (model_of t) p n 0)) r us) → RunCall t l n at used r us
  unfolding simulate_of
  by_first b first r us go = record { runs = λ p m. go p (round_zero (model_of t) p) (first.closes p m) }

  pub run_on : (y : State) → FirstCall t l at used (Ok y) at' used' vs → (r : Result Simulated Refusal) (us : List ℤ) → RoundsCall t l n y at' used' vs r us
      → RunCall t l n at used r us
  run_on y first r us c = by_first (Ok y) first r us go
    where
      go : (p : Supply) (o : Answer Round) → Closes o l p (Ok y) at' used' vs → Runs (and_then o (rounds_from (model_of t) p n 0)) r us
      go p (answered q) i = subst (λ a. Runs a r us) (ap (rounds_from (model_of t) p n 0) (round_is t l p q y at' used' vs first.posed i)) (c.runs p q.taken i.supplies)
      go p (refused g) i = absurd i

  pub run-refused : (q : Refusal) → FirstCall t l at used (Err q) at' used' vs → RunCall t l n at used (Err q) vs
  run-refused q first = by_first (Err q) first (Err q) vs go
    where
      go : (p : Supply) (o : Answer Round) → Closes o l p (Err q) at' used' vs → Runs (and_then o (rounds_from (model_of t) p n 0)) (Err q) vs
      go p (answered o) i = absurd i
      go p (refused g) i = i
