-- What holds as every round ends: the state is stable, the values are in range, and every clock that is waited for has a tick left at least
-- (by condition (f) of 000, Definition 4.1). So of the timed step's own refusals only 30 can stand in a simulation, and every firing takes a tick or more.
use mathlib.Core.Path.{◌≡◌, refl, sym, ◌∙◌, ap, subst}
use mathlib.Core.Logic.{◌≢◌, ◌⊎◌, inl, inr}
use mathlib.Core.Option.{none}
use mathlib.Core.Bool.{Bool, true, false, true≢false}
use mathlib.Core.List.{List, ◌∷◌}
use Prim.Native.Nat.{ℕ, zero, suc, ◌+◌, ◌-◌, ◌≤◌, ◌<◌}
use native.Mathlib.Omega.{arith}
use borrow.Author.Tests.{ltb-true, le-ltb, le-leb}
use lib.ListN.{length, length-replicate, replicate}
use lib.IntN.{ℤ, pos, negsuc, ◌-ℤ◌}
use lib.Signed.{lt_z, le_z}
use Rattle.laws.specs.Sets.{has, only, ◌∪◌, ◌∖◌, ◌∈◌}
use Rattle.laws.proofs.SetLaws.{in-or, or-in-l, or-in-r, in_without, not-or, in_one}
use Rattle.answer.specs.Limits.{max_clocks, max_ticks}
use Rattle.model.specs.Model.{Comp, Model, declared}
use Rattle.model.specs.WellFormed.{WellFormed}
use Rattle.iosa.specs.Automaton.{Automaton, Stable, Active, Conditions, Conforming, Joinable}
use Rattle.iosa.specs.Product.{product, state_of, Within, Series, over, next}
use Rattle.iosa.specs.Checks.{accept_of}
use Rattle.iosa.specs.Start.{start_all, started_all}
use Rattle.iosa.specs.TimedExactly.{floor, greater, value_of, Waits, InTicks, BelowZero, Fires, Falls, Ready}
use Rattle.iosa.proofs.Acceptance.Accepted.{accepted-exactly}
use Rattle.iosa.proofs.Settling.ProductOfMany.{wells, system-is-an-automaton, in-range-is-a-state}
use Rattle.iosa.proofs.Settling.Start.{start-of-the-product}
use Rattle.timing.proofs.Timing.Enabling.{declared-below}
use Rattle.timing.proofs.Timing.Shots.{waits-declared}
use Rattle.timing.proofs.Timing.Values.{falls-in-ticks}
use Rattle.simulation.specs.Simulate.{Supply, Round, no_values}
use Rattle.simulation.specs.Free.{Closes, After, first, later, Fair}

-- ---- active clocks along a series
module _ (A : Automaton) (active : A.State → ℕ) (f : Active A active) where
  series-keeps : {x y : A.State} {l : List ℕ} {Q : ℕ} → Series A x l Q y → (z : ℕ) → z ∈ active y → (z ∈ active x) ⊎ (z ∈ Q)
  series-keeps over z h = inl h
  series-keeps {x} (next {C = C} {R = R} {Q = Q} u r) z h = elim (series-keeps r z h) [
    | inr i ↦ inr (or-in-r R Q z i)
    | inl i ↦ elim (in-or (active x ∖ C) R z (f.kept u.row z i)) [ inl j ↦ inl (in_without (active x) C z j).0 | inr j ↦ inr (or-in-l R Q z j) ]
  ]

-- ---- signed values
-- a tick or more
record Ticks (z : ℤ) : Type 0 where
  pub ticks : ℕ
  pub some : 1 ≤ ticks
  pub is : z ≡ pos ticks

more-than : (v : ℕ) (z : ℤ) → lt_z (pos v) z ≡ true → (n : ℕ) × (v < n) × (z ≡ pos n)
more-than v (pos n) h = (n, ltb-true v n h, refl)
more-than v (negsuc n) h = absurd (true≢false (sym h))

ticks-less : (n v : ℕ) → v < n → pos n -ℤ pos v ≡ pos (n - v)
ticks-less n zero h = let e : n + 0 ≡ n - 0 = omega arith in ap pos e
ticks-less n (suc v) h = rw (le-ltb n (suc v) (omega arith))

-- a clock with more than v falls by v, and has ticks left
falls-to-ticks : (m : Model) (vs : List ℤ) (v : ℕ) (us : List ℤ) (x : ℕ) → x < length vs → x ∈ declared m → lt_z (pos v) (value_of vs x) ≡ true
    → Falls m vs v us → Ticks (value_of us x)
falls-to-ticks m vs v us x l h e f =
    let n = more-than v (value_of vs x) e in
    let d : value_of vs x -ℤ pos v ≡ pos (n.0 - v) = ap (λ z. z -ℤ pos v) n.2 ∙ ticks-less n.0 v n.1 in
    record { ticks = n.0 - v; some = omega (arith, n.1); is = f.falls x l h ∙ ap (λ z. greater z floor) d }

zero-at : (n x : ℕ) → value_of (replicate n (pos 0)) x ≡ pos 0
zero-at zero x = refl
zero-at (suc n) zero = refl
zero-at (suc n) (suc x) = zero-at n x

module _ (c : Comp) (cs : List Comp) (well : WellFormed (c ∷ cs)) (acc : accept_of (c ∷ cs) ≡ none) (p : Supply) (fair : Fair p) where
  met : Conforming (c ∷ cs) × Joinable (c ∷ cs)
  met = (accepted-exactly (c ∷ cs) well).0 acc

  conditions : Conditions (product c cs)
  conditions = system-is-an-automaton c cs well met.0 met.1

  unfoldable active : (product c cs).State → ℕ
  active = conditions.cond_f.0

  sets : Active (product c cs) active
  unfolding active
  sets = conditions.cond_f.1

  below : (x : ℕ) → x ∈ declared (c ∷ cs) → x < max_clocks
  below = declared-below (c ∷ cs) (wells (c ∷ cs) well)

  -- while a round goes on, w being the clocks set or reset in it: an active clock is one of w, or has ticks left
  record Awake (w : ℕ) (s : List ℕ) (vs : List ℤ) : Type 0 where
    pub ticks : InTicks (c ∷ cs) vs
    pub awake : (x : ℕ) → x ∈ active (state_of c cs s) → (x ∈ w) ⊎ Ticks (value_of vs x)

  -- as a round ends
  record Sound (q : Round) : Type 0 where
    pub within : Within (c ∷ cs) q.state
    pub stable : Stable (product c cs) (state_of c cs q.state)
    pub ticks : InTicks (c ∷ cs) q.values
    pub awake : (x : ℕ) → x ∈ active (state_of c cs q.state) → Ticks (value_of q.values x)

  -- in a stable state an active clock is one that is waited for, so it is declared
  active-declared : (s : List ℕ) → Within (c ∷ cs) s → Stable (product c cs) (state_of c cs s) → (x : ℕ) → x ∈ active (state_of c cs s) → x ∈ declared (c ∷ cs)
  active-declared s w st x h = waits-declared c cs well met.0 met.1 s w x (sets.equal (state_of c cs s) (in-range-is-a-state c cs s w) st x h)

  closes-sound : {w : ℕ} {s : List ℕ} {vs : List ℤ} {ts : List ℕ} {q : Round} → Awake w s vs → Closes c cs p w s vs ts q → Sound q
  closes-sound {w} {s} {vs} {ts} {q} a k =
      let st = k.settles in
      record {
        within = st.within;
        stable = st.stable;
        ticks = record {
          count = k.takes.count-values;
          low = λ x h. low x h (has (w ∪ k.resets) x) refl;
          high = λ x h. high x h (has (w ∪ k.resets) x) refl;
        };
        awake = λ x h. awake x (below x (active-declared q.state st.within st.stable x h)) (has (w ∪ k.resets) x) refl h;
      }
    where
      low : (x : ℕ) → x ∈ declared (c ∷ cs) → (b : Bool) → has (w ∪ k.resets) x ≡ b → le_z floor (value_of q.values x) ≡ true
      low x h true i = ap (le_z floor) (k.takes.takes x (below x h) i).value-is
      low x h false i = ap (le_z floor) (k.takes.keeps x i).0 ∙ a.ticks.low x h

      high : (x : ℕ) → x ∈ declared (c ∷ cs) → (b : Bool) → has (w ∪ k.resets) x ≡ b → le_z (value_of q.values x) (pos max_ticks) ≡ true
      high x h true i =
          let t = k.takes.takes x (below x h) i in
          ap (λ z. le_z z (pos max_ticks)) t.value-is ∙ le-leb t.ticks max_ticks (fair.most x _ t.ticks t.next)
      high x h false i = ap (λ z. le_z z (pos max_ticks)) (k.takes.keeps x i).0 ∙ a.ticks.high x h

      awake : (x : ℕ) → x < max_clocks → (b : Bool) → has (w ∪ k.resets) x ≡ b → x ∈ active (state_of c cs q.state) → Ticks (value_of q.values x)
      awake x l true i h = let t = k.takes.takes x l i in record { ticks = t.ticks; some = fair.least x _ t.ticks t.next; is = t.value-is }
      awake x l false i h =
          let o = not-or w k.resets x i in
          subst Ticks (sym (k.takes.keeps x i).0) (elim (series-keeps (product c cs) active sets k.settles.series x h) [
            | inr r ↦ absurd (true≢false (sym r ∙ o.1))
            | inl r ↦ elim (a.awake x r) [ inl v ↦ absurd (true≢false (sym v ∙ o.0)) | inr v ↦ v ]
          ])

  -- round 0 begins: "active(start) holds only clocks set at the start"
  awake-at-start : Awake (started_all (c ∷ cs)) (start_all (c ∷ cs)) no_values
  unfolding no_values
  awake-at-start =
      let st = start-of-the-product c cs in
      record {
        ticks = record {
          count = length-replicate max_clocks (pos 0);
          low = λ x h. ap (le_z floor) (zero-at max_clocks x);
          high = λ x h. ap (λ z. le_z z (pos max_ticks)) (zero-at max_clocks x);
        };
        awake = λ x h. inl (subst (λ w. x ∈ w) (sym st.1) (sets.first x (subst (λ y. x ∈ active y) st.0 h)));
      }

  -- a clock fires: what is active after it was waited for, and had more ticks than the one that fired, or is reset by the row
  awake-after : {x v a R : ℕ} {q : Round} {s : List ℕ} {vs : List ℤ} → Sound q → Fires c cs q.state q.values x v a R s
      → Falls (c ∷ cs) q.values v vs → Awake R s vs
  awake-after {x} {v} {a} {R} {q} {s} {vs} k f g = record {
    ticks = falls-in-ticks (c ∷ cs) q.values v vs below k.ticks g;
    awake = λ y h. elim (in-or (active (state_of c cs q.state) ∖ only x) R y (sets.kept f.row y h)) [
      | inr i ↦ inl i
      | inl i ↦ inr (other y (in_without (active (state_of c cs q.state)) (only x) y i))
    ];
  }
    where
      other : (y : ℕ) → (y ∈ active (state_of c cs q.state)) × (has (only x) y ≡ false) → Ticks (value_of vs y)
      other y h =
          let w : Waits c cs q.state y = sets.equal (state_of c cs q.state) (in-range-is-a-state c cs q.state k.within) k.stable y h.0 in
          let d = waits-declared c cs well met.0 met.1 q.state k.within y w in
          let differs : y ≢ x = λ e. true≢false (sym (subst (λ n. n ∈ only x) (sym e) (in_one x)) ∙ h.1) in
          falls-to-ticks (c ∷ cs) q.values v vs y (omega (arith, k.ticks.count, below y d)) d (f.least y differs w) g

  after-sound : {k : ℕ} {q : Round} → After c cs p k q → Sound q
  after-sound (first k) = closes-sound awake-at-start k
  after-sound (later h f g k) = closes-sound (awake-after (after-sound h) f g) k

  -- every clock that is waited for as a round ends has a tick left at least
  waits-ticks : {k : ℕ} {q : Round} → After c cs p k q → (y : ℕ) → Waits c cs q.state y → Ticks (value_of q.values y)
  waits-ticks {q = q} h y w =
      let k = after-sound h in
      k.awake y (sets.enabled (state_of c cs q.state) (in-range-is-a-state c cs q.state k.within) y w)

  -- "samples are 1 to 2^40": every firing takes a tick or more
  pub firing-takes-a-tick : {k x v a R : ℕ} {q : Round} {s : List ℕ} → After c cs p k q → Fires c cs q.state q.values x v a R s → 1 ≤ v
  firing-takes-a-tick {x = x} {v = v} h f =
      let t = waits-ticks h x f.waits in
      let e : pos v ≡ pos t.ticks = sym f.value ∙ t.is in
      let n : v ≡ t.ticks = cc in
      omega (arith, n, t.some)

  -- no clock that is waited for is below zero: 29 never arises
  pub none-below-zero : {k : ℕ} {q : Round} → After c cs p k q → (y : ℕ) → BelowZero (Waits c cs q.state) q.values y → ⊥
  none-below-zero h y b =
      let t = waits-ticks h y b.waits in
      true≢false (sym b.negative ∙ ap (λ z. lt_z z (pos 0)) t.is ∙ le-ltb t.ticks 0 (omega arith))

  -- nor do 21, 27 and 28
  pub always-ready : {k : ℕ} {q : Round} → After c cs p k q → Ready c cs q.state q.values
  always-ready h = let k = after-sound h in record { within = k.within; stable = k.stable; ticks = k.ticks }
