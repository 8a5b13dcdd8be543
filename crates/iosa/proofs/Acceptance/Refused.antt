-- Refused exactly: 10 to 17 are answered with their place exactly if the condition is broken there and no fault comes before it in 01's order.
-- And so by each half: one component by itself, and the compatibility of all.
use mathlib.Core.Path.{◌≡◌, refl}
use mathlib.Core.Logic.{◌↔◌, ◌⊎◌, inl, inr, ⊎_elim}
use mathlib.Core.Bool.{Bool, true}
use mathlib.Core.Option.{none, some}
use mathlib.Core.List.{List, [], ◌∷◌}
use Prim.Native.Nat.{ℕ, ◌≤◌, ◌<◌}
use native.Mathlib.Omega.{arith}
use lib.ListN.{length, take}
use Rattle.laws.specs.Sets.{◌∈◌}
use Rattle.laws.proofs.SetLaws.{in-below}
use Rattle.answer.specs.Limits.{max_actions, max_clocks}
use Rattle.answer.specs.Told.{Told, tell}
use Rattle.model.specs.Model.{Comp, Model, comp_at, row_count}
use Rattle.model.specs.WellFormed.{WellComp, WellFormed}
use Rattle.iosa.specs.Automaton.{Automaton, auto_of}
use Rattle.iosa.specs.Checks.{check15, check16, check17, clash_for, share_output, share_clock, differ_urgent, component_of, compatible_of, accept_of}
use Rattle.iosa.specs.Faults.{Broken15, Broken16, Broken17, OnlyThere, Between, InTurnOf, First}
use Rattle.iosa.specs.Faults.{FaultAt, guarded, repeated, lacking, doubled, inactive}
use Rattle.iosa.specs.Faults.{Fault, inside, output-shared, clock-shared, urgency-differs}
use Rattle.iosa.proofs.Acceptance.Rows.{output-below, urgent-below}
use Rattle.iosa.proofs.Acceptance.Pairs as Pairs
use Rattle.iosa.proofs.Acceptance.Ranks.{Decides, decided-exactly, decided-none, decides-as, decides-under, Under, decides-else, decides-seek, Among}
use Rattle.iosa.proofs.Acceptance.Ranks.{decides-map, lower-head}
use Rattle.iosa.proofs.Acceptance.Places.{AtThree, decides-three, decides-next, heads-next, Numbered, headed, heads}
use Rattle.iosa.proofs.Acceptance.FaultsAt.{decides_at}
use Rattle.iosa.proofs.Acceptance.InHalves.{there-own, nowhere-25, accept-in-turn}

three : {P : ℕ → ℕ → ℕ → Type 0} (n x i j : ℕ) → P x i j → Numbered n (tell n) (AtThree P) (n ∷ x ∷ i ∷ j ∷ []) (tell n (x ∷ i ∷ j ∷ []))
three n x i j b = record {
  tail = x ∷ i ∷ j ∷ [];
  split = refl;
  there = record { value = x ∷ i ∷ j ∷ []; told = refl; there = record { one = x; two = i; three = j; rank = refl; told = refl; holds = b } };
}

-- no fault of a component is told as 25
never-25 : (c : Comp) (i n : ℕ) (q : List ℕ) (t : Told) → FaultAt c i n q t → t.number ≡ 25 → ⊥
never-25 c i n q t (guarded b) e = omega arith
never-25 c i n q t (repeated b) e = omega arith
never-25 c i n q t (lacking b) e = omega arith
never-25 c i n q t (doubled b) e = omega arith
never-25 c i n q t (inactive b) e = omega arith

module _ (m : Model) (w : WellFormed m) where
  -- ---- 15 to 17
  -- a test that means P, of numbers below n
  decides-pairs : (P : ℕ → Automaton → Automaton → Type 0) (f : ℕ → Comp → Comp → Bool) (n : ℕ)
      → ((c d : Comp) → WellComp c → WellComp d → (x : ℕ) → (f x c d ≡ true) ↔ P x (auto_of c) (auto_of d))
      → ((c d : Comp) → WellComp c → WellComp d → (x : ℕ) → P x (auto_of c) (auto_of d) → x < n)
      → Decides (AtThree (Between P m)) (clash_for f n m)
  unfolding clash_for
  decides-pairs P f n means below = decides-three (Between P m) (λ x i j. f x (comp_at m i) (comp_at m j)) n (length m)
      (λ x i j h k l e. record { order = k; inside = l; clash = (means (comp_at m i) (comp_at m j) (w.each i (omega arith)) (w.each j l) x).0 e })
      (λ x i j b. (means (comp_at m i) (comp_at m j) (w.each i (omega (arith, b.order, b.inside))) (w.each j b.inside) x).1 b.clash)
      (λ x i j b. (below (comp_at m i) (comp_at m j) (w.each i (omega (arith, b.order, b.inside))) (w.each j b.inside) x b.clash, b.order, b.inside))

  abbrev F15 : List ℕ → Told → Type 0
  F15 = Numbered 15 (tell 15) (AtThree (Broken15 m))

  abbrev F16 : List ℕ → Told → Type 0
  F16 = Numbered 16 (tell 16) (AtThree (Broken16 m))

  abbrev F17 : List ℕ → Told → Type 0
  F17 = Numbered 17 (tell 17) (AtThree (Broken17 m))

  abbrev Three : List ℕ → Told → Type 0
  Three q t = F15 q t ⊎ (F16 q t ⊎ F17 q t)

  decides-clash : Decides Three (compatible_of m)
  unfolding check15 check16 check17
  decides-clash =
      decides-next 15 (headed 15 _) (heads-next 16 (headed 16 _) (heads 17 _))
      (decides-under 15 (decides-map (tell 15) (decides-pairs (λ a A B. (a ∈ A.outputs) × (a ∈ B.outputs)) share_output max_actions
      (λ c d v u a. Pairs.output-shared c d a) (λ c d v u a p. output-below c v a p.0))))
      (decides-next 16 (headed 16 _) (heads 17 _)
      (decides-under 16 (decides-map (tell 16) (decides-pairs (λ x A B. (x ∈ A.clocks) × (x ∈ B.clocks)) share_clock max_clocks
      (λ c d v u x. Pairs.clock-shared c d x) (λ c d v u x p. in-below max_clocks c.clocks x v.clocks p.0))))
      (decides-under 17 (decides-map (tell 17) (decides-pairs (λ a A B. OnlyThere a A B ⊎ OnlyThere a B A) differ_urgent max_actions Pairs.urgency-differs
      (λ c d v u a. ⊎_elim (λ p. urgent-below c v a p.0) (λ p. urgent-below d u a p.0))))))

  three-turn : (q : List ℕ) (t : Told) → Three q t → InTurnOf m (length m) q t
  three-turn q t (inl v) = rw (v.split, v.there.there.rank, v.there.told, v.there.there.told) (output-shared v.there.there.holds)
  three-turn q t (inr (inl v)) = rw (v.split, v.there.there.rank, v.there.told, v.there.there.told) (clock-shared v.there.there.holds)
  three-turn q t (inr (inr v)) = rw (v.split, v.there.there.rank, v.there.told, v.there.there.told) (urgency-differs v.there.there.holds)

  turn_three : (q : List ℕ) (t : Told) → InTurnOf m (length m) q t → Three q t
  turn_three q t f = go (length m ∷ q) t f refl
    where
      go : (p : List ℕ) (t : Told) → Fault m p t → p ≡ length m ∷ q → Three q t
      go p t (inside {i} h f) e = let z : i ≡ length m = cc in absurd (omega (arith, h))
      go p t (output-shared {a} {i} {j} b) e = let z : q ≡ 15 ∷ a ∷ i ∷ j ∷ [] = cc in rw z (inl (three 15 a i j b))
      go p t (clock-shared {x} {i} {j} b) e = let z : q ≡ 16 ∷ x ∷ i ∷ j ∷ [] = cc in rw z (inr (inl (three 16 x i j b)))
      go p t (urgency-differs {a} {i} {j} b) e = let z : q ≡ 17 ∷ a ∷ i ∷ j ∷ [] = cc in rw z (inr (inr (three 17 a i j b)))

  decides-compatible : Decides (InTurnOf m (length m)) (compatible_of m)
  decides-compatible = decides-as (λ q t. (three-turn q t, turn_three q t)) decides-clash

  -- ---- one component by itself
  own_turn : (i : ℕ) → i < length m → (q : List ℕ) (t : Told) → InTurnOf m i q t → FaultAt (comp_at m i) i (row_count (take i m)) q t
  own_turn i h q t f = go (i ∷ q) t f refl
    where
      go : (p : List ℕ) (t : Told) → Fault m p t → p ≡ i ∷ q → FaultAt (comp_at m i) i (row_count (take i m)) q t
      go p t (inside {i = j} {q = r} k f) e =
          let x : j ≡ i = cc in
          let y : r ≡ q = cc in
          rw (x, y) at f
      go p t (output-shared b) e = let z : length m ≡ i = cc in absurd (omega arith)
      go p t (clock-shared b) e = let z : length m ≡ i = cc in absurd (omega arith)
      go p t (urgency-differs b) e = let z : length m ≡ i = cc in absurd (omega arith)

  decides-component : (i : ℕ) → i < length m → Decides (InTurnOf m i) (component_of m i)
  decides-component i h =
      decides-as (λ q t. (inside h, own_turn i h q t)) (rw (there-own m i h) (decides_at (comp_at m i) (w.each i h) i (row_count (take i m))))

  -- ---- the system: turn by turn
  abbrev All : List ℕ → Told → Type 0
  All q t = Among (InTurnOf m) 0 (length m) q t ⊎ Under (length m) (InTurnOf m (length m)) q t

  all-fault : (q : List ℕ) (t : Told) → All q t → Fault m q t
  all-fault q t (inl u) = rw u.split u.there
  all-fault q t (inr u) = rw u.split u.there

  fault-all : (q : List ℕ) (t : Told) → Fault m q t → All q t
  fault-all q t (inside {i} {q = r} h f) = inl (record { place = i; tail = r; from = omega arith; below = h; split = refl; there = inside h f })
  fault-all q t (output-shared b) = inr (record { tail = _; split = refl; there = output-shared b })
  fault-all q t (clock-shared b) = inr (record { tail = _; split = refl; there = clock-shared b })
  fault-all q t (urgency-differs b) = inr (record { tail = _; split = refl; there = urgency-differs b })

  pub decides-accept : Decides (Fault m) (accept_of m)
  decides-accept = decides-as (λ q t. (all-fault q t, fault-all q t)) (rw (accept-in-turn m) (
      decides-else (decides-seek (component_of m) 0 (length m) (λ i _ h. decides-component i h)) (decides-under (length m) decides-compatible)
      (λ q r t u x y. rw (x.split, y.split) (lower-head x.place (length m) x.tail y.tail x.below))))

  -- a refusal of 10 to 17 is the first fault in 01's order: number and place
  pub refused-exactly : (t : Told) → (accept_of m ≡ some t) ↔ First (Fault m) t
  refused-exactly t = decided-exactly decides-accept t

  pub unrefused-exactly : (accept_of m ≡ none) ↔ ((q : List ℕ) (t : Told) → Fault m q t → ⊥)
  unrefused-exactly = decided-none decides-accept

  -- and each half by itself: the first fault of its turn
  pub component-refused-exactly : (i : ℕ) → i < length m → (t : Told) → (component_of m i ≡ some t) ↔ First (InTurnOf m i) t
  component-refused-exactly i h t = decided-exactly (decides-component i h) t

  pub compatible-refused-exactly : (t : Told) → (compatible_of m ≡ some t) ↔ First (InTurnOf m (length m)) t
  compatible-refused-exactly t = decided-exactly decides-compatible t

  -- 25 is told exactly of an index that no component has
  pub absent-exactly : (i : ℕ) → (component_of m i ≡ some (tell 25 (0 ∷ []))) ↔ length m ≤ i
  absent-exactly i = (λ e. elim (native.Mathlib.Decide.dec_lt i (length m)) [ yes h ↦ absurd (there h e) | no h ↦ omega arith ], nowhere-25 m i)
    where
      there : i < length m → component_of m i ≡ some (tell 25 (0 ∷ [])) → ⊥
      there h e =
          let f = (component-refused-exactly i h (tell 25 (0 ∷ []))).0 e in
          never-25 (comp_at m i) i (row_count (take i m)) f.rank (tell 25 (0 ∷ [])) (own_turn i h f.rank (tell 25 (0 ∷ [])) f.here) refl
