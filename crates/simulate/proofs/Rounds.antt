-- The rounds of free simulations stand behind whatever the contract of `simulate` allows; and in the rounds it is refused with 30, 42 or 41 only.
use mathlib.Core.Path.{◌≡◌, sym, ◌∙◌, subst}
use mathlib.Core.Logic.{◌⊎◌}
use mathlib.Core.Option.{some}
use mathlib.Core.List.{List, ◌∷◌}
use Prim.Native.Nat.{ℕ, ◌≤◌}
use lib.ListN.{length}
use lib.IntN.{ℤ}
use Rattle.answer.specs.Limits.{max_budget, max_clocks}
use Rattle.answer.specs.Told.{Told, Answer, refused, RefusedWith}
use Rattle.answer.specs.declared.Simulated.{Simulated}
use Rattle.answer.specs.declared.Refusal.{Refusal}
use Rattle.std.specs.Prelude.{Result, Ok, Err, IsOkAnd}
use Rattle.model.specs.Model.{Comp, declared}
use Rattle.iosa.specs.Automaton.{Joinable}
use Rattle.iosa.specs.Thesis.{AllDefinition41}
use Rattle.iosa.specs.InOrder.{refuses, passes}
use Rattle.iosa.proofs.Acceptance.Accepted.{accepted-exactly}
use Rattle.iosa.proofs.Thesis.Proposition41.{accepted-is-definition-4-1}
use Rattle.walkable.specs.Orderly.{EitherTest}
use Rattle.table.proofs.OnImageExactly.{on-table-exactly}
use Rattle.layout.specs.OnImage.{Holds, OnImage, is20, of-model}
use Rattle.simulation.specs.Samples.{LinesOf, recorded, are}
use Rattle.simulation.specs.Free.{After, is-done}
use Rattle.simulation.specs.Call.{Simulating, simulate_text, SimulationAnswers}
use Rattle.simulation.specs.Exactly.{SimulateAnswer, RoundsAnswer, gives, refuses as refused-in}
use Rattle.simulation.proofs.Answers.{rounds-answered, simulate-model-exactly}
use Rattle.simulation.proofs.Whole.{rounds-agree, refused_why}
use Rattle.simulate.specs.Simulate.{SimulateCall}
use Rattle.simulate.specs.Rounds.{SimulatedFrom}
use Rattle.simulate.proofs.Answers.{simulate-answers-exactly}

-- a result is not both, and tells one thing
pub not-both : {A : Type 0} (P : A → Type 0) (r : Result A Refusal) (f : Told) → IsOkAnd r P → RefusedWith f r → ⊥
not-both P (Ok x) f a b = b
not-both P (Err q) f a b = a

pub one-told : {A : Type 0} (r : Result A Refusal) (g f : Told) → RefusedWith g r → RefusedWith f r → g ≡ f
one-told (Ok x) g f a b = absurd a
one-told (Err q) g f a b = let e : some g ≡ some f = sym a ∙ b in cc

module _ (t samples : List ℕ) (n : ℕ) (was : List ℤ) (vs : List ℤ) where
  -- ---- an answer
  module _ (p : Simulated) where
    -- beside an answer there is no refusal
    refusal : {P : Type 0} {f : Told} → SimulationAnswers (refused f) was (Ok p) vs → P
    refusal l = absurd l.told

    from-rounds : {c : Comp} {cs : List Comp} {a : Answer Simulating} → Holds t (c ∷ cs) → AllDefinition41 (c ∷ cs) × Joinable (c ∷ cs)
        → EitherTest (c ∷ cs) → RoundsAnswer c cs samples n was a → SimulationAnswers a was (Ok p) vs → SimulatedFrom t samples n was p.rounds p vs
    from-rounds h d al (refused-in s x) l = refusal l
    from-rounds {c} {cs} h d al (gives {ls = ls} (are text) (is-done {k = j} {q = q} a most over) put) l =
        let e : j ≡ p.rounds = sym l.rounds in
        record {
          first = c;
          others = cs;
          holds = h;
          definition = d.0;
          joinable = d.1;
          either = al;
          lists = ls;
          text = text;
          last = q;
          after = subst (λ i. After c cs (recorded ls) i q) e a;
          agrees = λ b. rounds-agree c cs h.well d.0 d.1 (recorded ls) al b (subst (λ i. After c cs (recorded ls) i q) e a);
          most = rw (← e) most;
          over = rw (← e) over;
          state = l.state;
          values = rw l.values put;
        }

    of_image : {a : Answer Simulating} → OnImage t (λ c cs. SimulateAnswer c cs samples n was) a → SimulationAnswers a was (Ok p) vs
        → SimulatedFrom t samples n was p.rounds p vs
    of_image (is20 x) l = refusal l
    of_image (of-model h (refuses x)) l = refusal l
    of_image (of-model h (passes d (refuses x))) l = refusal l
    of_image (of-model h (passes d (passes al (refuses x)))) l = refusal l
    of_image (of-model h (passes d (passes al (passes b (refuses x))))) l = refusal l
    of_image (of-model h (passes d (passes al (passes b (passes g (refuses x)))))) l = refusal l
    of_image (of-model h (passes d (passes al (passes b (passes g (passes s x)))))) l = from-rounds h d al x l

    pub simulate-ends-as-any : SimulateCall t samples n was (Ok p) vs → SimulatedFrom t samples n was p.rounds p vs
    simulate-ends-as-any call = let e = (simulate-answers-exactly t samples n was (Ok p) vs).0 call in of_image e.right e.left

  -- ---- a refusal where nothing stands before the rounds
  module _ (r : Result Simulated Refusal) (f : Told) (says : RefusedWith f r) where
    why : {c : Comp} {cs : List Comp} {a : Answer Simulating} → RoundsAnswer c cs samples n was a → SimulationAnswers a was r vs
        → (f.number ≡ 30) ⊎ ((f.number ≡ 42) ⊎ (f.number ≡ 41))
    why (gives s x put) l = absurd (not-both _ r f l says)
    why (refused-in {f = g} s x) l =
        let same : g ≡ f = one-told r g f l.told says in
        subst (λ u. (u.number ≡ 30) ⊎ ((u.number ≡ 42) ⊎ (u.number ≡ 41))) same (refused_why x)

    -- the table holds an accepted model that passes either test, no more than 4,096 rounds are asked for, 64 values are lent, and the text is that of lists
    pub simulate-refused-why : SimulateCall t samples n was r vs → (c : Comp) (cs : List Comp) → Holds t (c ∷ cs) → AllDefinition41 (c ∷ cs)
        → Joinable (c ∷ cs) → EitherTest (c ∷ cs)
        → n ≤ max_budget → length was ≡ max_clocks → (ls : List (List ℕ)) → LinesOf (declared (c ∷ cs)) max_clocks 0 samples ls
        → (f.number ≡ 30) ⊎ ((f.number ≡ 42) ⊎ (f.number ≡ 41))
    simulate-refused-why call c cs h d join al b g ls text =
        let m = c ∷ cs in
        let k = (accepted-exactly m h.well).0 ((accepted-is-definition-4-1 m h.well).1 (d, join)) in
        let x = rounds-answered c cs h.well samples n was (record { conforms = k.0; joins = k.1; either = al }) (are text) in
        let R : Comp → List Comp → Answer Simulating → Type 0 = λ c cs. SimulateAnswer c cs samples n was in
        let e = (on-table-exactly t (λ m. simulate_text m samples n was) R (λ c cs w. simulate-model-exactly c cs w samples n was) x.0).1
        (of-model h (passes (d, join) (passes al (passes b (passes g (passes (ls, are text) x.1)))))) in
        why x.1 (subst (λ a. SimulationAnswers a was r vs) e call)
