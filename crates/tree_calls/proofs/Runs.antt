-- On a table that `read_tree` filled, `settle_after`, `settle_list_after`, `simulate` and `simulate_drawn` are refused for what is asked
-- of the path, list, samples, distributions or numbers alone.
use mathlib.Core.Path.{◌≡◌, refl, sym, ◌∙◌, ap, subst}
use mathlib.Core.Logic.{◌⊎◌, inl, inr}
use mathlib.Core.Option.{Option}
use mathlib.Core.List.Memᴰ.{head as here}
use mathlib.Core.List.Memᴰ.{tail as there}
use mathlib.Core.List.{List, [], ◌∷◌, Memᴰ as In}
use Prim.Native.Nat.{ℕ, ◌≤◌}
use lib.ListN.{length}
use lib.IntN.{ℤ}
use Rattle.laws.proofs.SearchLaws.{no-some}
use Rattle.answer.specs.Limits.{max_budget, max_clocks}
use Rattle.answer.specs.Told.{Told, Answer, answered, refused, RefusedWith}
use Rattle.std.specs.Prelude.{Result, Ok}
use Rattle.answer.specs.declared.Refusal.{Refusal}
use Rattle.answer.specs.declared.Settled.{Settled}
use Rattle.answer.specs.declared.Simulated.{Simulated}
use Rattle.model.specs.Model.{Comp, Model}
use Rattle.iosa.specs.Orders.{Settling}
use Rattle.iosa.specs.Faults.{Clash, First}
use Rattle.iosa.specs.InOrder.{Check, ◌▹◌, refuses, passes, gives, needs, accepted}
use Rattle.answering.specs.Answers.{is23, is-series}
use Rattle.iosa.proofs.Settling.Called.{no_answer, same-refusal}
use Rattle.answering.proofs.Answers.Models.{accepted-decided}
use Rattle.layout.specs.OnImage.{Holds, OnImage, is20, of-model}
use Rattle.table.proofs.OnImageExactly.{held-model}
use Rattle.triggering.specs.Triggering.{Passes, NoOpenInput}
use Rattle.walkable.specs.Orderly.{Open}
use Rattle.walkable.specs.Entry.{settles, Unsettled}
use Rattle.after.specs.Calls.{AfterAnswers, SettleAfterCall, SettleListAfterCall}
use Rattle.after.specs.AfterExactly.{is46, leads, SettleAfterAnswer, SettleListAfterAnswer, AfterLeaves}
use Rattle.after.proofs.Exactly.{settle-after-answers-exactly, settle-list-after-answers-exactly}
use Rattle.simulation.specs.Samples.{SamplesAnswer, are, is40}
use Rattle.simulation.specs.Call.{Simulating, SimulationAnswers}
use Rattle.simulation.specs.Exactly.{readable, RoundsAnswer, gives as rounds-done, refuses as round-refused}
use Rattle.simulation.proofs.Whole.{refused_why}
use Rattle.simulate.specs.Simulate.{SimulateCall}
use Rattle.simulate.proofs.Rounds.{not-both, one-told}
use Rattle.simulate.proofs.Answers.{simulate-answers-exactly}
use Rattle.draw.specs.declared.Law.{Law}
use Rattle.drawing.specs.File.{FileAnswer, are as are-laws, is49}
use Rattle.drawing.specs.Exactly.{readable as readable-laws, RoundsAnswer as DrawnAnswer, gives as draws-done, refuses as draw-refused}
use Rattle.simulate_drawn.specs.SimulateDrawn.{SimulateDrawnCall}
use Rattle.simulate_drawn.proofs.Answers.{simulate_drawn-answers-exactly}
use Rattle.plant.specs.ReadTreeCall.{ReadTreeCall}
use Rattle.tree_calls.proofs.Filled.{Filled, read-tree-fills}

abbrev number-of : Told → ℕ
number-of f = f.number

-- 45 and 18 of a model that is closed and passes the test
settled : (m : Model) → NoOpenInput m → Passes m → {f : Told} → Unsettled m f → ⊥
settled m c p {f} u = go u.why
  where
    go : Open m f ⊎ (NoOpenInput m × (Passes m → ⊥) × First (Clash m) f) → ⊥
    go (inl o) =
        let i = o.lowest.here in
        let a = c.answered i.index i.inside o.action i.input in
        i.nobody a.0 a.1 a.2
    go (inr q) = q.1 p

module _ (text old t : List ℕ) (g : ReadTreeCall text old t (Ok tt)) where
  w : Filled text t
  w = read-tree-fills text old t g

  held : {m : Model} → Holds t m → w.model ≡ m
  held {m} h = sym (held-model t w.model w.holds) ∙ held-model t m h

  not-accepted : {m : Model} {f : Told} → Holds t m → (accepted m).Refuses f → ⊥
  not-accepted {m} {f} h q =
      let d = accepted-decided m h.well in
      no-some (d.fine.1 (subst (λ n. (accepted n).Passes) (held h) w.conforms)) ((d.told f).1 q)

  not-settled : {m : Model} {f : Told} → Holds t m → (settles m).Refuses f → ⊥
  not-settled {m} h q = settled m (subst NoOpenInput (held h) w.closed) (subst Passes (held h) w.passes) q

  -- ---- after a path
  module _ (p : List ℕ) (r : Result Settled Refusal) (f : Told) (says : RefusedWith f r) where
    told : {u : Told} → AfterAnswers (refused u) r → u ≡ f
    told {u} l = one-told r u f l says

    of-path : (budget : ℕ) (was now : List ℕ) {a : Answer (Settling (List ℕ))} → OnImage t (λ c cs. SettleAfterAnswer c cs p budget (length was)) a
        → AfterLeaves was now r a → In f.number (22 ∷ 46 ∷ 24 ∷ [])
    of-path b v n (is20 x) l = absurd (x w.model w.holds)
    of-path b v n (of-model h (refuses q)) l = absurd (not-accepted h q)
    of-path b v n (of-model h (passes k (refuses q))) l = absurd (not-settled h q)
    of-path b v n (of-model h (passes k (passes e (refuses q)))) l = here (ap number-of (sym (told l.answer) ∙ q.1))
    of-path b v n (of-model h (passes k (passes e (passes z (is46 q))))) l = there (here (ap number-of (sym (told l.answer))))
    of-path b v n (of-model h (passes k (passes e (passes z (leads x y (refuses q)))))) l = here (ap number-of (sym (told l.answer) ∙ q.1))
    of-path b v n (of-model h (passes k (passes e (passes z (leads x y (passes i (refuses q))))))) l =
        there (there (here (ap number-of (sym (told l.answer) ∙ q.1))))
    of-path b v n (of-model h (passes k (passes e (passes z (leads x y (passes i (passes j (gives d)))))))) l =
        absurd (not-both _ r f l.answer says)

    -- 22 of the path or the budget, 46, 24
    pub tree-settle-after-refused-why : (budget : ℕ) (was now : List ℕ) → SettleAfterCall t p budget was now r → In f.number (22 ∷ 46 ∷ 24 ∷ [])
    tree-settle-after-refused-why budget was now call =
        let e = (settle-after-answers-exactly t p budget was now r).0 call in
        of-path budget was now e.right e.left

    of-list : (l : List ℕ) {a : Answer (Settling (List ℕ))} → OnImage t (λ c cs. SettleListAfterAnswer c cs p l) a → AfterAnswers a r
        → In f.number (22 ∷ 46 ∷ 23 ∷ [])
    of-list l (is20 x) a = absurd (x w.model w.holds)
    of-list l (of-model h (refuses q)) a = absurd (not-accepted h q)
    of-list l (of-model h (passes k (refuses q))) a = absurd (not-settled h q)
    of-list l (of-model h (passes k (passes e (refuses q)))) a = here (ap number-of (sym (told a) ∙ q.1))
    of-list l (of-model h (passes k (passes e (passes z (is46 q))))) a = there (here (ap number-of (sym (told a))))
    of-list l (of-model h (passes k (passes e (passes z (leads x y (refuses q)))))) a = here (ap number-of (sym (told a) ∙ q.1))
    of-list l (of-model h (passes k (passes e (passes z (leads x y (passes i (is23 q))))))) a =
        there (there (here (ap number-of (sym (told a)))))
    of-list l (of-model h (passes k (passes e (passes z (leads x y (passes i (is-series d))))))) a =
        absurd (not-both _ r f a says)

    -- 22 of the path or the list, 46, 23
    pub tree-settle-list-after-refused-why : (l : List ℕ) → SettleListAfterCall t p l r → In f.number (22 ∷ 46 ∷ 23 ∷ [])
    tree-settle-list-after-refused-why l call = let e = (settle-list-after-answers-exactly t p l r).0 call in of-list l e.right e.left

  -- ---- a simulation, over lists or draws: 22, 28, what the text of its samples is refused for, and what its rounds are
  module _ (n : ℕ) (was : List ℤ) (r : Result Simulated Refusal) (vs : List ℤ) (f : Told) (says : RefusedWith f r) where
    ended : {u : Told} → SimulationAnswers (refused u) was r vs → u ≡ f
    ended {u} l = one-told r u f l.told says

    -- "round by round 30, 42", and j where samples ran out
    pub in-rounds : (j : ℕ) {u : Told} → (u.number ≡ 30) ⊎ ((u.number ≡ 42) ⊎ (u.number ≡ j)) → SimulationAnswers (refused u) was r vs
        → In f.number (30 ∷ 42 ∷ j ∷ [])
    in-rounds j {u} why l = subst (λ v. In v.number (30 ∷ 42 ∷ j ∷ [])) (ended l) (one why)
      where
        one : {k : ℕ} → (k ≡ 30) ⊎ ((k ≡ 42) ⊎ (k ≡ j)) → In k (30 ∷ 42 ∷ j ∷ [])
        one (inl e) = here e
        one (inr (inl e)) = there (here e)
        one (inr (inr e)) = there (there (here e))

    pub not_done : (d : Simulating) {P : Type 0} → SimulationAnswers (answered d) was r vs → P
    not_done d l = absurd (not-both _ r f l says)

    module _ (K : Model → Check) (R : Comp → List Comp → Answer Simulating → Type 0) (j : ℕ) (rest : List ℕ)
        (unread : (m : Model) (u : Told) → (K m).Refuses u → u.number ≡ j)
        (played : (c : Comp) (cs : List Comp) (a : Answer Simulating) → R c cs a → SimulationAnswers a was r vs → In f.number rest) where
      abbrev Simulated-as : Comp → List Comp → Answer Simulating → Type 0
      Simulated-as c cs =
          accepted (c ∷ cs) ▹ settles (c ∷ cs) ▹ needs 22 (n ≤ max_budget) ▹ needs 28 (length was ≡ max_clocks) ▹ K (c ∷ cs) ▹ R c cs

      pub of-rounds : {a : Answer Simulating} → OnImage t Simulated-as a → SimulationAnswers a was r vs → In f.number (22 ∷ 28 ∷ j ∷ rest)
      of-rounds (is20 x) l = absurd (x w.model w.holds)
      of-rounds (of-model h (refuses q)) l = absurd (not-accepted h q)
      of-rounds (of-model h (passes k (refuses q))) l = absurd (not-settled h q)
      of-rounds (of-model h (passes k (passes e (refuses q)))) l = here (ap number-of (sym (ended l) ∙ q.1))
      of-rounds (of-model h (passes k (passes e (passes b (refuses q))))) l = there (here (ap number-of (sym (ended l) ∙ q.1)))
      of-rounds (of-model h (passes k (passes e (passes b (passes z (refuses q)))))) l = there (there (here (ap number-of (sym (ended l)) ∙ unread _ _ q)))
      of-rounds (of-model h (passes k (passes e (passes b (passes z (passes s x)))))) l = there (there (there (played _ _ _ x l)))

    -- ---- over the lists of a text
    module _ (samples : List ℕ) where
      of-samples : {d : ℕ} {a : Answer (List (List ℕ))} {u : Told} → SamplesAnswer d samples a → a ≡ refused u → u.number ≡ 40
      of-samples (are x) e = absurd (no_answer (sym e))
      of-samples (is40 x) e = ap number-of (sym (same-refusal e))

      over-lists : {c : Comp} {cs : List Comp} {a : Answer Simulating} → RoundsAnswer c cs samples n was a → SimulationAnswers a was r vs
          → In f.number (30 ∷ 42 ∷ 41 ∷ [])
      over-lists (rounds-done s x put) l = not_done _ l
      over-lists (round-refused s x) l = in-rounds 41 (refused_why x) l

      -- 22 of the rounds, 28, 40; in the rounds 30, 42, 41
      pub tree-simulate-refused-why : SimulateCall t samples n was r vs → In f.number (22 ∷ 28 ∷ 40 ∷ 30 ∷ 42 ∷ 41 ∷ [])
      tree-simulate-refused-why call =
          let e = (simulate-answers-exactly t samples n was r vs).0 call in
          of-rounds (λ m. readable m samples) (λ c cs. RoundsAnswer c cs samples n was) 40 (30 ∷ 42 ∷ 41 ∷ [])
          (λ m u q. of-samples q refl) (λ c cs a x. over-lists x) e.right e.left

    -- ---- over draws from the distributions of a file
    module _ (laws numbers : List ℕ) where
      of-file : {d : ℕ} {a : Answer (List (Option Law))} {u : Told} → FileAnswer d laws a → a ≡ refused u → u.number ≡ 49
      of-file (are-laws x) e = absurd (no_answer (sym e))
      of-file (is49 x) e = ap number-of (sym (same-refusal e))

      over-draws : {c : Comp} {cs : List Comp} {a : Answer Simulating} → DrawnAnswer c cs laws numbers n was a → SimulationAnswers a was r vs
          → In f.number (30 ∷ 42 ∷ 50 ∷ [])
      over-draws (draws-done s x put) l = not_done _ l
      over-draws (draw-refused s x) l = in-rounds 50 (refused_why x) l

      -- 22 of the rounds, 28, 49; in the rounds 30, 42, 50
      pub tree-simulate_drawn-refused-why : SimulateDrawnCall t laws numbers n was r vs → In f.number (22 ∷ 28 ∷ 49 ∷ 30 ∷ 42 ∷ 50 ∷ [])
      tree-simulate_drawn-refused-why call =
          let e = (simulate_drawn-answers-exactly t laws numbers n was r vs).0 call in
          of-rounds (λ m. readable-laws m laws) (λ c cs. DrawnAnswer c cs laws numbers n was) 49 (30 ∷ 42 ∷ 50 ∷ [])
          (λ m u q. of-file q refl) (λ c cs a x. over-draws x) e.right e.left
