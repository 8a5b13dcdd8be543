-- What the call computes of a model is exactly its relation.
use mathlib.Core.Path.{◌≡◌, refl, ◌∙◌, ap, subst}
use mathlib.Core.Logic.{◌↔◌}
use mathlib.Core.Option.{Option, none}
use mathlib.Core.List.{List, ◌∷◌}
use Prim.Native.Nat.{ℕ, ◌≤◌}
use lib.ListN.{length}
use lib.IntN.{ℤ}
use Rattle.laws.specs.Search.{or_else}
use Rattle.answer.specs.Limits.{max_budget, max_clocks}
use Rattle.answer.specs.Told.{Answer, answered, refused}
use Rattle.model.specs.Model.{Comp, Model, declared}
use Rattle.model.specs.WellFormed.{WellFormed}
use Rattle.iosa.specs.Checks.{accept_of}
use Rattle.iosa.specs.Settle.{budget_fault}
use Rattle.iosa.specs.InOrder.{◌▹◌, refuses, passes, needs}
use Rattle.answering.proofs.Answers.InOrder.{refused_or, either, or-refused, check-exactly}
use Rattle.answering.proofs.Answers.Models.{budget-decided}
use Rattle.iosa.proofs.Acceptance.Accepted.{accepted-exactly}
use Rattle.triggering.specs.Test.{entry_of}
use Rattle.walkable.specs.Orderly.{Settles}
use Rattle.walkable.proofs.Entry.{check-settles}
use Rattle.simulation.specs.Simulate.{Simulation, and_then, simulate_of}
use Rattle.simulation.specs.Free.{Simulates}
use Rattle.simulation.specs.Call.{Simulating, put_out, lent_fault, simulate_with}
use Rattle.simulation.proofs.Counts.{Reaches, reached-states-count}
use Rattle.simulation.proofs.Ours.{simulates-exactly}
use Rattle.simulation.proofs.Answers.{put-out, puts-once, lent-decided}
use Rattle.draw.specs.declared.Law.{Law}
use Rattle.drawing.specs.File.{laws_of, FileAnswer}
use Rattle.drawing.specs.Draws.{draws}
use Rattle.drawing.specs.Call.{supplied_by, simulate_drawn}
use Rattle.drawing.specs.Exactly.{readable, RoundsAnswer, gives, refuses as refused-in, SimulateDrawnAnswer}
use Rattle.drawing.proofs.ReadExactly.{file-read-exactly}
use Rattle.drawing.proofs.Fair.{draws-fair}

module _ (c : Comp) (cs : List Comp) (well : WellFormed (c ∷ cs)) (t ns : List ℕ) (n : ℕ) (was : List ℤ) where
  abbrev m : Model
  m = c ∷ cs

  -- ---- 49, and the rounds
  abbrev leave : Answer Simulation → Answer Simulating
  leave o = and_then o (λ e. answered (put_out m was e))

  abbrev over_laws : Answer (List (Option Law)) → Answer Simulating
  over_laws o = and_then (and_then o (λ ls. answered (draws ls ns))) (λ p. leave (simulate_of m p n))

  module _ (ok : Settles m) where
    acc : accept_of m ≡ none
    acc = (accepted-exactly m well).1 (ok.conforms, ok.joins)

    exact : {ls : List (Option Law)} → FileAnswer (declared m) t (answered ls) → (a : Answer Simulation)
        → (simulate_of m (draws ls ns) n ≡ a) ↔ Simulates c cs (draws ls ns) n a
    exact {ls} s = simulates-exactly c cs well acc (Reaches c cs) (reached-states-count c cs well ok) (draws ls ns) (draws-fair s ns) n

    rounds-there : {ls : List (Option Law)} → FileAnswer (declared m) t (answered ls) → (o : Answer Simulation) → simulate_of m (draws ls ns) n ≡ o
        → RoundsAnswer c cs t ns n was (leave o)
    unfolding put_out
    rounds-there s (answered d) e = gives s ((exact s (answered d)).0 e) (put-out m was d)
    rounds-there s (refused f) e = refused-in s ((exact s (refused f)).0 e)

    -- where nothing stands before the rounds, they answer
    pub rounds-answered : {ls : List (Option Law)} → FileAnswer (declared m) t (answered ls) → (a : Answer Simulating) × RoundsAnswer c cs t ns n was a
    rounds-answered {ls} s = (leave (simulate_of m (draws ls ns) n), rounds-there s (simulate_of m (draws ls ns) n) refl)

    file-is : {ls : List (Option Law)} → FileAnswer (declared m) t (answered ls) → laws_of (declared m) t ≡ answered ls
    file-is {ls} s = (file-read-exactly (declared m) t (answered ls)).1 s

    rounds-back : {a : Answer Simulating} → RoundsAnswer c cs t ns n was a → over_laws (laws_of (declared m) t) ≡ a
    unfolding put_out
    rounds-back (gives {d = d} {now = now} s r p) =
        ap over_laws (file-is s) ∙ ap leave ((exact s (answered d)).1 r)
        ∙ ap (λ vs. answered (record { rounds = d.rounds; state = d.last.state; values = vs })) (puts-once m was d now p)
    rounds-back (refused-in {f = f} s r) = ap over_laws (file-is s) ∙ ap leave ((exact s (refused f)).1 r)

    laws-there : (o : Answer (List (Option Law))) → laws_of (declared m) t ≡ o → (readable m t ▹ RoundsAnswer c cs t ns n was) (over_laws o)
    laws-there (refused f) e = refuses ((file-read-exactly (declared m) t (refused f)).0 e)
    laws-there (answered ls) e =
        let s = (file-read-exactly (declared m) t (answered ls)).0 e in
        passes (ls, s) (rounds-there s (simulate_of m (draws ls ns) n) refl)

    laws-back : {a : Answer Simulating} → (readable m t ▹ RoundsAnswer c cs t ns n was) a → over_laws (laws_of (declared m) t) ≡ a
    laws-back (refuses {t = f} r) = ap over_laws ((file-read-exactly (declared m) t (refused f)).1 r)
    laws-back (passes k r) = rounds-back r

    laws-exactly : (a : Answer Simulating) → (over_laws (laws_of (declared m) t) ≡ a) ↔ (readable m t ▹ RoundsAnswer c cs t ns n was) a
    laws-exactly a = (λ e. subst (readable m t ▹ RoundsAnswer c cs t ns n was) e (laws-there (laws_of (declared m) t) refl), laws-back)

  -- ---- "after the table's, 22 .., 28 .."
  pub simulate-drawn-model-exactly : (a : Answer Simulating) → (simulate_drawn m t ns n was ≡ a) ↔ SimulateDrawnAnswer c cs t ns n was a
  unfolding simulate_drawn simulate_with supplied_by
  simulate-drawn-model-exactly a =
      let x = over_laws (laws_of (declared m) t) in
      let b = budget_fault n in
      let d = lent_fault was in
      let R = readable m t ▹ RoundsAnswer c cs t ns n was in
      let y = refused_or d x in
      let z = refused_or b y in
      rw (either (or_else (entry_of m) (or_else b d)) x ∙ or-refused (entry_of m) (or_else b d) x ∙ ap (refused_or (entry_of m)) (or-refused b d x)) (
      check-settles m well z (needs 22 (n ≤ max_budget) ▹ needs 28 (length was ≡ max_clocks) ▹ R) (λ ok.
      check-exactly (needs 22 (n ≤ max_budget)) b (budget-decided n) y (needs 28 (length was ≡ max_clocks) ▹ R) (λ h.
      check-exactly (needs 28 (length was ≡ max_clocks)) d (lent-decided was) x R (λ i. laws-exactly ok))) a)
