-- What the call computes of a model is exactly its relation.
use mathlib.Core.Path.{◌≡◌, refl, sym, ◌∙◌, ap, subst}
use mathlib.Core.Logic.{◌↔◌}
use mathlib.Core.Bool.{Bool, true, false, not}
use mathlib.Core.Option.{none, some, some_inj}
use mathlib.Core.List.{List, [], ◌∷◌}
use Prim.Native.Nat.{ℕ, zero, suc, ◌≤◌, ◌<◌}
use native.Mathlib.Omega.{arith}
use native.Mathlib.Decide.{dec_lt}
use borrow.Author.Tests.{not-false, eqb-true, eq-eqb}
use lib.Dec.{eqb}
use lib.ListN.{length, get_or}
use lib.Seq.{ext_get_or}
use lib.IntN.{ℤ, pos}
use Rattle.laws.specs.Sets.{has}
use Rattle.laws.specs.Search.{or_else}
use Rattle.laws.proofs.SearchLaws.{no-some}
use Rattle.answer.specs.Limits.{max_budget, max_clocks, max_ticks}
use Rattle.answer.specs.Told.{Answer, answered, refused}
use Rattle.model.specs.Model.{Comp, Model, declared}
use Rattle.model.specs.WellFormed.{WellFormed}
use Rattle.iosa.specs.Checks.{accept_of}
use Rattle.iosa.specs.Settle.{budget_fault}
use Rattle.iosa.specs.InOrder.{◌▹◌, refuses, passes, needs}
use Rattle.iosa.specs.TimedExactly.{value_of}
use Rattle.answering.proofs.Answers.InOrder.{Decided, refused_or, either, or-refused, check-exactly, needs-decided}
use Rattle.answering.proofs.Answers.Models.{budget-decided}
use Rattle.iosa.proofs.Acceptance.Accepted.{accepted-exactly}
use Rattle.triggering.specs.Test.{entry_of}
use Rattle.walkable.specs.Orderly.{Settles}
use Rattle.walkable.proofs.Entry.{check-settles}
use Rattle.simulation.specs.Simulate.{Simulation, and_then, simulate_of}
use Rattle.simulation.specs.Samples.{nth, recorded, samples_of, AllTicks, GoodFrom, SamplesAnswer, are}
use Rattle.simulation.specs.Free.{Fair, Simulates}
use Rattle.simulation.specs.Call.{Simulating, put_at, put_out, lent_fault, supplied, simulate_with, simulate_text}
use Rattle.simulation.specs.Exactly.{PutsOut, readable, RoundsAnswer, gives, refuses as refused-in, SimulateAnswer}
use Rattle.simulation.proofs.Each.{each-length, each_at, each-beyond}
use Rattle.simulation.proofs.Counts.{Reaches, reached-states-count}
use Rattle.simulation.proofs.Ours.{simulates-exactly}
use Rattle.simulation.proofs.ReadExactly.{samples-read-exactly}

-- ---- the samples of a text are 1 to 2^40
nth-ticks : (l : List ℕ) (j n : ℕ) → AllTicks l → nth l j ≡ some n → (1 ≤ n) × (n ≤ max_ticks)
unfolding nth
nth-ticks [] j n h e = absurd (no-some refl e)
nth-ticks (m ∷ ms) zero n h e = subst (λ y. (1 ≤ y) × (y ≤ max_ticks)) (some_inj.0 e) h.0
nth-ticks (m ∷ ms) (suc j) n h e = nth-ticks ms j n h.1 e

list-ticks : (d x : ℕ) (ls : List (List ℕ)) → GoodFrom d x ls → (y : ℕ) → AllTicks (get_or ls y [])
list-ticks d x [] g y = tt
list-ticks d x (l ∷ ls) g zero = g.0
list-ticks d x (l ∷ ls) g (suc y) = list-ticks d (suc x) ls g.2 y

pub recorded-fair : {d : ℕ} {t : List ℕ} {ls : List (List ℕ)} → SamplesAnswer d t (answered ls) → Fair (recorded ls)
recorded-fair {d} {ls = ls} (are k) = record {
  least = λ x j n e. (nth-ticks (get_or ls x []) j n (list-ticks d 0 ls k.good x) e).0;
  most = λ x j n e. (nth-ticks (get_or ls x []) j n (list-ticks d 0 ls k.good x) e).1;
}

-- ---- the lent values then
module _ (m : Model) (was : List ℤ) (d : Simulation) where
  pub put-out : PutsOut m d.last.values was (put_out m was d).values
  unfolding put_out put_at
  put-out = record {
    count = each-length f (pos 0) 0 was;
    put = λ x h i. each_at f (pos 0) was x h ∙ rw i;
    stays = λ x i. go x i (dec_lt x (length was));
  }
    where
      f : ℕ → ℤ → ℤ
      f = put_at (declared m) d.last.values

      go : (x : ℕ) → has (declared m) x ≡ false → Dec (x < length was) → value_of (put_out m was d).values x ≡ value_of was x
      go x i (yes h) = each_at f (pos 0) was x h ∙ rw i
      go x i (no h) = each-beyond f (pos 0) was x (omega arith)

  pub puts-once : (now : List ℤ) → PutsOut m d.last.values was now → (put_out m was d).values ≡ now
  puts-once now g =
      let f = put-out in
      ext_get_or (pos 0) (put_out m was d).values now (f.count ∙ sym g.count) (λ x h. go f x (omega (arith, f.count)) (has (declared m) x) refl)
    where
      go : PutsOut m d.last.values was (put_out m was d).values → (x : ℕ) → x < length was → (b : Bool) → has (declared m) x ≡ b
          → value_of (put_out m was d).values x ≡ value_of now x
      go f x h true i = f.put x h i ∙ sym (g.put x h i)
      go f x h false i = f.stays x i ∙ sym (g.stays x i)

-- 28 "if not 64 values"
pub lent-decided : (was : List ℤ) → Decided (needs 28 (length was ≡ max_clocks)) (lent_fault was)
unfolding lent_fault
lent-decided was = needs-decided 28 (length was ≡ max_clocks) (not (eqb (length was) max_clocks)) (
  λ e. eqb-true (length was) max_clocks (not-false (eqb (length was) max_clocks) e),
  λ e. rw (eq-eqb (length was) max_clocks e),
)

module _ (c : Comp) (cs : List Comp) (well : WellFormed (c ∷ cs)) (t : List ℕ) (n : ℕ) (was : List ℤ) where
  abbrev m : Model
  m = c ∷ cs

  -- ---- 40, and the rounds
  abbrev leave : Answer Simulation → Answer Simulating
  leave o = and_then o (λ e. answered (put_out m was e))

  abbrev over_lists : Answer (List (List ℕ)) → Answer Simulating
  over_lists o = and_then (and_then o (λ ls. answered (recorded ls))) (λ p. leave (simulate_of m p n))

  module _ (ok : Settles m) where
    acc : accept_of m ≡ none
    acc = (accepted-exactly m well).1 (ok.conforms, ok.joins)

    exact : {ls : List (List ℕ)} → SamplesAnswer (declared m) t (answered ls) → (a : Answer Simulation)
        → (simulate_of m (recorded ls) n ≡ a) ↔ Simulates c cs (recorded ls) n a
    exact {ls} s = simulates-exactly c cs well acc (Reaches c cs) (reached-states-count c cs well ok) (recorded ls) (recorded-fair s) n

    rounds-there : {ls : List (List ℕ)} → SamplesAnswer (declared m) t (answered ls) → (o : Answer Simulation) → simulate_of m (recorded ls) n ≡ o
        → RoundsAnswer c cs t n was (leave o)
    unfolding put_out
    rounds-there s (answered d) e = gives s ((exact s (answered d)).0 e) (put-out m was d)
    rounds-there s (refused f) e = refused-in s ((exact s (refused f)).0 e)

    -- where nothing stands before the rounds, they answer
    pub rounds-answered : {ls : List (List ℕ)} → SamplesAnswer (declared m) t (answered ls) → (a : Answer Simulating) × RoundsAnswer c cs t n was a
    rounds-answered {ls} s = (leave (simulate_of m (recorded ls) n), rounds-there s (simulate_of m (recorded ls) n) refl)

    rounds-back : {a : Answer Simulating} → RoundsAnswer c cs t n was a → over_lists (samples_of (declared m) t) ≡ a
    unfolding put_out
    rounds-back (gives {ls = ls} {d = d} {now = now} s r p) =
        ap over_lists ((samples-read-exactly (declared m) t (answered ls)).1 s) ∙ ap leave ((exact s (answered d)).1 r)
        ∙ ap (λ vs. answered (record { rounds = d.rounds; state = d.last.state; values = vs })) (puts-once m was d now p)
    rounds-back (refused-in {ls = ls} {f = f} s r) = ap over_lists ((samples-read-exactly (declared m) t (answered ls)).1 s) ∙ ap leave ((exact s (refused f)).1 r)

    lists-there : (o : Answer (List (List ℕ))) → samples_of (declared m) t ≡ o → (readable m t ▹ RoundsAnswer c cs t n was) (over_lists o)
    lists-there (refused f) e = refuses ((samples-read-exactly (declared m) t (refused f)).0 e)
    lists-there (answered ls) e =
        let s = (samples-read-exactly (declared m) t (answered ls)).0 e in
        passes (ls, s) (rounds-there s (simulate_of m (recorded ls) n) refl)

    lists_back : {a : Answer Simulating} → (readable m t ▹ RoundsAnswer c cs t n was) a → over_lists (samples_of (declared m) t) ≡ a
    lists_back (refuses {t = f} r) = ap over_lists ((samples-read-exactly (declared m) t (refused f)).1 r)
    lists_back (passes k r) = rounds-back r

    lists-exactly : (a : Answer Simulating) → (over_lists (samples_of (declared m) t) ≡ a) ↔ (readable m t ▹ RoundsAnswer c cs t n was) a
    lists-exactly a = (λ e. subst (readable m t ▹ RoundsAnswer c cs t n was) e (lists-there (samples_of (declared m) t) refl), lists_back)

  -- ---- "after the table's, 22 .., 28 .."
  pub simulate-model-exactly : (a : Answer Simulating) → (simulate_text m t n was ≡ a) ↔ SimulateAnswer c cs t n was a
  unfolding simulate_text simulate_with supplied
  simulate-model-exactly a =
      let x = over_lists (samples_of (declared m) t) in
      let b = budget_fault n in
      let d = lent_fault was in
      let R = readable m t ▹ RoundsAnswer c cs t n was in
      let y = refused_or d x in
      let z = refused_or b y in
      rw (either (or_else (entry_of m) (or_else b d)) x ∙ or-refused (entry_of m) (or_else b d) x ∙ ap (refused_or (entry_of m)) (or-refused b d x)) (
      check-settles m well z (needs 22 (n ≤ max_budget) ▹ needs 28 (length was ≡ max_clocks) ▹ R) (λ ok.
      check-exactly (needs 22 (n ≤ max_budget)) b (budget-decided n) y (needs 28 (length was ≡ max_clocks) ▹ R) (λ h.
      check-exactly (needs 28 (length was ≡ max_clocks)) d (lent-decided was) x R (λ i. lists-exactly ok))) a)
