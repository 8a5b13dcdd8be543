-- From the answer of the checks to that of the call, and from the last round to the lent values.
use mathlib.Core.Path.{◌≡◌, refl, sym, ◌∙◌, ap, ap₂, subst}
use mathlib.Core.Bool.{not}
use mathlib.Core.Option.{Option, none, some}
use mathlib.Core.List.{List, [], ◌∷◌}
use Prim.Native.Nat.{ℕ, ◌≤◌, ◌<◌}
use native.Mathlib.Omega.{arith}
use borrow.Author.Tests.{lt-ltb, le-ltb, eq-eqb, ne_eqb}
use lib.ListN.{length}
use lib.IntN.{ℤ}
use Rattle.laws.specs.Search.{when, or_else}
use Rattle.answer.specs.Limits.{max_clocks, max_budget}
use Rattle.answer.specs.Told.{Told, tell, told, Answer, answered, refused, as_refused, says_checked}
use Rattle.answer.specs.declared.Refusal.{Refusal}
use Rattle.answer.specs.Told.{Checked}
use Rattle.std.specs.Prelude.{Result, Ok, Err}
use Rattle.answer.specs.declared.Place.TheVariants as OfPlace
use Rattle.answer.specs.declared.Simulated.{Simulated}
use Rattle.model.specs.Model.{Model, declared}
use Rattle.iosa.specs.Settle.{budget_fault}
use Rattle.triggering.specs.Test.{entry_of}
use Rattle.layout.specs.Image.{model_of}
use Rattle.table.specs.OnTable.{on_table}
use Rattle.table.proofs.OnTableLaws.{on-image}
use Rattle.table.proofs.CheckedLaws.{refused-tells, call-refuses}
use Rattle.table.proofs.ImageExactly.{image-exactly}
use Rattle.orderly.specs.Calls.{MayWalk}
use Rattle.orderly.proofs.Exactly.{walk_fine}
use Rattle.feed.specs.Supply.{Lent, Supplies}
use Rattle.rounds.specs.Rounds.{Runnable, Runs, RunCall}
use Rattle.simulation.specs.Simulate.{Supply, Simulation, each_from, and_then, none_taken, simulate_of}
use Rattle.simulation.specs.Call.{Simulating, put_at, put_out, lent_fault, simulate_with, SimulationAnswers}
use Rattle.simulate.specs.Simulate.{PlayCall}

-- a refusal is told, and writes nothing
refuses : (a : Answer Simulating) (f : Told) → a ≡ refused f → (q : Refusal) → told q ≡ some f → (was : List ℤ) → SimulationAnswers a was (Err q) was
refuses a f e q h was = subst (λ b. SimulationAnswers b was (Err q) was) (sym e) (record { told = h; values = refl })

-- ---- 20, 10 to 17, and 18 or else 45 and 18
-- the first of three faults, or what stands behind them
abbrev behind : Option Told → Option Told → Option Told → Answer Simulating → Answer Simulating
behind a b d x = elim (or_else a (or_else b d)) as (λ _. Answer Simulating) [ some t ↦ refused t | none ↦ x ]

-- the rounds over whatever is supplied
abbrev played : Model → ℕ → List ℤ → Answer Supply → Answer Simulating
played m n was p = and_then p (λ q. and_then (simulate_of m q n) (λ d. answered (put_out m was d)))

-- what `may_walk` refuses the call refuses alike
follows : (m : Model) (p : Answer Supply) (n : ℕ) (was : List ℤ) (f : Told) → entry_of m ≡ some f → simulate_with m p n was ≡ refused f
unfolding simulate_with
follows m p n was f e = ap (λ o. behind o (budget_fault n) (lent_fault was) (played m n was p)) e

pub runnable : (t : List ℕ) (c : Checked) → MayWalk t c → c ≡ (Ok tt) → Runnable t × (entry_of (model_of t) ≡ none)
runnable t c check e =
    let p = walk_fine t (ap says_checked (sym e) ∙ check) in
    (record { image = p.image; conforming = p.settles.conforms; joinable = p.settles.joins }, p.entry)

-- a simulation over whatever is supplied for a model: lists or draws
module _ (t : List ℕ) (s : Model → Answer Supply) (n : ℕ) (was : List ℤ) (c : Checked) (check : MayWalk t c) where
  abbrev over : Model → Answer Simulating
  over m = simulate_with m (s m) n was

  pub refused-before : (q : Refusal) → c ≡ Err q → SimulationAnswers (on_table t over) was (Err q) was
  refused-before q e =
      let p = refused-tells t entry_of q (ap says_checked (sym e) ∙ check) in
      refuses (on_table t over) p.0 (call-refuses t entry_of over (λ m f k. follows m (s m) n was f k) p.0 p.2) q p.1 was

  pub goes_on : c ≡ (Ok tt) → (r : Result Simulated Refusal) (vs : List ℤ) → SimulationAnswers (over (model_of t)) was r vs → SimulationAnswers (on_table t over) was r vs
  goes_on e r vs a = rw (on-image t over ((image-exactly t).1 (runnable t c check e).0.image)) a

-- ---- 22, 28, and what is refused as there is no supply
budget-fine : (n : ℕ) → n ≤ max_budget → budget_fault n ≡ none
unfolding budget_fault
budget-fine n h = ap (λ b. when b (tell 22 (0 ∷ []))) (le-ltb max_budget n h)

module _ (m : Model) (p : Answer Supply) (n : ℕ) (was : List ℤ) (e : entry_of m ≡ none) where
  by-faults : (a b : Option Told) → budget_fault n ≡ a → lent_fault was ≡ b → simulate_with m p n was ≡ behind none a b (played m n was p)
  unfolding simulate_with
  by-faults a b ea eb =
      ap (λ o. behind o (budget_fault n) (lent_fault was) (played m n was p)) e
      ∙ ap₂ (λ o k. behind none o k (played m n was p)) ea eb

  is-22 : max_budget < n → simulate_with m p n was ≡ refused (tell 22 (0 ∷ []))
  unfolding budget_fault
  is-22 h = by-faults (some (tell 22 (0 ∷ []))) (lent_fault was) (ap (λ b. when b (tell 22 (0 ∷ []))) (lt-ltb max_budget n h)) refl

  is-28 : n ≤ max_budget → (length was ≡ max_clocks → ⊥) → simulate_with m p n was ≡ refused (tell 28 (0 ∷ []))
  unfolding lent_fault
  is-28 h k = by-faults none (some (tell 28 (0 ∷ []))) (budget-fine n h) (ap (λ b. when (not b) (tell 28 (0 ∷ []))) (ne_eqb (length was) max_clocks k))

  pub told-22 : max_budget < n → SimulationAnswers (simulate_with m p n was) was (Err (record { number = 22; place = OfPlace.Whole })) was
  unfolding told
  told-22 h = refuses (simulate_with m p n was) (tell 22 (0 ∷ [])) (is-22 h) (record { number = 22; place = OfPlace.Whole }) refl was

  pub told-28 : n ≤ max_budget → (length was ≡ max_clocks → ⊥) → SimulationAnswers (simulate_with m p n was) was (Err (record { number = 28; place = OfPlace.Whole })) was
  unfolding told
  told-28 h k = refuses (simulate_with m p n was) (tell 28 (0 ∷ [])) (is-28 h k) (record { number = 28; place = OfPlace.Whole }) refl was

  module _ (h : n ≤ max_budget) (k : length was ≡ max_clocks) where
    no-fault : simulate_with m p n was ≡ played m n was p
    unfolding lent_fault
    no-fault = by-faults none none (budget-fine n h) (ap (λ b. when (not b) (tell 28 (0 ∷ []))) (eq-eqb (length was) max_clocks k))

    pub told-unsupplied : (f : Told) → p ≡ refused f → (q : Refusal) → told q ≡ some f → SimulationAnswers (simulate_with m p n was) was (Err q) was
    told-unsupplied f s q j = refuses (simulate_with m p n was) f (no-fault ∙ ap (played m n was) s) q j was

    -- the rounds, where there is a supply that the places stand for
    pub plays : (t : List ℕ) (l : Lent) (at : List ℕ) → model_of t ≡ m → (q : Supply) → p ≡ answered q → Supplies l q none_taken at none_taken
        → (r : Result Simulated Refusal) (vs : List ℤ) → PlayCall t l n at was r vs → SimulationAnswers (simulate_with m p n was) was r vs
    plays t l at em q s b r vs c =
        subst (λ a. SimulationAnswers a was r vs)
        (ap (λ j. played j n was (answered q)) em ∙ sym (no-fault ∙ ap (played m n was) s))
        (c.plays q b)

-- ---- a scan of what is lent: it tells why it refuses, or finds what P says
abbrev pub Finds : {A : Type 0} → (A → Type 0) → Answer A → Checked → Type 0
Finds P (refused f) s = says_checked s ≡ some (refused f)
Finds P (answered a) s = (says_checked s ≡ some (answered tt)) × P a

module _ {A : Type 0} (P : A → Type 0) (s : Checked) where
  pub scan-refuses : (o : Answer A) → Finds P o s → (q : Refusal) → s ≡ Err q → (f : Told) × (told q ≡ some f) × (o ≡ refused f)
  unfolding says_checked
  scan-refuses (answered a) y q c = absurd (not_so (told q) (ap says_checked (sym c) ∙ y.0))
    where
      not_so : (o : Option Told) → ◌≡◌ {A = Option (Answer (Unit {0}))} (as_refused o) (some (answered tt)) → ⊥
      not_so none y = let z : ◌≡◌ {A = ℕ} 0 1 = cc in omega arith
      not_so (some g) y = let z : ◌≡◌ {A = ℕ} 0 1 = cc in omega arith
  scan-refuses (refused f) y q c = (f, so (told q) refl (ap says_checked (sym c) ∙ y), refl)
    where
      so : (o : Option Told) → told q ≡ o → ◌≡◌ {A = Option (Answer (Unit {0}))} (as_refused o) (some (refused f)) → told q ≡ some f
      so none w y = let z : ◌≡◌ {A = ℕ} 0 1 = cc in absurd (omega arith)
      so (some g) w y = let z : g ≡ f = cc in w ∙ ap some z

  pub scan-finds : (o : Answer A) → Finds P o s → s ≡ (Ok tt) → (a : A) × P a × (o ≡ answered a)
  unfolding says_checked
  scan-finds (refused f) y c =
      let q : some (answered tt) ≡ some (refused f) = ap says_checked (sym c) ∙ y in let z : ◌≡◌ {A = ℕ} 0 1 = cc in absurd (omega arith)
  scan-finds (answered a) y c = (a, y.1, refl)

-- ---- the rounds played, and the values put out
module _ (t : List ℕ) (l : Lent) (n : ℕ) (at : List ℕ) (was us : List ℤ) where
  pub put-out : (e : Simulated) → RunCall t l n at none_taken (Ok e) us → (d : ℕ) → d ≡ declared (model_of t) → (vs : List ℤ) → vs ≡ each_from (put_at d us) 0 was
      → PlayCall t l n at was (Ok e) vs
  unfolding put_out
  put-out e run d h vs v = record { plays = λ p b. go (simulate_of (model_of t) p n) (run.runs p b) }
    where
      go : (o : Answer Simulation) → Runs o (Ok e) us → SimulationAnswers (and_then o (λ d. answered (put_out (model_of t) was d))) was (Ok e) vs
      go (answered o) i = record { rounds = i.rounds; state = i.state; values = v ∙ ap₂ (λ k l. each_from (put_at k l) 0 was) h i.values }
      go (refused g) i = absurd i

  pub put-none : (q : Refusal) → RunCall t l n at none_taken (Err q) us → PlayCall t l n at was (Err q) was
  put-none q run = record { plays = λ p b. go (simulate_of (model_of t) p n) (run.runs p b) }
    where
      go : (o : Answer Simulation) → Runs o (Err q) us → SimulationAnswers (and_then o (λ d. answered (put_out (model_of t) was d))) was (Err q) was
      go (answered d) i = absurd i
      go (refused g) i = record { told = i; values = refl }
