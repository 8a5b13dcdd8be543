-- From the scan of a sample text to the lists that supply the rounds, or to 40.
use mathlib.Core.Path.{◌≡◌, ap}
use mathlib.Core.Option.{none, some}
use mathlib.Core.List.{List}
use Prim.Native.Nat.{ℕ, ◌≤◌}
use lib.ListN.{length}
use lib.IntN.{ℤ}
use Rattle.answer.specs.Limits.{max_clocks, max_budget}
use Rattle.answer.specs.Told.{Told, told, Answer, answered, refused}
use Rattle.answer.specs.declared.Refusal.{Refusal}
use Rattle.answer.specs.Told.{Checked}
use Rattle.std.specs.Prelude.{Result, Ok, Err}
use Rattle.answer.specs.declared.Simulated.{Simulated}
use Rattle.model.specs.Model.{Model, declared}
use Rattle.triggering.specs.Test.{entry_of}
use Rattle.layout.specs.Image.{model_of}
use Rattle.samples.specs.Text.{Feeds, Scans}
use Rattle.feed.specs.declared.Source.TheVariants.{Lists}
use Rattle.feed.specs.Supply.{lent, Supplies}
use Rattle.feed.proofs.Supplied.{supplied-first}
use Rattle.simulation.specs.Simulate.{and_then, none_taken}
use Rattle.simulation.specs.Samples.{samples_of, recorded}
use Rattle.simulation.specs.Call.{supplied, simulate_text, SimulationAnswers}
use Rattle.simulate.specs.Simulate.{PlayCall}
use Rattle.simulate.proofs.Called.{Finds, scan-refuses, scan-finds, told-unsupplied, plays}

finds : (o : Answer (List (List ℕ))) (text : List ℕ) (s : Checked) (at : List ℕ) → Scans o text s at → Finds (λ ls. Feeds text ls at) o s
finds (refused f) text s at y = y
finds (answered ls) text s at y = y

-- a good text has a place for each clock
pub fine-count : (o : Answer (List (List ℕ))) (text : List ℕ) (s : Checked) (at : List ℕ) → Scans o text s at → s ≡ (Ok tt) → length at ≡ max_clocks
fine-count o text s at y c = (scan-finds (λ ls. Feeds text ls at) s o (finds o text s at y) c).1.count

module _ (m : Model) (text : List ℕ) (s : Checked) (at : List ℕ) (scan : Scans (samples_of (declared m) text) text s at) where
  -- there are no lists, and why; or these
  pub unlisted : (q : Refusal) → s ≡ Err q → (f : Told) × (told q ≡ some f) × (supplied m text ≡ refused f)
  unfolding supplied
  unlisted q c =
      let f = scan-refuses (λ ls. Feeds text ls at) s (samples_of (declared m) text) (finds (samples_of (declared m) text) text s at scan) q c in
      (f.0, f.1, ap (λ o. and_then o (λ ls. answered (recorded ls))) f.2)

  pub listed : (ns : List ℕ) → s ≡ (Ok tt)
      → (ls : List (List ℕ)) × (supplied m text ≡ answered (recorded ls)) × Supplies (lent Lists text ns) (recorded ls) none_taken at none_taken
  unfolding supplied
  listed ns c =
      let f = scan-finds (λ ls. Feeds text ls at) s (samples_of (declared m) text) (finds (samples_of (declared m) text) text s at scan) c in
      (f.0, ap (λ o. and_then o (λ ls. answered (recorded ls))) f.2, supplied-first text ns f.0 at none_taken f.1)

module _ (m : Model) (text : List ℕ) (n : ℕ) (was : List ℤ) (e : entry_of m ≡ none) (h : n ≤ max_budget) (k : length was ≡ max_clocks) (s : Checked)
    (at : List ℕ)
    (scan : Scans (samples_of (declared m) text) text s at) where
  pub told-40 : (q : Refusal) → s ≡ Err q → SimulationAnswers (simulate_text m text n was) was (Err q) was
  unfolding simulate_text
  told-40 q c = let f = unlisted m text s at scan q c in told-unsupplied m (supplied m text) n was e h k f.0 f.2 q f.1

  pub plays-lists : (t ns : List ℕ) → model_of t ≡ m → s ≡ (Ok tt) → (r : Result Simulated Refusal) (vs : List ℤ)
      → PlayCall t (lent Lists text ns) n at was r vs
      → SimulationAnswers (simulate_text m text n was) was r vs
  unfolding simulate_text
  plays-lists t ns em c r vs p =
      let f = listed m text s at scan ns c in plays m (supplied m text) n was e h k t (lent Lists text ns) at em (recorded f.0) f.1 f.2 r vs p
