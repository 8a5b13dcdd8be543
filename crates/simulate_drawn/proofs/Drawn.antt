-- From the scan of a file of distributions to the draws that supply the rounds, or to 49.
use mathlib.Core.Path.{◌≡◌, ap}
use mathlib.Core.Option.{Option, none}
use mathlib.Core.List.{List}
use Prim.Native.Nat.{ℕ, ◌≤◌}
use lib.ListN.{length}
use lib.IntN.{ℤ}
use Rattle.answer.specs.Limits.{max_clocks, max_budget}
use Rattle.answer.specs.Told.{Answer, answered, refused}
use Rattle.answer.specs.declared.Refusal.{Refusal}
use Rattle.answer.specs.Told.{Checked}
use Rattle.std.specs.Prelude.{Result, Ok, Err}
use Rattle.answer.specs.declared.Simulated.{Simulated}
use Rattle.model.specs.Model.{Model, declared}
use Rattle.triggering.specs.Test.{entry_of}
use Rattle.layout.specs.Image.{model_of}
use Rattle.simulation.specs.Simulate.{and_then}
use Rattle.simulation.specs.Call.{SimulationAnswers}
use Rattle.draw.specs.declared.Law.{Law}
use Rattle.drawing.specs.File.{laws_of}
use Rattle.drawing.specs.Draws.{draws}
use Rattle.drawing.specs.Call.{supplied_by, simulate_drawn}
use Rattle.distributions.specs.Text.{Placed, Scans}
use Rattle.feed.specs.declared.Source.TheVariants.{Draws}
use Rattle.feed.specs.Supply.{lent}
use Rattle.feed.proofs.Supplied.{supplied-drawn}
use Rattle.simulate.specs.Simulate.{PlayCall}
use Rattle.simulate.proofs.Called.{Finds, scan-refuses, scan-finds, told-unsupplied, plays}

finds : (o : Answer (List (Option Law))) (text : List ℕ) (s : Checked) (at : List ℕ) → Scans o text s at → Finds (λ ls. Placed text ls at) o s
finds (refused f) text s at y = y
finds (answered ls) text s at y = y

-- a good file has a place for each clock
pub fine-count : (o : Answer (List (Option Law))) (text : List ℕ) (s : Checked) (at : List ℕ) → Scans o text s at → s ≡ (Ok tt) → length at ≡ max_clocks
fine-count o text s at y c = (scan-finds (λ ls. Placed text ls at) s o (finds o text s at y) c).1.count

module _ (m : Model) (text ns : List ℕ) (n : ℕ) (was : List ℤ) (e : entry_of m ≡ none) (h : n ≤ max_budget) (k : length was ≡ max_clocks)
    (s : Checked) (at : List ℕ) (scan : Scans (laws_of (declared m) text) text s at) where
  pub told-49 : (q : Refusal) → s ≡ Err q → SimulationAnswers (simulate_drawn m text ns n was) was (Err q) was
  unfolding simulate_drawn supplied_by
  told-49 q c =
      let f = scan-refuses (λ ls. Placed text ls at) s (laws_of (declared m) text) (finds (laws_of (declared m) text) text s at scan) q c in
      told-unsupplied m (supplied_by m text ns) n was e h k f.0 (ap (λ o. and_then o (λ ls. answered (draws ls ns))) f.2) q f.1

  pub plays-draws : (t : List ℕ) → model_of t ≡ m → s ≡ (Ok tt) → (r : Result Simulated Refusal) (vs : List ℤ) → PlayCall t (lent Draws text ns) n at was r vs
      → SimulationAnswers (simulate_drawn m text ns n was) was r vs
  unfolding simulate_drawn supplied_by
  plays-draws t em c r vs p =
      let f = scan-finds (λ ls. Placed text ls at) s (laws_of (declared m) text) (finds (laws_of (declared m) text) text s at scan) c in
      plays m (supplied_by m text ns) n was e h k t (lent Draws text ns) at em (draws f.0 ns) (ap (λ o. and_then o (λ ls. answered (draws ls ns))) f.2)
      (supplied-drawn text ns f.0 at f.1) r vs p
