-- The checks one by one and in order: what the first that refuses says of both.
use mathlib.Core.Path.{◌≡◌, sym, ap}
use mathlib.Core.Option.{Option, none, some}
use mathlib.Core.List.{List, [], ◌∷◌}
use Prim.Native.Nat.{ℕ, ◌*◌, ◌≤◌, ◌<◌}
use lib.ListN.{length}
use borrow.Author.Tests.{lt-ltb, le-ltb}
use Rattle.laws.specs.Search.{when}
use Rattle.answer.specs.Limits.{max_budget}
use Rattle.answer.specs.Told.{Told, tell, told, Answer, refused, says_checked}
use Rattle.std.specs.Prelude.{Ok, Err}
use Rattle.answer.specs.declared.Refusal.{Refusal}
use Rattle.answer.proofs.SaysFixes.{tells}
use Rattle.iosa.specs.Step.{unless}
use Rattle.iosa.specs.Settle.{budget_fault, trace_fault}
use Rattle.iosa.proofs.Settling.Called.{no_answer, same-refusal, budget-faultless, trace-faultless}
use Rattle.parts.specs.Faults.{Says}
use Rattle.parts.proofs.Saying.{says-fine, says-refused}
use Rattle.paths.specs.Path.{long_path}
use Rattle.run.specs.Refusals.{whole_at, bytes_at}

-- ---- the checks one by one
module _ (n : ℕ) where
  tells-22 : (q : Refusal) → q ≡ whole_at 22 → told q ≡ some (tell 22 (0 ∷ []))
  unfolding told
  tells-22 q k = ap told k

  pub steps-over : max_budget < n → (q : Refusal) → q ≡ whole_at 22 → Says (Err q) (budget_fault n)
  unfolding budget_fault
  steps-over h q k = says-refused q (tell 22 (0 ∷ [])) (budget_fault n) (tells-22 q k) (ap (λ b. when b (tell 22 (0 ∷ []))) (lt-ltb max_budget n h))

  pub steps-fit : n ≤ max_budget → Says (Ok tt) (budget_fault n)
  steps-fit h = says-fine (budget_fault n) ((budget-faultless n).1 h)

  pub room-short : (room : ℕ) → room < n → (q : Refusal) → q ≡ bytes_at n → Says (Err q) (trace_fault n room)
  unfolding trace_fault told
  room-short room h q k = says-refused q (tell 24 (n ∷ [])) (trace_fault n room) (ap told k) (ap (λ b. when b (tell 24 (n ∷ []))) (lt-ltb room n h))

  pub room_fits : (room : ℕ) → n ≤ room → Says (Ok tt) (trace_fault n room)
  room_fits room h = says-fine (trace_fault n room) ((trace-faultless n room).1 h)

pub path-over : (p : List ℕ) → 2 * max_budget < length p → (q : Refusal) → q ≡ whole_at 22 → Says (Err q) (long_path p)
unfolding long_path
path-over p h q k = says-refused q (tell 22 (0 ∷ [])) (long_path p) (tells-22 0 q k) (ap (λ b. when b (tell 22 (0 ∷ []))) (lt-ltb (2 * max_budget) (length p) h))

pub path-fits : (p : List ℕ) → length p ≤ 2 * max_budget → Says (Ok tt) (long_path p)
unfolding long_path
path-fits p h = says-fine (long_path p) (ap (λ b. when b (tell 22 (0 ∷ []))) (le-ltb (2 * max_budget) (length p) h))

-- what a check that refused tells
pub refused-fault : (q : Refusal) (o : Option Told) → Says (Err q) o → (f : Told) × (told q ≡ some f) × (o ≡ some f)
unfolding says_checked
refused-fault q o e = let x = tells q (unless o tt) e in (x.0, x.1, stands o x.0 x.2)
  where
    stands : (o : Option Told) (f : Told) → ◌≡◌ {A = Answer (Unit {0})} (unless o tt) (refused f) → o ≡ some f
    stands none f e = absurd (no_answer (sym e))
    stands (some g) f e = ap some (same-refusal e)
