-- A buffer as long as the longest report is filled with the report, and its length is answered.
use mathlib.Core.Path.{◌≡◌, sym, ◌∙◌, ap}
use mathlib.Core.Option.{Option, none, some}
use mathlib.Core.List.{List, ◌++◌}
use Prim.Native.Nat.{ℕ, ◌≤◌}
use native.Mathlib.Omega.{arith}
use borrow.Author.Tests.{le-ltb}
use lib.ListN.{length, take, drop, length-append}
use lib.Seq.{take_at, length-take-le}
use Rattle.answer.specs.Told.{Told, Answer, answered, told, as_refused, says_written}
use Rattle.answer.specs.declared.Refusal.{Refusal}
use Rattle.answer.specs.Told.{Written}
use Rattle.std.specs.Prelude.{Ok, Err}
use Rattle.answering.specs.Report.{report_of}
use Rattle.steplines.specs.Run.{most_bytes}
use Rattle.report.specs.Reported.{length_told, report_in, Reported}
use Rattle.settle.specs.Filled.{Filled}

module _ {input old new : List ℕ} {r : Written} (long : most_bytes ≡ length old) (g : Reported input old new r) where
  -- what is told is the report's length
  length-told : says_written r ≡ some (answered (length (report_of input)))
  unfolding length_told
  length-told = rw (le-ltb (length old) most_bytes (omega arith)) at g.answer

  front : new ≡ report_of input ++ drop (length (report_of input)) old
  unfolding report_in
  front = rw (le-ltb (length old) most_bytes (omega arith)) at g.buffer

  pub is-filled : (k : ℕ) → r ≡ Ok k → Filled input new k
  unfolding says_written
  is-filled k e =
      let w : ◌≡◌ {A = Option (Answer ℕ)} (some (answered k)) (some (answered (length (report_of input)))) = ap says_written (sym e) ∙ length-told in
      let n : k ≡ length (report_of input) = cc in
      let within : k ≤ length new = omega (arith, ap length front, length-append (report_of input) (drop (length (report_of input)) old)) in
      record { within = within; long = sym (length-take-le k new within); report = ap (take k) front ∙ take_at (report_of input) _ k (sym n) }

  pub never-refused : (f : Refusal) → r ≡ Err f → ⊥
  unfolding says_written
  never-refused f e = go (told f) (ap says_written (sym e) ∙ length-told)
    where
      go : (t : Option Told) → as_refused t ≡ some (answered (length (report_of input))) → ⊥
      go none h = let z : ◌≡◌ {A = ℕ} 0 1 = cc in omega arith
      go (some t) h = let z : ◌≡◌ {A = ℕ} 0 1 = cc in omega arith
