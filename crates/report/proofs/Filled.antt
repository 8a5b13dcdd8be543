-- The contract of `report` by its two cases: 24, and the report put at the front.
use mathlib.Core.Path.{◌≡◌, ◌∙◌, ap}
use mathlib.Core.Option.{some}
use mathlib.Core.List.{List, ◌++◌}
use Prim.Native.Nat.{ℕ, ◌+◌, ◌≤◌, ◌<◌}
use native.Mathlib.Omega.{arith}
use lib.ListN.{length, drop}
use borrow.Author.Tests.{lt-ltb, le-ltb}
use Rattle.answer.specs.Told.{answered, told, says_written}
use Rattle.std.specs.Prelude.{Ok, Err}
use Rattle.answer.specs.declared.Place.TheVariants.{Bytes}
use Rattle.answering.specs.Report.{report_of}
use Rattle.print.specs.Put.{laid, Put}
use Rattle.steplines.specs.Run.{most_bytes}
use Rattle.report.specs.Reported.{length_told, report_in, Reported}

pub too_short_lem : (input old : List ℕ) → length old < most_bytes → Reported input old old (Err (record { number = 24; place = Bytes most_bytes }))
unfolding length_told report_in says_written told
too_short_lem input old h = record { answer = rw (lt-ltb (length old) most_bytes h); buffer = rw (lt-ltb (length old) most_bytes h) }

at-the-front : (old bytes : List ℕ) → laid old 0 bytes ≡ bytes ++ drop (length bytes) old
unfolding laid
at-the-front old bytes = let e : 0 + length bytes ≡ length bytes = omega arith in ap (λ n. bytes ++ drop n old) e

pub filled : (input old new : List ℕ) (n : ℕ) → most_bytes ≤ length old → Put old 0 (report_of input) new n → Reported input old new (Ok n)
unfolding length_told report_in says_written
filled input old new n h p =
    let e : n ≡ length (report_of input) = omega (arith, p.place) in
    record {
      answer = rw (le-ltb (length old) most_bytes h) (ap (λ k. some (answered k)) e);
      buffer = rw (le-ltb (length old) most_bytes h) (p.buffer ∙ at-the-front old (report_of input));
    }
