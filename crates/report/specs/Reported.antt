-- The contract of the call `report` (01, "The program and its example"): the report at the front of a lent buffer, or 24 where the buffer is shorter than the longest report there can be.
use Rattle.std.specs.Prelude.{◌≡◌, cond, List, [], ◌∷◌, ◌++◌, ℕ, length, drop, ltb}
use Rattle.std.proofs.Math.Option.{some}
use Rattle.answer.specs.Told.{Answer, answered, refused, tell, says_written}
use Rattle.answer.specs.Told.{Written}
use Rattle.answering.specs.Report.{report_of}
use Rattle.steplines.specs.Run.{most_bytes}

-- "24 .. bytes needed": one need for every input
unfoldable pub length_told : List ℕ → List ℕ → Answer ℕ
length_told input old = cond (ltb (length old) most_bytes) (refused (tell 24 (most_bytes ∷ []))) (answered (length (report_of input)))

-- the report, and later bytes stay; "A refusal .. changes no lent byte"
unfoldable pub report_in : List ℕ → List ℕ → List ℕ
report_in input old = cond (ltb (length old) most_bytes) old (report_of input ++ drop (length (report_of input)) old)

pub record Reported (input old new : List ℕ) (r : Written) : Type 0 where
  pub answer : says_written r ≡ some (length_told input old)
  pub buffer : new ≡ report_in input old
