-- A lent buffer of bytes that a call fills.
use Rattle.std.specs.Prelude.{◌≡◌, List, ◌++◌, ℕ, length, drop}
use Rattle.std.proofs.Math.Option.{some}
use Rattle.answer.specs.Told.{Told, Answer, answered, refused, says_written}
use Rattle.answer.specs.Told.{Written}

-- these bytes at the front of the buffer, their number in the answer, and later bytes as they were
pub record Filled (old new : List ℕ) (r : Written) (bytes : List ℕ) : Type 0 where
  pub length-told : says_written r ≡ some (answered (length bytes))
  pub buffer : new ≡ bytes ++ drop (length bytes) old

-- "A refusal returns its number and place and changes no lent byte"
pub record Unfilled (old new : List ℕ) (r : Written) (t : Told) : Type 0 where
  pub refusal : says_written r ≡ some (refused t)
  pub buffer : new ≡ old

abbrev pub Fills : List ℕ → List ℕ → Written → Answer (List ℕ) → Type 0
Fills old new r (answered bytes) = Filled old new r bytes
Fills old new r (refused t) = Unfilled old new r t
