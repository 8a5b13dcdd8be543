-- What an answer of the system's `read` and `write` means, and what the functions over them answer.
use Rattle.std.specs.Prelude as Answered
use Rattle.std.specs.Prelude.{◌≡◌, Bool, false, ◌||◌, cond, List, ℕ, ◌-◌, ◌≤◌, eqb, ℤ, pos, negsuc, length, take, Result, Ok, Err, Some, None}

-- what one call came to: so many bytes, nothing yet, or an error; and what came of it in the end
abbrev pub Tried : Type 0
Tried = Result (Answered.Option ℕ) ℤ

abbrev pub Moved : Type 0
Moved = Result ℕ ℤ

-- the errors that pass by themselves: EINTR and EAGAIN
unfoldable pub passes : ℤ → Bool
passes (pos n) = eqb n 4 || eqb n 11
passes (negsuc n) = false

-- a number of bytes; below zero the error, unless it passes by itself
unfoldable pub tried_of : ℤ → ℤ → Tried
tried_of (pos n) e = Ok (Some n)
tried_of (negsuc k) e = cond (passes e) (Ok None) (Err e)

abbrev pub AtMost : ℕ → Tried → Type 0
AtMost most r = (n : ℕ) → r ≡ Ok (Some n) → n ≤ most

abbrev pub Within : ℕ → Moved → Type 0
Within most r = (n : ℕ) → r ≡ Ok n → n ≤ most

-- one read into a buffer from a place on: no more than fits, and what stands before the place stays
pub record Tries (old : List ℕ) (from : ℕ) (new : List ℕ) (r : Tried) : Type 0 where
  pub most : AtMost (length old - from) r
  pub kept : take from new ≡ take from old

-- the same of a read that came to something
pub record Gets (old : List ℕ) (from : ℕ) (new : List ℕ) (r : Moved) : Type 0 where
  pub most : Within (length old - from) r
  pub kept : take from new ≡ take from old

-- all of them
abbrev pub Whole : ℕ → Moved → Type 0
Whole all r = (n : ℕ) → r ≡ Ok n → n ≡ all
