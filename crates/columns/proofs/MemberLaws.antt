-- Every number below 64 is one of all.
use mathlib.Core.Path.{◌≡◌}
use mathlib.Core.Bool.{true}
use Prim.Native.Nat.{ℕ, ◌-◌, ◌^◌, ◌<◌}
use native.Mathlib.Omega.{arith}
use native.Mathlib.Decide.{dec_lt}
use lib.Dec.{ltb}
use borrow.Author.Tests.{lt-ltb, le-ltb, eq-eqb}
use Rattle.laws.specs.Sets.{bit, has}
use Rattle.laws.proofs.SetLaws.{bit-ones}
use Rattle.sets.specs.Members.{word_bits}
use Rattle.columns.specs.Columns.{member_of}

pub member-all : (x : ℕ) → member_of (2 ^ word_bits - 1) x ≡ ltb x word_bits
member-all x = go (dec_lt x word_bits)
  where
    go : Dec (x < word_bits) → member_of (2 ^ word_bits - 1) x ≡ ltb x word_bits
    go (yes h) = let b : has (2 ^ word_bits - 1) x ≡ true = eq-eqb (bit (2 ^ word_bits - 1) x) 1 (bit-ones word_bits x h) in rw (lt-ltb x word_bits h) b
    go (no h) = rw (le-ltb x word_bits (omega arith))
