-- The lowest member of a set and the number of its members ("A set .. is one 64-bit number, bit x for member x", 01, "The model text").
use Rattle.std.proofs.Math.Option.{Option, none, some}
use Rattle.std.specs.Prelude.{cond, ℕ}
use Rattle.laws.specs.Sets.{has}
use Rattle.laws.specs.Search.{least}
use Rattle.laws.specs.Fold.{tab, sum}

-- "one 64-bit number"
abbrev pub word_bits : ℕ
word_bits = 64

abbrev pub or_end : Option ℕ → ℕ → ℕ
or_end none n = n
or_end (some x) n = x

-- the lowest member, or 64 where there is none
unfoldable pub lowest_of : ℕ → ℕ
lowest_of s = or_end (least (has s) word_bits) word_bits

-- how many numbers below 64 are members
unfoldable pub size_of : ℕ → ℕ
size_of s = sum (tab (λ x. cond (has s x) 1 0) 0 word_bits)
