-- "A set of clocks or of actions is one 64-bit number, bit x for member x" (paper 01, "The model text").
use Rattle.std.specs.Prelude.{◌≡◌, Bool, true, ℕ, ◌/◌, ◌%◌, ◌^◌, eqb}
use Rattle.std.specs.Int.Bits.{bit_and, bit_or, bit_xor}

-- digit x of s, 0 or 1
abbrev pub bit : ℕ → ℕ → ℕ
bit s x = s / 2 ^ x % 2

-- x is a member of s, as a test
abbrev pub has : ℕ → ℕ → Bool
has s x = eqb (bit s x) 1

infixl 50 ◌∪◌
infixl 55 ◌∩◌
infixl 55 ◌∖◌
-- s joined with t
abbrev pub ◌∪◌ : ℕ → ℕ → ℕ
s ∪ t = bit_or s t

-- what s and t share
abbrev pub ◌∩◌ : ℕ → ℕ → ℕ
s ∩ t = bit_and s t

-- s without t
abbrev pub ◌∖◌ : ℕ → ℕ → ℕ
s ∖ t = bit_and s (bit_xor s t)

-- s lies within t, as a test
abbrev pub within : ℕ → ℕ → Bool
within s t = eqb (bit_and s t) s

-- the set of one member
abbrev pub only : ℕ → ℕ
only x = 2 ^ x

infixl 20 ◌∈◌
infixl 20 ◌⊆◌
-- x is in s
abbrev pub ◌∈◌ : ℕ → ℕ → Type 0
x ∈ s = has s x ≡ true

-- s lies within t
abbrev pub ◌⊆◌ : ℕ → ℕ → Type 0
s ⊆ t = (x : ℕ) → x ∈ s → x ∈ t

-- s and t have no member in common
abbrev pub Apart : ℕ → ℕ → Type 0
Apart s t = (x : ℕ) → x ∈ s → x ∈ t → ⊥
