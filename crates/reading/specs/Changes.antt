-- The words that one line changes.
use Rattle.std.specs.Prelude.{◌≡◌, List, ℕ, suc, ◌+◌, ◌*◌, ◌≤◌, ◌<◌, length, get_or, set}
use Rattle.std.proofs.lemmas.List.Edits.{sets}
use Rattle.layout.specs.Layout.{head_words, block_words, row_words, rows_at}
use Rattle.laws.specs.Sets.{◌∪◌, only}

-- member x joined to the set at one word, and every other word as it was
pub record Joined (d : List ℕ) (at x : ℕ) (d' : List ℕ) : Type 0 where
  pub words : d' ≡ set d at (get_or d at 0 ∪ only x)

-- the words from lo on, below hi, are one more, and every other word is as it was
pub record Raised (d : List ℕ) (lo hi : ℕ) (d' : List ℕ) : Type 0 where
  pub long : length d' ≡ length d
  pub inside : (j : ℕ) → lo ≤ j → j < hi → get_or d' j 0 ≡ get_or d j 0 + 1
  pub before : (j : ℕ) → j < lo → get_or d' j 0 ≡ get_or d j 0
  pub behind : (j : ℕ) → hi ≤ j → get_or d' j 0 ≡ get_or d j 0

-- the words from lo on, below hi, are v, and every other word is as it was
pub record Filled (d : List ℕ) (lo hi v : ℕ) (d' : List ℕ) : Type 0 where
  pub long : length d' ≡ length d
  pub inside : (j : ℕ) → lo ≤ j → j < hi → get_or d' j 0 ≡ v
  pub before : (j : ℕ) → j < lo → get_or d' j 0 ≡ get_or d j 0
  pub behind : (j : ℕ) → hi ≤ j → get_or d' j 0 ≡ get_or d j 0

-- where word k of block i stands
abbrev pub block_at : ℕ → ℕ → ℕ
block_at i k = 1 + block_words * i + k

-- a new block: its firsts filled, then the count, states and start
pub record CompPut (d : List ℕ) (i states start rows : ℕ) (d' : List ℕ) : Type 0 where
  pub mid : List ℕ
  pub firsts : Filled d (block_at i head_words) (block_at i (head_words + suc states)) rows mid
  pub words : d' ≡ set (set (set mid 0 (suc i)) (block_at i 0) states) (block_at i 1) start

-- a row more: the firsts above the state that it leaves raised, then its words
pub record RowPut (d : List ℕ) (i states rows from : ℕ) (ws d' : List ℕ) : Type 0 where
  pub mid : List ℕ
  pub firsts : Raised d (block_at i (head_words + suc from)) (block_at i (head_words + suc states)) mid
  pub words : d' ≡ sets mid (rows_at + row_words * rows) ws
