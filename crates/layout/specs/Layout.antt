-- The table's layout (docs/TABLE.md): word 0 the number of components, a block for each component, then the rows.
use Rattle.std.specs.Prelude.{List, ℕ, suc, ◌+◌, ◌*◌, get_or}
use Rattle.laws.specs.Sets.{◌∪◌}
use Rattle.laws.specs.Fold.{over}
use Rattle.answer.specs.Limits.{max_components, max_rows, max_states}

-- the words of a block before first[0]: states, start, ins, outs, uins, uouts, clocks, started
abbrev pub head_words : ℕ
head_words = 8

-- a block: its head, and first[0] to first[max_states]
abbrev pub block_words : ℕ
block_words = head_words + suc max_states

-- a row: action, guard, resets, target
abbrev pub row_words : ℕ
row_words = 4

-- where the rows begin
abbrev pub rows_at : ℕ
rows_at = 1 + block_words * max_components

-- "all images have one length"
abbrev pub image_words : ℕ
image_words = rows_at + row_words * max_rows

-- ---- what stands where
unfoldable pub count_of : List ℕ → ℕ
count_of t = get_or t 0 0

-- word k of the block of component i
unfoldable pub block_word : List ℕ → ℕ → ℕ → ℕ
block_word t i k = get_or t (1 + block_words * i + k) 0

-- word k of every component's block, joined as sets
unfoldable pub joined_word : List ℕ → ℕ → ℕ
joined_word t k = over (λ i s. s ∪ block_word t i k) 0 (count_of t) 0

-- first[s] of component i: the number, over the system, of the first row that leaves s or a later state
unfoldable pub first_of : List ℕ → ℕ → ℕ → ℕ
first_of t i s = block_word t i (head_words + s)

unfoldable pub action_at : List ℕ → ℕ → ℕ
action_at t r = get_or t (rows_at + row_words * r) 0

unfoldable pub guard_at : List ℕ → ℕ → ℕ
guard_at t r = get_or t (rows_at + row_words * r + 1) 0

unfoldable pub resets_at : List ℕ → ℕ → ℕ
resets_at t r = get_or t (rows_at + row_words * r + 2) 0

unfoldable pub target_at : List ℕ → ℕ → ℕ
target_at t r = get_or t (rows_at + row_words * r + 3) 0
