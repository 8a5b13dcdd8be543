-- Bytes by the members of a set (01, "The model text").
use Rattle.std.specs.Prelude.{cond, List, [], ℕ, ◌+◌, ◌*◌, ◌-◌, length}
use Rattle.laws.specs.Sets.{has, ◌∪◌, ◌∖◌}
use Rattle.laws.specs.Fold.{tab, spread, sum}
use Rattle.sets.specs.Members.{word_bits}
use Rattle.answer.specs.Limits.{max_actions, max_clocks}
use Rattle.model.specs.Model.{Comp}
use Rattle.model.specs.Text.{decimal, act_part, clk_part}

-- "first its `act` lines, then `clk`, then `row`": the lines of the first two kinds
unfoldable pub act_lines : Comp → List ℕ
act_lines c = spread (act_part c) 0 max_actions

unfoldable pub clk_lines : Comp → List ℕ
clk_lines c = spread (clk_part c) 0 max_clocks

-- the most that stands beside one number in a line with one: `act`, two tabs, `uout`, LF
abbrev pub most_beside : ℕ
most_beside = 10

-- the widest set, of all clocks: two digits and a comma for each, but for the 10 of one digit and the last comma
abbrev pub set_bytes : ℕ
set_bytes = 3 * max_clocks - 10 - 1

-- the bytes of all members of s in decimal, with e bytes beside each
unfoldable pub per_member : ℕ → ℕ → ℕ
per_member s e = sum (tab (λ x. cond (has s x) (e + length (decimal x)) 0) 0 word_bits)

-- each kind's lines, by the members that no earlier kind has
abbrev pub kinds_width : ℕ → ℕ → ℕ → ℕ → ℕ
kinds_width i o u v = per_member i 8 + per_member (o ∖ i) 9 + per_member (u ∖ (i ∪ o)) 9 + per_member (v ∖ (i ∪ o ∪ u)) 10

-- a component with no rows, and no clock started: its text is the lines beside the rows
unfoldable pub bare : ℕ → ℕ → ℕ → ℕ → ℕ → ℕ → ℕ → Comp
bare states start ins outs uins uouts clocks =
    record { states = states; start = start; ins = ins; outs = outs; uins = uins; uouts = uouts; clocks = clocks; started = 0; rows = [] }
