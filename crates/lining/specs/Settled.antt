-- The line of a round that settles from a composed state (02, 4/13).
use Rattle.std.specs.Prelude.{cond, List, ℕ, suc, ltb}
use Rattle.laws.specs.Sets.{◌∪◌}
use Rattle.answer.specs.Limits.{max_actions, max_budget}
use Rattle.model.specs.Model.{Model}
use Rattle.iosa.specs.Step.{urgent_step}
use Rattle.iosa.specs.Settle.{settle}
use Rattle.roundlines.specs.Lines.{round_line}

-- round k, v ticks after the last, by action g one up (0 where none fired), settles from s, where the clocks w were set or reset before: as `close_of` has it
unfoldable pub settled_line : Model → ℕ → ℕ → ℕ → ℕ → List ℕ → List ℕ
settled_line m k v g w s =
    let d = settle (urgent_step m) max_budget s in
    round_line k v g d.state (w ∪ d.resets)

-- an action one up
unfoldable pub shown_of : ℕ → ℕ
shown_of a = cond (ltb a max_actions) (suc a) 0

-- no line is longer
abbrev pub line_bytes : ℕ
line_bytes = 512
