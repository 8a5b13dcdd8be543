-- An input with the longest report there can be (01, "The program and its example"): as many components as there may be, each at its start, a state of the most digits,
-- where action 10 resets all clocks and leads back, and the largest budget.
use Rattle.std.specs.Prelude.{List, [], ◌∷◌, ◌++◌, ℕ, ◌+◌, ◌-◌, ◌^◌, replicate}
use Rattle.laws.specs.Sets.{only}
use Rattle.answer.specs.Limits.{max_components, max_clocks, max_budget}
use Rattle.model.specs.Model.{Comp, Model}
use Rattle.model.specs.Text.{text_of}
use Rattle.answering.specs.Report.{Request, request_text}
use Rattle.steplines.specs.Run.{state_digits}

abbrev pub all_clocks : ℕ
all_clocks = 2 ^ max_clocks - 1

-- the least number of the most digits
abbrev pub wide : ℕ
wide = 10 ^ (state_digits - 1)

unfoldable pub loud : Comp
loud =
    record {
      states = wide + 1;
      start = wide;
      ins = 0;
      outs = 0;
      uins = 0;
      uouts = only 10;
      clocks = all_clocks;
      started = 0;
      rows = record { from = wide; guard = 0; action = 10; resets = all_clocks; target = wide } ∷ [];
    }

unfoldable pub still : Comp
still = record { states = wide + 1; start = wide; ins = 0; outs = 0; uins = 0; uouts = 0; clocks = 0; started = 0; rows = [] }

unfoldable pub longest_model : Model
longest_model = loud ∷ replicate (max_components - 1) still

abbrev pub all_wide : List ℕ
all_wide = replicate max_components wide

abbrev pub longest_request : Request
longest_request = record { state = all_wide; budget = max_budget }

unfoldable pub longest_input : List ℕ
longest_input = request_text longest_request ++ text_of longest_model
