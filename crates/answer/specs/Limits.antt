-- The limits of paper 01 ("The model text", "Confluence and settling", "The program"), two of them raised by request 12. A limit is written as a number here and nowhere above.
use Rattle.std.specs.Prelude.{ℕ, replicate, pos}
use Rattle.answer.specs.declared.Limits.{Limits}
use Rattle.answer.specs.declared.State.{State}

-- "A model has 1 to 16 components"; 32 since request 12
abbrev pub max_components : ℕ
max_components = 32

-- "at most 1,024 rows in all"
abbrev pub max_rows : ℕ
max_rows = 1024

-- "states (1 to 64)"; 128 since request 12
abbrev pub max_states : ℕ
max_states = 128

-- "action (0 to 63)"
abbrev pub max_actions : ℕ
max_actions = 64

-- "clock (0 to 63)"
abbrev pub max_clocks : ℕ
max_clocks = 64

-- "a text of at most 32,768 bytes"
abbrev pub max_bytes : ℕ
max_bytes = 32768

-- "the budget (0 to 4,096)", "the listed actions (0 to 4,096)"
abbrev pub max_budget : ℕ
max_budget = 4096

-- "request line .. over 256 bytes with its LF"
abbrev pub max_request : ℕ
max_request = 256

-- "Numbers are decimal, 1 to 5 digits"
abbrev pub max_digits : ℕ
max_digits = 5

-- "outside -2^40 to 2^40"
abbrev pub max_ticks : ℕ
max_ticks = 1099511627776

-- the digits of 2^40: "samples are 1 to 2^40" (02, 4/13)
abbrev pub max_tick_digits : ℕ
max_tick_digits = 13

-- a tree's elements: "number 0 to 63" (02, 9/13)
abbrev pub max_elements : ℕ
max_elements = 64

-- "gates have two inputs, boxes one to five" (02, 9/13)
abbrev pub max_inputs : ℕ
max_inputs = 5

abbrev pub limits_of : Limits
limits_of =
    record {
      components = max_components;
      rows = max_rows;
      states = max_states;
      actions = max_actions;
      clocks = max_clocks;
      bytes = max_bytes;
      request = max_request;
      parts = max_components;
      budget = max_budget;
      ticks = pos max_ticks;
    }

-- what stands beside a refusal: "A refusal returns its number and place"
abbrev pub no_state : State
no_state = record { count = 0; parts = replicate max_components 0 }
