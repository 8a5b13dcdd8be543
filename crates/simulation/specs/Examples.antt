-- Examples of a simulation (02, 4/13 and 8/13), on M of paper 01 and on small models: the model as its text, the sample text, the rounds asked for, the answer.
use Rattle.std.specs.Prelude.{◌≡◌, List, [], ◌∷◌, ◌++◌, map, ℕ, replicate, get_or, ℤ, pos, negsuc}
use Prim.Native.String.{String}
use Rattle.answer.specs.Told.{Answer, answered, refused}
use Rattle.answering.specs.Examples.{bytes_of, M}
use Rattle.iosa.specs.Start.{start_all, started_all}
use Rattle.model.specs.Model.{Model, declared, row_count}
use Rattle.model.specs.Text.{digits_of, decimal, joined, members, guard_field, set_field, fields_after}
use Rattle.model.specs.WellFormed.{lower, before}
use Rattle.model.specs.Reading.{exactly, more_digits, number, more_numbers, numbers, guard_or_dash, numbers_or_dash, kind, comp_entry, act_entry, clk_entry, row_entry, entry, shorter, reset_values, first_bad, column_of, out_of_turn, all_below, out_of_range, all_in, lacks, ascending, set_of, follows, out_of_order, too_many, fault_of, take_in, lines_from, read_of}
use Rattle.laws.specs.Search.{seek}
use Rattle.laws.specs.Fold.{over}
use Rattle.iosa.specs.Checks.{row_for, bad_guard, check10, repeats, check11, lacks_row, check12, twice, check13, enabling_of, unstable, allowed, narrow, greatest, check14, fault_at, fault_from, clash_for, check15, check16, check17, follow, unreached, reach_of, clashes, check18, clash_among, accept_of}
use Rattle.iosa.specs.Step.{move, move_all, is_uout, urgent_step, lowest, is_stable, in_range, state_fault}
use Rattle.iosa.specs.Settle.{settle, unreached_from, reach_fault, begin_fault, budget_fault}
use Rattle.timing.specs.Timed.{enabling_all, unstable_fault, out_of_ticks, values_fault, below_zero, check29, is_least, shares, check30, clock_row, clock_row_of, fire_one, fire_all, fallen, aged_from, fire, timed_from}
use Rattle.triggering.specs.Test.{crossed, nothing, uouts_at, stirred, woken, triggers_in, sets_in, wakers_in, triggers_of, go_on, leads_of, starts_of, sets_of, wakers_of, own_of, sharing, elsewhere, together_of, spread_by, led_by, led_of, harmed, passes_of, inputs_of, outputs_of, open_fault, entry_of}
use Rattle.simulation.specs.Simulate.{lacks as lacks_one, fed_at, counted_at, each_from, end_of, close_of, no_values, none_taken, round_zero, rounds_from, simulate_of}
use Rattle.simulation.specs.Samples.{sample_at, samples_at, line_at, lists_from, samples_of, nth}
use Rattle.simulation.specs.Call.{Simulating, put_at, put_out, lent_fault, simulate_with, supplied, simulate_text}

-- a simulation: the model, the sample text, the later rounds asked for, and as many lent values, each -1
pub record Ask : Type 0 where
  pub model : String
  pub samples : String
  pub rounds : ℕ
  pub lent : ℕ

-- later rounds done, state, and the lent values then; or a refusal
pub data Reply : Type 0 where
  done : ℕ → List ℕ → List ℤ → Reply
  refuses-with : ℕ → List ℕ → Reply

-- so many lent values that stay as they were
abbrev pub kept : ℕ → List ℤ
kept n = replicate n (negsuc 0)

abbrev pub says : Answer Simulating → Reply
says (answered d) = done d.rounds d.state d.values
says (refused t) = refuses-with t.number t.place

abbrev pub on_model : (Model → Reply) → Answer Model → Reply
on_model f (answered m) = f m
on_model f (refused t) = refuses-with t.number t.place

-- what antt opens to compute a reply stands on the line below
unfoldable pub reply : Ask → Reply
unfolding declared row_count digits_of decimal joined members guard_field set_field fields_after lower before exactly more_digits number more_numbers numbers guard_or_dash numbers_or_dash kind comp_entry act_entry clk_entry row_entry entry shorter reset_values first_bad column_of out_of_turn all_below out_of_range all_in lacks ascending set_of follows out_of_order too_many fault_of take_in lines_from read_of seek row_for bad_guard check10 repeats check11 lacks_row check12 twice check13 enabling_of unstable allowed narrow greatest check14 fault_at fault_from clash_for check15 check16 check17 follow unreached reach_of clashes check18 clash_among accept_of over crossed nothing uouts_at stirred woken triggers_in sets_in wakers_in triggers_of go_on leads_of starts_of sets_of wakers_of own_of sharing elsewhere together_of spread_by led_by led_of harmed passes_of inputs_of outputs_of open_fault entry_of move move_all is_uout urgent_step lowest is_stable in_range state_fault settle unreached_from reach_fault begin_fault budget_fault enabling_all unstable_fault out_of_ticks values_fault below_zero check29 is_least shares check30 clock_row clock_row_of fire_one fire_all fallen aged_from fire timed_from start_all started_all lacks_one fed_at counted_at each_from end_of close_of no_values none_taken round_zero rounds_from simulate_of sample_at samples_at line_at lists_from samples_of nth put_at put_out lent_fault simulate_with supplied simulate_text
reply a = on_model (λ m. says (simulate_text m (bytes_of a.samples) a.rounds (kept a.lent))) (read_of (bytes_of a.model))

-- ---- small models
-- two components, each one state and one `out` row to itself with its own clock, 4 and 9, reset by the row
abbrev pub two : String
two = "comp\t1\t0\nact\t0\tout\nclk\t4\t1\nrow\t0\t4\t0\t4\t0\ncomp\t1\t0\nact\t1\tout\nclk\t9\t1\nrow\t0\t9\t1\t9\t0\n"

-- one state, a `uout` loop that resets clock 3, set at the start
abbrev pub loop : String
loop = "comp\t1\t0\nact\t0\tuout\nclk\t3\t1\nrow\t0\t-\t0\t3\t0\n"

-- a clock set at the start and reset by the one urgent step of round 0
abbrev pub once : String
once = "comp\t2\t0\nact\t0\tuout\nact\t1\tout\nclk\t0\t1\nrow\t0\t-\t0\t0\t1\nrow\t1\t0\t1\t0\t1\n"

-- no clock at all
abbrev pub still : String
still = "comp\t1\t0\n"

-- clocks 0 and 3, which nothing waits for
abbrev pub idle : String
idle = "comp\t1\t0\nclk\t0\t0\nclk\t3\t0\n"

-- 02, 8/13: a source says 1 and 2 in turn, each woken by action 0; a listener remembers which it heard first. Not confluent, and let through by the new test
abbrev pub turns : String
turns = "comp\t4\t0\nact\t0\tout\nact\t1\tuout\nact\t2\tuout\nclk\t0\t1\nrow\t0\t0\t0\t-\t1\nrow\t1\t-\t1\t0\t2\nrow\t2\t0\t0\t-\t3\nrow\t3\t-\t2\t0\t0\ncomp\t3\t0\nact\t1\tuin\nact\t2\tuin\nrow\t0\t-\t1\t-\t1\nrow\t0\t-\t2\t-\t2\nrow\t1\t-\t1\t-\t1\nrow\t1\t-\t2\t-\t1\nrow\t2\t-\t1\t-\t2\nrow\t2\t-\t2\t-\t2\n"

-- the same with an input 3 that nobody outputs
abbrev pub open_turns : String
open_turns = "comp\t4\t0\nact\t0\tout\nact\t1\tuout\nact\t2\tuout\nclk\t0\t1\nrow\t0\t0\t0\t-\t1\nrow\t1\t-\t1\t0\t2\nrow\t2\t0\t0\t-\t3\nrow\t3\t-\t2\t0\t0\ncomp\t3\t0\nact\t1\tuin\nact\t2\tuin\nact\t3\tin\nrow\t0\t-\t1\t-\t1\nrow\t0\t-\t2\t-\t2\nrow\t0\t-\t3\t-\t0\nrow\t1\t-\t1\t-\t1\nrow\t1\t-\t2\t-\t1\nrow\t1\t-\t3\t-\t1\nrow\t2\t-\t1\t-\t2\nrow\t2\t-\t2\t-\t2\nrow\t2\t-\t3\t-\t2\n"

-- confluent and open: clock 0 fires action 0, and an input 5 that nobody outputs is heard
abbrev pub open_loop : String
open_loop = "comp\t1\t0\nact\t0\tout\nact\t5\tin\nclk\t0\t1\nrow\t0\t0\t0\t0\t0\nrow\t0\t-\t5\t-\t0\n"

-- neither test passes: from the start 0 and 1 lead to different states
abbrev pub parted : String
parted = "comp\t2\t0\nact\t0\tuout\nact\t1\tuout\nrow\t0\t-\t0\t-\t1\nrow\t0\t-\t1\t-\t0\n"

pub record Case : Type 0 where
  pub asked : Ask
  pub answer : Reply

abbrev pub S : String → String → ℕ → ℕ → Reply → Case
S m t n l r = record { asked = record { model = m; samples = t; rounds = n; lent = l }; answer = r }

-- M's clock 0 is declared and set at the start
unfoldable pub model_cases : List Case
model_cases =
    S M "0\t5\n" 0 64 (done 0 (0 ∷ 0 ∷ []) (pos 5 ∷ kept 63))
    ∷ S M "0\t5\t7\n" 1 64 (done 1 (0 ∷ 2 ∷ []) (pos 7 ∷ kept 63))
    ∷ S M "0\t5\t7\t9\n" 2 64 (done 2 (0 ∷ 2 ∷ []) (pos 9 ∷ kept 63))
    ∷ S M "0\t5\n" 1 64 (refuses-with 41 (0 ∷ []))
    ∷ S M "0\n" 0 64 (refuses-with 41 (0 ∷ []))
    ∷ S M "0\t5\n" 4097 64 (refuses-with 22 (0 ∷ []))
    ∷ S M "0\t5\n" 1 63 (refuses-with 28 (0 ∷ []))
    ∷ S M "0\t5\n1\t5\n" 0 64 (refuses-with 40 (2 ∷ []))
    ∷ []

-- ties, lists that run out, a round that does not settle, one sample a round, and nothing to wait for
unfoldable pub round_cases : List Case
round_cases =
    S two "4\t5\n9\t5\n" 1 64 (refuses-with 30 (4 ∷ []))
    ∷ S two "4\t5\n9\n" 1 64 (refuses-with 41 (9 ∷ []))
    ∷ S two "4\t5\t3\n9\t6\n" 1 64 (done 1 (0 ∷ 0 ∷ []) (kept 4 ++ pos 3 ∷ kept 4 ++ pos 1 ∷ kept 54))
    ∷ S two "4\t5\t5\n9\t3\n" 1 64 (refuses-with 41 (9 ∷ []))
    ∷ S loop "3\n" 0 64 (refuses-with 42 (0 ∷ []))
    ∷ S once "0\t8\t9\n" 0 64 (done 0 (1 ∷ []) (pos 8 ∷ kept 63))
    ∷ S still "" 5 64 (done 0 (0 ∷ []) (kept 64))
    ∷ S idle "0\t5\n3\n" 4096 64 (done 0 (0 ∷ []) (pos 0 ∷ kept 2 ++ pos 0 ∷ kept 60))
    ∷ []

-- systems that are not confluent: one that the new test lets through, an open one, one that neither test lets through; and an open one that is confluent
unfoldable pub either_cases : List Case
either_cases =
    S turns "0\t5\t7\t9\n" 2 64 (done 2 (0 ∷ 1 ∷ []) (pos 9 ∷ kept 63))
    ∷ S open_turns "0\t5\t7\t9\n" 2 64 (refuses-with 45 (3 ∷ []))
    ∷ S parted "" 0 64 (refuses-with 18 (0 ∷ 0 ∷ 0 ∷ 1 ∷ []))
    ∷ S open_loop "0\t5\t7\n" 1 64 (done 1 (0 ∷ []) (pos 7 ∷ kept 63))
    ∷ []

-- the places of 40, clocks 0 and 3 declared (the set 9), or none; 0 where the text is read
pub record TextCase : Type 0 where
  pub declared-set : ℕ
  pub text : String
  pub line : ℕ

abbrev pub T : ℕ → String → ℕ → TextCase
T d t k = record { declared-set = d; text = t; line = k }

unfoldable pub text_cases : List TextCase
text_cases =
    T 9 "" 1
    ∷ T 9 "0\t5\n" 2
    ∷ T 9 "0\t5" 1
    ∷ T 9 "0\t5\n3" 2
    ∷ T 9 "3\n0\t5\n" 1
    ∷ T 9 "0\t5\n0\t5\n3\n" 2
    ∷ T 9 "0\t5\n3\n\n" 3
    ∷ T 9 "0\t5\n3\n4\t1\n" 3
    ∷ T 0 "\n" 1
    ∷ T 9 "0\t1099511627776\n3\t1\n" 0
    ∷ T 9 "0\t1099511627777\n3\n" 1
    ∷ T 9 "0\t0\n3\n" 1
    ∷ T 9 "0\t05\n3\n" 1
    ∷ T 9 "00\n3\n" 1
    ∷ T 9 "0\t\n3\n" 1
    ∷ T 9 "0\t5\t\t6\n3\n" 1
    ∷ T 9 "0\t10000000000000\n3\n" 1
    ∷ []

-- the line of 40, or 0
abbrev pub line_told : Answer (List (List ℕ)) → ℕ
line_told (answered ls) = 0
line_told (refused t) = get_or t.place 0 0

unfoldable pub line_refused : TextCase → ℕ
unfolding exactly more_digits number sample_at samples_at line_at lists_from samples_of
line_refused c = line_told (samples_of c.declared-set (bytes_of c.text))

-- every case asks and answers as it says
abbrev pub Hold : List Case → Type 0
Hold cs = map (λ c. reply c.asked) cs ≡ map (λ c. c.answer) cs

abbrev pub HoldTexts : List TextCase → Type 0
HoldTexts cs = map line_refused cs ≡ map (λ c. c.line) cs
