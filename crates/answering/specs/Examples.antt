-- The examples of paper 01 ("Examples on either side", "The program and its example"), and of 02, 10/13: the model as its text, the call, the answer.
use Rattle.std.specs.Prelude.{◌≡◌, Bool, true, false, List, [], ◌∷◌, ◌++◌, map, ℕ, zero, suc, replicate, ℤ, pos, negsuc}
use Rattle.std.proofs.Math.Option.{Option, none, some}
use Prim.Native.Char.{code}
use Prim.Native.String.{String, len, char_at}
use Rattle.laws.specs.Fold.{tab}
use Rattle.answer.specs.Told.{Told, tell, Answer, answered, refused, Shot, fired, quiet}
use Rattle.model.specs.Model.{Model, declared, row_count}
use Rattle.model.specs.Text.{text_of, digits_of, decimal, joined, members, guard_field, set_field, fields_after, comp_line, act_line, clk_line, row_line, kind_of, act_part, clk_part, row_lines, comp_text}
use Rattle.model.specs.Reading.{read_of, exactly, more_digits, number, more_numbers, numbers, guard_or_dash, numbers_or_dash, kind, comp_entry, act_entry, clk_entry, row_entry, entry, shorter, reset_values, first_bad, column_of, out_of_turn, all_below, out_of_range, all_in, lacks, ascending, set_of, follows, out_of_order, too_many, fault_of, take_in, lines_from}
use Rattle.iosa.specs.Settle.{settle_of, settle_list_of, settle, unreached_from, reach_fault, begin_fault, budget_fault, trace_fault, play}
use Rattle.iosa.specs.Orders.{Settling}
use Rattle.timing.specs.Timed.{timed_of, enabling_all, unstable_fault, out_of_ticks, values_fault, below_zero, check29, is_least, shares, check30, clock_row, clock_row_of, fire_one, fire_all, fallen, aged_from, fire, timed_from}
use Rattle.iosa.specs.TimedExactly.{Timing}
use Rattle.merged.specs.Merge.{merge_of, rows_by, each_with, pair_rows, product_rows, merged, merged_at, neighbour_fault, size_fault}
use Rattle.laws.specs.Search.{seek}
use Rattle.model.specs.WellFormed.{lower, before}
use Rattle.iosa.specs.Checks.{row_for, bad_guard, check10, repeats, check11, lacks_row, check12, twice, check13, enabling_of, unstable, allowed, narrow, greatest, check14, fault_at, fault_from, clash_for, check15, check16, check17, follow, unreached, reach_of, clashes, check18, clash_among, index_fault, component_of, compatible_of, accept_of, confluent_of}
use Rattle.iosa.specs.Step.{move, move_all, is_uout, urgent_step, lowest, is_stable, in_range, state_fault}
use Rattle.answering.specs.Report.{request_line, request_of, refused_line, step_line, step_lines, last_line, answer_lines, run_lines, report_of}

-- the bytes of a text
abbrev pub bytes_of : String → List ℕ
bytes_of s = tab (λ i. code (char_at s i)) 0 (len s)

-- ---- calls on a model's text, and what they answer
pub data Ask : Type 0 where
  -- reading, and the text written back
  reads : String → Ask
  -- settling from a state with a budget, and by a list
  settles : String → List ℕ → ℕ → Ask
  lists : String → List ℕ → List ℕ → Ask
  -- merging at i, and the text of what comes of it
  merges : String → ℕ → Ask
  -- checking component i by itself, the compatibility alone, and both
  component : String → ℕ → Ask
  compatible : String → Ask
  accepts : String → Ask
  -- what the program prints for a request line and a model
  prints : String → String → Ask
  -- the timed step with these values of the first clocks, all others at 0
  times : String → List ℕ → List ℤ → ℕ → Ask

pub data Reply : Type 0 where
  fine : Reply
  text : List ℕ → Reply
  -- stable?, steps, clocks reset, state
  ends : Bool → ℕ → ℕ → List ℕ → Reply
  -- v, action, resets, state, values
  fires : ℕ → ℕ → ℕ → List ℕ → List ℤ → Reply
  stays-quiet : Reply
  refuses-with : ℕ → List ℕ → Reply

abbrev pub refuses_told : Told → Reply
refuses_told t = refuses-with t.number t.place

-- the reply of a call on the model read, or why the text is refused
abbrev pub on_model : (Model → Reply) → Answer Model → Reply
on_model f (answered m) = f m
on_model f (refused t) = refuses_told t

abbrev pub reply_model : Answer Model → Reply
reply_model (answered m) = text (text_of m)
reply_model (refused t) = refuses_told t

abbrev pub reply_check : Option Told → Reply
reply_check none = fine
reply_check (some t) = refuses_told t

abbrev pub reply_settling : Answer (Settling (List ℕ)) → Reply
reply_settling (answered d) = ends d.stable d.steps d.resets d.state
reply_settling (refused t) = refuses_told t

abbrev pub reply_shot : Shot → List ℕ → List ℤ → Reply
reply_shot (fired v a r) s vs = fires v a r s vs
reply_shot quiet s vs = stays-quiet

abbrev pub reply_timing : Answer Timing → Reply
reply_timing (answered x) = reply_shot x.shot x.state x.values
reply_timing (refused t) = refuses_told t

-- what antt opens to compute a reply stands on the line below
unfoldable pub reply : Ask → Reply
unfolding declared row_count digits_of decimal joined members guard_field set_field fields_after comp_line act_line clk_line row_line kind_of act_part clk_part row_lines comp_text text_of lower before exactly more_digits number more_numbers numbers guard_or_dash numbers_or_dash kind comp_entry act_entry clk_entry row_entry entry shorter reset_values first_bad column_of out_of_turn all_below out_of_range all_in lacks ascending set_of follows out_of_order too_many fault_of take_in lines_from read_of seek row_for bad_guard check10 repeats check11 lacks_row check12 twice check13 enabling_of unstable allowed narrow greatest check14 fault_at fault_from clash_for check15 check16 check17 follow unreached reach_of clashes check18 clash_among index_fault component_of accept_of confluent_of move move_all is_uout urgent_step lowest is_stable in_range state_fault settle unreached_from reach_fault begin_fault budget_fault trace_fault settle_of play settle_list_of enabling_all unstable_fault out_of_ticks values_fault below_zero check29 is_least shares check30 clock_row clock_row_of fire_one fire_all fallen aged_from fire timed_from timed_of rows_by each_with pair_rows product_rows merged merged_at neighbour_fault size_fault merge_of request_line request_of refused_line step_line step_lines last_line answer_lines run_lines report_of
reply (reads m) = reply_model (read_of (bytes_of m))
reply (settles m s n) = on_model (λ x. reply_settling (settle_of x s n n)) (read_of (bytes_of m))
reply (lists m s l) = on_model (λ x. reply_settling (settle_list_of x s l)) (read_of (bytes_of m))
reply (merges m i) = on_model (λ x. reply_model (merge_of x i none)) (read_of (bytes_of m))
reply (component m i) = on_model (λ x. reply_check (component_of x i)) (read_of (bytes_of m))
reply (compatible m) = on_model (λ x. reply_check (compatible_of x)) (read_of (bytes_of m))
reply (accepts m) = on_model (λ x. reply_check (accept_of x)) (read_of (bytes_of m))
reply (prints r m) = text (report_of (bytes_of r ++ bytes_of m))
reply (times m s vs n) = on_model (λ x. reply_timing (timed_of x s (vs ++ replicate n (pos 0)))) (read_of (bytes_of m))

-- ---- M, and M changed as the examples say
abbrev pub M : String
M = "comp\t2\t0\nact\t0\tout\nact\t1\tuout\nclk\t0\t1\nrow\t0\t0\t0\t-\t1\nrow\t1\t-\t1\t0\t0\ncomp\t3\t0\nact\t1\tuin\nact\t2\tuout\nrow\t0\t-\t1\t-\t1\nrow\t1\t-\t1\t-\t1\nrow\t1\t-\t2\t-\t2\nrow\t2\t-\t1\t-\t2\n"

-- "M with the row of action 2 ending in 0"
abbrev pub M7 : String
M7 = "comp\t2\t0\nact\t0\tout\nact\t1\tuout\nclk\t0\t1\nrow\t0\t0\t0\t-\t1\nrow\t1\t-\t1\t0\t0\ncomp\t3\t0\nact\t1\tuin\nact\t2\tuout\nrow\t0\t-\t1\t-\t1\nrow\t1\t-\t1\t-\t1\nrow\t1\t-\t2\t-\t0\nrow\t2\t-\t1\t-\t2\n"

-- "M without its last row"
abbrev pub M8 : String
M8 = "comp\t2\t0\nact\t0\tout\nact\t1\tuout\nclk\t0\t1\nrow\t0\t0\t0\t-\t1\nrow\t1\t-\t1\t0\t0\ncomp\t3\t0\nact\t1\tuin\nact\t2\tuout\nrow\t0\t-\t1\t-\t1\nrow\t1\t-\t1\t-\t1\nrow\t1\t-\t2\t-\t2\n"

-- "M with `clk 0 0`"
abbrev pub M9 : String
M9 = "comp\t2\t0\nact\t0\tout\nact\t1\tuout\nclk\t0\t0\nrow\t0\t0\t0\t-\t1\nrow\t1\t-\t1\t0\t0\ncomp\t3\t0\nact\t1\tuin\nact\t2\tuout\nrow\t0\t-\t1\t-\t1\nrow\t1\t-\t1\t-\t1\nrow\t1\t-\t2\t-\t2\nrow\t2\t-\t1\t-\t2\n"

-- "M with the reset of action 1 as `-`"
abbrev pub M10 : String
M10 = "comp\t2\t0\nact\t0\tout\nact\t1\tuout\nclk\t0\t1\nrow\t0\t0\t0\t-\t1\nrow\t1\t-\t1\t-\t0\ncomp\t3\t0\nact\t1\tuin\nact\t2\tuout\nrow\t0\t-\t1\t-\t1\nrow\t1\t-\t1\t-\t1\nrow\t1\t-\t2\t-\t2\nrow\t2\t-\t1\t-\t2\n"

-- "6 states, 8 rows; pair (1,0) is state 3, and its row by action 1 resets 0 and goes to 1"
abbrev pub M11 : String
M11 = "comp\t6\t0\nact\t0\tout\nact\t1\tuout\nact\t2\tuout\nclk\t0\t1\nrow\t0\t0\t0\t-\t3\nrow\t1\t0\t0\t-\t4\nrow\t1\t-\t2\t-\t2\nrow\t2\t0\t0\t-\t5\nrow\t3\t-\t1\t0\t1\nrow\t4\t-\t1\t0\t1\nrow\t4\t-\t2\t-\t5\nrow\t5\t-\t1\t0\t2\n"

-- "One state, one `uout` loop"
abbrev pub loop : String
loop = "comp\t1\t0\nact\t0\tuout\nrow\t0\t-\t0\t-\t0\n"

-- component 0 waits for a clock that is not set, and both have output 3
abbrev pub shared : String
shared = "comp\t1\t0\nact\t3\tout\nclk\t0\t0\nrow\t0\t0\t3\t-\t0\ncomp\t1\t0\nact\t3\tout\n"

-- a component with one row, then one whose second row repeats a clock
abbrev pub repeating : String
repeating = "comp\t1\t0\nact\t0\tin\nrow\t0\t-\t0\t-\t0\ncomp\t1\t0\nact\t1\tout\nact\t2\tout\nclk\t0\t1\nrow\t0\t0\t1\t0\t0\nrow\t0\t0\t2\t0\t0\n"

-- ---- the table
pub record Case : Type 0 where
  pub asked : Ask
  pub answer : Reply

abbrev pub P : Ask → Reply → Case
P a r = record { asked = a; answer = r }

-- P1 to P13, in this order; the set of clock 0 alone is the number 1
unfoldable pub cases : List Case
cases =
    P (settles M (0 ∷ 0 ∷ []) 100) (ends true 0 0 (0 ∷ 0 ∷ []))
    ∷ P (settles M (1 ∷ 0 ∷ []) 100) (ends true 2 1 (0 ∷ 2 ∷ []))
    ∷ P (lists M (1 ∷ 1 ∷ []) (1 ∷ 2 ∷ [])) (ends true 2 1 (0 ∷ 2 ∷ []))
    ∷ P (lists M (1 ∷ 1 ∷ []) (2 ∷ 1 ∷ [])) (ends true 2 1 (0 ∷ 2 ∷ []))
    ∷ P (settles M (1 ∷ 0 ∷ []) 1) (ends false 1 1 (0 ∷ 1 ∷ []))
    ∷ P (settles M (1 ∷ 0 ∷ []) 2) (ends true 2 1 (0 ∷ 2 ∷ []))
    ∷ P (settles M7 (1 ∷ 0 ∷ []) 100) (refuses-with 18 (1 ∷ 1 ∷ 1 ∷ 2 ∷ []))
    ∷ P (settles M8 (1 ∷ 0 ∷ []) 100) (refuses-with 12 (1 ∷ 2 ∷ 1 ∷ []))
    ∷ P (settles M9 (1 ∷ 0 ∷ []) 100) (refuses-with 14 (0 ∷ []))
    ∷ P (settles M10 (1 ∷ 0 ∷ []) 100) (refuses-with 14 (0 ∷ []))
    ∷ P (merges M 0) (text (bytes_of M11))
    ∷ P (times M (0 ∷ 0 ∷ []) (pos 5 ∷ []) 63) (fires 5 0 0 (1 ∷ 0 ∷ []) (replicate 64 (pos 0)))
    ∷ P (lists M (1 ∷ 0 ∷ []) (2 ∷ [])) (refuses-with 23 (0 ∷ []))
    ∷ []

-- the last bullets: the loop at 4,096 and 4,097, the empty text; "examples at 64 and 65 become 128 and 129" (request 12)
unfoldable pub further_cases : List Case
further_cases =
    P (settles loop (0 ∷ []) 4096) (ends false 4096 0 (0 ∷ []))
    ∷ P (settles loop (0 ∷ []) 4097) (refuses-with 22 (0 ∷ []))
    ∷ P (reads "") (refuses-with 8 (0 ∷ []))
    ∷ P (reads "comp\t128\t0\n") (text (bytes_of "comp\t128\t0\n"))
    ∷ P (reads "comp\t129\t0\n") (refuses-with 4 (1 ∷ 6 ∷ []))
    ∷ P (reads M) (text (bytes_of M))
    ∷ []

-- 02, 2/13: "for 2 the first byte that no well-shaped line could have there (a missing LF counts one past the end), for 4 and 5 the first byte of the first value at fault"
unfoldable pub column_cases : List Case
column_cases =
    P (reads "comp\t1\t0") (refuses-with 2 (1 ∷ 9 ∷ []))
    ∷ P (reads "com") (refuses-with 2 (1 ∷ 4 ∷ []))
    ∷ P (reads "\n") (refuses-with 2 (1 ∷ 1 ∷ []))
    ∷ P (reads "comp\t1\n") (refuses-with 2 (1 ∷ 7 ∷ []))
    ∷ P (reads "cx\t1\t0\n") (refuses-with 2 (1 ∷ 2 ∷ []))
    ∷ P (reads "comp\t007\t0\n") (refuses-with 2 (1 ∷ 7 ∷ []))
    ∷ P (reads "comp\t100000\t0\n") (refuses-with 2 (1 ∷ 11 ∷ []))
    ∷ P (reads "comp\t1\t0\nact\t0\tunn\n") (refuses-with 2 (2 ∷ 8 ∷ []))
    ∷ P (reads "comp\t1\t0\nact\t0\tui\n") (refuses-with 2 (2 ∷ 9 ∷ []))
    ∷ P (reads "comp\t1\t0\nrow\t0\t--\t0\t-\t0\n") (refuses-with 2 (2 ∷ 8 ∷ []))
    ∷ P (reads "comp\t1\t0\nrow\t0\t-\t0\t-,0\t0\n") (refuses-with 2 (2 ∷ 12 ∷ []))
    ∷ P (reads "comp\t1\t0\nrow\t0\t-\t0\t0,\t0\n") (refuses-with 2 (2 ∷ 13 ∷ []))
    ∷ P (reads "comp\t1\t0\nrow\t0\t-\t0\t0,,1\t0\n") (refuses-with 2 (2 ∷ 13 ∷ []))
    ∷ P (reads "comp\t0\t0\n") (refuses-with 4 (1 ∷ 6 ∷ []))
    ∷ P (reads "comp\t129\t130\n") (refuses-with 4 (1 ∷ 6 ∷ []))
    ∷ P (reads "comp\t3\t5\n") (refuses-with 4 (1 ∷ 8 ∷ []))
    ∷ P (reads "comp\t1\t0\nclk\t64\t9\n") (refuses-with 4 (2 ∷ 5 ∷ []))
    ∷ P (reads "comp\t1\t0\nclk\t63\t2\n") (refuses-with 4 (2 ∷ 8 ∷ []))
    ∷ P (reads "comp\t2\t0\nact\t0\tin\nclk\t0\t0\nrow\t2\t64\t64\t0,64,1\t9\n") (refuses-with 4 (4 ∷ 5 ∷ []))
    ∷ P (reads "comp\t2\t0\nact\t0\tin\nclk\t0\t0\nrow\t0\t64\t64\t0,64,1\t9\n") (refuses-with 4 (4 ∷ 7 ∷ []))
    ∷ P (reads "comp\t2\t0\nact\t0\tin\nclk\t0\t0\nrow\t0\t0\t64\t0,64,1\t9\n") (refuses-with 4 (4 ∷ 9 ∷ []))
    ∷ P (reads "comp\t2\t0\nact\t0\tin\nclk\t0\t0\nrow\t0\t0\t0\t0,64,99\t9\n") (refuses-with 4 (4 ∷ 13 ∷ []))
    ∷ P (reads "comp\t2\t0\nact\t0\tin\nclk\t0\t0\nrow\t0\t0\t0\t0\t9\n") (refuses-with 4 (4 ∷ 13 ∷ []))
    ∷ P (reads "comp\t2\t0\nact\t0\tin\nclk\t0\t0\nrow\t0\t1\t1\t2\t0\n") (refuses-with 5 (4 ∷ 7 ∷ []))
    ∷ P (reads "comp\t2\t0\nact\t0\tin\nclk\t0\t0\nrow\t0\t0\t1\t2\t0\n") (refuses-with 5 (4 ∷ 9 ∷ []))
    ∷ P (reads "comp\t2\t0\nact\t0\tin\nclk\t0\t0\nrow\t0\t-\t0\t0,5,3\t0\n") (refuses-with 5 (4 ∷ 13 ∷ []))
    ∷ P (reads "act\t0\tin\n") (refuses-with 3 (1 ∷ []))
    ∷ []

-- 02, 10/13: components 0, 1 and 2 by themselves, their compatibility, and both together, of M, of P8's model and of two that share an output;
-- then a row of component 1, which is told by its number in the system
unfoldable pub component_cases : List Case
component_cases =
    P (component M 0) fine
    ∷ P (component M 1) fine
    ∷ P (component M 2) (refuses-with 25 (0 ∷ []))
    ∷ P (compatible M) fine
    ∷ P (accepts M) fine
    ∷ P (component M8 0) fine
    ∷ P (component M8 1) (refuses-with 12 (1 ∷ 2 ∷ 1 ∷ []))
    ∷ P (component M8 2) (refuses-with 25 (0 ∷ []))
    ∷ P (compatible M8) fine
    ∷ P (accepts M8) (refuses-with 12 (1 ∷ 2 ∷ 1 ∷ []))
    ∷ P (component shared 0) (refuses-with 14 (0 ∷ []))
    ∷ P (component shared 1) fine
    ∷ P (component shared 2) (refuses-with 25 (0 ∷ []))
    ∷ P (compatible shared) (refuses-with 15 (3 ∷ 0 ∷ 1 ∷ []))
    ∷ P (accepts shared) (refuses-with 14 (0 ∷ []))
    ∷ P (component repeating 1) (refuses-with 11 (2 ∷ []))
    ∷ []

-- the program's example: "For the state 1,0, budget 100 and model M"
unfoldable pub program_cases : List Case
program_cases = P (prints "from\t1,0\t100\n" M) (text (bytes_of "step\t1\t1\t0\t0,1\nstep\t2\t2\t-\t0,2\nstable\t2\t0\t0,2\n")) ∷ []

-- every case asks and answers as it says
abbrev pub Hold : List Case → Type 0
Hold cs = map (λ c. reply c.asked) cs ≡ map (λ c. c.answer) cs
