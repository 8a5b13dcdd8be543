-- The examples of 02, 8/13: the model as its text, what the new test answers, what check 18 does;
-- where a path from the start leads, and settling after it.
use Rattle.std.specs.Prelude.{◌≡◌, Bool, true, List, [], ◌∷◌, ◌++◌, map, ℕ}
use Rattle.std.proofs.Math.Option.{Option, none, some}
use Prim.Native.String.{String}
use Rattle.laws.specs.Fold.{over}
use Rattle.answer.specs.Told.{Told, Answer, answered, refused}
use Rattle.model.specs.Model.{Model}
use Rattle.iosa.specs.Start.{start_all}
use Rattle.model.specs.Reading.{read_of}
use Rattle.iosa.specs.Checks.{confluent_of}
use Rattle.iosa.specs.Step.{urgent_step}
use Rattle.iosa.specs.Settle.{settle}
use Rattle.iosa.specs.Orders.{Settling}
use Rattle.answering.specs.Examples.{reply, bytes_of, M, M7}
use Rattle.triggering.specs.Test.{crossed, nothing, uouts_at, stirred, woken, triggers_in, sets_in, wakers_in, triggers_of, go_on, leads_of, starts_of, sets_of, wakers_of, own_of, sharing, elsewhere, together_of, spread_by, led_by, led_of, harmed, passes_of, inputs_of, outputs_of, open_fault, orderly_of, entry_of}
use Rattle.paths.specs.Path.{calm_step, path_step, walk}

-- ---- calls on a model's text, and what they answer
pub data Ask : Type 0 where
  -- the new test; what is checked before settling after a path; check 18
  orderly : String → Ask
  enters : String → Ask
  confluent : String → Ask
  -- a path from the start, two bytes for a step
  walks : String → List ℕ → Ask
  -- settling after a path, with a budget
  settles : String → List ℕ → ℕ → Ask

pub data Reply : Type 0 where
  fine : Reply
  ends : List ℕ → Reply
  -- stable?, steps, clocks reset, trace, state
  settled : Bool → ℕ → ℕ → List ℕ → List ℕ → Reply
  refuses-with : ℕ → List ℕ → Reply

abbrev pub refuses_told : Told → Reply
refuses_told t = refuses-with t.number t.place

-- the reply of a call on the model read, or why the text is refused
abbrev pub on_model : (Model → Reply) → Answer Model → Reply
on_model f (answered m) = f m
on_model f (refused t) = refuses_told t

abbrev pub reply_check : Option Told → Reply
reply_check none = fine
reply_check (some t) = refuses_told t

abbrev pub reply_settling : Settling (List ℕ) → Reply
reply_settling d = settled d.stable d.steps d.resets d.trace d.state

-- the reply of a call on the end of a path, or where it is not possible
abbrev pub reply_walk : (List ℕ → Reply) → Answer (List ℕ) → Reply
reply_walk f (answered s) = f s
reply_walk f (refused t) = refuses_told t

-- what antt opens to compute a reply stands on the line below
unfoldable pub says : Ask → Reply
unfolding reply over crossed nothing uouts_at stirred woken triggers_in sets_in wakers_in triggers_of go_on leads_of starts_of sets_of wakers_of own_of sharing elsewhere together_of spread_by led_by led_of harmed passes_of inputs_of outputs_of open_fault orderly_of entry_of start_all calm_step path_step walk
says (orderly s) = on_model (λ m. reply_check (orderly_of m)) (read_of (bytes_of s))
says (enters s) = on_model (λ m. reply_check (entry_of m)) (read_of (bytes_of s))
says (confluent s) = on_model (λ m. reply_check (confluent_of m)) (read_of (bytes_of s))
says (walks s p) = on_model (λ m. reply_walk ends (walk m 0 p (start_all m))) (read_of (bytes_of s))
says (settles s p n) = on_model (λ m. reply_walk (λ x. reply_settling (settle (urgent_step m) n x)) (walk m 0 p (start_all m))) (read_of (bytes_of s))

-- ---- the models
-- a source says 1 and 2 in turn, each woken by action 0; a listener remembers which it heard first
abbrev pub G : String
G = "comp\t4\t0\nact\t0\tout\nact\t1\tuout\nact\t2\tuout\nclk\t0\t1\nrow\t0\t0\t0\t-\t1\nrow\t1\t-\t1\t0\t2\nrow\t2\t0\t0\t-\t3\nrow\t3\t-\t2\t0\t0\ncomp\t3\t0\nact\t1\tuin\nact\t2\tuin\nrow\t0\t-\t1\t-\t1\nrow\t0\t-\t2\t-\t2\nrow\t1\t-\t1\t-\t1\nrow\t1\t-\t2\t-\t1\nrow\t2\t-\t1\t-\t2\nrow\t2\t-\t2\t-\t2\n"

-- G with an input 3 that nobody outputs
abbrev pub G6 : String
G6 = "comp\t4\t0\nact\t0\tout\nact\t1\tuout\nact\t2\tuout\nclk\t0\t1\nrow\t0\t0\t0\t-\t1\nrow\t1\t-\t1\t0\t2\nrow\t2\t0\t0\t-\t3\nrow\t3\t-\t2\t0\t0\ncomp\t3\t0\nact\t1\tuin\nact\t2\tuin\nact\t3\tin\nrow\t0\t-\t1\t-\t1\nrow\t0\t-\t2\t-\t2\nrow\t0\t-\t3\t-\t0\nrow\t1\t-\t1\t-\t1\nrow\t1\t-\t2\t-\t1\nrow\t1\t-\t3\t-\t1\nrow\t2\t-\t1\t-\t2\nrow\t2\t-\t2\t-\t2\nrow\t2\t-\t3\t-\t2\n"

-- G whose source may say 2 as well as 1
abbrev pub G7 : String
G7 = "comp\t4\t0\nact\t0\tout\nact\t1\tuout\nact\t2\tuout\nclk\t0\t1\nrow\t0\t0\t0\t-\t1\nrow\t1\t-\t1\t0\t2\nrow\t1\t-\t2\t0\t2\nrow\t2\t0\t0\t-\t3\nrow\t3\t-\t2\t0\t0\ncomp\t3\t0\nact\t1\tuin\nact\t2\tuin\nrow\t0\t-\t1\t-\t1\nrow\t0\t-\t2\t-\t2\nrow\t1\t-\t1\t-\t1\nrow\t1\t-\t2\t-\t1\nrow\t2\t-\t1\t-\t2\nrow\t2\t-\t2\t-\t2\n"

-- G with a third component that may say 4 or 5 at the start
abbrev pub G9 : String
G9 = "comp\t4\t0\nact\t0\tout\nact\t1\tuout\nact\t2\tuout\nclk\t0\t1\nrow\t0\t0\t0\t-\t1\nrow\t1\t-\t1\t0\t2\nrow\t2\t0\t0\t-\t3\nrow\t3\t-\t2\t0\t0\ncomp\t3\t0\nact\t1\tuin\nact\t2\tuin\nrow\t0\t-\t1\t-\t1\nrow\t0\t-\t2\t-\t2\nrow\t1\t-\t1\t-\t1\nrow\t1\t-\t2\t-\t1\nrow\t2\t-\t1\t-\t2\nrow\t2\t-\t2\t-\t2\ncomp\t2\t0\nact\t4\tuout\nact\t5\tuout\nrow\t0\t-\t4\t-\t1\nrow\t0\t-\t5\t-\t0\n"

-- M with an input 5 that nobody outputs
abbrev pub M5 : String
M5 = "comp\t2\t0\nact\t0\tout\nact\t1\tuout\nclk\t0\t1\nrow\t0\t0\t0\t-\t1\nrow\t1\t-\t1\t0\t0\ncomp\t3\t0\nact\t1\tuin\nact\t2\tuout\nact\t5\tin\nrow\t0\t-\t1\t-\t1\nrow\t0\t-\t5\t-\t0\nrow\t1\t-\t1\t-\t1\nrow\t1\t-\t2\t-\t2\nrow\t1\t-\t5\t-\t1\nrow\t2\t-\t1\t-\t2\nrow\t2\t-\t5\t-\t2\n"

-- two outputs of one component, both enabled at the start
abbrev pub W1 : String
W1 = "comp\t2\t0\nact\t0\tuout\nact\t1\tuout\nrow\t0\t-\t0\t-\t1\nrow\t0\t-\t1\t-\t0\n"

-- one output, enabled at the start, leads on to itself and to another
abbrev pub W2 : String
W2 = "comp\t3\t0\nact\t0\tuout\nact\t1\tuout\nrow\t0\t-\t1\t-\t2\nrow\t2\t-\t0\t-\t1\nrow\t2\t-\t1\t-\t2\n"

-- an output and an input of one component, both by outputs that are enabled at the start
abbrev pub W3 : String
W3 = "comp\t2\t0\nact\t1\tuout\nrow\t0\t-\t1\t-\t1\ncomp\t2\t0\nact\t0\tuout\nact\t1\tuin\nclk\t0\t1\nrow\t0\t-\t0\t-\t1\nrow\t0\t-\t1\t0\t0\nrow\t1\t-\t1\t-\t1\n"

-- an input enables two outputs
abbrev pub W4 : String
W4 = "comp\t1\t0\nact\t0\tout\nclk\t0\t1\nrow\t0\t0\t0\t0\t0\ncomp\t2\t0\nact\t0\tin\nact\t1\tuout\nact\t2\tuout\nrow\t0\t-\t0\t-\t1\nrow\t1\t-\t0\t-\t1\nrow\t1\t-\t1\t-\t1\nrow\t1\t-\t2\t-\t0\n"

-- an output enables two outputs
abbrev pub W5 : String
W5 = "comp\t2\t0\nact\t0\tout\nact\t1\tuout\nact\t2\tuout\nclk\t0\t1\nrow\t0\t0\t0\t-\t1\nrow\t1\t-\t1\t0\t0\nrow\t1\t-\t2\t-\t1\n"

-- 3 and 4 come after 2, and 2 after 1
abbrev pub W6 : String
W6 = "comp\t4\t0\nact\t0\tout\nact\t1\tuout\nact\t2\tuout\nact\t3\tuout\nact\t4\tuout\nclk\t0\t1\nrow\t0\t0\t0\t0\t1\nrow\t1\t-\t1\t-\t2\nrow\t2\t-\t2\t-\t3\nrow\t3\t-\t3\t-\t0\nrow\t3\t-\t4\t-\t2\n"

-- 4 comes after 2 in one component, and 2 after 1 in another
abbrev pub W7 : String
W7 = "comp\t2\t0\nact\t0\tout\nact\t1\tuout\nclk\t0\t1\nrow\t0\t0\t0\t-\t1\nrow\t1\t-\t1\t0\t0\ncomp\t3\t0\nact\t1\tuin\nact\t2\tuout\nrow\t0\t-\t1\t-\t1\nrow\t1\t-\t1\t-\t1\nrow\t1\t-\t2\t-\t2\nrow\t2\t-\t1\t-\t2\ncomp\t2\t0\nact\t2\tuin\nact\t3\tuout\nact\t4\tuout\nrow\t0\t-\t2\t-\t1\nrow\t1\t-\t2\t-\t1\nrow\t1\t-\t3\t-\t1\nrow\t1\t-\t4\t-\t0\n"

-- 2 comes after 1, which is an input there
abbrev pub W8 : String
W8 = "comp\t2\t0\nact\t0\tout\nact\t1\tuout\nact\t2\tuin\nclk\t0\t1\nrow\t0\t0\t0\t0\t1\nrow\t0\t-\t2\t-\t0\nrow\t1\t-\t1\t-\t1\nrow\t1\t-\t2\t-\t0\ncomp\t2\t0\nact\t1\tuin\nact\t2\tuout\nrow\t0\t-\t1\t-\t1\nrow\t1\t-\t1\t-\t1\nrow\t1\t-\t2\t-\t0\n"

-- a row of action 0 leaves a state where 2 is enabled
abbrev pub S1 : String
S1 = "comp\t2\t0\nact\t0\tout\nact\t1\tuout\nact\t2\tuin\nclk\t0\t1\nrow\t0\t0\t0\t0\t1\nrow\t0\t-\t2\t-\t0\nrow\t1\t-\t1\t-\t0\nrow\t1\t-\t2\t-\t0\ncomp\t1\t0\nact\t0\tin\nact\t2\tuout\nrow\t0\t-\t0\t-\t0\nrow\t0\t-\t2\t-\t0\n"

-- two sources, woken by two actions, and a listener that remembers which it heard last
abbrev pub S2 : String
S2 = "comp\t2\t0\nact\t0\tout\nact\t1\tuout\nclk\t0\t1\nrow\t0\t0\t0\t-\t1\nrow\t1\t-\t1\t-\t1\ncomp\t2\t0\nact\t2\tout\nact\t3\tuout\nclk\t1\t1\nrow\t0\t1\t2\t-\t1\nrow\t1\t-\t3\t-\t1\ncomp\t2\t0\nact\t1\tuin\nact\t3\tuin\nrow\t0\t-\t1\t-\t0\nrow\t0\t-\t3\t-\t1\nrow\t1\t-\t1\t-\t0\nrow\t1\t-\t3\t-\t1\n"

-- 1 leaves the listener where it was: what is enabled after it was enabled before
abbrev pub S3 : String
S3 = "comp\t2\t0\nact\t0\tout\nact\t1\tuout\nact\t2\tuout\nclk\t0\t1\nrow\t0\t0\t0\t-\t1\nrow\t1\t-\t1\t-\t1\ncomp\t3\t0\nact\t1\tuin\nact\t2\tuin\nact\t3\tuout\nrow\t0\t-\t1\t-\t0\nrow\t0\t-\t2\t-\t1\nrow\t1\t-\t1\t-\t1\nrow\t1\t-\t2\t-\t1\nrow\t1\t-\t3\t-\t2\nrow\t2\t-\t1\t-\t0\nrow\t2\t-\t2\t-\t2\n"

-- a state of reached parts that is not reached
abbrev pub N1 : String
N1 = "comp\t1\t0\nact\t5\tuout\ncomp\t2\t0\nact\t0\tuout\nact\t3\tuout\nact\t5\tuin\nrow\t0\t-\t5\t-\t1\nrow\t1\t-\t0\t-\t0\nrow\t1\t-\t3\t-\t0\nrow\t1\t-\t5\t-\t1\n"

-- a state that only a non-urgent step from an unstable state would reach
abbrev pub N2 : String
N2 = "comp\t2\t0\nact\t0\tuin\nact\t4\tuout\nrow\t0\t-\t0\t-\t1\nrow\t0\t-\t4\t-\t0\nrow\t1\t-\t0\t-\t1\ncomp\t2\t0\nact\t0\tuout\nact\t3\tout\nclk\t0\t1\nrow\t0\t0\t3\t-\t1\nrow\t1\t-\t0\t0\t0\n"

-- ---- the tables
pub record Case : Type 0 where
  pub asked : Ask
  pub answer : Reply

abbrev pub Q : Ask → Reply → Case
Q a r = record { asked = a; answer = r }

-- Q8: where check 18 passes, the new test passes, or finds the system open; then settling after a path goes on, open or not
unfoldable pub confluent_systems : List Case
confluent_systems =
    Q (orderly M) fine
    ∷ Q (enters M) fine
    ∷ Q (confluent M) fine
    ∷ Q (orderly M5) (refuses-with 45 (5 ∷ []))
    ∷ Q (enters M5) fine
    ∷ Q (confluent M5) fine
    ∷ []

-- Q1 and S1: let through by the new test alone
unfoldable pub let_through : List Case
let_through =
    Q (orderly G) fine
    ∷ Q (enters G) fine
    ∷ Q (confluent G) (refuses-with 18 (1 ∷ 0 ∷ 1 ∷ 2 ∷ []))
    ∷ Q (orderly S1) fine
    ∷ Q (confluent S1) (refuses-with 18 (0 ∷ 1 ∷ 1 ∷ 2 ∷ []))
    ∷ []

-- S2 and S3 likewise, and N1 and N2, where the theorem stops
unfoldable pub let_through_too : List Case
let_through_too =
    Q (orderly S2) fine
    ∷ Q (confluent S2) (refuses-with 18 (2 ∷ 0 ∷ 1 ∷ 3 ∷ []))
    ∷ Q (orderly S3) fine
    ∷ Q (confluent S3) (refuses-with 18 (1 ∷ 1 ∷ 1 ∷ 3 ∷ []))
    ∷ Q (orderly N1) fine
    ∷ Q (confluent N1) (refuses-with 18 (1 ∷ 1 ∷ 0 ∷ 3 ∷ []))
    ∷ Q (orderly N2) fine
    ∷ Q (confluent N2) (refuses-with 18 (0 ∷ 0 ∷ 0 ∷ 4 ∷ []))
    ∷ []

-- Q6, Q7, P7 of paper 01 and Q9, whose place is the first clash, though another pair is led to
unfoldable pub refused_by_both : List Case
refused_by_both =
    Q (orderly G6) (refuses-with 45 (3 ∷ []))
    ∷ Q (enters G6) (refuses-with 45 (3 ∷ []))
    ∷ Q (confluent G6) (refuses-with 18 (1 ∷ 0 ∷ 1 ∷ 2 ∷ []))
    ∷ Q (orderly G7) (refuses-with 18 (0 ∷ 1 ∷ 1 ∷ 2 ∷ []))
    ∷ Q (confluent G7) (refuses-with 18 (0 ∷ 1 ∷ 1 ∷ 2 ∷ []))
    ∷ Q (orderly M7) (refuses-with 18 (1 ∷ 1 ∷ 1 ∷ 2 ∷ []))
    ∷ Q (confluent M7) (refuses-with 18 (1 ∷ 1 ∷ 1 ∷ 2 ∷ []))
    ∷ Q (orderly G9) (refuses-with 18 (1 ∷ 0 ∷ 1 ∷ 2 ∷ []))
    ∷ Q (confluent G9) (refuses-with 18 (1 ∷ 0 ∷ 1 ∷ 2 ∷ []))
    ∷ []

-- W1 to W4: in each demand 3 fails
unfoldable pub must_be_refused : List Case
must_be_refused =
    Q (orderly W1) (refuses-with 18 (0 ∷ 0 ∷ 0 ∷ 1 ∷ []))
    ∷ Q (confluent W1) (refuses-with 18 (0 ∷ 0 ∷ 0 ∷ 1 ∷ []))
    ∷ Q (orderly W2) (refuses-with 18 (0 ∷ 2 ∷ 0 ∷ 1 ∷ []))
    ∷ Q (confluent W2) (refuses-with 18 (0 ∷ 2 ∷ 0 ∷ 1 ∷ []))
    ∷ Q (orderly W3) (refuses-with 18 (1 ∷ 0 ∷ 0 ∷ 1 ∷ []))
    ∷ Q (confluent W3) (refuses-with 18 (1 ∷ 0 ∷ 0 ∷ 1 ∷ []))
    ∷ Q (orderly W4) (refuses-with 18 (1 ∷ 1 ∷ 1 ∷ 2 ∷ []))
    ∷ Q (confluent W4) (refuses-with 18 (1 ∷ 1 ∷ 1 ∷ 2 ∷ []))
    ∷ []

-- W5 to W8 likewise
unfoldable pub must_be_refused_too : List Case
must_be_refused_too =
    Q (orderly W5) (refuses-with 18 (0 ∷ 1 ∷ 1 ∷ 2 ∷ []))
    ∷ Q (confluent W5) (refuses-with 18 (0 ∷ 1 ∷ 1 ∷ 2 ∷ []))
    ∷ Q (orderly W6) (refuses-with 18 (0 ∷ 3 ∷ 3 ∷ 4 ∷ []))
    ∷ Q (confluent W6) (refuses-with 18 (0 ∷ 3 ∷ 3 ∷ 4 ∷ []))
    ∷ Q (orderly W7) (refuses-with 18 (2 ∷ 1 ∷ 2 ∷ 4 ∷ []))
    ∷ Q (confluent W7) (refuses-with 18 (2 ∷ 1 ∷ 2 ∷ 4 ∷ []))
    ∷ Q (orderly W8) (refuses-with 18 (0 ∷ 1 ∷ 1 ∷ 2 ∷ []))
    ∷ Q (confluent W8) (refuses-with 18 (0 ∷ 1 ∷ 1 ∷ 2 ∷ []))
    ∷ []

-- Q2 to Q5, Q8 and N2, a step as two bytes: the end of the path, or 46 at its first step that is not possible; then a last byte alone
unfoldable pub walked : List Case
walked =
    Q (walks G []) (ends (0 ∷ 0 ∷ []))
    ∷ Q (walks G (0 ∷ 1 ∷ [])) (ends (1 ∷ 0 ∷ []))
    ∷ Q (walks G (0 ∷ 1 ∷ 1 ∷ 0 ∷ 0 ∷ 1 ∷ [])) (ends (3 ∷ 1 ∷ []))
    ∷ Q (walks G (0 ∷ 1 ∷ 0 ∷ 1 ∷ [])) (refuses-with 46 (1 ∷ []))
    ∷ Q (walks G (1 ∷ 0 ∷ [])) (refuses-with 46 (0 ∷ []))
    ∷ Q (walks G (0 ∷ 0 ∷ [])) (refuses-with 46 (0 ∷ []))
    ∷ Q (walks G (0 ∷ 2 ∷ [])) (refuses-with 46 (0 ∷ []))
    ∷ Q (walks G (0 ∷ 1 ∷ 1 ∷ 1 ∷ [])) (refuses-with 46 (1 ∷ []))
    ∷ Q (walks G (0 ∷ 1 ∷ 2 ∷ 0 ∷ [])) (refuses-with 46 (1 ∷ []))
    ∷ Q (walks M5 (0 ∷ 1 ∷ [])) (ends (1 ∷ 0 ∷ []))
    ∷ Q (walks M5 (5 ∷ 0 ∷ [])) (refuses-with 46 (0 ∷ []))
    ∷ Q (walks N2 (3 ∷ 1 ∷ [])) (refuses-with 46 (0 ∷ []))
    ∷ Q (walks G (0 ∷ 1 ∷ 1 ∷ [])) (refuses-with 46 (1 ∷ []))
    ∷ []

-- Q2 to Q4 and Q8: settled after the path; the set of clock 0 alone is the number 1
unfoldable pub settled_after : List Case
settled_after =
    Q (settles G [] 100) (settled true 0 0 [] (0 ∷ 0 ∷ []))
    ∷ Q (settles G (0 ∷ 1 ∷ []) 100) (settled true 1 1 (1 ∷ []) (2 ∷ 1 ∷ []))
    ∷ Q (settles G (0 ∷ 1 ∷ 1 ∷ 0 ∷ 0 ∷ 1 ∷ []) 100) (settled true 1 1 (2 ∷ []) (0 ∷ 1 ∷ []))
    ∷ Q (settles M5 (0 ∷ 1 ∷ []) 100) (settled true 2 1 (1 ∷ 2 ∷ []) (0 ∷ 2 ∷ []))
    ∷ []

-- all of them, as one table
abbrev pub examples : List Case
examples = confluent_systems ++ let_through ++ let_through_too ++ refused_by_both ++ must_be_refused ++ must_be_refused_too ++ walked ++ settled_after

-- every case asks and answers as it says
abbrev pub Hold : List Case → Type 0
Hold cs = map (λ c. says c.asked) cs ≡ map (λ c. c.answer) cs
