-- What judging a line of good shape answers, by what stands before it: the lowest of the faults 3 to 7 (01, "Refusal numbers"), or the line taken in.
use Rattle.std.proofs.Math.Option.{Option, none, some}
use Rattle.std.specs.Prelude.{Bool, true, ◌&&◌, cond, ℕ, zero, suc, ◌+◌, length, eqb, ltb, leb, Result, Ok, Err}
use Rattle.laws.specs.Sets.{has, ◌∪◌, within, only}
use Rattle.answer.specs.Limits.{max_components, max_rows, max_states, max_actions, max_clocks}
use Rattle.model.specs.Model.{Row, acts, row_count}
use Rattle.model.specs.WellFormed.{before}
use Rattle.model.specs.Reading.{Entry, comp-entry, act-entry, clk-entry, row-entry, row_of, current}
use Rattle.model.specs.Reading as reading
use Rattle.fields.specs.declared.Guard.{Guard}
use Rattle.fields.specs.declared.Guard.TheVariants as OfGuard
use Rattle.lines.specs.declared.Line.{Line}
use Rattle.lines.specs.declared.Line.TheVariants as OfLine
use Rattle.judge.specs.declared.Key.{Key}
use Rattle.judge.specs.declared.Last.{Last}
use Rattle.judge.specs.declared.Progress.{Progress}
use Rattle.judge.specs.declared.Fault.{Fault}
use Rattle.judge.specs.declared.Fault.TheVariants as OfFault

-- ---- what the code keeps of what stands before a line
-- a row by its key
abbrev pub of_key : Key → Row
of_key k = record { from = k.from; guard = k.guard; action = k.action; resets = k.resets; target = k.target }

abbrev pub key_of : Row → Key
key_of r = record { from = r.from; action = r.action; guard = r.guard; resets = r.resets; target = r.target }

abbrev pub last_plain : ℕ → ℕ → Last
last_plain t n = record { turn = t; number = n; key = record { from = 0; action = 0; guard = 0; resets = 0; target = 0 } }

-- the last line; 4 is the turn before any line, so that only `comp` is in turn
abbrev pub last_of : Option Entry → Last
last_of none = last_plain 4 0
last_of (some (comp-entry n s)) = last_plain 0 0
last_of (some (act-entry a k)) = last_plain 1 a
last_of (some (clk-entry x b)) = last_plain 2 x
last_of (some (row-entry s g a r t)) = record { turn = 3; number = 0; key = key_of (row_of s g a r t) }

abbrev pub standing : reading.Progress → Progress
standing q = record {
  components = length q.comps;
  rows = row_count q.comps;
  states = (current q).states;
  acts = acts (current q);
  clocks = (current q).clocks;
  last = last_of q.last;
}

abbrev pub beginning : Progress
beginning = record { components = 0; rows = 0; states = 0; acts = 0; clocks = 0; last = last_plain 4 0 }

-- ---- one line
-- a fault by its number
abbrev pub number_of : Fault → ℕ
number_of OfFault.Turn = 3
number_of OfFault.Range = 4
number_of OfFault.Name = 5
number_of OfFault.Order = 6
number_of OfFault.Many = 7

abbrev pub numbered : Result Progress Fault → Result Progress ℕ
numbered (Ok p) = Ok p
numbered (Err f) = Err (number_of f)

abbrev pub guard_number : Guard → ℕ
guard_number OfGuard.Dash = 0
guard_number (OfGuard.Clock x) = cond (ltb x max_clocks) (x + 1) (max_clocks + 1)

unfoldable pub key_before : Key → Key → Bool
key_before a b = before (of_key a) (of_key b)

unfoldable pub comp_step : Progress → ℕ → ℕ → Result Progress Fault
comp_step p n s =
    cond (leb 1 n && (leb n max_states && ltb s n))
    (cond (leb max_components p.components) (Err OfFault.Many)
    (Ok (record { components = p.components + 1; rows = p.rows; states = n; acts = 0; clocks = 0; last = last_plain 0 0 })))
    (Err OfFault.Range)

-- a number comes after the last one of its kind
abbrev pub after : Last → ℕ → ℕ → Bool
after l t n = cond (eqb l.turn t) (ltb l.number n) true

unfoldable pub act_step : Progress → ℕ → Result Progress Fault
act_step p a =
    cond (ltb 1 p.last.turn) (Err OfFault.Turn)
    (cond (ltb a max_actions)
    (cond (after p.last 1 a)
    (Ok (record { components = p.components; rows = p.rows; states = p.states; acts = p.acts ∪ only a; clocks = p.clocks; last = last_plain 1 a }))
    (Err OfFault.Order))
    (Err OfFault.Range))

unfoldable pub clk_step : Progress → ℕ → ℕ → Result Progress Fault
clk_step p x b =
    cond (ltb 2 p.last.turn) (Err OfFault.Turn)
    (cond (ltb x max_clocks && leb b 1)
    (cond (after p.last 2 x)
    (Ok (record { components = p.components; rows = p.rows; states = p.states; acts = p.acts; clocks = p.clocks ∪ only x; last = last_plain 2 x }))
    (Err OfFault.Order))
    (Err OfFault.Range))

-- "from and target below states", action, guard and resets (0 to 63)
unfoldable pub in_range : ℕ → Key → Bool → Bool
in_range n k clocks = ltb k.from n && (leb k.guard max_clocks && (ltb k.action max_actions && (clocks && ltb k.target n)))

unfoldable pub guard_named : ℕ → ℕ → Bool
guard_named s zero = true
guard_named s (suc x) = has s x

unfoldable pub named : Progress → Key → Bool
named p k = guard_named p.clocks k.guard && (has p.acts k.action && within k.resets p.clocks)

unfoldable pub row_step : Progress → Key → Bool → Bool → Result Progress Fault
row_step p k clocks ascend =
    cond (ltb 3 p.last.turn) (Err OfFault.Turn)
    (cond (in_range p.states k clocks)
    (cond (named p k)
    (cond (cond (eqb p.last.turn 3) (key_before p.last.key k) true && ascend)
    (cond (leb max_rows p.rows) (Err OfFault.Many)
    (Ok (record {
      components = p.components;
      rows = p.rows + 1;
      states = p.states;
      acts = p.acts;
      clocks = p.clocks;
      last = record { turn = 3; number = 0; key = k };
    })))
    (Err OfFault.Order))
    (Err OfFault.Name))
    (Err OfFault.Range))

abbrev pub step_of : Progress → Line → Result Progress Fault
step_of p (OfLine.Comp n s) = comp_step p n s
step_of p (OfLine.Act a k) = act_step p a
step_of p (OfLine.Clk x b) = clk_step p x b
step_of p (OfLine.Row s g a r t) = row_step p (record { from = s; action = a; guard = guard_number g; resets = r.set; target = t }) r.clocks r.ascend
