-- A line behind the `name` lines, judged by what the code keeps, with the action that its name has, if any; and the column of its fault.
use Rattle.std.proofs.Math.Option.{Option, none, some}
use Rattle.std.specs.Prelude.{cond, List, ℕ, ◌+◌, ◌-◌, length, ltb, Result, Err}
use Rattle.laws.specs.Sets.{only}
use Rattle.model.specs.Text.{decimal}
use Rattle.fields.specs.declared.Guard.{Guard}
use Rattle.fields.specs.declared.Resets.{Resets}
use Rattle.fields.specs.declared.Kind.{Kind}
use Rattle.lines.specs.declared.Line.TheVariants as OfLine
use Rattle.columns.specs.declared.Allowed.{Allowed}
use Rattle.columns.specs.Columns.{wide_guard, value_column}
use Rattle.judge.specs.declared.Progress.{Progress}
use Rattle.judge.specs.Judged.{numbered, step_of}
use Rattle.named.specs.ReadNamed.{moved_by}
use Rattle.namefields.specs.NameFields.{name_from}
use Rattle.namelines.specs.declared.NamedLine.{NamedLine}
use Rattle.namelines.specs.declared.NamedLine.TheVariants.{Form, Name, Act, Row, Plain}

abbrev pub action_of : Option ℕ → ℕ
action_of none = 0
action_of (some a) = a

-- a row by a name that no `name` line gives is judged as of a component without actions
abbrev pub actless : Progress → Progress
actless p = record { components = p.components; rows = p.rows; states = p.states; acts = 0; clocks = p.clocks; last = p.last }

abbrev pub known_by : Progress → Option ℕ → Progress
known_by p none = actless p
known_by p (some a) = p

abbrev pub judged_by : Progress → NamedLine → Option ℕ → Progress
judged_by p Form o = p
judged_by p (Name n) o = p
judged_by p (Act k) o = p
judged_by p (Row s g r t) o = known_by p o
judged_by p (Plain l) o = p

-- an `act` line: out of turn, or 44
abbrev pub act_named : Progress → Kind → Option ℕ → Result Progress ℕ
act_named p k none = cond (ltb 1 p.last.turn) (Err 3) (Err 44)
act_named p k (some a) = numbered (step_of p (OfLine.Act a k))

-- a fault by its number, or the line taken in
abbrev pub step_named : Progress → NamedLine → Option ℕ → Result Progress ℕ
step_named p Form o = Err 3
step_named p (Name n) o = Err 3
step_named p (Act k) o = act_named p k o
step_named p (Row s g r t) o = numbered (step_of (known_by p o) (OfLine.Row s g (action_of o) r t))
step_named p (Plain l) o = numbered (step_of p l)

-- the action that a line declares, as a set
abbrev pub set_of : Option ℕ → ℕ
set_of none = 0
set_of (some a) = only a

abbrev pub declared_named : NamedLine → Option ℕ → ℕ
declared_named Form o = 0
declared_named (Name n) o = 0
declared_named (Act k) o = set_of o
declared_named (Row s g r t) o = 0
declared_named (Plain l) o = 0

-- ---- columns
abbrev pub before_row : ℕ → Guard → ℕ
before_row s g = 6 + length (decimal s) + wide_guard g

-- the old row would begin here, so that its resets stand where they do; x is the width of its action, w that of the name
abbrev pub old_start : ℕ → ℕ → ℕ → ℕ → ℕ
old_start at before w x = at + before + w - before - x

abbrev pub row_column_by : List ℕ → ℕ → Allowed → ℕ → Guard → ℕ → Resets → ℕ → ℕ
row_column_by t at a s g x r u =
    moved_by (before_row s g + 1) (length (name_from t (at + before_row s g))) (length (decimal x))
    (value_column t (old_start at (before_row s g) (length (name_from t (at + before_row s g))) (length (decimal x))) a (OfLine.Row s g x r u))

abbrev pub column_by : List ℕ → ℕ → Allowed → NamedLine → Option ℕ → ℕ
column_by t at a Form o = 0
column_by t at a (Name n) o = 0
column_by t at a (Act k) o = 0
column_by t at a (Row s g r u) o = row_column_by t at a s g (action_of o) r u
column_by t at a (Plain l) o = value_column t at a l
