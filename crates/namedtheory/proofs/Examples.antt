-- The answers that are stated for texts of the second form, computed.
use mathlib.Core.Path.{◌≡◌, refl}
use mathlib.Core.List.{[], ◌∷◌}
use Prim.Native.Nat.{ℕ}
use Rattle.laws.specs.Search.{seek, first_from}
use Rattle.answer.specs.Told.{tell, answered, refused}
use Rattle.model.specs.Model.{row_count}
use Rattle.model.specs.Text.{guard_field, decimal, digits_of, joined, fields_after, members, set_field, kind_of}
use Rattle.model.specs.WellFormed.{before, lower}
use Rattle.model.specs.Line.{line_of, list_field}
use Rattle.model.specs.Reading.{exactly, number, more_digits, more_numbers, numbers, guard_or_dash, numbers_or_dash, kind, shorter}
use Rattle.model.specs.Reading.{entry, comp_entry, clk_entry, act_entry, row_entry, fault_of, out_of_turn, out_of_range, out_of_order, too_many}
use Rattle.model.specs.Reading.{lacks, all_in, all_below, ascending, follows, column_of, first_bad, reset_values, take_in, set_of, lines_from, read_of}
use Rattle.named.specs.NamedText.{line, form_end, name_end, act_end, row_end, name_at, number_of, name_of, good_name, letters_or_digits, same_name}
use Rattle.named.specs.NamedText.{lines_text, lines_named, line_named, name_line, sheet_text, text_named, entries_of, comp_entries, row_entries}
use Rattle.named.specs.NamedText.{defaults, declared_in}
use Rattle.named.specs.ReadNamed.{read_named, first_line, lines_from₂, fault_named, behind_line, taken, unused}
use Rattle.named.specs.Converted.{to_names, to_numbers}
use Rattle.namedtheory.specs.Stated.{bytes, lamp_named, lamp_numbered, lamp_by_default}

-- What is computed, in groups: to unfold one of these is to unfold what its line names.
fields : ℕ
unfolding exactly number more_digits more_numbers numbers guard_or_dash numbers_or_dash kind shorter guard_field decimal digits_of
fields = 0

entries : ℕ
unfolding entry comp_entry clk_entry act_entry row_entry column_of first_bad reset_values take_in set_of row_count
entries = 0

faults : ℕ
unfolding fault_of out_of_turn out_of_range lacks all_in all_below ascending follows out_of_order too_many before lower
faults = 0

lines_read : ℕ
unfolding read_named first_line lines_from₂ line form_end name_end act_end row_end fault_named behind_line taken unused
lines_read = 0

names_read : ℕ
unfolding name_at number_of name_of good_name letters_or_digits same_name seek first_from
names_read = 0

read : ℕ
unfolding fields entries faults lines_read names_read
read = 0

printed : ℕ
unfolding line_of list_field joined fields_after members set_field kind_of
printed = 0

to_old : ℕ
unfolding read printed to_numbers lines_text
to_old = 0

names_printed : ℕ
unfolding text_named lines_named line_named name_line sheet_text entries_of comp_entries row_entries name_of defaults declared_in
names_printed = 0

to_new : ℕ
unfolding fields entries faults printed names_printed to_names read_of lines_from
to_new = 0

-- the empty text: 8
pub empty-text : read_named (bytes "") ≡ refused (tell 8 (0 ∷ []))
unfolding read
empty-text = refl

-- `form 2` alone: 8
pub form-alone : read_named (bytes "form\t2\n") ≡ refused (tell 8 (0 ∷ []))
unfolding read
form-alone = refl

-- `form 2` without LF: 2 at 1, 7
pub form-no-end : read_named (bytes "form\t2") ≡ refused (tell 2 (1 ∷ 7 ∷ []))
unfolding read
form-no-end = refl

-- `comp 1 0` first: 2 at 1, 1
pub comp-first : read_named (bytes "comp\t1\t0\n") ≡ refused (tell 2 (1 ∷ 1 ∷ []))
unfolding read
comp-first = refl

-- `form 1`: 2 at 1, 6
pub form-one : read_named (bytes "form\t1\n") ≡ refused (tell 2 (1 ∷ 6 ∷ []))
unfolding read
form-one = refl

-- a name and no component: 8
pub name-alone : read_named (bytes "form\t2\nname\t0\tx\n") ≡ refused (tell 8 (0 ∷ []))
unfolding read
name-alone = refl

-- a name that no `act` line declares: 44 at 2
pub name-unused : read_named (bytes "form\t2\nname\t0\tx\ncomp\t1\t0\n") ≡ refused (tell 44 (2 ∷ []))
unfolding read
name-unused = refl

-- a second `form` line: 3 at 3
pub form-again : read_named (bytes "form\t2\nname\t0\tx\nform\t2\n") ≡ refused (tell 3 (3 ∷ []))
unfolding read
form-again = refl

-- a `name` line behind a `comp` line: 3 at 3
pub name-late : read_named (bytes "form\t2\ncomp\t1\t0\nname\t0\tx\n") ≡ refused (tell 3 (3 ∷ []))
unfolding read
name-late = refl

-- an `act` line before any `comp`: 3 at 2
pub act-early : read_named (bytes "form\t2\nact\tx\tin\n") ≡ refused (tell 3 (2 ∷ []))
unfolding read
act-early = refl

-- number 64: 4 at 2, 6
pub number-high : read_named (bytes "form\t2\nname\t64\tx\n") ≡ refused (tell 4 (2 ∷ 6 ∷ []))
unfolding read
number-high = refl

-- a number twice: 6 at 3
pub number-twice : read_named (bytes "form\t2\nname\t1\tx\nname\t1\tx\n") ≡ refused (tell 6 (3 ∷ []))
unfolding read
number-twice = refl

-- a name twice: 43 at 3
pub name-twice : read_named (bytes "form\t2\nname\t1\tx\nname\t2\tx\n") ≡ refused (tell 43 (3 ∷ []))
unfolding read
name-twice = refl

-- an empty name: 43 at 2
pub name-none : read_named (bytes "form\t2\nname\t1\t\n") ≡ refused (tell 43 (2 ∷ []))
unfolding read
name-none = refl

-- 17 letters: 43 at 2
pub name-long : read_named (bytes "form\t2\nname\t1\taaaaaaaaaaaaaaaaa\n") ≡ refused (tell 43 (2 ∷ []))
unfolding read
name-long = refl

-- a CR behind the name: 43 at 2
pub name-cr : read_named (bytes "form\t2\nname\t1\tx\r\n") ≡ refused (tell 43 (2 ∷ []))
unfolding read
name-cr = refl

-- an `act` name that no `name` line gives: 44 at 4
pub act-unknown : read_named (bytes "form\t2\nname\t1\tx\ncomp\t1\t0\nact\ty\tin\n") ≡ refused (tell 44 (4 ∷ []))
unfolding read
act-unknown = refl

-- the same behind a `clk` line: 3 at 5
pub act-late : read_named (bytes "form\t2\nname\t1\tx\ncomp\t1\t0\nclk\t0\t0\nact\ty\tin\n") ≡ refused (tell 3 (5 ∷ []))
unfolding read
act-late = refl

-- a row's unknown name: 5 at 5, 9
pub row-unknown : read_named (bytes "form\t2\nname\t1\tx\ncomp\t1\t0\nact\tx\tin\nrow\t0\t-\ty\t-\t0\n") ≡ refused (tell 5 (5 ∷ 9 ∷ []))
unfolding read
row-unknown = refl

-- a guard that its component lacks, before the name: 5 at 5, 7
pub row-guard : read_named (bytes "form\t2\nname\t1\tx\ncomp\t1\t0\nact\tx\tin\nrow\t0\t3\ty\t-\t0\n") ≡ refused (tell 5 (5 ∷ 7 ∷ []))
unfolding read
row-guard = refl

-- a target out of range comes first: 4 at 5, 13
pub row_target : read_named (bytes "form\t2\nname\t1\tx\ncomp\t1\t0\nact\tx\tin\nrow\t0\t-\ty\t-\t1\n") ≡ refused (tell 4 (5 ∷ 13 ∷ []))
unfolding read
row_target = refl

-- a name that another component may declare: 5 at 6, 9
pub row_other : read_named (bytes "form\t2\nname\t1\tx\nname\t2\tw\ncomp\t1\t0\nact\tx\tin\nrow\t0\t-\tw\t-\t0\n") ≡ refused (tell 5 (6 ∷ 9 ∷ []))
unfolding read
row_other = refl

-- `act` lines ascend by number, not by name: 6 at 6
pub acts-descend : read_named (bytes "form\t2\nname\t1\tx\nname\t2\tw\ncomp\t1\t0\nact\tw\tin\nact\tx\tin\n") ≡ refused (tell 6 (6 ∷ []))
unfolding read
acts-descend = refl

-- names are exchanged for numbers
pub numbers-for-names : to_numbers lamp_named ≡ answered lamp_numbered
unfolding to_old lamp_named lamp_numbered
numbers-for-names = refl

-- and numbers for the default names
pub names-for-numbers : to_names lamp_numbered ≡ answered lamp_by_default
unfolding to_new lamp_numbered lamp_by_default
names-for-numbers = refl
