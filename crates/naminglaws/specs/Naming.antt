-- Old to new (02, 7/13): "Old to new names each action `a` and its number". A line by default names is the line itself with `a` put in before its action.
use Rattle.std.specs.Prelude.{◌≡◌, List, [], ◌∷◌, ◌++◌, ℕ, zero, suc, ◌+◌, ◌*◌, ◌≤◌, length, drop, ltb, cond}
use Rattle.std.proofs.Math.Seq.{slice}
use Rattle.laws.specs.Sets.{has, ◌∪◌, only}
use Rattle.answer.specs.Limits.{max_actions}
use Rattle.lines.specs.Lines.{line_of as code_of}
use Rattle.model.specs.Text.{act_word, row_word, kind_word, decimal, guard_field, fields_after}
use Rattle.model.specs.Reading.{is, stops, got, guard_of, Entry, comp-entry, act-entry, clk-entry, row-entry, entry}
use Rattle.model.specs.Line.{list_field, line_of}
use Rattle.lines.specs.declared.Line.{Line}
use Rattle.lines.specs.declared.Line.TheVariants.{Comp, Act, Clk, Row}
use Rattle.columns.specs.Columns.{wide_guard}
use Rattle.named.specs.NamedText.{form_line, name_line, sheet_text, default_name, defaults}

-- the lines of bytes, of which there are no more than k
unfoldable pub entries_in : ℕ → List ℕ → List Entry
entries_in zero bs = []
entries_in (suc k) bs = elim (entry bs) [ stops cs ↦ [] | is g ↦ g.value ∷ entries_in k g.rest ]

abbrev pub entries_at : List ℕ → ℕ → List Entry
entries_at t at = entries_in (length (drop at t)) (drop at t)

-- how many bytes of a line stand before its action; 0 where it has none
abbrev pub place_in : Line → ℕ
place_in (Comp n s) = 0
place_in (Act a k) = 4
place_in (Clk x b) = 0
place_in (Row s g a r u) = 6 + length (decimal s) + wide_guard g

unfoldable pub default_line : Entry → List ℕ
default_line (comp-entry n s) = line_of (comp-entry n s)
default_line (act-entry a k) = act_word ++ fields_after (default_name a ∷ kind_word k ∷ [])
default_line (clk-entry x b) = line_of (clk-entry x b)
default_line (row-entry s g a r t) = row_word ++ fields_after (decimal s ∷ guard_field (guard_of g) ∷ default_name a ∷ list_field r ∷ decimal t ∷ [])

unfoldable pub default_lines : List Entry → List ℕ
default_lines [] = []
default_lines (e ∷ es) = default_line e ++ default_lines es

-- `a`, where there is a place for it
abbrev pub letter_part : ℕ → List ℕ
letter_part zero = []
letter_part (suc k) = 97 ∷ []

abbrev pub line_bytes : List ℕ → ℕ → ℕ → ℕ → List ℕ
line_bytes t at place next = slice at (at + place) t ++ letter_part place ++ slice (at + place) next t

-- the action that a line declares, as a set, as the code gathers it
abbrev pub line_set : Line → ℕ
line_set (Comp n s) = 0
line_set (Act a k) = cond (ltb a max_actions) (only a) 0
line_set (Clk x b) = 0
line_set (Row s g a r u) = 0

unfoldable pub set_in : List Entry → ℕ
set_in [] = 0
set_in (e ∷ es) = line_set (code_of e) ∪ set_in es

-- the `name` line of an action, if it is in the set
abbrev pub name_part : ℕ → ℕ → List ℕ
name_part d a = cond (has d a) (name_line (record { number = a; name = default_name a })) []

-- the whole new text: `form`, a `name` line for each declared action, and the lines
abbrev pub set_of : List ℕ → ℕ
set_of t = set_in (entries_at t 0)

abbrev pub sheet_part : ℕ → List ℕ
sheet_part d = sheet_text (defaults d max_actions)

unfoldable pub new_text : List ℕ → List ℕ
new_text t = form_line ++ sheet_part (set_of t) ++ default_lines (entries_at t 0)

-- the line at a place: how many of its bytes stand before its action, what it declares, and where the next one begins
pub record PartIs (t : List ℕ) (at place declares next : ℕ) : Type 0 where
  pub line : Entry
  pub read : entry (drop at t) ≡ got line (drop next t)
  pub place_is : place ≡ place_in (code_of line)
  pub set_is : declares ≡ line_set (code_of line)
  pub start : at ≤ length t
  pub inside : next ≤ length t

-- what a pass over all lines adds up to
pub record Sums (t : List ℕ) (declared sum : ℕ) : Type 0 where
  pub set : declared ≡ set_of t
  pub long : sum ≡ length (default_lines (entries_at t 0))
  pub most : sum ≤ 2 * length t
