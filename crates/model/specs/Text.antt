-- The text of a model (01, "The model text"): bytes, as numbers.
use Rattle.std.specs.Prelude.{List, [], ◌∷◌, ◌++◌, Bool, true, false, cond, ℕ, zero, suc, ◌+◌, ◌*◌, ◌-◌, ◌/◌, ◌%◌, ◌^◌, length, ltb}
use Rattle.laws.specs.Sets.{has}
use Rattle.laws.specs.Fold.{spread}
use Rattle.answer.specs.Limits.{max_actions, max_clocks, max_digits}
use Rattle.model.specs.Model.{Row, Comp, Model, acts}

-- ---- bytes
abbrev pub tab : ℕ
tab = 9

abbrev pub lf : ℕ
lf = 10

abbrev pub comma : ℕ
comma = 44

abbrev pub dash : ℕ
dash = 45

-- the byte of a digit is zero's byte and the digit
abbrev pub byte0 : ℕ
byte0 = 48

-- ---- words
-- `comp`, `act`, `clk`, `row`
abbrev pub comp_word : List ℕ
comp_word = 99 ∷ 111 ∷ 109 ∷ 112 ∷ []

abbrev pub act_word : List ℕ
act_word = 97 ∷ 99 ∷ 116 ∷ []

abbrev pub clk_word : List ℕ
clk_word = 99 ∷ 108 ∷ 107 ∷ []

abbrev pub row_word : List ℕ
row_word = 114 ∷ 111 ∷ 119 ∷ []

-- `in`, `out`, `uin`, `uout`
pub data Kind : Type 0 where
  in-kind out-kind uin-kind uout-kind : Kind

abbrev pub kind_word : Kind → List ℕ
kind_word in-kind = 105 ∷ 110 ∷ []
kind_word out-kind = 111 ∷ 117 ∷ 116 ∷ []
kind_word uin-kind = 117 ∷ 105 ∷ 110 ∷ []
kind_word uout-kind = 117 ∷ 111 ∷ 117 ∷ 116 ∷ []

-- ---- fields
-- "Numbers are decimal, 1 to 5 digits, with no needless zero in front": at most k digits
unfoldable pub digits_of : ℕ → ℕ → List ℕ
digits_of zero n = []
digits_of (suc k) n = elim (ltb n 10) [ true ↦ (byte0 + n) ∷ [] | false ↦ digits_of k (n / 10) ++ (byte0 + n % 10) ∷ [] ]

unfoldable pub decimal : ℕ → List ℕ
decimal n = digits_of max_digits n

-- numbers joined by commas, each after the first behind one
unfoldable pub joined : List ℕ → List ℕ
joined [] = []
joined (n ∷ ns) = decimal n ++ behind ns
  where
    behind : List ℕ → List ℕ
    behind [] = []
    behind (n ∷ ns) = comma ∷ decimal n ++ behind ns

-- the members of a set below n, from k on, ascending
unfoldable pub members : ℕ → ℕ → ℕ → List ℕ
members s zero k = []
members s (suc n) k = cond (has s k) (k ∷ members s n (suc k)) (members s n (suc k))

-- the clocks of a set, as a list
abbrev pub clocks_of : ℕ → List ℕ
clocks_of s = members s max_clocks 0

-- "guard (a clock or `-`)"
unfoldable pub guard_field : ℕ → List ℕ
guard_field zero = dash ∷ []
guard_field (suc x) = decimal x

-- "resets (`-`, or clocks strictly ascending, joined by commas)"; sets look so wherever they are printed
unfoldable pub set_field : ℕ → List ℕ
set_field zero = dash ∷ []
set_field (suc s) = joined (members (suc s) max_clocks 0)

-- ---- lines
-- "fields are parted by one tab", "each line ends in LF": the fields behind the first
unfoldable pub fields_after : List (List ℕ) → List ℕ
fields_after [] = lf ∷ []
fields_after (f ∷ fs) = tab ∷ f ++ fields_after fs

unfoldable pub comp_line : Comp → List ℕ
comp_line c = comp_word ++ fields_after (decimal c.states ∷ decimal c.start ∷ [])

unfoldable pub act_line : ℕ → Kind → List ℕ
act_line a k = act_word ++ fields_after (decimal a ∷ kind_word k ∷ [])

unfoldable pub clk_line : ℕ → Bool → List ℕ
clk_line x set = clk_word ++ fields_after (decimal x ∷ decimal (cond set 1 0) ∷ [])

unfoldable pub row_line : Row → List ℕ
row_line r = row_word ++ fields_after (decimal r.from ∷ guard_field r.guard ∷ decimal r.action ∷ set_field r.resets ∷ decimal r.target ∷ [])

-- the kind of an action of c
unfoldable pub kind_of : Comp → ℕ → Kind
kind_of c a = cond (has c.ins a) in-kind (cond (has c.outs a) out-kind (cond (has c.uins a) uin-kind uout-kind))

-- the lines of one action, of one clock, and of the rows
unfoldable pub act_part : Comp → ℕ → List ℕ
act_part c a = cond (has (acts c) a) (act_line a (kind_of c a)) []

unfoldable pub clk_part : Comp → ℕ → List ℕ
clk_part c x = cond (has c.clocks x) (clk_line x (has c.started x)) []

unfoldable pub row_lines : List Row → List ℕ
row_lines [] = []
row_lines (r ∷ rs) = row_line r ++ row_lines rs

-- "Lines belong to the last `comp`: first its `act` lines, then `clk`, then `row`"
unfoldable pub comp_text : Comp → List ℕ
comp_text c = comp_line c ++ spread (act_part c) 0 max_actions ++ spread (clk_part c) 0 max_clocks ++ row_lines c.rows

unfoldable pub text_of : Model → List ℕ
text_of [] = []
text_of (c ∷ cs) = comp_text c ++ text_of cs
