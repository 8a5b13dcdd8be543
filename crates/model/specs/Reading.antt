-- Reading a text (01, "The model text" and "Refusal numbers", 1 to 8). A line's shape is one scan of its bytes from left to right;
-- only a line of good shape is judged, and only a faultless one is taken in.
use Rattle.std.specs.Prelude.{◌≡◌, List, [], ◌∷◌, ◌++◌, reverse, Bool, true, false, ◌&&◌, ◌||◌, not, cond, ℕ, zero, suc, ◌+◌, ◌*◌, ◌-◌, ◌^◌, length, eqb, ltb, leb}
use Rattle.std.proofs.Math.Option.{Option, none, some}
use Rattle.laws.specs.Sets.{has, ◌∪◌, within, only}
use Rattle.laws.specs.Search.{when, or_else}
use Rattle.answer.specs.Limits.{max_components, max_rows, max_states, max_actions, max_clocks, max_bytes, max_digits}
use Rattle.answer.specs.Told.{Told, tell, Answer, answered, refused}
use Rattle.model.specs.Model.{Row, Comp, Model, no_comp, acts, row_count, guard_set}
use Rattle.model.specs.Text.{tab, lf, comma, dash, byte0, comp_word, act_word, clk_word, row_word, Kind, in-kind, out-kind, uin-kind, uout-kind, kind_word, decimal}
use Rattle.model.specs.WellFormed.{before}

-- ---- a scan takes bytes off the front: a value and the bytes behind it, or it stops
pub record Got (A : Type 0) : Type 0 where
  pub value : A
  pub rest : List ℕ

-- "The reading of a number or field must answer the column at which it went wrong" (02, 2/13): the bytes from the first that could not stand there
pub data Scan (A : Type 0) : Type 0 where
  is : Got A → Scan A
  stops : List ℕ → Scan A

abbrev pub got : {A : Type 0} → A → List ℕ → Scan A
got x bs = is (record { value = x; rest = bs })

-- one scan, then another that may use its value
abbrev pub then : {A B : Type 0} → Scan A → (A → List ℕ → Scan B) → Scan B
then (stops cs) f = stops cs
then (is g) f = f g.value g.rest

-- of two places to stop in the same bytes, the one further on
unfoldable pub shorter : List ℕ → List ℕ → List ℕ
shorter cs ds = cond (ltb (length cs) (length ds)) cs ds

-- one of two scans of the same bytes: where both stop, the one that got further tells where
abbrev pub furthest : {A : Type 0} → Scan A → Scan A → Scan A
furthest (is g) s = is g
furthest (stops cs) (is g) = is g
furthest (stops cs) (stops ds) = stops (shorter cs ds)

-- these bytes
unfoldable pub exactly : List ℕ → List ℕ → Scan (Unit {0})
exactly [] bs = got tt bs
exactly (w ∷ ws) [] = stops []
exactly (w ∷ ws) (b ∷ bs) = elim (eqb w b) [ true ↦ exactly ws bs | false ↦ stops (b ∷ bs) ]

-- one byte
abbrev pub the_byte : ℕ → List ℕ → Scan (Unit {0})
the_byte b bs = exactly (b ∷ []) bs

abbrev pub is_digit : ℕ → Bool
is_digit b = leb byte0 b && ltb b (byte0 + 10)

-- at most k further digits of a number that is n so far
unfoldable pub more_digits : ℕ → ℕ → List ℕ → Got ℕ
more_digits zero n bs = record { value = n; rest = bs }
more_digits (suc k) n [] = record { value = n; rest = [] }
more_digits (suc k) n (b ∷ bs) = elim (is_digit b) [ true ↦ more_digits k (n * 10 + (b - byte0)) bs | false ↦ record { value = n; rest = b ∷ bs } ]

-- "Numbers are decimal, 1 to 5 digits, with no needless zero in front": behind a zero in front no digit is taken
unfoldable pub number : List ℕ → Scan ℕ
number [] = stops []
number (b ∷ bs) = elim (is_digit b) [
  | true ↦ elim (eqb b byte0) [ true ↦ got 0 bs | false ↦ is (more_digits (max_digits - 1) (b - byte0) bs) ]
  | false ↦ stops (b ∷ bs)
]

-- further numbers, each behind a comma; no more than k
unfoldable pub more_numbers : ℕ → List ℕ → Scan (List ℕ)
more_numbers zero bs = got [] bs
more_numbers (suc k) [] = got [] []
more_numbers (suc k) (b ∷ bs) = elim (eqb b comma) [
  | true ↦ then (number bs) (λ n cs. then (more_numbers k cs) (λ ns ds. got (n ∷ ns) ds))
  | false ↦ got [] (b ∷ bs)
]

-- numbers joined by single commas
unfoldable pub numbers : List ℕ → Scan (List ℕ)
numbers bs = then (number bs) (λ n cs. then (more_numbers (length cs) cs) (λ ns ds. got (n ∷ ns) ds))

-- "a clock or `-`"
unfoldable pub guard_or_dash : List ℕ → Scan (Option ℕ)
guard_or_dash bs = elim (the_byte dash bs) [ is g ↦ got none g.rest | stops cs ↦ then (number bs) (λ x cs. got (some x) cs) ]

-- "`-`, or clocks .. joined by commas"
unfoldable pub numbers_or_dash : List ℕ → Scan (List ℕ)
numbers_or_dash bs = elim (the_byte dash bs) [ is g ↦ got [] g.rest | stops cs ↦ numbers bs ]

-- "`in`, `out`, `uin` or `uout`"
unfoldable pub kind : List ℕ → Scan Kind
kind bs = furthest (word in-kind) (furthest (word out-kind) (furthest (word uin-kind) (word uout-kind)))
  where
    word : Kind → Scan Kind
    word k = then (exactly (kind_word k) bs) (λ _ cs. got k cs)

-- ---- a line
pub data Entry : Type 0 where
  comp-entry : (states start : ℕ) → Entry
  act-entry : (action : ℕ) (kind : Kind) → Entry
  clk-entry : (clock set : ℕ) → Entry
  row-entry : (from : ℕ) (guard : Option ℕ) (action : ℕ) (resets : List ℕ) (target : ℕ) → Entry

-- a field behind a tab
abbrev pub field : {A : Type 0} → (List ℕ → Scan A) → List ℕ → Scan A
field f bs = then (the_byte tab bs) (λ _ cs. f cs)

-- the line ends in LF
abbrev pub ended : Entry → List ℕ → Scan Entry
ended e bs = then (the_byte lf bs) (λ _ cs. got e cs)

unfoldable pub comp_entry : List ℕ → Scan Entry
comp_entry bs = then (field number bs) (λ n cs. then (field number cs) (λ s ds. ended (comp-entry n s) ds))

unfoldable pub act_entry : List ℕ → Scan Entry
act_entry bs = then (field number bs) (λ a cs. then (field kind cs) (λ k ds. ended (act-entry a k) ds))

unfoldable pub clk_entry : List ℕ → Scan Entry
clk_entry bs = then (field number bs) (λ x cs. then (field number cs) (λ b ds. ended (clk-entry x b) ds))

unfoldable pub row_entry : List ℕ → Scan Entry
row_entry bs =
    then (field number bs) (λ s cs.
    then (field guard_or_dash cs) (λ g ds.
    then (field number ds) (λ a es.
    then (field numbers_or_dash es) (λ r fs.
    then (field number fs) (λ t gs.
    ended (row-entry s g a r t) gs)))))

-- one line, with its LF: its first word tells what is behind it; where it has none, the word that got furthest tells where it stops
unfoldable pub entry : List ℕ → Scan Entry
entry bs = elim (exactly comp_word bs) [
  | is g ↦ comp_entry g.rest
  | stops c ↦ elim (exactly act_word bs) [
    | is g ↦ act_entry g.rest
    | stops a ↦ elim (exactly clk_word bs) [
      | is g ↦ clk_entry g.rest
      | stops k ↦ elim (exactly row_word bs) [ is g ↦ row_entry g.rest | stops r ↦ stops (shorter c (shorter a (shorter k r))) ]
    ]
  ]
]

-- ---- what stands before a line: the components so far, the last one first, and the last line
pub record Progress : Type 0 where
  pub comps : List Comp
  pub last : Option Entry

abbrev pub current : Progress → Comp
current p = elim p.comps as (λ _. Comp) [ [] ↦ no_comp | c ∷ cs ↦ c ]

-- ---- the faults of a line of good shape, 3 to 7
-- the turn of a kind of line: `comp`, then `act`, then `clk`, then `row`
abbrev pub turn : Entry → ℕ
turn (comp-entry n s) = 0
turn (act-entry a k) = 1
turn (clk-entry x b) = 2
turn (row-entry s g a r t) = 3

-- 3 "line before any `comp`, or kinds out of turn"
unfoldable pub out_of_turn : Option Entry → Entry → Bool
out_of_turn none e = not (eqb (turn e) 0)
out_of_turn (some d) e = not (eqb (turn e) 0) && ltb (turn e) (turn d)

-- every number of a list is below n
unfoldable pub all_below : ℕ → List ℕ → Bool
all_below n [] = true
all_below n (x ∷ xs) = ltb x n && all_below n xs

abbrev pub guard_below : Option ℕ → Bool
guard_below none = true
guard_below (some x) = ltb x max_clocks

-- 4 "number outside its range"; c is the component that the line belongs to
unfoldable pub out_of_range : Comp → Entry → Bool
out_of_range c (comp-entry n s) = not (leb 1 n && (leb n max_states && ltb s n))
out_of_range c (act-entry a k) = not (ltb a max_actions)
out_of_range c (clk-entry x b) = not (ltb x max_clocks && leb b 1)
out_of_range c (row-entry s g a r t) = not (ltb s c.states && (guard_below g && (ltb a max_actions && (all_below max_clocks r && ltb t c.states))))

-- every number of a list is in the set
unfoldable pub all_in : ℕ → List ℕ → Bool
all_in s [] = true
all_in s (x ∷ xs) = has s x && all_in s xs

abbrev pub guard_in : ℕ → Option ℕ → Bool
guard_in s none = true
guard_in s (some x) = has s x

-- 5 "row names an action or clock its component lacks"
unfoldable pub lacks : Comp → Entry → Bool
lacks c (comp-entry n s) = false
lacks c (act-entry a k) = false
lacks c (clk-entry x b) = false
lacks c (row-entry s g a r t) = not (guard_in c.clocks g && (has (acts c) a && all_in c.clocks r))

-- the list ascends strictly
unfoldable pub ascending : List ℕ → Bool
ascending [] = true
ascending (x ∷ []) = true
ascending (x ∷ y ∷ ys) = ltb x y && ascending (y ∷ ys)

-- the set of these numbers
unfoldable pub set_of : List ℕ → ℕ
set_of [] = 0
set_of (x ∷ xs) = only x ∪ set_of xs

abbrev pub guard_of : Option ℕ → ℕ
guard_of none = 0
guard_of (some x) = suc x

abbrev pub row_of : ℕ → Option ℕ → ℕ → List ℕ → ℕ → Row
row_of s g a r t = record { from = s; guard = guard_of g; action = a; resets = set_of r; target = t }

-- a line of the same kind as the last one comes after it
unfoldable pub follows : Option Entry → Entry → Bool
follows none e = true
follows (some d) (comp-entry n s) = true
follows (some d) (act-entry a k) = elim d [ act-entry b j ↦ ltb b a | comp-entry n s ↦ true | clk-entry x b ↦ true | row-entry s g b r t ↦ true ]
follows (some d) (clk-entry x b) = elim d [ clk-entry y j ↦ ltb y x | comp-entry n s ↦ true | act-entry a k ↦ true | row-entry s g a r t ↦ true ]
follows (some d) (row-entry s g a r t) = elim d [
  | row-entry s₀ g₀ a₀ r₀ t₀ ↦ before (row_of s₀ g₀ a₀ r₀ t₀) (row_of s g a r t)
  | comp-entry n z ↦ true
  | act-entry b k ↦ true
  | clk-entry x b ↦ true
]

abbrev pub resets_ascend : Entry → Bool
resets_ascend (comp-entry n s) = true
resets_ascend (act-entry a k) = true
resets_ascend (clk-entry x b) = true
resets_ascend (row-entry s g a r t) = ascending r

-- 6 "lines of one kind, or clocks in a resets field, not strictly ascending"
unfoldable pub out_of_order : Option Entry → Entry → Bool
out_of_order d e = not (follows d e && resets_ascend e)

-- 7 "17th component or 1,025th row"; the 33rd since request 12
unfoldable pub too_many : List Comp → Entry → Bool
too_many m (comp-entry n s) = leb max_components (length m)
too_many m (act-entry a k) = false
too_many m (clk-entry x b) = false
too_many m (row-entry s g a r t) = leb max_rows (row_count m)

-- "within a line 2 to 7": the lowest fault of a line of good shape
unfoldable pub fault_of : Progress → Entry → Option ℕ
fault_of p e =
    let b : Option ℕ = when (out_of_range (current p) e) 4 in
    let c : Option ℕ = when (lacks (current p) e) 5 in
    let d : Option ℕ = when (out_of_order p.last e) 6 in
    let f : Option ℕ = when (too_many p.comps e) 7 in
    or_else (when (out_of_turn p.last e) 3) (or_else b (or_else c (or_else d f)))

-- ---- the column of a fault (02, 2/13): "for 4 and 5 the first byte of the first value at fault. Columns are bytes from 1"
-- a value of a line: a number of states, a state, an action, a clock, whether a clock is set at the start, or `-`
pub data Value : Type 0 where
  states-value state-value action-value clock-value set_value : ℕ → Value
  dash-value : Value

abbrev pub value_text : Value → List ℕ
value_text (states-value n) = decimal n
value_text (state-value s) = decimal s
value_text (action-value a) = decimal a
value_text (clock-value x) = decimal x
value_text (set_value b) = decimal b
value_text dash-value = dash ∷ []

abbrev pub guard_value : Option ℕ → Value
guard_value none = dash-value
guard_value (some x) = clock-value x

-- the clocks of a resets field, and the target behind them
unfoldable pub reset_values : List ℕ → Value → List Value
reset_values [] v = v ∷ []
reset_values (x ∷ xs) v = clock-value x ∷ reset_values xs v

abbrev pub last_values : List ℕ → Value → List Value
last_values [] v = dash-value ∷ v ∷ []
last_values (x ∷ xs) v = reset_values (x ∷ xs) v

-- the values of a line that have a range, from left to right
abbrev pub values_of : Entry → List Value
values_of (comp-entry n s) = states-value n ∷ state-value s ∷ []
values_of (act-entry a k) = action-value a ∷ []
values_of (clk-entry x b) = clock-value x ∷ set_value b ∷ []
values_of (row-entry s g a r t) = state-value s ∷ guard_value g ∷ action-value a ∷ last_values r (state-value t)

abbrev pub word_of : Entry → List ℕ
word_of (comp-entry n s) = comp_word
word_of (act-entry a k) = act_word
word_of (clk-entry x b) = clk_word
word_of (row-entry s g a r t) = row_word

-- the column of the first value at fault, where the first value of all stands at column k, and one of them is at fault; tab and comma are one byte
unfoldable pub first_bad : (Value → Bool) → ℕ → List Value → ℕ
first_bad bad k [] = k
first_bad bad k (v ∷ []) = k
first_bad bad k (v ∷ w ∷ vs) = cond (bad v) k (first_bad bad (k + suc (length (value_text v))) (w ∷ vs))

-- 4: the value is outside its range; n is how many states the component has
abbrev pub outside : ℕ → Value → Bool
outside n (states-value m) = not (leb 1 m && leb m max_states)
outside n (state-value s) = not (ltb s n)
outside n (action-value a) = not (ltb a max_actions)
outside n (clock-value x) = not (ltb x max_clocks)
outside n (set_value b) = not (leb b 1)
outside n dash-value = false

-- 5: the component lacks it
abbrev pub unnamed : Comp → Value → Bool
unnamed c (states-value m) = false
unnamed c (state-value s) = false
unnamed c (action-value a) = not (has (acts c) a)
unnamed c (clock-value x) = not (has c.clocks x)
unnamed c (set_value b) = false
unnamed c dash-value = false

-- how many states the component of a line has: a `comp` line says it
abbrev pub states_by : Comp → Entry → ℕ
states_by c (comp-entry n s) = n
states_by c (act-entry a k) = c.states
states_by c (clk-entry x b) = c.states
states_by c (row-entry s g a r t) = c.states

abbrev pub first_column : (Value → Bool) → Entry → ℕ
first_column bad e = first_bad bad (length (word_of e) + 2) (values_of e)

-- "2, 4 and 5 carry line and column": what stands behind the line in the place of fault f, 3 to 7, of the line e
unfoldable pub column_of : Comp → ℕ → Entry → List ℕ
column_of c f e = cond (eqb f 4) (first_column (outside (states_by c e)) e ∷ []) (cond (eqb f 5) (first_column (unnamed c) e ∷ []) [])

-- 2: "the first byte that no well-shaped line could have there (a missing LF counts one past the end)", where a scan of bs stops at cs
abbrev pub stop_column : List ℕ → List ℕ → ℕ
stop_column bs cs = suc (length bs - length cs)

-- ---- a faultless line is taken in: "Lines belong to the last `comp`"
abbrev pub with_act : Comp → ℕ → Kind → Comp
with_act c a in-kind = record { states = c.states; start = c.start; ins = c.ins ∪ only a; outs = c.outs; uins = c.uins; uouts = c.uouts; clocks = c.clocks; started = c.started; rows = c.rows }
with_act c a out-kind = record { states = c.states; start = c.start; ins = c.ins; outs = c.outs ∪ only a; uins = c.uins; uouts = c.uouts; clocks = c.clocks; started = c.started; rows = c.rows }
with_act c a uin-kind = record { states = c.states; start = c.start; ins = c.ins; outs = c.outs; uins = c.uins ∪ only a; uouts = c.uouts; clocks = c.clocks; started = c.started; rows = c.rows }
with_act c a uout-kind = record { states = c.states; start = c.start; ins = c.ins; outs = c.outs; uins = c.uins; uouts = c.uouts ∪ only a; clocks = c.clocks; started = c.started; rows = c.rows }

abbrev pub with_clk : Comp → ℕ → ℕ → Comp
with_clk c x b = record {
  states = c.states;
  start = c.start;
  ins = c.ins;
  outs = c.outs;
  uins = c.uins;
  uouts = c.uouts;
  clocks = c.clocks ∪ only x;
  started = cond (eqb b 1) (c.started ∪ only x) c.started;
  rows = c.rows;
}

abbrev pub with_row : Comp → Row → Comp
with_row c r = record {
  states = c.states;
  start = c.start;
  ins = c.ins;
  outs = c.outs;
  uins = c.uins;
  uouts = c.uouts;
  clocks = c.clocks;
  started = c.started;
  rows = c.rows ++ r ∷ [];
}

abbrev pub new_comp : ℕ → ℕ → Comp
new_comp n s = record { states = n; start = s; ins = 0; outs = 0; uins = 0; uouts = 0; clocks = 0; started = 0; rows = [] }

-- the last component, changed
abbrev pub on_last : (Comp → Comp) → List Comp → List Comp
on_last f [] = []
on_last f (c ∷ cs) = f c ∷ cs

unfoldable pub take_in : List Comp → Entry → List Comp
take_in m (comp-entry n s) = new_comp n s ∷ m
take_in m (act-entry a k) = on_last (λ c. with_act c a k) m
take_in m (clk-entry x b) = on_last (λ c. with_clk c x b) m
take_in m (row-entry s g a r t) = on_last (λ c. with_row c (row_of s g a r t)) m

-- ---- the whole text
-- 8 "no component", place 0
abbrev pub finish : List Comp → Answer Model
finish [] = refused (tell 8 (0 ∷ []))
finish (c ∷ cs) = answered (reverse (c ∷ cs))

-- the lines from line n on, of which there are no more than k
unfoldable pub lines_from : ℕ → ℕ → Progress → List ℕ → Answer Model
lines_from zero n p bs = finish p.comps
lines_from (suc k) n p [] = finish p.comps
lines_from (suc k) n p (b ∷ bs) = elim (entry (b ∷ bs)) [
  | stops cs ↦ refused (tell 2 (n ∷ stop_column (b ∷ bs) cs ∷ []))
  | is g ↦ elim (fault_of p g.value) [
    | some f ↦ refused (tell f (n ∷ column_of (current p) f g.value))
    | none ↦ lines_from k (suc n) (record { comps = take_in p.comps g.value; last = some g.value }) g.rest
  ]
]

abbrev pub at_start : Progress
at_start = record { comps = []; last = none }

-- 1 "text over 32,768 bytes", place 0; then "lines in file order"; every line has a byte, so there are no more lines than bytes
unfoldable pub read_of : List ℕ → Answer Model
read_of bs = elim (ltb max_bytes (length bs)) [ true ↦ refused (tell 1 (0 ∷ [])) | false ↦ lines_from (length bs) 1 at_start bs ]
