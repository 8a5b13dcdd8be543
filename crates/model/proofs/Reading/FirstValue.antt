-- 4 and 5 tell the first byte of the first value at fault: of the values of a line, from left to right, the column is that of the first at fault.
use mathlib.Core.Path.{◌≡◌, refl, sym, ◌∙◌, ap, subst}
use mathlib.Core.Logic.{◌⊎◌, inl, inr, ◌↔◌}
use mathlib.Core.Option.{Option, none, some}
use mathlib.Core.Bool.{Bool, true, false, cond, true≢false}
use mathlib.Core.List.{List, [], ◌∷◌, ◌++◌, append_assoc}
use Prim.Native.Nat.{ℕ, suc, ◌+◌, ◌≤◌, ◌<◌}
use native.Mathlib.Omega.{arith}
use lib.ListN.{length, length-append}
use Rattle.laws.specs.Sets.{◌∈◌}
use Rattle.answer.specs.Limits.{max_clocks}
use Rattle.model.specs.Model.{Comp}
use Rattle.model.specs.Text.{tab, comma, dash, row_word, kind_word, decimal, guard_field, fields_after}
use Rattle.model.specs.Reading.{Entry, comp-entry, act-entry, clk-entry, row-entry, guard_of}
use Rattle.model.specs.Reading.{Value, states-value, state-value, action-value, clock-value, set_value, dash-value, value_text, guard_value}
use Rattle.model.specs.Reading.{reset_values, last_values, values_of, word_of, first_bad, outside, unnamed, states_by, first_column}
use Rattle.model.specs.Line.{list_field, line_of}
use Rattle.model.specs.Column.{fields_up_to, clocks_up_to, Stands, states-at, start-at, act-at, clk-at, set_at, from_at, guard-at, action-at}
use Rattle.model.specs.Column.{reset-at, target_at, FirstValue, Ranged, Owned}
use Rattle.model.specs.Faulty.{Each, GuardIs, InRange, Named}
use Rattle.model.proofs.Reading.Fields.{further, joined-first}
use Rattle.model.proofs.Reading.Tests.{ranged-decided, owned-decided}

-- ---- a list of values, of which the first stands at column k
-- v is one of the values, and stands at column j
abbrev At : ℕ → List Value → Value → ℕ → Type 0
At k [] v j = ⊥
At k (w ∷ vs) v j = ((v ≡ w) × (j ≡ k)) ⊎ At (k + suc (length (value_text w))) vs v j

at_least : (k : ℕ) (vs : List Value) (v : Value) (j : ℕ) → At k vs v j → k ≤ j
at_least k [] v j a = absurd a
at_least k (w ∷ vs) v j (inl a) = omega (arith, a.1)
at_least k (w ∷ vs) v j (inr a) = omega (arith, at_least (k + suc (length (value_text w))) vs v j a)

-- what the first value at fault is
record First (bad : Value → Bool) (k : ℕ) (vs : List Value) (j : ℕ) : Type 0 where
  value : Value
  here : At k vs value j
  fault : bad value ≡ true
  least : (w : Value) (i : ℕ) → At k vs w i → bad w ≡ true → j ≤ i

abbrev AllFine : (Value → Bool) → ℕ → List Value → Type 0
AllFine bad k vs = (v : Value) (j : ℕ) → At k vs v j → bad v ≡ false

at_once : (bad : Value → Bool) (k : ℕ) (v : Value) (vs : List Value) → bad v ≡ true → First bad k (v ∷ vs) k
at_once bad k v vs h = record { value = v; here = inl (refl, refl); fault = h; least = λ w i a _. at_least k (v ∷ vs) w i a }

first-bad : (bad : Value → Bool) (k : ℕ) (vs : List Value) → ¬ AllFine bad k vs → First bad k vs (first_bad bad k vs)
unfolding first_bad
first-bad bad k [] h = absurd (h (λ v j a. absurd a))
first-bad bad k (v ∷ []) h = go (bad v) refl
  where
    go : (b : Bool) → bad v ≡ b → First bad k (v ∷ []) k
    go true e = at_once bad k v [] e
    go false e = absurd (h fine)
      where
        fine : (w : Value) (j : ℕ) → At k (v ∷ []) w j → bad w ≡ false
        fine w j (inl a) = ap bad a.0 ∙ e
        fine w j (inr a) = absurd a
first-bad bad k (v ∷ w ∷ vs) h = go (λ q. first-bad bad (k + suc (length (value_text v))) (w ∷ vs) q) (bad v) refl
  where
    go : (¬ AllFine bad (k + suc (length (value_text v))) (w ∷ vs) → First bad (k + suc (length (value_text v))) (w ∷ vs) (first_bad bad (k + suc (length
        (value_text v))) (w ∷ vs)))
        → (b : Bool) → bad v ≡ b → First bad k (v ∷ w ∷ vs) (cond b k (first_bad bad (k + suc (length (value_text v))) (w ∷ vs)))
    go ih true e = at_once bad k v (w ∷ vs) e
    go ih false e =
        let r = ih (λ q. h (fine q)) in
        record { value = r.value; here = inr r.here; fault = r.fault; least = least r.least }
      where
        fine : AllFine bad (k + suc (length (value_text v))) (w ∷ vs) → (u : Value) (j : ℕ) → At k (v ∷ w ∷ vs) u j → bad u ≡ false
        fine q u j (inl a) = ap bad a.0 ∙ e
        fine q u j (inr a) = q u j a

        least : ((u : Value) (i : ℕ) → At (k + suc (length (value_text v))) (w ∷ vs) u i → bad u ≡ true → first_bad bad (k + suc (length (value_text v)))
            (w ∷ vs) ≤ i)
            → (u : Value) (i : ℕ) → At k (v ∷ w ∷ vs) u i → bad u ≡ true → first_bad bad (k + suc (length (value_text v))) (w ∷ vs) ≤ i
        least q u i (inl a) t = absurd (true≢false (sym t ∙ ap bad a.0 ∙ e))
        least q u i (inr a) t = q u i a t

-- ---- the clocks of a resets field, and the target behind them
clocks-long : (x : ℕ) (xs : List ℕ) → length (clocks_up_to (x ∷ xs)) ≡ suc (length (decimal x)) + length (clocks_up_to xs)
unfolding clocks_up_to
clocks-long x xs = omega (arith, length-append (decimal x) (comma ∷ clocks_up_to xs))

reset-there : (k : ℕ) (xs : List ℕ) (x : ℕ) (ys : List ℕ) (t : Value) → At k (reset_values (xs ++ x ∷ ys) t) (clock-value x) (k + length (clocks_up_to xs))
unfolding reset_values clocks_up_to
reset-there k [] x ys t = inl (refl, omega arith)
reset-there k (w ∷ xs) x ys t =
    let e : k + suc (length (decimal w)) + length (clocks_up_to xs) ≡ k + length (clocks_up_to (w ∷ xs)) = omega (arith, clocks-long w xs) in
    inr (subst (At (k + suc (length (decimal w))) (reset_values (xs ++ x ∷ ys) t) (clock-value x)) e (reset-there (k + suc (length (decimal w))) xs x ys t))

target-there : (k : ℕ) (xs : List ℕ) (t : Value) → At k (reset_values xs t) t (k + length (clocks_up_to xs))
unfolding reset_values clocks_up_to
target-there k [] t = inl (refl, omega arith)
target-there k (x ∷ xs) t =
    let e : k + suc (length (decimal x)) + length (clocks_up_to xs) ≡ k + length (clocks_up_to (x ∷ xs)) = omega (arith, clocks-long x xs) in
    inr (subst (At (k + suc (length (decimal x))) (reset_values xs t) t) e (target-there (k + suc (length (decimal x))) xs t))

-- and there are no others
record ClockAt (k : ℕ) (r : List ℕ) (v : Value) (j : ℕ) : Type 0 where
  earlier : List ℕ
  clock : ℕ
  later : List ℕ
  list : r ≡ earlier ++ clock ∷ later
  value : v ≡ clock-value clock
  column : j ≡ k + length (clocks_up_to earlier)

reset-back : (k : ℕ) (r : List ℕ) (t v : Value) (j : ℕ) → At k (reset_values r t) v j → ClockAt k r v j ⊎ ((v ≡ t) × (j ≡ k + length (clocks_up_to r)))
unfolding reset_values clocks_up_to
reset-back k [] t v j (inl a) = inr (a.0, omega (arith, a.1))
reset-back k [] t v j (inr a) = absurd a
reset-back k (x ∷ xs) t v j (inl a) = inl (record { earlier = []; clock = x; later = xs; list = refl; value = a.0; column = omega (arith, a.1) })
reset-back k (x ∷ xs) t v j (inr a) = go (reset-back (k + suc (length (decimal x))) xs t v j a)
  where
    go : ClockAt (k + suc (length (decimal x))) xs v j ⊎ ((v ≡ t) × (j ≡ k + suc (length (decimal x)) + length (clocks_up_to xs)))
        → ClockAt k (x ∷ xs) v j ⊎ ((v ≡ t) × (j ≡ k + length (clocks_up_to (x ∷ xs))))
    go (inl c) =
        inl (record {
          earlier = x ∷ c.earlier;
          clock = c.clock;
          later = c.later;
          list = ap {B = List ℕ} (λ l. x ∷ l) c.list;
          value = c.value;
          column = omega (arith, c.column, clocks-long x c.earlier);
        })
    go (inr e) = inr (e.0, omega (arith, e.1, clocks-long x xs))

-- the field is as long as its clocks with their commas, but the last
list-long : (x : ℕ) (xs : List ℕ) → suc (length (list_field (x ∷ xs))) ≡ length (clocks_up_to (x ∷ xs))
unfolding list_field clocks_up_to
list-long x [] = let e = ap length (joined-first x []) in omega (arith, clocks-long x [], length-append (decimal x) [])
list-long x (y ∷ ys) =
    let e = ap length (joined-first x (y ∷ ys)) in
    omega (arith, clocks-long x (y ∷ ys), list-long y ys, length-append (decimal x) (further (y ∷ ys)))

-- ---- the values of a line, by their place in its bytes
guard-wide : (g : Option ℕ) → length (value_text (guard_value g)) ≡ length (guard_field (guard_of g))
unfolding guard_field
guard-wide none = refl
guard-wide (some x) = refl

-- the bytes of a row before its resets
row-front : (s : ℕ) (g : Option ℕ) (a : ℕ) → ℕ
row-front s g a = 5 + suc (length (decimal s)) + suc (length (value_text (guard_value g))) + suc (length (decimal a))

front_long : (s : ℕ) (g : Option ℕ) (a : ℕ) → suc (length (row_word ++ fields_up_to (decimal s ∷ guard_field (guard_of g) ∷ decimal a ∷ []))) ≡ row-front s g a
unfolding fields_up_to row-front
front_long s g a =
    let G = guard_field (guard_of g) in
    omega (
      arith,
      guard-wide g,
      length-append (decimal s) (tab ∷ (G ++ (tab ∷ (decimal a ++ (tab ∷ []))))),
      length-append G (tab ∷ (decimal a ++ (tab ∷ []))),
      length-append (decimal a) (tab ∷ []),
    )

target-long : (s : ℕ) (g : Option ℕ) (a : ℕ) (l : List ℕ)
    → suc (length (row_word ++ fields_up_to (decimal s ∷ guard_field (guard_of g) ∷ decimal a ∷ l ∷ []))) ≡ row-front s g a + suc (length l)
unfolding fields_up_to row-front
target-long s g a l =
    let G = guard_field (guard_of g) in
    omega (
      arith,
      guard-wide g,
      length-append (decimal s) (tab ∷ (G ++ (tab ∷ (decimal a ++ (tab ∷ (l ++ (tab ∷ []))))))),
      length-append G (tab ∷ (decimal a ++ (tab ∷ (l ++ (tab ∷ []))))),
      length-append (decimal a) (tab ∷ (l ++ (tab ∷ []))),
      length-append l (tab ∷ []),
    )

-- where a value of the line stands in its bytes, there it stands among the line's values
stands_at : (e : Entry) (v : Value) (b : List ℕ) → Stands e v b → At (length (word_of e) + 2) (values_of e) v (suc (length b))
unfolding fields_up_to row-front list_field
stands_at (comp-entry n s) v b states-at = inl (refl, refl)
stands_at (comp-entry n s) v b start-at = inr (inl (refl, omega (arith, length-append (decimal n) (tab ∷ []))))
stands_at (act-entry a k) v b act-at = inl (refl, refl)
stands_at (clk-entry x c) v b clk-at = inl (refl, refl)
stands_at (clk-entry x c) v b set_at = inr (inl (refl, omega (arith, length-append (decimal x) (tab ∷ []))))
stands_at (row-entry s g a r t) v b from_at = inl (refl, refl)
stands_at (row-entry s (some x) a r t) v b guard-at = inr (inl (refl, omega (arith, length-append (decimal s) (tab ∷ []))))
stands_at (row-entry s g a r t) v b action-at =
    let G = guard_field (guard_of g) in
    inr (inr (inl (refl, omega (arith, guard-wide g, length-append (decimal s) (tab ∷ (G ++ (tab ∷ []))), length-append G (tab ∷ [])))))
stands_at (row-entry s g a r t) v b (reset-at xs x ys h) = inr (inr (inr (go r h)))
  where
    F : List ℕ
    F = row_word ++ fields_up_to (decimal s ∷ guard_field (guard_of g) ∷ decimal a ∷ [])

    at : suc (length (F ++ clocks_up_to xs)) ≡ row-front s g a + length (clocks_up_to xs)
    at = omega (arith, front_long s g a, length-append F (clocks_up_to xs))

    go : (l : List ℕ) → l ≡ xs ++ x ∷ ys → At (row-front s g a) (last_values l (state-value t)) (clock-value x) (suc (length (F ++ clocks_up_to xs)))
    go [] h = absurd (omega (arith, ap length h, length-append xs (x ∷ ys)))
    go (y ∷ l) h = rw (h, at) (reset-there (row-front s g a) xs x ys (state-value t))
stands_at (row-entry s g a r t) v b target_at = inr (inr (inr (go r)))
  where
    go : (r : List ℕ) → At (row-front s g a) (last_values r (state-value t)) (state-value t) (suc (length (row_word ++ fields_up_to (decimal s ∷ guard_field
        (guard_of g) ∷ decimal a ∷ list_field r ∷ []))))
    go [] = inr (inl (refl, target-long s g a (dash ∷ [])))
    go (x ∷ xs) =
        rw (target-long s g a (list_field (x ∷ xs)) ∙ ap (λ n. row-front s g a + n) (list-long x xs)) (target-there (row-front s g a) (x ∷ xs) (state-value t))

-- and where it stands among the line's values, there it stands in its bytes, unless it is `-`
record Found (e : Entry) (v : Value) (j : ℕ) : Type 0 where
  bytes : List ℕ
  stands : Stands e v bytes
  column : j ≡ suc (length bytes)

found_as : {e : Entry} {v w : Value} {b : List ℕ} {j : ℕ} → v ≡ w → Stands e w b → j ≡ suc (length b) → Found e v j ⊎ (v ≡ dash-value)
found_as {e} {b = b} p s q = inl (record { bytes = b; stands = subst (λ v. Stands e v b) (sym p) s; column = q })

found : (e : Entry) (v : Value) (j : ℕ) → At (length (word_of e) + 2) (values_of e) v j → Found e v j ⊎ (v ≡ dash-value)
unfolding fields_up_to row-front list_field
found (comp-entry n s) v j (inl a) = found_as a.0 states-at a.1
found (comp-entry n s) v j (inr (inl a)) = found_as a.0 start-at (omega (arith, a.1, length-append (decimal n) (tab ∷ [])))
found (comp-entry n s) v j (inr (inr a)) = absurd a
found (act-entry b k) v j (inl a) = found_as a.0 act-at a.1
found (act-entry b k) v j (inr a) = absurd a
found (clk-entry x b) v j (inl a) = found_as a.0 clk-at a.1
found (clk-entry x b) v j (inr (inl a)) = found_as a.0 set_at (omega (arith, a.1, length-append (decimal x) (tab ∷ [])))
found (clk-entry x b) v j (inr (inr a)) = absurd a
found (row-entry s g b r t) v j (inl a) = found_as a.0 from_at a.1
found (row-entry s none b r t) v j (inr (inl a)) = inr a.0
found (row-entry s (some x) b r t) v j (inr (inl a)) = found_as a.0 guard-at (omega (arith, a.1, length-append (decimal s) (tab ∷ [])))
found (row-entry s g b r t) v j (inr (inr (inl a))) =
    let G = guard_field (guard_of g) in
    found_as a.0 action-at (omega (arith, a.1, guard-wide g, length-append (decimal s) (tab ∷ (G ++ (tab ∷ []))), length-append G (tab ∷ [])))
found (row-entry s g b [] t) v j (inr (inr (inr (inl a)))) = inr a.0
found (row-entry s g b [] t) v j (inr (inr (inr (inr (inl a))))) = found_as a.0 target_at (omega (arith, a.1, target-long s g b (dash ∷ [])))
found (row-entry s g b [] t) v j (inr (inr (inr (inr (inr a))))) = absurd a
found (row-entry s g b (x ∷ xs) t) v j (inr (inr (inr a))) = go (reset-back (row-front s g b) (x ∷ xs) (state-value t) v j a)
  where
    F : List ℕ
    F = row_word ++ fields_up_to (decimal s ∷ guard_field (guard_of g) ∷ decimal b ∷ [])

    go : ClockAt (row-front s g b) (x ∷ xs) v j ⊎ ((v ≡ state-value t) × (j ≡ row-front s g b + length (clocks_up_to (x ∷ xs))))
        → Found (row-entry s g b (x ∷ xs) t) v j ⊎ (v ≡ dash-value)
    go (inl c) =
        found_as c.value (reset-at c.earlier c.clock c.later c.list)
        (omega (arith, c.column, front_long s g b, length-append F (clocks_up_to c.earlier)))
    go (inr e) = found_as e.0 target_at (omega (arith, e.1, list-long x xs, target-long s g b (list_field (x ∷ xs))))

-- ---- the first value at fault
module _ (e : Entry) (bad : Value → Bool) (Fine : Value → Type 0) (decides : (v : Value) → (bad v ≡ false) ↔ Fine v) where
  pub first-value : Fine dash-value → ¬ ((v : Value) (b : List ℕ) → Stands e v b → Fine v) → FirstValue Fine e (first_column bad e)
  first-value fine h = go (found e f.value (first_column bad e) f.here)
    where
      f : First bad (length (word_of e) + 2) (values_of e) (first_column bad e)
      f = first-bad bad (length (word_of e) + 2) (values_of e) (λ q. h (λ v b s. (decides v).0 (q v (suc (length b)) (stands_at e v b s))))

      faulty : (v : Value) → ¬ Fine v → bad v ≡ true
      faulty v n = at (bad v) refl
        where
          at : (t : Bool) → bad v ≡ t → t ≡ true
          at true q = refl
          at false q = absurd (n ((decides v).0 q))

      go : Found e f.value (first_column bad e) ⊎ (f.value ≡ dash-value) → FirstValue Fine e (first_column bad e)
      go (inr d) = absurd (true≢false (sym f.fault ∙ ap bad d ∙ (decides dash-value).1 fine))
      go (inl w) =
          record {
            value = f.value;
            before = w.bytes;
            stands = w.stands;
            fault = λ q. true≢false (sym f.fault ∙ (decides f.value).1 q);
            first = λ v b s n. let l = f.least v (suc (length b)) (stands_at e v b s) (faulty v n) in let c = w.column in omega arith;
            at = w.column;
          }

pub one-first-value : {Fine : Value → Type 0} {e : Entry} {j k : ℕ} → FirstValue Fine e j → FirstValue Fine e k → j ≡ k
one-first-value a b =
    omega (arith, a.at, b.at, a.first b.value b.before b.stands b.fault, b.first a.value a.before a.stands a.fault)

-- each clock of the resets, where all that stand in the line are fine
each-reset : (P : ℕ → Type 0) (ws r : List ℕ) → ((xs : List ℕ) (x : ℕ) (ys : List ℕ) → ws ++ r ≡ xs ++ x ∷ ys → P x) → Each P r
each-reset P ws [] h = tt
each-reset P ws (x ∷ xs) h = (h ws x xs refl, each-reset P (ws ++ x ∷ []) xs (λ ys y zs e. h ys y zs (sym (append_assoc ws (x ∷ []) xs) ∙ e)))

-- 4: where every value is in its range, the line is
all-ranged : (c : Comp) (e : Entry) → ((v : Value) (b : List ℕ) → Stands e v b → Ranged (states_by c e) v) → InRange c e
all-ranged c (comp-entry n s) h = let p = h (states-value n) _ states-at in (p.0, p.1, h (state-value s) _ start-at)
all-ranged c (act-entry a k) h = h (action-value a) _ act-at
all-ranged c (clk-entry x b) h = (h (clock-value x) _ clk-at, h (set_value b) _ set_at)
all-ranged c (row-entry s g a r t) h = (
  h (state-value s) _ from_at,
  guard g h,
  h (action-value a) _ action-at,
  each-reset (λ x. x < max_clocks) [] r (λ xs x ys e. h (clock-value x) _ (reset-at xs x ys e)),
  h (state-value t) _ target_at,
)
  where
    guard : (g : Option ℕ) → ((v : Value) (b : List ℕ) → Stands (row-entry s g a r t) v b → Ranged c.states v) → GuardIs (λ x. x < max_clocks) g
    guard none h = tt
    guard (some x) h = h (clock-value x) _ guard-at

-- 5: where the component has every action and clock of the line
all-owned : (c : Comp) (e : Entry) → ((v : Value) (b : List ℕ) → Stands e v b → Owned c v) → Named c e
all-owned c (comp-entry n s) h = tt
all-owned c (act-entry a k) h = tt
all-owned c (clk-entry x b) h = tt
all-owned c (row-entry s g a r t) h = (
  guard g h,
  h (action-value a) _ action-at,
  each-reset (λ x. x ∈ c.clocks) [] r (λ xs x ys e. h (clock-value x) _ (reset-at xs x ys e)),
)
  where
    guard : (g : Option ℕ) → ((v : Value) (b : List ℕ) → Stands (row-entry s g a r t) v b → Owned c v) → GuardIs (λ x. x ∈ c.clocks) g
    guard none h = tt
    guard (some x) h = h (clock-value x) _ guard-at

-- where a line is out of range, the column that is told for 4 is that of the first value at fault, and no other; for 5 likewise
pub first-value-exactly : (c : Comp) (e : Entry) → ¬ InRange c e → (column : ℕ)
    → (first_column (outside (states_by c e)) e ≡ column) ↔ FirstValue (Ranged (states_by c e)) e column
first-value-exactly c e n column =
    let f = first-value e (outside (states_by c e)) (Ranged (states_by c e)) (ranged-decided (states_by c e)) tt (λ h. n (all-ranged c e h)) in
    (λ h. subst (FirstValue (Ranged (states_by c e)) e) h f, λ w. one-first-value f w)

pub first-name-exactly : (c : Comp) (e : Entry) → ¬ Named c e → (column : ℕ) → (first_column (unnamed c) e ≡ column) ↔ FirstValue (Owned c) e column
first-name-exactly c e n column =
    let f = first-value e (unnamed c) (Owned c) (owned-decided c) tt (λ h. n (all-owned c e h)) in
    (λ h. subst (FirstValue (Owned c) e) h f, λ w. one-first-value f w)

-- ---- the value is there in the line's bytes
list-parts : (xs : List ℕ) (x : ℕ) (ys : List ℕ) → list_field (xs ++ x ∷ ys) ≡ clocks_up_to xs ++ (decimal x ++ further ys)
unfolding list_field clocks_up_to
list-parts [] x ys = joined-first x ys
list-parts (w ∷ []) x ys =
    joined-first w (x ∷ ys) ∙ ap (λ (l : List ℕ). decimal w ++ (comma ∷ l)) (joined-first x ys) ∙ sym (append_assoc (decimal w) (comma ∷ [])
    (decimal x ++ further ys))
list-parts (w ∷ v ∷ xs) x ys =
    joined-first w (v ∷ (xs ++ x ∷ ys)) ∙ ap (λ (l : List ℕ). decimal w ++ (comma ∷ l)) (list-parts (v ∷ xs) x ys)
    ∙ sym (append_assoc (decimal w) (comma ∷ clocks_up_to (v ∷ xs)) (decimal x ++ further ys))

pub value-printed : (e : Entry) (v : Value) (b : List ℕ) → Stands e v b → (after : List ℕ) × (line_of e ≡ b ++ (value_text v ++ after))
unfolding line_of fields_after fields_up_to guard_field
value-printed (comp-entry n s) v b states-at = (fields_after (decimal s ∷ []), refl)
value-printed (comp-entry n s) v b start-at = (fields_after [], simp append_assoc)
value-printed (act-entry a k) v b act-at = (fields_after (kind_word k ∷ []), refl)
value-printed (clk-entry x c) v b clk-at = (fields_after (decimal c ∷ []), refl)
value-printed (clk-entry x c) v b set_at = (fields_after [], simp append_assoc)
value-printed (row-entry s g a r t) v b from_at = (fields_after (guard_field (guard_of g) ∷ decimal a ∷ list_field r ∷ decimal t ∷ []), refl)
value-printed (row-entry s (some x) a r t) v b guard-at = (fields_after (decimal a ∷ list_field r ∷ decimal t ∷ []), simp append_assoc)
value-printed (row-entry s g a r t) v b action-at = (fields_after (list_field r ∷ decimal t ∷ []), simp append_assoc)
value-printed (row-entry s g a r t) v b (reset-at xs x ys h) = (further ys ++ fields_after (decimal t ∷ []), rw (h, list-parts xs x ys) (simp append_assoc))
value-printed (row-entry s g a r t) v b target_at = (fields_after [], simp append_assoc)
