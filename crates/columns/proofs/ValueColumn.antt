-- What the code looks for is the first value of the line that may not be.
use mathlib.Core.Path.{◌≡◌, refl, sym, ◌∙◌, ap}
use mathlib.Core.Bool.{Bool, true, false, ◌&&◌, not, cond}
use mathlib.Core.Option.{Option, none, some}
use mathlib.Core.List.{List, [], ◌∷◌, ◌++◌, append_assoc}
use Prim.Native.Nat.{ℕ, zero, suc, ◌+◌, ◌≤◌}
use native.Mathlib.Omega.{arith}
use lib.ListN.{length, drop, length-append, length-drop}
use lib.Seq.{drop-drop, drop_at}
use lib.Dec.{ltb, leb}
use Rattle.answer.specs.Limits.{max_states}
use Rattle.model.specs.Text.{tab, lf, comma, dash, row_word, decimal, guard_field, joined, fields_after}
use Rattle.model.specs.Reading.{got, number, the_byte, guard_of, Entry, comp-entry, act-entry, clk-entry, row-entry, entry, Value, action-value}
use Rattle.model.specs.Reading.{state-value, exactly, value_text, guard_value, reset_values, last_values, first_bad, first_column, stop_column}
use Rattle.model.specs.Line.{AllFit, list_field, line_of as printed_line}
use Rattle.model.proofs.Reading.Number.{number-printed}
use Rattle.model.proofs.Reading.Fields.{number-no-dash, further, joined-first}
use Rattle.model.proofs.Reading.Lines.{entry-exact}
use Rattle.lines.specs.Lines.{guard_is, line_of}
use Rattle.columns.specs.declared.Allowed.{Allowed}
use Rattle.columns.specs.Columns.{member_of, beyond, guard_out, wide_guard, numbers_out, resets_out, before_resets, row_column, value_column}

either_way : {A : Type 0} (b : Bool) (x y : A) → cond b x y ≡ cond (not b) y x
either_way true x y = refl
either_way false x y = refl

-- the column of what is left of bytes W
abbrev Stood : List ℕ → ℕ → List ℕ → Type 0
Stood W k cs = (1 ≤ k) × (suc (length W) ≡ k + length cs)

column-of : (W cs : List ℕ) (k : ℕ) → Stood W k cs → stop_column W cs ≡ k
column-of W cs k e = omega (arith, e)

module _ (a : Allowed) (W : List ℕ) (v : Value) where
  -- the resets, from one of them on
  out-printed : (k : ℕ) (x : ℕ) (xs bs : List ℕ) (j : ℕ) → AllFit (x ∷ xs) → length (joined (x ∷ xs) ++ tab ∷ bs) ≤ j → Stood W k (joined (x ∷ xs) ++ tab ∷ bs)
      → stop_column W (numbers_out a.clocks j (joined (x ∷ xs) ++ tab ∷ bs)) ≡ first_bad (beyond a) k (reset_values (x ∷ xs) v)
  unfolding numbers_out first_bad reset_values
  out-printed k x xs bs zero f h w = absurd (omega (arith, length-append (joined (x ∷ xs)) (tab ∷ bs)))
  out-printed k x [] bs (suc j) f h w = go (member_of a.clocks x) refl
    where
      read : number (joined (x ∷ []) ++ tab ∷ bs) ≡ got x (tab ∷ bs)
      read = ap (λ (l : List ℕ). number (l ++ tab ∷ bs)) (joined-first x []) ∙ ap number (append_assoc (decimal x) [] (tab ∷ bs)) ∙ number-printed x (tab ∷ bs)
          f.0 refl

      long : length (joined (x ∷ []) ++ tab ∷ bs) ≡ length (decimal x) + suc (length bs)
      long =
          omega (
            arith,
            ap (λ (l : List ℕ). length (l ++ tab ∷ bs)) (joined-first x []),
            length-append (decimal x ++ []) (tab ∷ bs),
            length-append (decimal x) [],
          )

      go : (b : Bool) → member_of a.clocks x ≡ b
          → stop_column W (numbers_out a.clocks (suc j) (joined (x ∷ []) ++ tab ∷ bs)) ≡ cond (not (member_of a.clocks x)) k (k + suc (length (decimal x)))
      go false e = rw (read, e, numbers_out) (column-of W (joined (x ∷ []) ++ tab ∷ bs) k w)
      go true e = rw (read, e, numbers_out) (column-of W bs (k + suc (length (decimal x))) (omega (arith, w), omega (arith, w, long)))
  out-printed k x (y ∷ ys) bs (suc j) f h w = go (out-printed (k + suc (length (decimal x))) y ys bs j f.1) (member_of a.clocks x) refl
    where
      rest : List ℕ
      rest = joined (y ∷ ys) ++ tab ∷ bs

      bytes : joined (x ∷ y ∷ ys) ++ tab ∷ bs ≡ decimal x ++ (comma ∷ rest)
      bytes = ap (λ (l : List ℕ). l ++ tab ∷ bs) (joined-first x (y ∷ ys)) ∙ append_assoc (decimal x) (comma ∷ joined (y ∷ ys)) (tab ∷ bs)

      read : number (joined (x ∷ y ∷ ys) ++ tab ∷ bs) ≡ got x (comma ∷ rest)
      read = ap number bytes ∙ number-printed x (comma ∷ rest) f.0 refl

      long : length (joined (x ∷ y ∷ ys) ++ tab ∷ bs) ≡ length (decimal x) + suc (length rest)
      long = omega (arith, ap length bytes, length-append (decimal x) (comma ∷ rest))

      go : (length rest ≤ j → Stood W (k + suc (length (decimal x))) rest
          → stop_column W (numbers_out a.clocks j rest) ≡ first_bad (beyond a) (k + suc (length (decimal x))) (reset_values (y ∷ ys) v)) → (b : Bool) → member_of
          a.clocks x ≡ b
          → stop_column W (numbers_out a.clocks (suc j) (joined (x ∷ y ∷ ys) ++ tab ∷ bs))
          ≡ cond (not (member_of a.clocks x)) k (first_bad (beyond a) (k + suc (length (decimal x))) (reset_values (y ∷ ys) v))
      go ih false e = rw (read, e, numbers_out) (column-of W (joined (x ∷ y ∷ ys) ++ tab ∷ bs) k w)
      go ih true e = rw (read, e, numbers_out) (ih (omega (arith, h, long)) (omega (arith, w), omega (arith, w, long)))

  -- the whole field
  resets-printed : (k : ℕ) (r bs : List ℕ) → AllFit r → Stood W k (list_field r ++ tab ∷ bs)
      → stop_column W (resets_out a.clocks (list_field r ++ tab ∷ bs)) ≡ first_bad (beyond a) k (last_values r v)
  unfolding resets_out list_field first_bad exactly
  resets-printed k [] bs f w = column-of W bs (k + 2) (omega (arith, w), omega (arith, w))
  resets-printed k (x ∷ xs) bs f w =
      let e = ap (λ (l : List ℕ). l ++ tab ∷ bs) (joined-first x xs) ∙ append_assoc (decimal x) (further xs) (tab ∷ bs) in
      let d = ap (the_byte dash) e ∙ number-no-dash x (further xs ++ tab ∷ bs) f.0 in
      rw (d, resets_out) (out-printed k x xs bs (length (joined (x ∷ xs) ++ tab ∷ bs)) f (omega arith) w)

guard-as : (c : ℕ) (a : Allowed) (g : Option ℕ) → a.clocks ≡ c
    → (beyond a (guard_value g) ≡ guard_out c (guard_is g)) × (length (value_text (guard_value g)) ≡ wide_guard (guard_is g))
guard-as c a none e = (refl, refl)
guard-as c a (some x) e = (rw e, refl)

guard-field : (g : Option ℕ) → length (guard_field (guard_of g)) ≡ wide_guard (guard_is g)
unfolding guard_field
guard-field none = refl
guard-field (some x) = refl

-- the bytes of a row from its resets on
from-resets : (s : ℕ) (g : Option ℕ) (x : ℕ) (r : List ℕ) (u : ℕ) (cs : List ℕ)
    → drop (before_resets s (guard_is g) x) (printed_line (row-entry s g x r u) ++ cs) ≡ list_field r ++ tab ∷ (decimal u ++ (lf ∷ cs))
unfolding printed_line fields_after
from-resets s g x r u cs =
    let G = guard_field (guard_of g) in
    let F = row_word ++ (tab ∷ (decimal s ++ (tab ∷ (G ++ (tab ∷ (decimal x ++ (tab ∷ []))))))) in
    let e : printed_line (row-entry s g x r u) ++ cs ≡ F ++ (list_field r ++ tab ∷ (decimal u ++ (lf ∷ cs))) = simp append_assoc in
    let n : length F ≡ before_resets s (guard_is g) x =
    omega (
      arith,
      guard-field g,
      length-append (decimal s) (tab ∷ (G ++ (tab ∷ (decimal x ++ (tab ∷ []))))),
      length-append G (tab ∷ (decimal x ++ (tab ∷ []))),
      length-append (decimal x) (tab ∷ []),
    ) in
    ap (drop (before_resets s (guard_is g) x)) e ∙ drop_at F (list_field r ++ tab ∷ (decimal u ++ (lf ∷ cs))) (before_resets s (guard_is g) x) n

last-two : (a : Allowed) (k : ℕ) (w v : Value) (r : List ℕ)
    → cond (beyond a w) k (first_bad (beyond a) (k + suc (length (value_text w))) (last_values r v)) ≡ first_bad (beyond a) k (w ∷ last_values r v)
unfolding first_bad reset_values
last-two a k w v [] = refl
last-two a k w v (x ∷ xs) = refl

module _ (t : List ℕ) (at : ℕ) (a : Allowed) where
  -- from the resets on
  last-column : (s : ℕ) (g : Option ℕ) (x : ℕ) (r : List ℕ) (u : ℕ) (cs : List ℕ) → AllFit r → drop at t ≡ printed_line (row-entry s g x r u) ++ cs
      → (k : ℕ) → k ≡ suc (before_resets s (guard_is g) x)
      → stop_column (drop at t) (resets_out a.clocks (drop (at + before_resets s (guard_is g) x) t)) ≡ first_bad (beyond a) k (last_values r (state-value u))
  last-column s g x r u cs f e k h =
      let b = before_resets s (guard_is g) x in
      let rest = decimal u ++ (lf ∷ cs) in
      let d : drop b (drop at t) ≡ list_field r ++ tab ∷ rest = ap (drop b) e ∙ from-resets s g x r u cs in
      let n = ap length d in
      let l = length-append (list_field r) (tab ∷ rest) in
      ap (λ z. stop_column (drop at t) (resets_out a.clocks z)) (sym (drop-drop b at t) ∙ d)
      ∙ resets-printed a (drop at t) (state-value u) k r rest f (omega (arith, h), omega (arith, n, l, length-drop b (drop at t), h))

  row-column : (s : ℕ) (g : Option ℕ) (x : ℕ) (r : List ℕ) (u : ℕ) (cs : List ℕ) → AllFit r → drop at t ≡ printed_line (row-entry s g x r u) ++ cs
      → row_column t at a s (guard_is g) x ≡ first_column (beyond a) (row-entry s g x r u)
  unfolding row_column first_bad
  row-column s g x r u cs f e =
      let w = guard-as a.clocks a g refl in
      let k2 = 5 + suc (length (decimal s)) in
      let k3 = k2 + suc (length (value_text (guard_value g))) in
      let m = member_of a.acts x in
      let w2 = 6 + length (decimal s) in
      let w3 = w2 + 1 + wide_guard (guard_is g) in
      let n = stop_column (drop at t) (resets_out a.clocks (drop (at + before_resets s (guard_is g) x) t)) in
      let rest = first_bad (beyond a) (k3 + suc (length (decimal x))) (last_values r (state-value u)) in
      let last : n ≡ rest = last-column s g x r u cs f e (k3 + suc (length (decimal x))) (omega (arith, w.1)) in
      let e3 : w3 ≡ k3 = omega (arith, w.1) in
      let e2 : w2 ≡ k2 = omega arith in
      let from-action : cond (not m) w3 n ≡ cond (not m) k3 rest = λ i. cond (not m) (e3 i) (last i) in
      let act : cond m n w3 ≡ first_bad (beyond a) k3 (action-value x ∷ last_values r (state-value u)) = either_way m n w3 ∙ from-action ∙ last-two a k3
      (action-value x) (state-value u) r in
      let guard : cond (guard_out a.clocks (guard_is g)) w2 (cond m n w3) ≡ cond (beyond a (guard_value g)) k2 (first_bad (beyond a) k3
      (action-value x ∷ last_values r (state-value u))) =
      λ i. cond (sym w.0 i) (e2 i) (act i) in
      either_way (ltb s a.states) (cond (guard_out a.clocks (guard_is g)) w2 (cond m n w3)) 5 ∙ ap (cond (not (ltb s a.states)) 5) guard

  -- a line of good shape
  pub value-column-is : (e : Entry) (cs : List ℕ) → entry (drop at t) ≡ got e cs → value_column t at a (line_of e) ≡ first_column (beyond a) e
  unfolding first_bad
  value-column-is (comp-entry n s) cs read =
      either_way (leb 1 n && leb n max_states) _ 6 ∙ ap (cond (not (leb 1 n && leb n max_states)) 6) (let e : 7 + length (decimal n) ≡ 6 + suc (length
      (decimal n)) = omega arith in e)
  value-column-is (act-entry x k) cs read = refl
  value-column-is (clk-entry x b) cs read =
      either_way (member_of a.clocks x) _ 5 ∙ ap (cond (not (member_of a.clocks x)) 5) (let e : 6 + length (decimal x) ≡ 5 + suc (length
      (decimal x)) = omega arith in e)
  value-column-is (row-entry s g x r u) cs read =
      let p = entry-exact.scanned (drop at t) (record { value = row-entry s g x r u; rest = cs }) read in
      row-column s g x r u cs p.1.3 p.0
