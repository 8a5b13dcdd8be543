-- 4 and 5 of a line of the second form tell the first byte of the first value at fault: the values stand as in the old line, those behind the name by
-- how much longer that is.
use mathlib.Core.Path.{◌≡◌, refl, sym, ◌∙◌, ap}
use mathlib.Core.Logic.{◌↔◌}
use mathlib.Core.Option.{Option, some}
use mathlib.Core.List.{List, [], ◌∷◌, ◌++◌}
use Prim.Native.Nat.{ℕ, suc, ◌+◌, ◌-◌, ◌≤◌}
use native.Mathlib.Omega.{arith}
use lib.ListN.{length, length-append}
use borrow.Author.Tests.{lt-ltb, le-ltb}
use Rattle.model.specs.Text.{tab, row_word, decimal, guard_field}
use Rattle.model.specs.Reading.{Entry, row-entry, guard_of, Value, state-value, action-value, clock-value}
use Rattle.model.specs.Line.{list_field}
use Rattle.model.specs.Column.{fields_up_to, clocks_up_to, Stands, from_at as old-from, guard-at as old-guard, action-at, reset-at as old-reset}
use Rattle.model.specs.Column.{target_at as old-target, FirstValue}
use Rattle.named.specs.NamedText.{Name, Line, row-line, plain-line}
use Rattle.named.specs.ReadNamed.{name_column, moved_by}
use Rattle.namedfaults.specs.NamedFaults.{Value₂, value, name, Stands₂, from_at, guard-at, name-at, reset-at, target_at, plain_at, FirstValue₂}

-- ---- how many bytes stand before a field of a row
one-long : (a : List ℕ) → length (row_word ++ fields_up_to (a ∷ [])) ≡ 5 + length a
unfolding fields_up_to
one-long a = omega (arith, length-append a (tab ∷ []))

two-long : (a b : List ℕ) → length (row_word ++ fields_up_to (a ∷ b ∷ [])) ≡ 6 + length a + length b
unfolding fields_up_to
two-long a b = omega (arith, length-append a (tab ∷ (b ++ tab ∷ [])), length-append b (tab ∷ []))

three-long : (a b c : List ℕ) → length (row_word ++ fields_up_to (a ∷ b ∷ c ∷ [])) ≡ 7 + length a + length b + length c
unfolding fields_up_to
three-long a b c = omega (arith, length-append a (tab ∷ (b ++ tab ∷ (c ++ tab ∷ []))), length-append b (tab ∷ (c ++ tab ∷ [])), length-append c (tab ∷ []))

four-long : (a b c d : List ℕ) → length (row_word ++ fields_up_to (a ∷ b ∷ c ∷ d ∷ [])) ≡ 8 + length a + length b + length c + length d
unfolding fields_up_to
four-long a b c d = omega (
  arith,
  length-append a (tab ∷ (b ++ tab ∷ (c ++ tab ∷ (d ++ tab ∷ [])))),
  length-append b (tab ∷ (c ++ tab ∷ (d ++ tab ∷ []))),
  length-append c (tab ∷ (d ++ tab ∷ [])),
  length-append d (tab ∷ []),
)

-- ---- a value up to the name's column N stands where it stood; one behind the number, of A bytes, is moved behind the name, of W bytes
module _ (N A W : ℕ) where
  data Along (b c : ℕ) : Type 0 where
    up_to : c ≡ b → suc b ≤ N → Along b c
    behind : N + A ≤ b → c + A ≡ b + W → Along b c

  along-moved : {b c : ℕ} → Along b c → suc c ≡ moved_by N W A (suc b)
  along-moved {b} {c} (up_to e h) = rw (le-ltb N (suc b) h) (ap suc e)
  along-moved {b} {c} (behind h e) = rw (lt-ltb N (suc b) (omega arith)) (let q : suc c ≡ suc b + W - A = omega arith in q)

  along-before : {b c d e : ℕ} → Along b c → Along d e → b ≤ d → c ≤ e
  along-before (up_to p h) (up_to q k) l = omega arith
  along-before (up_to p h) (behind k q) l = omega arith
  along-before (behind h p) (up_to q k) l = omega arith
  along-before (behind h p) (behind k q) l = omega arith

-- ---- the values of a row by name and of the old row
module _ (s : ℕ) (a : ℕ) (w : Name) (r : List ℕ) (t : ℕ) (Fine : Value → Type 0) (Fine₂ : Value₂ → Type 0)
    (states : (n : ℕ) → Fine (state-value n) ↔ Fine₂ (value (state-value n))) (clocks : (x : ℕ) → Fine (clock-value x) ↔ Fine₂ (value (clock-value x)))
    (named : Fine (action-value a) ↔ Fine₂ (name w)) where
  abbrev Way : Option ℕ → ℕ → ℕ → Type 0
  Way g b c = Along (name_column s g) (length (decimal a)) (length w) b c

  record New (g : Option ℕ) (v : Value) (b : List ℕ) : Type 0 where
    it : Value₂
    bytes : List ℕ
    stands : Stands₂ (row-line s g w r t) it bytes
    fine : Fine v ↔ Fine₂ it
    along : Way g (length b) (length bytes)

  record Old (g : Option ℕ) (v : Value₂) (b : List ℕ) : Type 0 where
    it : Value
    bytes : List ℕ
    stands : Stands (row-entry s g a r t) it bytes
    fine : Fine it ↔ Fine₂ v
    along : Way g (length bytes) (length b)

  abbrev G : Option ℕ → List ℕ
  G g = guard_field (guard_of g)

  from-way : (g : Option ℕ) → Way g (length (row_word ++ fields_up_to [])) (length (row_word ++ fields_up_to []))
  unfolding fields_up_to
  from-way g = up_to refl (omega arith)

  guard-way : (x : ℕ) → Way (some x) (length (row_word ++ fields_up_to (decimal s ∷ []))) (length (row_word ++ fields_up_to (decimal s ∷ [])))
  guard-way x = up_to refl (omega (arith, one-long (decimal s)))

  name-way : (g : Option ℕ) → Way g (length (row_word ++ fields_up_to (decimal s ∷ G g ∷ []))) (length (row_word ++ fields_up_to (decimal s ∷ G g ∷ [])))
  name-way g = up_to refl (omega (arith, two-long (decimal s) (G g)))

  reset-way : (g : Option ℕ) (xs : List ℕ)
      → Way g (length (row_word ++ fields_up_to (decimal s ∷ G g ∷ decimal a ∷ []) ++ clocks_up_to xs)) (length (row_word ++ fields_up_to
      (decimal s ∷ G g ∷ w ∷ []) ++ clocks_up_to xs))
  reset-way g xs =
      let old = row_word ++ fields_up_to (decimal s ∷ G g ∷ decimal a ∷ []) in
      let new = row_word ++ fields_up_to (decimal s ∷ G g ∷ w ∷ []) in
      let p = three-long (decimal s) (G g) (decimal a) in
      let q = three-long (decimal s) (G g) w in
      let x = length-append old (clocks_up_to xs) in
      let y = length-append new (clocks_up_to xs) in
      behind (omega arith) (omega arith)

  target-way : (g : Option ℕ)
      → Way g (length (row_word ++ fields_up_to (decimal s ∷ G g ∷ decimal a ∷ list_field r ∷ []))) (length (row_word ++ fields_up_to
      (decimal s ∷ G g ∷ w ∷ list_field r ∷ [])))
  target-way g =
      let p = four-long (decimal s) (G g) (decimal a) (list_field r) in
      let q = four-long (decimal s) (G g) w (list_field r) in
      behind (omega arith) (omega arith)

  new : (g : Option ℕ) (v : Value) (b : List ℕ) → Stands (row-entry s g a r t) v b → New g v b
  new g v b old-from = record { it = value (state-value s); bytes = _; stands = from_at; fine = states s; along = from-way g }
  new (some x) v b old-guard = record { it = value (clock-value x); bytes = _; stands = guard-at; fine = clocks x; along = guard-way x }
  new g v b action-at = record { it = name w; bytes = _; stands = name-at; fine = named; along = name-way g }
  new g v b (old-reset xs x ys h) = record { it = value (clock-value x); bytes = _; stands = reset-at xs x ys h; fine = clocks x; along = reset-way g xs }
  new g v b old-target = record { it = value (state-value t); bytes = _; stands = target_at; fine = states t; along = target-way g }

  old : (g : Option ℕ) (v : Value₂) (b : List ℕ) → Stands₂ (row-line s g w r t) v b → Old g v b
  old g v b from_at = record { it = state-value s; bytes = _; stands = old-from; fine = states s; along = from-way g }
  old (some x) v b guard-at = record { it = clock-value x; bytes = _; stands = old-guard; fine = clocks x; along = guard-way x }
  old g v b name-at = record { it = action-value a; bytes = _; stands = action-at; fine = named; along = name-way g }
  old g v b (reset-at xs x ys h) = record { it = clock-value x; bytes = _; stands = old-reset xs x ys h; fine = clocks x; along = reset-way g xs }
  old g v b target_at = record { it = state-value t; bytes = _; stands = old-target; fine = states t; along = target-way g }

  pub row_first : (g : Option ℕ) (k : ℕ) → FirstValue Fine (row-entry s g a r t) k
      → FirstValue₂ Fine₂ (row-line s g w r t) (moved_by (name_column s g) (length w) (length (decimal a)) k)
  row_first g k f =
      let n = new g f.value f.before f.stands in
      record {
        value = n.it;
        before = n.bytes;
        stands = n.stands;
        fault = λ h. f.fault (n.fine.1 h);
        first = λ v b z h.
            let o = old g v b z in
            along-before (name_column s g) (length (decimal a)) (length w) n.along o.along (f.first o.it o.bytes o.stands (λ q. h
            (o.fine.0 q)));
        at = ap (moved_by (name_column s g) (length w) (length (decimal a))) f.at ∙ sym (along-moved (name_column s g) (length (decimal a)) (length w)
            n.along);
      }

-- ---- a line without an action field
module _ (e : Entry) (Fine : Value → Type 0) (Fine₂ : Value₂ → Type 0) (same : (v : Value) → Fine v ↔ Fine₂ (value v)) where
  plain-least : (j : ℕ) → ((v : Value) (b : List ℕ) → Stands e v b → ¬ Fine v → j ≤ length b) → (v : Value₂) (b : List ℕ) → Stands₂ (plain-line e) v b
      → ¬ Fine₂ v → j ≤ length b
  plain-least j f v b (plain_at {v = u} z) h = f u b z (λ q. h ((same u).0 q))

  pub plain-first : (k : ℕ) → FirstValue Fine e k → FirstValue₂ Fine₂ (plain-line e) k
  plain-first k f = record {
    value = value f.value;
    before = f.before;
    stands = plain_at f.stands;
    fault = λ h. f.fault ((same f.value).1 h);
    first = plain-least (length f.before) f.first;
    at = f.at;
  }

pub one-first : {Fine : Value₂ → Type 0} {l : Line} {j k : ℕ} → FirstValue₂ Fine l j → FirstValue₂ Fine l k → j ≡ k
one-first a b =
    omega (arith, a.at, b.at, a.first b.value b.before b.stands b.fault, b.first a.value a.before a.stands a.fault)
