-- Each field of a line is scanned as it is printed, and printed as it was scanned.
use mathlib.Core.Path.{◌≡◌, refl, sym, ◌∙◌, ap, ap₂}
use mathlib.Core.Logic.{◌⊎◌, inl, inr, ⊎_elim}
use mathlib.Core.Option.{Option, none, some}
use mathlib.Core.Bool.{Bool, true, false}
use mathlib.Core.List.{List, [], ◌∷◌, ◌++◌, append_assoc}
use Prim.Native.Nat.{ℕ, zero, suc, ◌+◌, ◌-◌, ◌≤◌}
use native.Mathlib.Omega.{arith}
use lib.ListN.{length, length-append}
use lib.Dec.{eqb}
use borrow.Author.Tests.{eqb-true, ne_eqb, eq-eqb}
use Rattle.answer.specs.Limits.{max_digits}
use Rattle.model.specs.Text.{byte0, comma, dash, Kind, in-kind, out-kind, uin-kind, uout-kind, kind_word, decimal, joined, guard_field}
use Rattle.model.specs.Reading.{Got, Scan, is, stops, got, then, furthest, exactly, the_byte, number, more_numbers, numbers, guard_or_dash}
use Rattle.model.specs.Reading.{numbers_or_dash, kind, guard_of}
use Rattle.model.specs.Line.{Fits, AllFit, ListFits, GuardFits, list_field, Ends, Any, Exact}
use Rattle.model.proofs.Reading.Scans.{is-inj, no-is, then_is}
use Rattle.model.proofs.Reading.Number.{NoDigit, digits_of_lem, number-printed, number-scanned}

-- ---- one of two scans
pub furthest-is : {A : Type 0} (o p : Scan A) {g : Got A} → furthest o p ≡ is g → (o ≡ is g) ⊎ (p ≡ is g)
furthest-is (is h) p e = inl e
furthest-is (stops cs) (is h) e = inr e
furthest-is (stops cs) (stops ds) e = absurd (no-is refl e)

-- ---- fixed bytes
pub exactly-printed : (ws bs : List ℕ) → exactly ws (ws ++ bs) ≡ got tt bs
unfolding exactly
exactly-printed [] bs = refl
exactly-printed (w ∷ ws) bs = rw (eq-eqb w w refl, exactly) (exactly-printed ws bs)

pub exactly-scanned : (ws bs : List ℕ) (g : Got (Unit {0})) → exactly ws bs ≡ is g → bs ≡ ws ++ g.rest
unfolding exactly
exactly-scanned [] bs g e = ap (λ (h : Got (Unit {0})). h.rest) (is-inj e)
exactly-scanned (w ∷ ws) [] g e = absurd (no-is refl e)
exactly-scanned (w ∷ ws) (b ∷ bs) g e = go (exactly-scanned ws bs g) (eqb w b) refl e
  where
    go : (exactly ws bs ≡ is g → bs ≡ ws ++ g.rest) → (t : Bool) → eqb w b ≡ t
        → (elim t as (λ _. Scan (Unit {0})) [ true ↦ exactly ws bs | false ↦ stops (b ∷ bs) ]) ≡ is g → b ∷ bs ≡ (w ∷ ws) ++ g.rest
    go ih true q e = ap₂ {C = List ℕ} (λ n l. n ∷ l) (sym (eqb-true w b q)) (ih e)
    go ih false q e = absurd (no-is refl e)

-- ---- a number
pub ends-no-digit : (bs : List ℕ) → Ends bs → NoDigit bs
ends-no-digit [] e = tt
ends-no-digit (b ∷ bs) e = e.0

pub number-exact : Exact number decimal Fits Ends
number-exact = record { printed = λ n bs h e. number-printed n bs h (ends-no-digit bs e); scanned = number-scanned }

-- a number begins with a digit, so with no dash
pub number-no-dash : (n : ℕ) (bs : List ℕ) → Fits n → the_byte dash (decimal n ++ bs) ≡ stops (decimal n ++ bs)
unfolding decimal exactly
number-no-dash n bs h =
    let d = digits_of_lem (max_digits - 1) n h in
    rw d.here (rw (ne_eqb dash (byte0 + d.lead) (omega arith), exactly))

-- ---- `in`, `out`, `uin`, `uout`
kind-printed : (k : Kind) (bs : List ℕ) → kind (kind_word k ++ bs) ≡ got k bs
unfolding kind exactly
kind-printed in-kind bs = refl
kind-printed out-kind bs = refl
kind-printed uin-kind bs = refl
kind-printed uout-kind bs = refl

kind-word : (k : Kind) (bs : List ℕ) (g : Got Kind) → then (exactly (kind_word k) bs) (λ _ cs. got k cs) ≡ is g → bs ≡ kind_word g.value ++ g.rest
kind-word k bs g e =
    let t = then_is (exactly (kind_word k) bs) (λ _ cs. got k cs) e in
    let q = is-inj t.2 in
    rw (← q) (exactly-scanned (kind_word k) bs t.0 t.1)

kind-scanned : (bs : List ℕ) (g : Got Kind) → kind bs ≡ is g → bs ≡ kind_word g.value ++ g.rest
unfolding kind
kind-scanned bs g e =
    ⊎_elim (kind-word in-kind bs g) (λ e.
    ⊎_elim (kind-word out-kind bs g) (λ e.
    ⊎_elim (kind-word uin-kind bs g) (kind-word uout-kind bs g)
    (furthest-is (word uin-kind) (word uout-kind) e))
    (furthest-is (word out-kind) (furthest (word uin-kind) (word uout-kind)) e))
    (furthest-is (word in-kind) (furthest (word out-kind) (furthest (word uin-kind) (word uout-kind))) e)
  where
    word : Kind → Scan Kind
    word k = then (exactly (kind_word k) bs) (λ _ cs. got k cs)

pub kind-exact : Exact kind kind_word (λ k. Unit {0}) Any
kind-exact = record { printed = λ k bs h e. kind-printed k bs; scanned = λ bs g e. (kind-scanned bs g e, tt) }

-- ---- a guard
guard-printed : (o : Option ℕ) (bs : List ℕ) → GuardFits o → Ends bs → guard_or_dash (guard_field (guard_of o) ++ bs) ≡ got o bs
unfolding guard_or_dash guard_field exactly
guard-printed none bs h e = refl
guard-printed (some x) bs h e = rw (number-no-dash x bs h, guard_or_dash) (rw (number-exact.printed x bs h e))

guard-scanned : (bs : List ℕ) (g : Got (Option ℕ)) → guard_or_dash bs ≡ is g → (bs ≡ guard_field (guard_of g.value) ++ g.rest) × GuardFits g.value
unfolding guard_or_dash guard_field
guard-scanned bs g e = go (the_byte dash bs) refl e
  where
    go : (o : Scan (Unit {0})) → the_byte dash bs ≡ o
        → (elim o as (λ _. Scan (Option ℕ)) [ is g ↦ got none g.rest | stops cs ↦ then (number bs) (λ x cs. got (some x) cs) ]) ≡ is g
        → (bs ≡ guard_field (guard_of g.value) ++ g.rest) × GuardFits g.value
    go (is h) q e = rw (← (is-inj e)) (exactly-scanned (dash ∷ []) bs h q, tt)
    go (stops cs) q e =
        let t = then_is (number bs) (λ x cs. got (some x) cs) e in
        rw (← (is-inj t.2)) (number-exact.scanned bs t.0 t.1)

pub guard-exact : Exact guard_or_dash (λ o. guard_field (guard_of o)) GuardFits Ends
guard-exact = record { printed = guard-printed; scanned = guard-scanned }

-- ---- numbers joined by commas
-- what stands behind the first number
abbrev pub further : List ℕ → List ℕ
further [] = []
further (n ∷ ns) = comma ∷ joined (n ∷ ns)

pub joined-first : (n : ℕ) (ns : List ℕ) → joined (n ∷ ns) ≡ decimal n ++ further ns
unfolding joined
joined-first n [] = refl
joined-first n (m ∷ ns) = refl

further-ends : (ns bs : List ℕ) → Ends bs → NoDigit (further ns ++ bs)
further-ends [] bs e = ends-no-digit bs e
further-ends (n ∷ ns) bs e = refl

first-printed : (n : ℕ) (ns bs : List ℕ) → Fits n → Ends bs → number (joined (n ∷ ns) ++ bs) ≡ got n (further ns ++ bs)
first-printed n ns bs h e =
    ap (λ (l : List ℕ). number (l ++ bs)) (joined-first n ns) ∙ ap number (append_assoc (decimal n) (further ns) bs)
    ∙ number-printed n (further ns ++ bs) h (further-ends ns bs e)

further-printed : (k : ℕ) (ns bs : List ℕ) → length ns ≤ k → AllFit ns → Ends bs → more_numbers k (further ns ++ bs) ≡ got ns bs
unfolding more_numbers
further-printed zero [] bs l h e = refl
further-printed (suc k) [] [] l h e = refl
further-printed (suc k) [] (b ∷ bs) l h e = rw (e.1, more_numbers)
further-printed zero (n ∷ ns) bs l h e = absurd (omega arith)
further-printed (suc k) (n ∷ ns) bs l h e = rw (first-printed n ns bs h.0 e) (rw (further-printed k ns bs (omega arith) h.1 e))

-- what a list of numbers that was read tells
record ReadList (bs : List ℕ) (g : Got (List ℕ)) : Type 0 where
  first : ℕ
  others : List ℕ
  value : g.value ≡ first ∷ others
  front : bs ≡ joined (first ∷ others) ++ g.rest
  fit : AllFit (first ∷ others)

abbrev Further : (k : ℕ) → Type 0
Further k = (bs : List ℕ) (g : Got (List ℕ)) → more_numbers k bs ≡ is g → (bs ≡ further g.value ++ g.rest) × AllFit g.value

list-scanned : (k : ℕ) → Further k → (bs : List ℕ) (h : Got ℕ) (g : Got (List ℕ))
    → number bs ≡ is h → then (more_numbers k h.rest) (λ ns ds. got (h.value ∷ ns) ds) ≡ is g → ReadList bs g
list-scanned k ih bs h g d e =
    let u = then_is (more_numbers k h.rest) (λ ns ds. got (h.value ∷ ns) ds) e in
    let p = number-scanned bs h d in
    let q = ih h.rest u.0 u.1 in
    let r = is-inj u.2 in
    record {
      first = h.value;
      others = u.0.value;
      value = sym (ap (λ (h : Got (List ℕ)). h.value) r);
      front =
          p.0 ∙ ap (λ (l : List ℕ). decimal h.value ++ l) q.0 ∙ sym (append_assoc (decimal h.value) (further u.0.value) u.0.rest)
          ∙ ap₂ {C = List ℕ} (λ (l m : List ℕ). l ++ m) (sym (joined-first h.value u.0.value)) (ap (λ (h : Got (List ℕ)). h.rest) r);
      fit = (p.1, q.1);
    }

further-scanned : (k : ℕ) → Further k
unfolding more_numbers
further-scanned zero bs g e = rw (← (is-inj e)) (refl, tt)
further-scanned (suc k) [] g e = rw (← (is-inj e)) (refl, tt)
further-scanned (suc k) (b ∷ bs) g e = go (λ h. list-scanned k (further-scanned k) bs h g) (eqb b comma) refl e
  where
    go : ((h : Got ℕ) → number bs ≡ is h → then (more_numbers k h.rest) (λ ns ds. got (h.value ∷ ns) ds) ≡ is g → ReadList bs g) → (t : Bool)
        → eqb b comma ≡ t
        → (elim t as (λ _. Scan (List ℕ)) [
          | true ↦ then (number bs) (λ n cs. then (more_numbers k cs) (λ ns ds. got (n ∷ ns) ds))
          | false ↦ got []
              (b ∷ bs)
        ]) ≡ is g
        → (b ∷ bs ≡ further g.value ++ g.rest) × AllFit g.value
    go ih false q e = rw (← (is-inj e)) (refl, tt)
    go ih true q e =
        let t = then_is (number bs) (λ n cs. then (more_numbers k cs) (λ ns ds. got (n ∷ ns) ds)) e in
        let r = ih t.0 t.1 t.2 in
        rw r.value (ap₂ {C = List ℕ} (λ n l. n ∷ l) (eqb-true b comma q) r.front, r.fit)

further-long : (ns bs : List ℕ) → length ns ≤ length (further ns ++ bs)
further-long [] bs = omega arith
further-long (n ∷ ns) bs =
    omega (
      arith,
      further-long ns bs,
      ap (λ (l : List ℕ). length (l ++ bs)) (joined-first n ns),
      length-append (decimal n ++ further ns) bs,
      length-append (decimal n) (further ns),
      length-append (further ns) bs,
    )

numbers-printed : (ns bs : List ℕ) → ListFits ns → Ends bs → numbers (joined ns ++ bs) ≡ got ns bs
unfolding numbers
numbers-printed [] bs h e = absurd h
numbers-printed (n ∷ ns) bs h e = rw (first-printed n ns bs h.0 e) (rw (further-printed (length (further ns ++ bs)) ns bs (further-long ns bs) h.1 e))

numbers-read : (bs : List ℕ) (g : Got (List ℕ)) → numbers bs ≡ is g → ReadList bs g
unfolding numbers
numbers-read bs g e =
    let t = then_is (number bs) (λ n cs. then (more_numbers (length cs) cs) (λ ns ds. got (n ∷ ns) ds)) e in
    list-scanned (length t.0.rest) (further-scanned (length t.0.rest)) bs t.0 g t.1 t.2

pub numbers-exact : Exact numbers joined ListFits Ends
numbers-exact = record { printed = numbers-printed; scanned = λ bs g e. let r = numbers-read bs g e in rw r.value (r.front, r.fit) }

-- ---- `-`, or numbers
list-no-dash : (n : ℕ) (ns bs : List ℕ) → Fits n → the_byte dash (joined (n ∷ ns) ++ bs) ≡ stops (joined (n ∷ ns) ++ bs)
list-no-dash n ns bs h =
    let e = ap (λ (l : List ℕ). l ++ bs) (joined-first n ns) ∙ append_assoc (decimal n) (further ns) bs in
    ap (the_byte dash) e ∙ number-no-dash n (further ns ++ bs) h ∙ ap {B = Scan (Unit {0})} stops (sym e)

list-printed : (ns bs : List ℕ) → AllFit ns → Ends bs → numbers_or_dash (list_field ns ++ bs) ≡ got ns bs
unfolding numbers_or_dash list_field exactly
list-printed [] bs h e = refl
list-printed (n ∷ ns) bs h e = rw (list-no-dash n ns bs h.0, numbers_or_dash) (numbers-printed (n ∷ ns) bs h e)

list-or-dash-scanned : (bs : List ℕ) (g : Got (List ℕ)) → numbers_or_dash bs ≡ is g → (bs ≡ list_field g.value ++ g.rest) × AllFit g.value
unfolding numbers_or_dash list_field
list-or-dash-scanned bs g e = go (the_byte dash bs) refl e
  where
    go : (o : Scan (Unit {0})) → the_byte dash bs ≡ o → (elim o as (λ _. Scan (List ℕ)) [ is g ↦ got [] g.rest | stops cs ↦ numbers bs ]) ≡ is g
        → (bs ≡ list_field g.value ++ g.rest) × AllFit g.value
    go (is h) q e = rw (← (is-inj e)) (exactly-scanned (dash ∷ []) bs h q, tt)
    go (stops cs) q e = let r = numbers-read bs g e in rw r.value (r.front, r.fit)

pub list-exact : Exact numbers_or_dash list_field AllFit Ends
list-exact = record { printed = list-printed; scanned = list-or-dash-scanned }
