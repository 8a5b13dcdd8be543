-- What a scan says up to the byte where it stops does not depend on the bytes behind that byte.
use mathlib.Core.Path.{◌≡◌, refl, sym, ◌∙◌, ap, ap₂, subst}
use mathlib.Core.Bool.{Bool, true, false, cond}
use mathlib.Core.List.{List, [], ◌∷◌, ◌++◌, append_assoc, append_cancel_right}
use mathlib.Core.Option.{none, some}
use Prim.Native.Nat.{ℕ, zero, suc, ◌+◌, ◌*◌, ◌-◌, ◌≤◌, ◌<◌}
use native.Mathlib.Omega.{arith}
use native.Mathlib.Decide.{dec_lt}
use lib.ListN.{length, length-append}
use lib.Dec.{eqb, ltb}
use borrow.Author.Tests.{lt-ltb, le-ltb}
use Rattle.answer.specs.Limits.{max_digits}
use Rattle.model.specs.Text.{byte0, tab, lf, comma, dash, Kind, in-kind, out-kind, uin-kind, uout-kind, kind_word}
use Rattle.model.specs.Reading.{Got, Scan, is, stops, got, then, shorter, furthest, exactly, the_byte, is_digit, more_digits, number, more_numbers}
use Rattle.model.specs.Reading.{numbers, guard_or_dash, numbers_or_dash, kind, field, ended, Entry}
use Rattle.model.specs.Line.{Any, Exact}
use Rattle.model.proofs.Reading.Scans.{stops-inj, no-is}
use Rattle.model.proofs.Reading.Fields.{kind-exact}

-- the bytes that a scan leaves, and the same scan with other bytes left
abbrev pub rest_of : {A : Type 0} → Scan A → List ℕ
rest_of (is g) = g.rest
rest_of (stops cs) = cs

abbrev pub leaving : {A : Type 0} → Scan A → List ℕ → Scan A
leaving (is g) cs = got g.value cs
leaving (stops ds) cs = stops cs

abbrev choose : {A : Type 0} → Bool → Scan A → Scan A → Scan A
choose {A} v x y = elim v as (λ _. Scan A) [ true ↦ x | false ↦ y ]

-- a scan leaves an end of the bytes; where the byte c is left, it does not matter what stands behind c
pub record Local {A : Type 0} (scan : List ℕ → Scan A) : Type 0 where
  pub front : (bs : List ℕ) → (f : List ℕ) × (bs ≡ f ++ rest_of (scan bs))
  pub same : (p : List ℕ) (c : ℕ) (r s q : List ℕ) → rest_of (scan (p ++ c ∷ r)) ≡ q ++ c ∷ r → scan (p ++ c ∷ s) ≡ leaving (scan (p ++ c ∷ r)) (q ++ c ∷ s)

-- other bytes behind the same
pub behind : (p q : List ℕ) (c : ℕ) (r s : List ℕ) → p ++ c ∷ r ≡ q ++ c ∷ r → p ++ c ∷ s ≡ q ++ c ∷ s
behind p q c r s e = ap (λ (l : List ℕ). l ++ c ∷ s) (append_cancel_right p q (c ∷ r) e)

module _ {A : Type 0} where
  -- a scan that computes as another is local as that is
  pub local-as : {S T : List ℕ → Scan A} → ((bs : List ℕ) → S bs ≡ T bs) → Local T → Local S
  local-as {S} {T} e l =
      record {
        front = λ bs. let f = l.front bs in (f.0, f.1 ∙ ap (λ o. f.0 ++ rest_of o) (sym (e bs)));
        same = λ p c r s q h. e (p ++ c ∷ s) ∙ l.same p c r s q (ap rest_of (sym (e (p ++ c ∷ r))) ∙ h) ∙ ap (λ o. leaving o (q ++ c ∷ s)) (sym (e
            (p ++ c ∷ r)));
      }

  -- a scan that takes no byte
  pub got-local : (x : A) → Local (λ bs. got x bs)
  got-local x = record { front = λ bs. ([], refl); same = λ p c r s q h. ap (λ l. got x l) (behind p q c r s h) }

  stops-local : Local {A = A} (λ bs. stops bs)
  stops-local = record { front = λ bs. ([], refl); same = λ p c r s q h. ap (λ l. stops l) (behind p q c r s h) }

  -- a byte is tested: it is taken, and the scan goes on behind it, or nothing is
  abbrev pub testing : (ℕ → Bool) → (ℕ → List ℕ → Scan A) → (List ℕ → Scan A) → List ℕ → Scan A
  testing t T H [] = H []
  testing t T H (b ∷ bs) = elim (t b) as (λ _. Scan A) [ true ↦ T b bs | false ↦ H (b ∷ bs) ]

  module _ (t : ℕ → Bool) (T : ℕ → List ℕ → Scan A) (H : List ℕ → Scan A) (each : (b : ℕ) → Local (T b)) (halts : Local H) (whole : (bs : List ℕ) → rest_of
      (H bs) ≡ bs) where
    test-front : (bs : List ℕ) → (f : List ℕ) × (bs ≡ f ++ rest_of (testing t T H bs))
    test-front [] = ([], sym (whole []))
    test-front (b ∷ bs) = go (t b)
      where
        go : (v : Bool) → (f : List ℕ) × (b ∷ bs ≡ f ++ rest_of (choose v (T b bs) (H (b ∷ bs))))
        go true = let f = (each b).front bs in (b ∷ f.0, ap {B = List ℕ} (λ l. b ∷ l) f.1)
        go false = ([], sym (whole (b ∷ bs)))

    test-same : (p : List ℕ) (c : ℕ) (r s q : List ℕ) → rest_of (testing t T H (p ++ c ∷ r)) ≡ q ++ c ∷ r
        → testing t T H (p ++ c ∷ s) ≡ leaving (testing t T H (p ++ c ∷ r)) (q ++ c ∷ s)
    test-same [] c r s q h = go (t c) h
      where
        go : (v : Bool) → rest_of (choose v (T c r) (H (c ∷ r))) ≡ q ++ c ∷ r
            → (choose v (T c s) (H (c ∷ s))) ≡ leaving (choose v (T c r) (H (c ∷ r))) (q ++ c ∷ s)
        go true h =
            let f = (each c).front r in
            absurd (omega (arith, ap length f.1, length-append f.0 (rest_of (T c r)), ap length h, length-append q (c ∷ r)))
        go false h = halts.same [] c r s q h
    test-same (b ∷ p) c r s q h = go (t b) h
      where
        go : (v : Bool) → rest_of (choose v (T b (p ++ c ∷ r)) (H (b ∷ (p ++ c ∷ r)))) ≡ q ++ c ∷ r
            → (choose v (T b (p ++ c ∷ s)) (H (b ∷ (p ++ c ∷ s))))
            ≡ leaving (choose v (T b (p ++ c ∷ r)) (H (b ∷ (p ++ c ∷ r)))) (q ++ c ∷ s)
        go true h = (each b).same p c r s q h
        go false h = halts.same (b ∷ p) c r s q h

    pub test-local : Local (testing t T H)
    test-local = record { front = test-front; same = test-same }

-- one scan, then another
module _ {A B : Type 0} (S : List ℕ → Scan A) (T : A → List ℕ → Scan B) (first : Local S) (second : (x : A) → Local (T x)) where
  pub then-local : Local (λ bs. then (S bs) T)
  then-local = record { front = front_of; same = same_of }
    where
      front_of : (bs : List ℕ) → (f : List ℕ) × (bs ≡ f ++ rest_of (then (S bs) T))
      front_of bs = go (S bs) (first.front bs)
        where
          go : (o : Scan A) → (f : List ℕ) × (bs ≡ f ++ rest_of o) → (f : List ℕ) × (bs ≡ f ++ rest_of (then o T))
          go (stops cs) f = f
          go (is g) f =
              let k = (second g.value).front g.rest in
              (f.0 ++ k.0, f.1 ∙ ap (λ (l : List ℕ). f.0 ++ l) k.1 ∙ sym (append_assoc f.0 k.0 (rest_of (T g.value g.rest))))

      same_of : (p : List ℕ) (c : ℕ) (r s q : List ℕ) → rest_of (then (S (p ++ c ∷ r)) T) ≡ q ++ c ∷ r
          → then (S (p ++ c ∷ s)) T ≡ leaving (then (S (p ++ c ∷ r)) T) (q ++ c ∷ s)
      same_of p c r s q h = go (S (p ++ c ∷ r)) refl h
        where
          go : (o : Scan A) → S (p ++ c ∷ r) ≡ o → rest_of (then o T) ≡ q ++ c ∷ r → then (S (p ++ c ∷ s)) T ≡ leaving (then o T) (q ++ c ∷ s)
          go (stops cs) e h =
              ap (λ o. then o T) (first.same p c r s q (ap rest_of e ∙ h) ∙ ap (λ o. leaving o (q ++ c ∷ s)) e)
          go (is g) e h =
              let k = (second g.value).front g.rest in
              let m = k.0 ++ q in
              let left : g.rest ≡ m ++ c ∷ r = k.1 ∙ ap (λ (l : List ℕ). k.0 ++ l) h ∙ sym (append_assoc k.0 q (c ∷ r)) in
              let one : S (p ++ c ∷ s) ≡ got g.value (m ++ c ∷ s) = first.same p c r s m (ap rest_of e ∙ left) ∙ ap (λ o. leaving o (m ++ c ∷ s)) e in
              let two = (second g.value).same m c r s q (ap (λ l. rest_of (T g.value l)) (sym left) ∙ h) in
              ap (λ o. then o T) one ∙ two ∙ ap (λ l. leaving (T g.value l) (q ++ c ∷ s)) (sym left)

-- ---- each scan
pub exactly-local : (ws : List ℕ) → Local (exactly ws)
unfolding exactly
exactly-local [] = local-as (λ bs. refl) (got-local tt)
exactly-local (w ∷ ws) = local-as computes (test-local (eqb w) (λ _ bs. exactly ws bs) (λ bs. stops bs) (λ _. exactly-local ws) stops-local (λ bs. refl))
  where
    computes : (bs : List ℕ) → exactly (w ∷ ws) bs ≡ testing (eqb w) (λ _ bs. exactly ws bs) (λ bs. stops bs) bs
    computes [] = refl
    computes (b ∷ bs) = refl

digits-local : (k n : ℕ) → Local (λ bs. is (more_digits k n bs))
unfolding more_digits
digits-local zero n = local-as (λ bs. refl) (got-local n)
digits-local (suc k) n =
    local-as computes (test-local is_digit (λ b bs. is (more_digits k (n * 10 + (b - byte0)) bs)) (λ bs. got n bs) (λ b. digits-local k (n * 10 + (b - byte0)))
    (got-local n) (λ bs. refl))
  where
    computes : (bs : List ℕ) → is (more_digits (suc k) n bs) ≡ testing is_digit (λ b bs. is (more_digits k (n * 10 + (b - byte0)) bs)) (λ bs. got n bs) bs
    computes [] = refl
    computes (b ∷ bs) = go (is_digit b)
      where
        go : (v : Bool)
            → ◌≡◌ {A = Scan ℕ} (is (elim v as (λ _. Got ℕ) [ true ↦ more_digits k (n * 10 + (b - byte0)) bs | false ↦ record { value = n; rest = b ∷ bs } ]))
            (choose v (is (more_digits k (n * 10 + (b - byte0)) bs)) (got n (b ∷ bs)))
        go true = refl
        go false = refl

pub number-local : Local number
unfolding number
number-local = local-as computes (test-local is_digit behind-first (λ bs. stops bs) each stops-local (λ bs. refl))
  where
    behind-first : ℕ → List ℕ → Scan ℕ
    behind-first b bs = elim (eqb b byte0) as (λ _. Scan ℕ) [ true ↦ got 0 bs | false ↦ is (more_digits (max_digits - 1) (b - byte0) bs) ]

    each : (b : ℕ) → Local (behind-first b)
    each b = go (eqb b byte0)
      where
        go : (v : Bool) → Local (λ bs. choose v (got 0 bs) (is (more_digits (max_digits - 1) (b - byte0) bs)))
        go true = got-local 0
        go false = digits-local (max_digits - 1) (b - byte0)

    computes : (bs : List ℕ) → number bs ≡ testing is_digit behind-first (λ bs. stops bs) bs
    computes [] = refl
    computes (b ∷ bs) = refl

-- numbers behind commas: whatever the bound, if that is no less than the bytes left
listed : (k : ℕ) → Local (more_numbers k) → Local (λ bs. then (number bs) (λ n cs. then (more_numbers k cs) (λ ns ds. got (n ∷ ns) ds)))
listed k l =
    then-local number (λ n cs. then (more_numbers k cs) (λ ns ds. got (n ∷ ns) ds)) number-local
    (λ n. then-local (more_numbers k) (λ ns ds. got (n ∷ ns) ds) l (λ ns. got-local (n ∷ ns)))

more-local : (k : ℕ) → Local (more_numbers k)
unfolding more_numbers
more-local zero = local-as (λ bs. refl) (got-local [])
more-local (suc k) =
    local-as computes (test-local (λ b. eqb b comma) (λ _ bs. list bs) (λ bs. got [] bs) (λ _. listed k (more-local k)) (got-local []) (λ bs. refl))
  where
    list : List ℕ → Scan (List ℕ)
    list bs = then (number bs) (λ n cs. then (more_numbers k cs) (λ ns ds. got (n ∷ ns) ds))

    computes : (bs : List ℕ) → more_numbers (suc k) bs ≡ testing (λ b. eqb b comma) (λ _ bs. list bs) (λ bs. got [] bs) bs
    computes [] = refl
    computes (b ∷ bs) = refl

number-left : (bs : List ℕ) (g : Got ℕ) → number bs ≡ is g → length g.rest ≤ length bs
number-left bs g e =
    let f = number-local.front bs in
    omega (arith, ap length f.1, length-append f.0 (rest_of (number bs)), ap (λ o. length (rest_of o)) e)

more-bound : (f g : ℕ) (bs : List ℕ) → length bs ≤ f → length bs ≤ g → more_numbers f bs ≡ more_numbers g bs
unfolding more_numbers
more-bound zero zero bs l m = refl
more-bound zero (suc g) [] l m = refl
more-bound zero (suc g) (b ∷ bs) l m = absurd (omega arith)
more-bound (suc f) zero [] l m = refl
more-bound (suc f) zero (b ∷ bs) l m = absurd (omega arith)
more-bound (suc f) (suc g) [] l m = refl
more-bound (suc f) (suc g) (b ∷ bs) l m = go (λ cs l m. more-bound f g cs l m) (number bs) refl (eqb b comma)
  where
    list : ℕ → Scan ℕ → Scan (List ℕ)
    list k o = then o (λ n cs. then (more_numbers k cs) (λ ns ds. got (n ∷ ns) ds))

    go : ((cs : List ℕ) → length cs ≤ f → length cs ≤ g → more_numbers f cs ≡ more_numbers g cs) → (o : Scan ℕ) → number bs ≡ o → (v : Bool)
        → (choose v (list f (number bs)) (got [] (b ∷ bs))) ≡ (choose v (list g (number bs)) (got [] (b ∷ bs)))
    go ih o e false = refl
    go ih (stops cs) e true = rw e
    go ih (is n) e true =
        let h = number-left bs n e in
        ap (list f) e ∙ ap (λ o. then o (λ ns ds. got (n.value ∷ ns) ds)) (ih n.rest (omega arith) (omega arith)) ∙ ap (list g) (sym e)

-- as many numbers as there are bytes
enough-local : Local (λ bs. more_numbers (length bs) bs)
enough-local =
    record {
      front = λ bs. (more-local (length bs)).front bs;
      same = λ p c r s q h.
          let P = p ++ c ∷ r in
          let Q = p ++ c ∷ s in
          let k = length P + length Q in
          let at_p = more-bound (length P) k P (omega arith) (omega arith) in
          let at-q = more-bound (length Q) k Q (omega arith) (omega arith) in
          at-q ∙ (more-local k).same p c r s q (ap rest_of (sym at_p) ∙ h) ∙ ap (λ o. leaving o (q ++ c ∷ s)) (sym at_p);
    }

numbers-local : Local numbers
unfolding numbers
numbers-local =
    then-local number (λ n cs. then (more_numbers (length cs) cs) (λ ns ds. got (n ∷ ns) ds)) number-local
    (λ n. then-local (λ cs. more_numbers (length cs) cs) (λ ns ds. got (n ∷ ns) ds) enough-local (λ ns. got-local (n ∷ ns)))

-- a dash, or another scan of the same bytes
module _ {A : Type 0} (x : A) (S : List ℕ → Scan A) (other : Local S) where
  abbrev dash_or : List ℕ → Scan A
  dash_or bs = elim (the_byte dash bs) as (λ _. Scan A) [ is g ↦ got x g.rest | stops cs ↦ S bs ]

  dash-local : Local dash_or
  unfolding exactly
  dash-local = local-as computes (record { front = front_of; same = same_of })
    where
      is_dash : ℕ → Bool
      is_dash b = eqb dash b

      simple : List ℕ → Scan A
      simple [] = S []
      simple (b ∷ bs) = elim (eqb dash b) as (λ _. Scan A) [ true ↦ got x bs | false ↦ S (b ∷ bs) ]

      computes : (bs : List ℕ) → dash_or bs ≡ simple bs
      computes [] = refl
      computes (b ∷ bs) = go (eqb dash b)
        where
          go : (v : Bool) → ◌≡◌ {A = Scan A} (elim (choose {A = Unit {0}} v (got tt bs) (stops (b ∷ bs))) as (λ _. Scan A) [
            | is g ↦ got x
                g.rest
            | stops cs ↦ S (b ∷ bs)
          ])
              (choose v (got x bs) (S (b ∷ bs)))
          go true = refl
          go false = refl

      front_of : (bs : List ℕ) → (f : List ℕ) × (bs ≡ f ++ rest_of (simple bs))
      front_of [] = other.front []
      front_of (b ∷ bs) = go (eqb dash b)
        where
          go : (v : Bool) → (f : List ℕ) × (b ∷ bs ≡ f ++ rest_of (choose v (got x bs) (S (b ∷ bs))))
          go true = (b ∷ [], refl)
          go false = other.front (b ∷ bs)

      same_of : (p : List ℕ) (c : ℕ) (r s q : List ℕ) → rest_of (simple (p ++ c ∷ r)) ≡ q ++ c ∷ r
          → simple (p ++ c ∷ s) ≡ leaving (simple (p ++ c ∷ r)) (q ++ c ∷ s)
      same_of [] c r s q h = go (eqb dash c) h
        where
          go : (v : Bool) → rest_of (choose v (got x r) (S (c ∷ r))) ≡ q ++ c ∷ r
              → (choose v (got x s) (S (c ∷ s))) ≡ leaving (choose v (got x r) (S (c ∷ r))) (q ++ c ∷ s)
          go true h = absurd (omega (arith, ap length h, length-append q (c ∷ r)))
          go false h = other.same [] c r s q h
      same_of (b ∷ p) c r s q h = go (eqb dash b) h
        where
          go : (v : Bool) → rest_of (choose v (got x (p ++ c ∷ r)) (S (b ∷ (p ++ c ∷ r)))) ≡ q ++ c ∷ r
              → (choose v (got x (p ++ c ∷ s)) (S (b ∷ (p ++ c ∷ s))))
              ≡ leaving (choose v (got x (p ++ c ∷ r)) (S (b ∷ (p ++ c ∷ r)))) (q ++ c ∷ s)
          go true h = ap (λ l. got x l) (behind p q c r s h)
          go false h = other.same (b ∷ p) c r s q h

pub guard-local : Local guard_or_dash
unfolding guard_or_dash
guard-local = dash-local none (λ bs. then (number bs) (λ x cs. got (some x) cs)) (then-local number (λ x cs. got (some x) cs) number-local (λ x. got-local
    (some x)))

pub list-local : Local numbers_or_dash
unfolding numbers_or_dash
list-local = dash-local [] numbers numbers-local

-- ---- where several words stop, the one that got furthest tells where
-- of two ends of the same bytes the longer has the shorter at its own end
longer-end : (f m g n : List ℕ) → f ++ m ≡ g ++ n → length n ≤ length m → (k : List ℕ) × (m ≡ k ++ n)
longer-end [] m g n e h = (g, e)
longer-end (x ∷ f) m [] n e h = absurd (omega (arith, ap length e, length-append f m))
longer-end (x ∷ f) m (y ∷ g) n e h = longer-end f m g n (tails e) h
  where
    tails : {a b : ℕ} {l k : List ℕ} → a ∷ l ≡ b ∷ k → l ≡ k
    tails {l = l} e = ap (λ (z : List ℕ). elim z as (λ _. List ℕ) [ [] ↦ l | x ∷ xs ↦ xs ]) e

shorter-one : (m n : List ℕ) → length m < length n → shorter m n ≡ m
unfolding shorter
shorter-one m n h = rw (lt-ltb (length m) (length n) h)

shorter-two : (m n : List ℕ) → length n ≤ length m → shorter m n ≡ n
unfolding shorter
shorter-two m n h = rw (le-ltb (length m) (length n) h)

pub shorter-least : (m n : List ℕ) → (length (shorter m n) ≤ length m) × (length (shorter m n) ≤ length n)
shorter-least m n = go (dec_lt (length m) (length n))
  where
    go : Dec (length m < length n) → (length (shorter m n) ≤ length m) × (length (shorter m n) ≤ length n)
    go (yes h) = let e = ap length (shorter-one m n h) in (omega arith, omega arith)
    go (no h) = let e = ap length (shorter-two m n (omega arith)) in (omega arith, omega arith)

-- it is one of the two
pub shorter-either : (P : List ℕ → Type 0) (m n : List ℕ) → P m → P n → P (shorter m n)
unfolding shorter
shorter-either P m n a b = go (ltb (length m) (length n))
  where
    go : (v : Bool) → P (cond v m n)
    go true = a
    go false = b

shorter-behind : (m n q : List ℕ) (c : ℕ) (r s : List ℕ) → shorter (m ++ c ∷ r) (n ++ c ∷ r) ≡ q ++ c ∷ r → shorter (m ++ c ∷ s) (n ++ c ∷ s) ≡ q ++ c ∷ s
shorter-behind m n q c r s e = go (dec_lt (length m) (length n))
  where
    go : Dec (length m < length n) → shorter (m ++ c ∷ s) (n ++ c ∷ s) ≡ q ++ c ∷ s
    go (yes h) =
        shorter-one (m ++ c ∷ s) (n ++ c ∷ s) (omega (arith, length-append m (c ∷ s), length-append n (c ∷ s)))
        ∙ behind m q c r s (sym (shorter-one (m ++ c ∷ r) (n ++ c ∷ r) (omega (arith, length-append m (c ∷ r), length-append n (c ∷ r)))) ∙ e)
    go (no h) =
        shorter-two (m ++ c ∷ s) (n ++ c ∷ s) (omega (arith, length-append m (c ∷ s), length-append n (c ∷ s)))
        ∙ behind n q c r s (sym (shorter-two (m ++ c ∷ r) (n ++ c ∷ r) (omega (arith, length-append m (c ∷ r), length-append n (c ∷ r)))) ∙ e)

-- where it stops, a scan leaves an end of the bytes, and where it stops at c it does not matter what stands behind c
pub record StopLocal {A : Type 0} (scan : List ℕ → Scan A) : Type 0 where
  pub front : (bs m : List ℕ) → scan bs ≡ stops m → (f : List ℕ) × (bs ≡ f ++ m)
  pub same : (p : List ℕ) (c : ℕ) (r s q : List ℕ) → scan (p ++ c ∷ r) ≡ stops (q ++ c ∷ r) → scan (p ++ c ∷ s) ≡ stops (q ++ c ∷ s)

module _ {A : Type 0} where
  pub stop-local : {S : List ℕ → Scan A} → Local S → StopLocal S
  stop-local {S} l =
      record {
        front = λ bs m e. let f = l.front bs in (f.0, f.1 ∙ ap (λ o. f.0 ++ rest_of o) e);
        same = λ p c r s q e. l.same p c r s q (ap rest_of e) ∙ ap (λ o. leaving o (q ++ c ∷ s)) e;
      }

  pub both-stop : (o p : Scan A) {cs : List ℕ} → furthest o p ≡ stops cs → (m : List ℕ) × (n : List ℕ) × (o ≡ stops m) × (p ≡ stops n) × (shorter m n ≡ cs)
  both-stop (is g) p e = absurd (no-is e refl)
  both-stop (stops m) (is g) e = absurd (no-is e refl)
  both-stop (stops m) (stops n) e = (m, n, refl, refl, stops-inj e)

  pub furthest-local : {S T : List ℕ → Scan A} → StopLocal S → StopLocal T → StopLocal (λ bs. furthest (S bs) (T bs))
  furthest-local {S} {T} a b = record { front = front_of; same = same_of }
    where
      front_of : (bs m : List ℕ) → furthest (S bs) (T bs) ≡ stops m → (f : List ℕ) × (bs ≡ f ++ m)
      front_of bs m e =
          let t = both-stop (S bs) (T bs) e in
          subst (λ l. (f : List ℕ) × (bs ≡ f ++ l)) t.4 (shorter-either (λ l. (f : List ℕ) × (bs ≡ f ++ l)) t.0 t.1 (a.front bs t.0 t.2)
          (b.front bs t.1 t.3))

      same_of : (p : List ℕ) (c : ℕ) (r s q : List ℕ) → furthest (S (p ++ c ∷ r)) (T (p ++ c ∷ r)) ≡ stops (q ++ c ∷ r)
          → furthest (S (p ++ c ∷ s)) (T (p ++ c ∷ s)) ≡ stops (q ++ c ∷ s)
      same_of p c r s q e =
          let bs = p ++ c ∷ r in
          let t = both-stop (S bs) (T bs) e in
          let f = front_of bs (q ++ c ∷ r) e in
          let fa = a.front bs t.0 t.2 in
          let fb = b.front bs t.1 t.3 in
          let l = shorter-least t.0 t.1 in
          let w = ap length t.4 in
          let ka = longer-end fa.0 t.0 f.0 (q ++ c ∷ r) (sym fa.1 ∙ f.1) (omega arith) in
          let kb = longer-end fb.0 t.1 f.0 (q ++ c ∷ r) (sym fb.1 ∙ f.1) (omega arith) in
          let ea : t.0 ≡ (ka.0 ++ q) ++ c ∷ r = ka.1 ∙ sym (append_assoc ka.0 q (c ∷ r)) in
          let eb : t.1 ≡ (kb.0 ++ q) ++ c ∷ r = kb.1 ∙ sym (append_assoc kb.0 q (c ∷ r)) in
          let sa = a.same p c r s (ka.0 ++ q) (t.2 ∙ ap (λ l. stops l) ea) in
          let sb = b.same p c r s (kb.0 ++ q) (t.3 ∙ ap (λ l. stops l) eb) in
          ap₂ (λ o p. furthest o p) sa sb ∙ ap (λ l. stops l) (shorter-behind (ka.0 ++ q) (kb.0 ++ q) q c r s (ap₂ shorter (sym ea) (sym eb) ∙ t.4))

  -- what is printed is scanned back before any bytes: then it does not matter what these are
  pub exact-local : {S : List ℕ → Scan A} {print : A → List ℕ} {Good : A → Type 0} → Exact S print Good Any → StopLocal S → Local S
  exact-local {S} {print} x l = record { front = front_of; same = same_of }
    where
      front_of : (bs : List ℕ) → (f : List ℕ) × (bs ≡ f ++ rest_of (S bs))
      front_of bs = go (S bs) refl
        where
          go : (o : Scan A) → S bs ≡ o → (f : List ℕ) × (bs ≡ f ++ rest_of o)
          go (is g) e = (print g.value, (x.scanned bs g e).0)
          go (stops m) e = l.front bs m e

      same_of : (p : List ℕ) (c : ℕ) (r s q : List ℕ) → rest_of (S (p ++ c ∷ r)) ≡ q ++ c ∷ r → S (p ++ c ∷ s) ≡ leaving (S (p ++ c ∷ r)) (q ++ c ∷ s)
      same_of p c r s q h = go (S (p ++ c ∷ r)) refl h
        where
          go : (o : Scan A) → S (p ++ c ∷ r) ≡ o → rest_of o ≡ q ++ c ∷ r → S (p ++ c ∷ s) ≡ leaving o (q ++ c ∷ s)
          go (stops m) e h = l.same p c r s q (e ∙ ap (λ l. stops l) h)
          go (is g) e h =
              let w = print g.value in
              let k = x.scanned (p ++ c ∷ r) g e in
              let at : p ++ c ∷ r ≡ (w ++ q) ++ c ∷ r = k.0 ∙ ap (λ (l : List ℕ). w ++ l) h ∙ sym (append_assoc w q (c ∷ r)) in
              ap S (behind p (w ++ q) c r s at ∙ append_assoc w q (c ∷ s)) ∙ x.printed g.value (q ++ c ∷ s) k.1 tt

word-local : (k : Kind) → StopLocal (λ bs. then (exactly (kind_word k) bs) (λ _ cs. got k cs))
word-local k = stop-local (then-local (exactly (kind_word k)) (λ _ cs. got k cs) (exactly-local (kind_word k)) (λ _. got-local k))

pub kind-local : Local kind
unfolding kind
kind-local = exact-local kind-exact (furthest-local (word-local in-kind) (furthest-local (word-local out-kind) (furthest-local (word-local uin-kind)
    (word-local uout-kind))))

-- ---- a field behind a tab, and the line's end
pub field-local : {A : Type 0} {S : List ℕ → Scan A} → Local S → Local (field S)
field-local {S = S} l = then-local (the_byte tab) (λ _ cs. S cs) (exactly-local (tab ∷ [])) (λ _. l)

pub ended-local : (e : Entry) → Local (ended e)
ended-local e = then-local (the_byte lf) (λ _ cs. got e cs) (exactly-local (lf ∷ [])) (λ _. got-local e)
