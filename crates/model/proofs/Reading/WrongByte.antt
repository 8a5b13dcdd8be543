-- 2 tells the first byte that no well-shaped line could have there: where a line's scan stops, the bytes before begin some line, and with the byte
-- there they begin none.
use mathlib.Core.Path.{◌≡◌, refl, sym, ◌∙◌, ap, subst}
use mathlib.Core.Logic.{◌↔◌}
use mathlib.Core.Option.{Option, none, some}
use mathlib.Core.Bool.{Bool, true, false}
use mathlib.Core.List.{List, [], ◌∷◌, ◌++◌, append_assoc, append-nil}
use Prim.Native.Nat.{ℕ, zero, suc, ◌-◌}
use native.Mathlib.Omega.{arith}
use lib.ListN.{length}
use lib.Dec.{eqb}
use borrow.Author.Tests.{eqb-true}
use Rattle.answer.specs.Limits.{max_digits}
use Rattle.model.specs.Text.{byte0, tab, lf, comma, dash, comp_word, act_word, clk_word, row_word, Kind, in-kind, out-kind, uin-kind, uout-kind}
use Rattle.model.specs.Text.{kind_word, decimal, guard_field, joined, fields_after}
use Rattle.model.specs.Reading.{Scan, is, stops, got, then, shorter, furthest, exactly, the_byte, is_digit, more_digits, number, more_numbers}
use Rattle.model.specs.Reading.{numbers, guard_or_dash, numbers_or_dash, kind, guard_of, field, ended}
use Rattle.model.specs.Reading.{Entry, comp-entry, act-entry, clk-entry, row-entry, comp_entry, act_entry, clk_entry, row_entry, entry, stop_column}
use Rattle.model.specs.Line.{Fits, AllFit, GuardFits, list_field, line_of, LineFits, Exact}
use Rattle.model.specs.Column.{Begins, WrongByte}
use Rattle.model.proofs.Reading.Scans.{stops-inj, no-is}
use Rattle.model.proofs.Reading.Fields.{exactly-scanned, number-exact, kind-exact, guard-exact, list-exact, further, joined-first}
use Rattle.model.proofs.Reading.Lines.{field-scanned, entry-exact}
use Rattle.model.proofs.Reading.Stopped.{front-begins, stop-is-wrong, one-wrong}
use Rattle.model.proofs.Reading.Local.{Local, StopLocal, stop-local, behind, then-local, exactly-local, number-local}
use Rattle.model.proofs.Reading.Local.{guard-local, list-local, kind-local, field-local, ended-local, both-stop, furthest-local}
use Rattle.model.proofs.Reading.Local.{shorter-either}

-- ---- the bytes up to where a scan stops can be gone on with
-- of one field: they begin what is printed of some good value
pub record Opens {A : Type 0} (print : A → List ℕ) (Good : A → Type 0) (bs m : List ℕ) : Type 0 where
  pub front : List ℕ
  pub bytes : bs ≡ front ++ m
  pub value : A
  pub good : Good value
  pub rest : List ℕ
  pub printed : print value ≡ front ++ rest

abbrev pub AlwaysOpens : {A : Type 0} → (List ℕ → Scan A) → (A → List ℕ) → (A → Type 0) → Type 0
AlwaysOpens S print Good = (bs m : List ℕ) → S bs ≡ stops m → Opens print Good bs m

pub exactly-opens : (ws bs m : List ℕ) → exactly ws bs ≡ stops m → (f : List ℕ) × (rest : List ℕ) × (bs ≡ f ++ m) × (ws ≡ f ++ rest)
unfolding exactly
exactly-opens [] bs m e = absurd (no-is e refl)
exactly-opens (w ∷ ws) [] m e = ([], w ∷ ws, stops-inj e, refl)
exactly-opens (w ∷ ws) (b ∷ bs) m e = go (exactly-opens ws bs m) (eqb w b) refl e
  where
    go : (exactly ws bs ≡ stops m → (f : List ℕ) × (rest : List ℕ) × (bs ≡ f ++ m) × (ws ≡ f ++ rest)) → (t : Bool) → eqb w b ≡ t
        → ◌≡◌ {A = Scan (Unit {0})} (elim t as (λ _. Scan (Unit {0})) [ true ↦ exactly ws bs | false ↦ stops (b ∷ bs) ]) (stops m)
        → (f : List ℕ) × (rest : List ℕ) × (b ∷ bs ≡ f ++ m) × (w ∷ ws ≡ f ++ rest)
    go ih true q e =
        let t = ih e in
        (b ∷ t.0, t.1, ap {B = List ℕ} (λ l. b ∷ l) t.2, ap {B = List ℕ} (λ x. x ∷ ws) (eqb-true w b q) ∙ ap {B = List ℕ} (λ l. b ∷ l) t.3)
    go ih false q e = ([], w ∷ ws, stops-inj e, refl)

number-stops : (bs m : List ℕ) → number bs ≡ stops m → bs ≡ m
unfolding number
number-stops [] m e = stops-inj e
number-stops (b ∷ bs) m e = go (is_digit b) (eqb b byte0) e
  where
    go : (t z : Bool)
        → ◌≡◌ {A = Scan ℕ} (elim t as (λ _. Scan ℕ) [
          | true ↦ elim z as (λ _. Scan ℕ) [
            | true ↦ got 0 bs
            | false ↦ is (more_digits (max_digits - 1)
                (b - byte0) bs)
          ]
          | false ↦ stops (b ∷ bs)
        ]) (stops m)
        → b ∷ bs ≡ m
    go false z e = stops-inj e
    go true true e = absurd (no-is e refl)
    go true false e = absurd (no-is e refl)

pub number-opens : AlwaysOpens number decimal Fits
number-opens bs m e = record { front = []; bytes = number-stops bs m e; value = 0; good = omega arith; rest = decimal 0; printed = refl }

kind-opens : AlwaysOpens kind kind_word (λ _. Unit {0})
unfolding kind
kind-opens bs m e = all
  where
    word : Kind → Scan Kind
    word k = then (exactly (kind_word k) bs) (λ _ cs. got k cs)

    stopped : (k : Kind) (m : List ℕ) → word k ≡ stops m → Opens kind_word (λ _. Unit {0}) bs m
    stopped k m e = go (exactly (kind_word k) bs) refl e
      where
        go : (o : Scan (Unit {0})) → exactly (kind_word k) bs ≡ o → then o (λ _ cs. got k cs) ≡ stops m → Opens kind_word (λ _. Unit {0}) bs m
        go (is g) q e = absurd (no-is e refl)
        go (stops n) q e =
            let t = exactly-opens (kind_word k) bs m (q ∙ ap (λ l. stops l) (stops-inj e)) in
            record { front = t.0; bytes = t.2; value = k; good = tt; rest = t.1; printed = t.3 }

    either : (o p : Scan Kind) → ((n : List ℕ) → o ≡ stops n → Opens kind_word (λ _. Unit {0}) bs n)
        → ((n : List ℕ) → p ≡ stops n → Opens kind_word (λ _. Unit {0}) bs n)
        → (n : List ℕ) → furthest o p ≡ stops n → Opens kind_word (λ _. Unit {0}) bs n
    either o p f g n e =
        let t = both-stop o p e in
        subst (Opens kind_word (λ _. Unit {0}) bs) t.4 (shorter-either (Opens kind_word (λ _. Unit {0}) bs) t.0 t.1 (f t.0 t.2) (g t.1 t.3))

    all : Opens kind_word (λ _. Unit {0}) bs m
    all =
        either (word in-kind) (furthest (word out-kind) (furthest (word uin-kind) (word uout-kind))) (stopped in-kind)
        (either (word out-kind) (furthest (word uin-kind) (word uout-kind)) (stopped out-kind) (either (word uin-kind) (word uout-kind) (stopped uin-kind)
        (stopped uout-kind))) m e

-- one byte that is not there
pub byte-stops : (w : ℕ) (bs m : List ℕ) → the_byte w bs ≡ stops m → bs ≡ m
unfolding exactly
byte-stops w [] m e = stops-inj e
byte-stops w (b ∷ bs) m e = go (eqb w b) e
  where
    go : (t : Bool) → ◌≡◌ {A = Scan (Unit {0})} (elim t as (λ _. Scan (Unit {0})) [ true ↦ got tt bs | false ↦ stops (b ∷ bs) ]) (stops m) → b ∷ bs ≡ m
    go true e = absurd (no-is e refl)
    go false e = stops-inj e

guard-opens : AlwaysOpens guard_or_dash (λ o. guard_field (guard_of o)) GuardFits
unfolding guard_or_dash
guard-opens bs m e = go (the_byte dash bs) (number bs) refl e
  where
    go : (o : Scan (Unit {0})) (n : Scan ℕ) → number bs ≡ n
        → ◌≡◌ {A = Scan (Option ℕ)} (elim o as (λ _. Scan (Option ℕ)) [ is g ↦ got none g.rest | stops cs ↦ then n (λ x cs. got (some x) cs) ]) (stops m)
        → Opens (λ o. guard_field (guard_of o)) GuardFits bs m
    go (is g) n q e = absurd (no-is e refl)
    go (stops cs) (is g) q e = absurd (no-is e refl)
    go (stops cs) (stops n) q e =
        record { front = []; bytes = number-stops bs m (q ∙ ap (λ l. stops l) (stops-inj e)); value = none; good = tt; rest = guard_field 0; printed = refl }

-- numbers behind commas: one more behind the last comma
more-opens : (k : ℕ) → AlwaysOpens (more_numbers k) further AllFit
unfolding more_numbers
more-opens zero bs m e = absurd (no-is e refl)
more-opens (suc k) [] m e = absurd (no-is e refl)
more-opens (suc k) (b ∷ bs) m e = go (more-opens k) (eqb b comma) refl (number bs) refl e
  where
    list : Scan ℕ → Scan (List ℕ)
    list o = then o (λ n cs. then (more_numbers k cs) (λ ns ds. got (n ∷ ns) ds))

    go : AlwaysOpens (more_numbers k) further AllFit → (t : Bool) → eqb b comma ≡ t → (o : Scan ℕ) → number bs ≡ o
        → ◌≡◌ {A = Scan (List ℕ)} (elim t as (λ _. Scan (List ℕ)) [ true ↦ list (number bs) | false ↦ got [] (b ∷ bs) ]) (stops m)
        → Opens further AllFit (b ∷ bs) m
    go ih false c o q e = absurd (no-is e refl)
    go ih true c (stops n) q e =
        record {
          front = comma ∷ [];
          bytes = ap {B = List ℕ} (λ x. x ∷ bs) (eqb-true b comma c) ∙ ap {B = List ℕ} (λ l. comma ∷ l) (number-stops bs m (q ∙ ap (λ l. stops l) (stops-inj
              (ap list (sym q) ∙ e))));
          value = 0 ∷ [];
          good = (omega arith, tt);
          rest = joined (0 ∷ []);
          printed = refl;
        }
    go ih true c (is g) q e = inner (more_numbers k g.rest) refl (ap list (sym q) ∙ e)
      where
        inner : (o : Scan (List ℕ)) → more_numbers k g.rest ≡ o → then o (λ ns ds. got (g.value ∷ ns) ds) ≡ stops m → Opens further AllFit (b ∷ bs) m
        inner (is h) w e = absurd (no-is e refl)
        inner (stops n) w e =
            let p = ih g.rest m (w ∙ ap (λ l. stops l) (stops-inj e)) in
            let r = number-exact.scanned bs g q in
            record {
              front = comma ∷ (decimal g.value ++ p.front);
              bytes =
                  ap {B = List ℕ} (λ x. x ∷ bs) (eqb-true b comma c)
                  ∙ ap {B = List ℕ} (λ l. comma ∷ l) (r.0 ∙ ap (λ (l : List ℕ). decimal g.value ++ l) p.bytes ∙ sym (append_assoc (decimal g.value)
                  p.front m));
              value = g.value ∷ p.value;
              good = (r.1, p.good);
              rest = p.rest;
              printed =
                  ap {B = List ℕ} (λ l. comma ∷ l)
                  (joined-first g.value p.value ∙ ap (λ (l : List ℕ). decimal g.value ++ l) p.printed ∙ sym (append_assoc (decimal g.value)
                  p.front p.rest));
            }

list-opens : AlwaysOpens numbers_or_dash list_field AllFit
unfolding numbers_or_dash numbers list_field
list-opens bs m e = go (the_byte dash bs) (number bs) refl e
  where
    list : Scan ℕ → Scan (List ℕ)
    list o = then o (λ n cs. then (more_numbers (length cs) cs) (λ ns ds. got (n ∷ ns) ds))

    go : (o : Scan (Unit {0})) (n : Scan ℕ) → number bs ≡ n
        → ◌≡◌ {A = Scan (List ℕ)} (elim o as (λ _. Scan (List ℕ)) [ is g ↦ got [] g.rest | stops cs ↦ list n ]) (stops m) → Opens list_field AllFit bs m
    go (is g) n q e = absurd (no-is e refl)
    go (stops cs) (stops n) q e =
        record { front = []; bytes = number-stops bs m (q ∙ ap (λ l. stops l) (stops-inj e)); value = []; good = tt; rest = list_field []; printed = refl }
    go (stops cs) (is g) q e = inner (more_numbers (length g.rest) g.rest) refl e
      where
        inner : (o : Scan (List ℕ)) → more_numbers (length g.rest) g.rest ≡ o → then o (λ ns ds. got (g.value ∷ ns) ds) ≡ stops m
            → Opens list_field AllFit bs m
        inner (is h) w e = absurd (no-is e refl)
        inner (stops n) w e =
            let p = more-opens (length g.rest) g.rest m (w ∙ ap (λ l. stops l) (stops-inj e)) in
            let r = number-exact.scanned bs g q in
            record {
              front = decimal g.value ++ p.front;
              bytes = r.0 ∙ ap (λ (l : List ℕ). decimal g.value ++ l) p.bytes ∙ sym (append_assoc (decimal g.value) p.front m);
              value = g.value ∷ p.value;
              good = (r.1, p.good);
              rest = p.rest;
              printed = joined-first g.value p.value ∙ ap (λ (l : List ℕ). decimal g.value ++ l) p.printed ∙ sym (append_assoc (decimal g.value)
                  p.front p.rest);
            }

pub field-opens : {A : Type 0} {S : List ℕ → Scan A} {print : A → List ℕ} {Good : A → Type 0} → (x : A) → Good x → AlwaysOpens S print Good
    → AlwaysOpens (field S) (λ x. tab ∷ print x) Good
field-opens {S = S} {print} {Good} x good o bs m e = go (the_byte tab bs) refl e
  where
    go : (t : Scan (Unit {0})) → the_byte tab bs ≡ t → then t (λ _ cs. S cs) ≡ stops m → Opens (λ x. tab ∷ print x) Good bs m
    go (is g) q e =
        let p = o g.rest m e in
        record {
          front = tab ∷ p.front;
          bytes = exactly-scanned (tab ∷ []) bs g q ∙ ap {B = List ℕ} (λ l. tab ∷ l) p.bytes;
          value = p.value;
          good = p.good;
          rest = p.rest;
          printed = ap {B = List ℕ} (λ l. tab ∷ l) p.printed;
        }
    go (stops n) q e =
        let p = exactly-opens (tab ∷ []) bs m (q ∙ ap (λ l. stops l) (stops-inj e)) in
        record {
          front = p.0;
          bytes = p.2;
          value = x;
          good = good;
          rest = p.1 ++ print x;
          printed = ap (λ (l : List ℕ). l ++ print x) p.3 ∙ append_assoc p.0 p.1 (print x);
        }

-- ---- of a line: behind the bytes u, the bytes up to where the scan stops begin a line
begins-front : (a b : List ℕ) → Begins (a ++ b) → Begins a
begins-front = front-begins line_of LineFits

abbrev GoesOn : List ℕ → (List ℕ → Scan Entry) → Type 0
GoesOn u S = (bs m : List ℕ) → S bs ≡ stops m → (f : List ℕ) × (bs ≡ f ++ m) × Begins (u ++ f)

-- a field, and then what stands behind it
module _ {A : Type 0} (S : List ℕ → Scan A) (print : A → List ℕ) (Good : A → Type 0) {E : List ℕ → Type 0} (x : A) (exact : Exact S print Good E)
    (good : Good x) (opens : AlwaysOpens S print Good) where
  then-goes-on : (u : List ℕ) (T : A → List ℕ → Scan Entry) → ((y : A) → Good y → Begins (u ++ (tab ∷ print y)))
      → ((y : A) → Good y → GoesOn (u ++ (tab ∷ print y)) (T y))
      → GoesOn u (λ bs. then (field S bs) T)
  then-goes-on u T begins next bs m e = go (field S bs) refl e
    where
      go : (o : Scan A) → field S bs ≡ o → then o T ≡ stops m → (f : List ℕ) × (bs ≡ f ++ m) × Begins (u ++ f)
      go (stops n) q e =
          let p = field-opens {S = S} {print = print} {Good = Good} x good opens bs m (q ∙ ap (λ l. stops l) (stops-inj e)) in (
            p.front,
            p.bytes,
            begins-front (u ++ p.front) p.rest (subst Begins (ap (λ (l : List ℕ). u ++ l) p.printed ∙ sym (append_assoc u p.front
                p.rest)) (begins p.value p.good)),
          )
      go (is g) q e =
          let w = tab ∷ print g.value in
          let r = field-scanned S print Good exact bs g q in
          let n = next g.value r.1 g.rest m e in (
            w ++ n.0,
            r.0 ∙ ap (λ (l : List ℕ). w ++ l) n.1 ∙ sym (append_assoc w n.0 m),
            subst Begins (append_assoc u w n.0) n.2,
          )

ended-goes-on : (u : List ℕ) (e : Entry) → Begins u → GoesOn u (ended e)
ended-goes-on u e h bs m q = go (the_byte lf bs) refl q
  where
    go : (o : Scan (Unit {0})) → the_byte lf bs ≡ o → then o (λ _ cs. got e cs) ≡ stops m → (f : List ℕ) × (bs ≡ f ++ m) × Begins (u ++ f)
    go (is g) p q = absurd (no-is q refl)
    go (stops n) p q = ([], byte-stops lf bs m (p ∙ ap (λ l. stops l) (stops-inj q)), subst Begins (sym (append-nil u)) h)

-- a number behind a tab
num : (u : List ℕ) (T : ℕ → List ℕ → Scan Entry) → ((n : ℕ) → Fits n → Begins (u ++ (tab ∷ decimal n)))
    → ((n : ℕ) → Fits n → GoesOn (u ++ (tab ∷ decimal n)) (T n))
    → GoesOn u (λ bs. then (field number bs) T)
num = then-goes-on number decimal Fits 0 number-exact (omega arith) number-opens

-- lines of two fields: all their bytes but the LF
comp-bytes : (n s : ℕ) → Fits n → Fits s → Begins ((comp_word ++ (tab ∷ decimal n)) ++ (tab ∷ decimal s))
unfolding line_of fields_after
comp-bytes n s h k = record { line = comp-entry n s; fits = (h, k); rest = lf ∷ []; printed = simp append_assoc }

act-bytes : (a : ℕ) (k : Kind) → Fits a → Begins ((act_word ++ (tab ∷ decimal a)) ++ (tab ∷ kind_word k))
unfolding line_of fields_after
act-bytes a k h = record { line = act-entry a k; fits = h; rest = lf ∷ []; printed = simp append_assoc }

clk-bytes : (x b : ℕ) → Fits x → Fits b → Begins ((clk_word ++ (tab ∷ decimal x)) ++ (tab ∷ decimal b))
unfolding line_of fields_after
clk-bytes x b h k = record { line = clk-entry x b; fits = (h, k); rest = lf ∷ []; printed = simp append_assoc }

comp-goes-on : GoesOn comp_word comp_entry
unfolding comp_entry
comp-goes-on =
    num comp_word (λ n cs. then (field number cs) (λ s ds. ended (comp-entry n s) ds))
    (λ n h. begins-front (comp_word ++ (tab ∷ decimal n)) (tab ∷ decimal 0) (comp-bytes n 0 h (omega arith)))
    (λ n h. num (comp_word ++ (tab ∷ decimal n)) (λ s ds. ended (comp-entry n s) ds) (λ s k. comp-bytes n s h k) (λ s k. ended-goes-on _ (comp-entry n s)
    (comp-bytes n s h k)))

clk-goes-on : GoesOn clk_word clk_entry
unfolding clk_entry
clk-goes-on =
    num clk_word (λ n cs. then (field number cs) (λ s ds. ended (clk-entry n s) ds))
    (λ n h. begins-front (clk_word ++ (tab ∷ decimal n)) (tab ∷ decimal 0) (clk-bytes n 0 h (omega arith)))
    (λ n h. num (clk_word ++ (tab ∷ decimal n)) (λ s ds. ended (clk-entry n s) ds) (λ s k. clk-bytes n s h k) (λ s k. ended-goes-on _ (clk-entry n s)
    (clk-bytes n s h k)))

act-goes-on : GoesOn act_word act_entry
unfolding act_entry
act-goes-on =
    num act_word (λ a cs. then (field kind cs) (λ k ds. ended (act-entry a k) ds))
    (λ a h. begins-front (act_word ++ (tab ∷ decimal a)) (tab ∷ kind_word in-kind) (act-bytes a in-kind h))
    (λ a h. then-goes-on kind kind_word (λ _. Unit {0}) in-kind kind-exact tt kind-opens (act_word ++ (tab ∷ decimal a)) (λ k ds. ended (act-entry a k) ds)
    (λ k _. act-bytes a k h) (λ k _. ended-goes-on _ (act-entry a k) (act-bytes a k h)))

-- the bytes of a row up to a field
abbrev r1 : ℕ → List ℕ
r1 s = row_word ++ (tab ∷ decimal s)

abbrev r2 : ℕ → Option ℕ → List ℕ
r2 s g = r1 s ++ (tab ∷ guard_field (guard_of g))

abbrev r3 : ℕ → Option ℕ → ℕ → List ℕ
r3 s g a = r2 s g ++ (tab ∷ decimal a)

abbrev r4 : ℕ → Option ℕ → ℕ → List ℕ → List ℕ
r4 s g a r = r3 s g a ++ (tab ∷ list_field r)

row-bytes : (s : ℕ) (g : Option ℕ) (a : ℕ) (r : List ℕ) (t : ℕ) → LineFits (row-entry s g a r t) → Begins (r4 s g a r ++ (tab ∷ decimal t))
unfolding line_of fields_after
row-bytes s g a r t h = record { line = row-entry s g a r t; fits = h; rest = lf ∷ []; printed = simp append_assoc }

row-goes-on : GoesOn row_word row_entry
unfolding row_entry
row-goes-on =
    num row_word _ (λ s h. b1 s h) (λ s h.
    then-goes-on guard_or_dash (λ o. guard_field (guard_of o)) GuardFits none guard-exact tt guard-opens (r1 s) _ (λ g k. b2 s g h k) (λ g k.
    num (r2 s g) _ (λ a l. b3 s g a h k l) (λ a l.
    then-goes-on numbers_or_dash list_field AllFit [] list-exact tt list-opens (r3 s g a) _ (λ r n. b4 s g a r h k l n) (λ r n.
    num (r4 s g a r) _ (λ t o. row-bytes s g a r t (h, k, l, n, o)) (λ t o. ended-goes-on _ (row-entry s g a r t) (row-bytes s g a r t (h, k, l, n, o)))))))
  where
    zero-fits : Fits 0
    zero-fits = omega arith

    b4 : (s : ℕ) (g : Option ℕ) (a : ℕ) (r : List ℕ) → Fits s → GuardFits g → Fits a → AllFit r → Begins (r4 s g a r)
    b4 s g a r h k l n = begins-front (r4 s g a r) (tab ∷ decimal 0) (row-bytes s g a r 0 (h, k, l, n, zero-fits))

    b3 : (s : ℕ) (g : Option ℕ) (a : ℕ) → Fits s → GuardFits g → Fits a → Begins (r3 s g a)
    b3 s g a h k l = begins-front (r3 s g a) (tab ∷ list_field []) (b4 s g a [] h k l tt)

    b2 : (s : ℕ) (g : Option ℕ) → Fits s → GuardFits g → Begins (r2 s g)
    b2 s g h k = begins-front (r2 s g) (tab ∷ decimal 0) (b3 s g 0 h k zero-fits)

    b1 : (s : ℕ) → Fits s → Begins (r1 s)
    b1 s h = begins-front (r1 s) (tab ∷ guard_field 0) (b2 s none h tt)

-- ---- a line, by its first word
two-local : {A : Type 0} (S : List ℕ → Scan A) (e : ℕ → A → Entry) → Local S
    → Local (λ bs. then (field number bs) (λ n cs. then (field S cs) (λ x ds. ended (e n x) ds)))
two-local S e l =
    then-local (field number) (λ n cs. then (field S cs) (λ x ds. ended (e n x) ds)) (field-local number-local)
    (λ n. then-local (field S) (λ x ds. ended (e n x) ds) (field-local l) (λ x. ended-local (e n x)))

row-local : Local row_entry
unfolding row_entry
row-local =
    then-local (field number) _ (field-local number-local) (λ s.
    then-local (field guard_or_dash) _ (field-local guard-local) (λ g.
    then-local (field number) _ (field-local number-local) (λ a.
    then-local (field numbers_or_dash) _ (field-local list-local) (λ r.
    then-local (field number) _ (field-local number-local) (λ t. ended-local (row-entry s g a r t))))))

-- what is behind a first word, and how it is scanned
record Word (w : List ℕ) : Type 0 where
  fields : List ℕ → Scan Entry
  found : (bs : List ℕ) → entry (w ++ bs) ≡ fields bs
  local : Local fields
  goes_on : GoesOn w fields

comp-word : Word comp_word
unfolding entry exactly comp_entry
comp-word = record { fields = comp_entry; found = λ bs. refl; local = two-local number comp-entry number-local; goes_on = comp-goes-on }

act-word : Word act_word
unfolding entry exactly act_entry
act-word = record { fields = act_entry; found = λ bs. refl; local = two-local kind act-entry kind-local; goes_on = act-goes-on }

clk-word : Word clk_word
unfolding entry exactly clk_entry
clk-word = record { fields = clk_entry; found = λ bs. refl; local = two-local number clk-entry number-local; goes_on = clk-goes-on }

row_word_lem : Word row_word
unfolding entry exactly
row_word_lem = record { fields = row_entry; found = λ bs. refl; local = row-local; goes_on = row-goes-on }

-- where there is none of the four words
words : List ℕ → Scan (Unit {0})
words bs = furthest (exactly comp_word bs) (furthest (exactly act_word bs) (furthest (exactly clk_word bs) (exactly row_word bs)))

data View (bs : List ℕ) : Type 0 where
  has_word : (w : List ℕ) → Word w → (cs : List ℕ) → bs ≡ w ++ cs → View bs
  no-word : (m : List ℕ) → words bs ≡ stops m → View bs

view : (bs : List ℕ) → View bs
unfolding words
view bs = go (exactly comp_word bs) refl (exactly act_word bs) refl (exactly clk_word bs) refl (exactly row_word bs) refl
  where
    W : Type 0
    W = Scan (Unit {0})

    go : (c : W) → exactly comp_word bs ≡ c → (a : W) → exactly act_word bs ≡ a → (k : W) → exactly clk_word bs ≡ k → (r : W) → exactly row_word bs ≡ r → View bs
    go (is g) p a q k s r t = has_word comp_word comp-word g.rest (exactly-scanned comp_word bs g p)
    go (stops c) p (is g) q k s r t = has_word act_word act-word g.rest (exactly-scanned act_word bs g q)
    go (stops c) p (stops a) q (is g) s r t = has_word clk_word clk-word g.rest (exactly-scanned clk_word bs g s)
    go (stops c) p (stops a) q (stops k) s (is g) t = has_word row_word row_word_lem g.rest (exactly-scanned row_word bs g t)
    go (stops c) p (stops a) q (stops k) s (stops r) t = no-word (shorter c (shorter a (shorter k r))) (rw (p, q, s, t))

no-word-stops : (bs m : List ℕ) → words bs ≡ stops m → entry bs ≡ stops m
unfolding words entry
no-word-stops bs m e =
    let c = both-stop (exactly comp_word bs) (furthest (exactly act_word bs) (furthest (exactly clk_word bs) (exactly row_word bs))) e in
    let a = both-stop (exactly act_word bs) (furthest (exactly clk_word bs) (exactly row_word bs)) c.3 in
    let k = both-stop (exactly clk_word bs) (exactly row_word bs) a.3 in
    rw (c.2, entry) (rw a.2 (rw k.2 (rw k.3 (ap (λ l. stops l) (ap (shorter c.0) (ap (shorter a.0) k.4 ∙ a.4) ∙ c.4)))))

words-local : StopLocal words
unfolding words
words-local =
    let l : (w : List ℕ) → StopLocal (exactly w) = λ w. stop-local (exactly-local w) in
    furthest-local (l comp_word) (furthest-local (l act_word) (furthest-local (l clk_word) (l row_word)))

-- a word that is not there: the bytes up to where the furthest stops begin that word
words-begin : (bs m : List ℕ) → words bs ≡ stops m → (f : List ℕ) × (bs ≡ f ++ m) × Begins f
unfolding words
words-begin bs m e = either (exactly comp_word bs) _ comp (either (exactly act_word bs) _ act (either (exactly clk_word bs) _ clk row)) m e
  where
    Up : List ℕ → Type 0
    Up m = (f : List ℕ) × (bs ≡ f ++ m) × Begins f

    either : (o p : Scan (Unit {0})) → ((n : List ℕ) → o ≡ stops n → Up n) → ((n : List ℕ) → p ≡ stops n → Up n) → (n : List ℕ) → furthest o p ≡ stops n → Up n
    either o p f g n e = let t = both-stop o p e in subst Up t.4 (shorter-either Up t.0 t.1 (f t.0 t.2) (g t.1 t.3))

    up : (w : List ℕ) → Begins w → (n : List ℕ) → exactly w bs ≡ stops n → Up n
    up w h n e = let t = exactly-opens w bs n e in (t.0, t.2, begins-front t.0 t.1 (subst Begins t.3 h))

    fits : Fits 0
    fits = omega arith

    comp : (n : List ℕ) → exactly comp_word bs ≡ stops n → Up n
    comp = up comp_word (begins-front comp_word (tab ∷ decimal 0) (begins-front (comp_word ++ (tab ∷ decimal 0)) (tab ∷ decimal 0) (comp-bytes 0 0 fits fits)))

    act : (n : List ℕ) → exactly act_word bs ≡ stops n → Up n
    act = up act_word (begins-front act_word (tab ∷ decimal 0) (begins-front (act_word ++ (tab ∷ decimal 0)) (tab ∷ kind_word in-kind) (act-bytes 0 in-kind fits)))

    clk : (n : List ℕ) → exactly clk_word bs ≡ stops n → Up n
    clk = up clk_word (begins-front clk_word (tab ∷ decimal 0) (begins-front (clk_word ++ (tab ∷ decimal 0)) (tab ∷ decimal 0) (clk-bytes 0 0 fits fits)))

    row : (n : List ℕ) → exactly row_word bs ≡ stops n → Up n
    row =
        up row_word
        (begins-front row_word (tab ∷ decimal 0) (begins-front (r1 0) (tab ∷ guard_field 0) (begins-front (r2 0 none) (tab ∷ decimal 0)
        (begins-front (r3 0 none 0) (tab ∷ list_field []) (begins-front (r4 0 none 0 []) (tab ∷ decimal 0) (row-bytes 0 none 0 [] 0
        (fits, tt, fits, tt, fits)))))))

-- the bytes up to where a line's scan stops begin a line
entry-begins : (bs m : List ℕ) → entry bs ≡ stops m → (f : List ℕ) × (bs ≡ f ++ m) × Begins f
entry-begins bs m e = go (view bs)
  where
    go : View bs → (f : List ℕ) × (bs ≡ f ++ m) × Begins f
    go (no-word n w) = words-begin bs m (w ∙ ap (λ l. stops l) (stops-inj (sym (no-word-stops bs n w) ∙ e)))
    go (has_word w x cs h) =
        let t = x.goes_on cs m (sym (x.found cs) ∙ ap entry (sym h) ∙ e) in
        (w ++ t.0, h ∙ ap (λ (l : List ℕ). w ++ l) t.1 ∙ sym (append_assoc w t.0 m), t.2)

-- where a line's scan stops at the byte c, it does whatever stands behind c
entry-stops : StopLocal entry
entry-stops = record { front = λ bs m e. let t = entry-begins bs m e in (t.0, t.1); same = same_of }
  where
    same_of : (p : List ℕ) (c : ℕ) (r s q : List ℕ) → entry (p ++ c ∷ r) ≡ stops (q ++ c ∷ r) → entry (p ++ c ∷ s) ≡ stops (q ++ c ∷ s)
    same_of p c r s q e = go (view (p ++ c ∷ r))
      where
        go : View (p ++ c ∷ r) → entry (p ++ c ∷ s) ≡ stops (q ++ c ∷ s)
        go (no-word m w) =
            let z = stops-inj (sym (no-word-stops (p ++ c ∷ r) m w) ∙ e) in
            no-word-stops (p ++ c ∷ s) (q ++ c ∷ s) (words-local.same p c r s q (w ∙ ap (λ l. stops l) z))
        go (has_word w x cs h) =
            let l = stop-local x.local in
            let k : x.fields cs ≡ stops (q ++ c ∷ r) = sym (x.found cs) ∙ ap entry (sym h) ∙ e in
            let f = l.front cs (q ++ c ∷ r) k in
            let m = f.0 ++ q in
            let left : cs ≡ m ++ c ∷ r = f.1 ∙ sym (append_assoc f.0 q (c ∷ r)) in
            let at : p ++ c ∷ s ≡ (w ++ m) ++ c ∷ s = behind p (w ++ m) c r s (h ∙ ap (λ (l : List ℕ). w ++ l) left ∙ sym (append_assoc w m (c ∷ r))) in
            ap entry (at ∙ append_assoc w m (c ∷ s)) ∙ x.found (m ++ c ∷ s) ∙ l.same m c r s q (ap x.fields (sym left) ∙ k)

-- ---- the wrong byte: where a line's scan stops, and there is no other
pub wrong-byte-here : (bs cs : List ℕ) → entry bs ≡ stops cs → WrongByte bs (stop_column bs cs)
wrong-byte-here = stop-is-wrong entry line_of LineFits entry-exact entry-stops entry-begins

pub one-wrong-byte : {bs : List ℕ} {j k : ℕ} → WrongByte bs j → WrongByte bs k → j ≡ k
one-wrong-byte = one-wrong line_of LineFits

-- where a line's scan stops, the column that is told is that of the wrong byte, and no other
pub wrong-byte-exactly : (bs cs : List ℕ) → entry bs ≡ stops cs → (column : ℕ) → (stop_column bs cs ≡ column) ↔ WrongByte bs column
wrong-byte-exactly bs cs e column = (λ h. subst (WrongByte bs) h (wrong-byte-here bs cs e), λ w. one-wrong-byte (wrong-byte-here bs cs e) w)
