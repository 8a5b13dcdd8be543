-- 2 tells the first byte that no line of the second form could have there; on line 1 the first byte that differs from the `form` line.
use mathlib.Core.Path.{◌≡◌, refl, sym, ◌∙◌, ap, subst}
use mathlib.Core.Option.{Option, none, some}
use mathlib.Core.Bool.{Bool, true, false}
use mathlib.Core.List.{List, [], ◌∷◌, ◌++◌, append_assoc, append-nil}
use Prim.Native.Nat.{ℕ, zero, suc, ◌<◌}
use native.Mathlib.Omega.{arith}
use lib.ListN.{length, length-append}
use lib.Dec.{eqb}
use borrow.Author.Tests.{eqb-true, lt-ltb}
use Rattle.model.specs.Text.{tab, lf, comma, dash, comp_word, act_word, clk_word, row_word, Kind, in-kind, out-kind, uin-kind, uout-kind, kind_word, decimal}
use Rattle.model.specs.Text.{guard_field, joined, fields_after}
use Rattle.model.specs.Reading.{Scan, is, stops, got, then, shorter, furthest, exactly, the_byte, number, more_numbers, numbers, guard_or_dash, numbers_or_dash, kind}
use Rattle.model.specs.Reading.{guard_of, field}
use Rattle.model.specs.Reading.{Entry, comp-entry, clk-entry, comp_entry, clk_entry, entry, stop_column}
use Rattle.model.specs.Reading.{ended as old-ended}
use Rattle.model.specs.Line.{Fits, AllFit, GuardFits, list_field, line_of, Any, Exact}
use Rattle.model.specs.Column.{BeginsOf, WrongByteOf}
use Rattle.model.proofs.Reading.Scans.{stops-inj, no-is}
use Rattle.model.proofs.Reading.Fields.{exactly-printed, exactly-scanned, number-exact, kind-exact, guard-exact, list-exact, further, joined-first}
use Rattle.model.proofs.Reading.Lines.{field-scanned}
use Rattle.model.proofs.Reading.Stopped.{front-begins, stop-is-wrong}
use Rattle.model.proofs.Reading.Local.{Local, StopLocal, stop-local, behind, got-local, then-local, exactly-local, number-local, guard-local, list-local}
use Rattle.model.proofs.Reading.Local.{kind-local, field-local}
use Rattle.model.proofs.Reading.Local.{ended-local, both-stop, furthest-local, shorter-either}
use Rattle.model.proofs.Reading.WrongByte.{Opens, AlwaysOpens, exactly-opens, number-opens, byte-stops, field-opens}
use Rattle.named.specs.NamedText.{Name, form_word, form_rest, form_line, name_word, ends_name, name_at, name_scan, with_byte, Line, form-line, name-line, act-line}
use Rattle.named.specs.NamedText.{row-line, plain-line}
use Rattle.named.specs.NamedText.{ended, form_end, name_end, act_end, row_end, plain, line, NameFits, line_text, LineFits₂}
use Rattle.named.proofs.Names.{name-end, name-next, name-here, name-exact}
use Rattle.named.proofs.Scanned.{line-exact}
use Rattle.namedfaults.specs.NamedFaults.{WrongForm}

-- ---- a name: every byte up to a tab or LF is one, so its scan never stops
name-same : (p : List ℕ) (c : ℕ) (r s q : List ℕ) → (name_at (p ++ c ∷ r)).rest ≡ q ++ c ∷ r
    → name_at (p ++ c ∷ s) ≡ record { value = (name_at (p ++ c ∷ r)).value; rest = q ++ c ∷ s }
name-same [] c r s q h = go (ends_name c) refl
  where
    go : (e : Bool) → ends_name c ≡ e → name_at (c ∷ s) ≡ record { value = (name_at (c ∷ r)).value; rest = q ++ c ∷ s }
    go true e =
        let x = name-end (c ∷ r) e in
        let z : c ∷ s ≡ q ++ c ∷ s = behind [] q c r s (sym (ap (λ g. g.rest) x) ∙ h) in
        name-end (c ∷ s) e ∙ (λ i. record { value = ap (λ g. g.value) (sym x) i; rest = z i })
    go false e =
        let x = ap (λ g. g.rest) (name-next c r e) in
        let b = ap length (name-here r).bytes in
        absurd (omega (arith, ap length (sym x ∙ h), length-append (name_at r).value (name_at r).rest, length-append q (c ∷ r)))
name-same (b ∷ p) c r s q h = go (name-same p c r s q) (ends_name b) refl
  where
    go : ((name_at (p ++ c ∷ r)).rest ≡ q ++ c ∷ r → name_at (p ++ c ∷ s) ≡ record { value = (name_at (p ++ c ∷ r)).value; rest = q ++ c ∷ s })
        → (e : Bool) → ends_name b ≡ e → name_at (b ∷ (p ++ c ∷ s)) ≡ record { value = (name_at (b ∷ (p ++ c ∷ r))).value; rest = q ++ c ∷ s }
    go ih true e =
        let x = name-end (b ∷ (p ++ c ∷ r)) e in
        let z : b ∷ (p ++ c ∷ s) ≡ q ++ c ∷ s = behind (b ∷ p) q c r s (sym (ap (λ g. g.rest) x) ∙ h) in
        name-end (b ∷ (p ++ c ∷ s)) e ∙ (λ i. record { value = ap (λ g. g.value) (sym x) i; rest = z i })
    go ih false e =
        let x = name-next b (p ++ c ∷ r) e in
        name-next b (p ++ c ∷ s) e ∙ ap (with_byte b) (ih (sym (ap (λ g. g.rest) x) ∙ h))
        ∙ (λ i. record { value = ap (λ g. g.value) (sym x) i; rest = q ++ c ∷ s })

name-local : Local name_scan
name-local = record { front = λ bs. ((name_at bs).value, (name-here bs).bytes); same = λ p c r s q h. ap is (name-same p c r s q h) }

name-opens : AlwaysOpens name_scan (λ (w : Name). w) NameFits
name-opens bs m e = absurd (no-is e refl)

-- ---- the other fields, as model, Reading.WrongByte has them
one_number : (n : ℕ) → joined (n ∷ []) ≡ decimal n
one_number n = joined-first n [] ∙ append-nil (decimal n)

kind-opens : AlwaysOpens kind kind_word (λ _. Unit {0})
unfolding kind
kind-opens bs m e = all
  where
    word : Kind → Scan Kind
    word k = then (exactly (kind_word k) bs) (λ _ cs. got k cs)

    stopped : (k : Kind) (m : List ℕ) → word k ≡ stops m → Opens kind_word (λ _. Unit {0}) bs m
    stopped k m e = go (exactly (kind_word k) bs) refl e
      where
        go : (o : Scan (Unit {0})) → exactly (kind_word k) bs ≡ o → then o (λ _ cs. got k cs) ≡ stops m → Opens kind_word (λ _. Unit {0}) bs m
        go (is g) q e = absurd (no-is e refl)
        go (stops n) q e =
            let t = exactly-opens (kind_word k) bs m (q ∙ ap (λ l. stops l) (stops-inj e)) in
            record { front = t.0; bytes = t.2; value = k; good = tt; rest = t.1; printed = t.3 }

    either : (o p : Scan Kind) → ((n : List ℕ) → o ≡ stops n → Opens kind_word (λ _. Unit {0}) bs n)
        → ((n : List ℕ) → p ≡ stops n → Opens kind_word (λ _. Unit {0}) bs n)
        → (n : List ℕ) → furthest o p ≡ stops n → Opens kind_word (λ _. Unit {0}) bs n
    either o p f g n e =
        let t = both-stop o p e in
        subst (Opens kind_word (λ _. Unit {0}) bs) t.4 (shorter-either (Opens kind_word (λ _. Unit {0}) bs) t.0 t.1 (f t.0 t.2) (g t.1 t.3))

    all : Opens kind_word (λ _. Unit {0}) bs m
    all =
        either (word in-kind) (furthest (word out-kind) (furthest (word uin-kind) (word uout-kind))) (stopped in-kind)
        (either (word out-kind) (furthest (word uin-kind) (word uout-kind)) (stopped out-kind) (either (word uin-kind) (word uout-kind) (stopped uin-kind)
        (stopped uout-kind))) m e

guard-opens : AlwaysOpens guard_or_dash (λ o. guard_field (guard_of o)) GuardFits
unfolding guard_or_dash guard_field
guard-opens bs m e = go (the_byte dash bs) (number bs) refl e
  where
    go : (o : Scan (Unit {0})) (n : Scan ℕ) → number bs ≡ n
        → ◌≡◌ {A = Scan (Option ℕ)} (elim o as (λ _. Scan (Option ℕ)) [ is g ↦ got none g.rest | stops cs ↦ then n (λ x cs. got (some x) cs) ]) (stops m)
        → Opens (λ o. guard_field (guard_of o)) GuardFits bs m
    go (is g) n q e = absurd (no-is e refl)
    go (stops cs) (is g) q e = absurd (no-is e refl)
    go (stops cs) (stops n) q e =
        let p = number-opens bs m (q ∙ ap (λ l. stops l) (stops-inj e)) in
        record { front = p.front; bytes = p.bytes; value = some p.value; good = p.good; rest = p.rest; printed = p.printed }

-- numbers behind commas: one more behind the last comma
more-opens : (k : ℕ) → AlwaysOpens (more_numbers k) further AllFit
unfolding more_numbers
more-opens zero bs m e = absurd (no-is e refl)
more-opens (suc k) [] m e = absurd (no-is e refl)
more-opens (suc k) (b ∷ bs) m e = go (more-opens k) (eqb b comma) refl (number bs) refl e
  where
    list : Scan ℕ → Scan (List ℕ)
    list o = then o (λ n cs. then (more_numbers k cs) (λ ns ds. got (n ∷ ns) ds))

    go : AlwaysOpens (more_numbers k) further AllFit → (t : Bool) → eqb b comma ≡ t → (o : Scan ℕ) → number bs ≡ o
        → ◌≡◌ {A = Scan (List ℕ)} (elim t as (λ _. Scan (List ℕ)) [ true ↦ list (number bs) | false ↦ got [] (b ∷ bs) ]) (stops m)
        → Opens further AllFit (b ∷ bs) m
    go ih false c o q e = absurd (no-is e refl)
    go ih true c (stops n) q e =
        let p = number-opens bs m (q ∙ ap (λ l. stops l) (stops-inj (ap list (sym q) ∙ e))) in
        record {
          front = comma ∷ p.front;
          bytes = ap {B = List ℕ} (λ x. x ∷ bs) (eqb-true b comma c) ∙ ap {B = List ℕ} (λ l. comma ∷ l) p.bytes;
          value = p.value ∷ [];
          good = (p.good, tt);
          rest = p.rest;
          printed = ap {B = List ℕ} (λ l. comma ∷ l) (one_number p.value ∙ p.printed);
        }
    go ih true c (is g) q e = inner (more_numbers k g.rest) refl (ap list (sym q) ∙ e)
      where
        inner : (o : Scan (List ℕ)) → more_numbers k g.rest ≡ o → then o (λ ns ds. got (g.value ∷ ns) ds) ≡ stops m → Opens further AllFit (b ∷ bs) m
        inner (is h) w e = absurd (no-is e refl)
        inner (stops n) w e =
            let p = ih g.rest m (w ∙ ap (λ l. stops l) (stops-inj e)) in
            let r = number-exact.scanned bs g q in
            record {
              front = comma ∷ (decimal g.value ++ p.front);
              bytes =
                  ap {B = List ℕ} (λ x. x ∷ bs) (eqb-true b comma c)
                  ∙ ap {B = List ℕ} (λ l. comma ∷ l) (r.0 ∙ ap (λ (l : List ℕ). decimal g.value ++ l) p.bytes ∙ sym (append_assoc (decimal g.value)
                  p.front m));
              value = g.value ∷ p.value;
              good = (r.1, p.good);
              rest = p.rest;
              printed =
                  ap {B = List ℕ} (λ l. comma ∷ l)
                  (joined-first g.value p.value ∙ ap (λ (l : List ℕ). decimal g.value ++ l) p.printed ∙ sym (append_assoc (decimal g.value)
                  p.front p.rest));
            }

list-opens : AlwaysOpens numbers_or_dash list_field AllFit
unfolding numbers_or_dash numbers list_field
list-opens bs m e = go (the_byte dash bs) (number bs) refl e
  where
    list : Scan ℕ → Scan (List ℕ)
    list o = then o (λ n cs. then (more_numbers (length cs) cs) (λ ns ds. got (n ∷ ns) ds))

    go : (o : Scan (Unit {0})) (n : Scan ℕ) → number bs ≡ n
        → ◌≡◌ {A = Scan (List ℕ)} (elim o as (λ _. Scan (List ℕ)) [ is g ↦ got [] g.rest | stops cs ↦ list n ]) (stops m) → Opens list_field AllFit bs m
    go (is g) n q e = absurd (no-is e refl)
    go (stops cs) (stops n) q e =
        let p = number-opens bs m (q ∙ ap (λ l. stops l) (stops-inj e)) in
        record { front = p.front; bytes = p.bytes; value = p.value ∷ []; good = (p.good, tt); rest = p.rest; printed = one_number p.value ∙ p.printed }
    go (stops cs) (is g) q e = inner (more_numbers (length g.rest) g.rest) refl e
      where
        inner : (o : Scan (List ℕ)) → more_numbers (length g.rest) g.rest ≡ o → then o (λ ns ds. got (g.value ∷ ns) ds) ≡ stops m
            → Opens list_field AllFit bs m
        inner (is h) w e = absurd (no-is e refl)
        inner (stops n) w e =
            let p = more-opens (length g.rest) g.rest m (w ∙ ap (λ l. stops l) (stops-inj e)) in
            let r = number-exact.scanned bs g q in
            record {
              front = decimal g.value ++ p.front;
              bytes = r.0 ∙ ap (λ (l : List ℕ). decimal g.value ++ l) p.bytes ∙ sym (append_assoc (decimal g.value) p.front m);
              value = g.value ∷ p.value;
              good = (r.1, p.good);
              rest = p.rest;
              printed = joined-first g.value p.value ∙ ap (λ (l : List ℕ). decimal g.value ++ l) p.printed ∙ sym (append_assoc (decimal g.value)
                  p.front p.rest);
            }

-- ---- of a line: behind the bytes u, the bytes up to where the scan stops begin a line
abbrev Begins : List ℕ → Type 0
Begins bs = BeginsOf line_text LineFits₂ bs

begins-front : (a b : List ℕ) → Begins (a ++ b) → Begins a
begins-front = front-begins line_text LineFits₂

abbrev GoesOn : {R : Type 0} → List ℕ → (List ℕ → Scan R) → Type 0
GoesOn u S = (bs m : List ℕ) → S bs ≡ stops m → (f : List ℕ) × (bs ≡ f ++ m) × Begins (u ++ f)

-- a field, and then what stands behind it
module _ {A R : Type 0} (S : List ℕ → Scan A) (print : A → List ℕ) (Good : A → Type 0) {E : List ℕ → Type 0} (x : A) (exact : Exact S print Good E)
    (good : Good x) (opens : AlwaysOpens S print Good) where
  then-goes-on : (u : List ℕ) (T : A → List ℕ → Scan R) → ((y : A) → Good y → Begins (u ++ (tab ∷ print y)))
      → ((y : A) → Good y → GoesOn (u ++ (tab ∷ print y)) (T y))
      → GoesOn u (λ bs. then (field S bs) T)
  then-goes-on u T begins next bs m e = go (field S bs) refl e
    where
      go : (o : Scan A) → field S bs ≡ o → then o T ≡ stops m → (f : List ℕ) × (bs ≡ f ++ m) × Begins (u ++ f)
      go (stops n) q e =
          let p = field-opens {S = S} {print = print} {Good = Good} x good opens bs m (q ∙ ap (λ l. stops l) (stops-inj e)) in (
            p.front,
            p.bytes,
            begins-front (u ++ p.front) p.rest (subst Begins (ap (λ (l : List ℕ). u ++ l) p.printed ∙ sym (append_assoc u p.front
                p.rest)) (begins p.value p.good)),
          )
      go (is g) q e =
          let w = tab ∷ print g.value in
          let r = field-scanned S print Good exact bs g q in
          let n = next g.value r.1 g.rest m e in (
            w ++ n.0,
            r.0 ∙ ap (λ (l : List ℕ). w ++ l) n.1 ∙ sym (append_assoc w n.0 m),
            subst Begins (append_assoc u w n.0) n.2,
          )

ended-goes-on : {R : Type 0} (u : List ℕ) (x : R) → Begins u → GoesOn u (λ bs. then (the_byte lf bs) (λ _ cs. got x cs))
ended-goes-on {R} u x h bs m q = go (the_byte lf bs) refl q
  where
    go : (o : Scan (Unit {0})) → the_byte lf bs ≡ o → then {B = R} o (λ _ cs. got x cs) ≡ stops m → (f : List ℕ) × (bs ≡ f ++ m) × Begins (u ++ f)
    go (is g) p q = absurd (no-is q refl)
    go (stops n) p q = ([], byte-stops lf bs m (p ∙ ap (λ l. stops l) (stops-inj q)), subst Begins (sym (append-nil u)) h)

num : {R : Type 0} (u : List ℕ) (T : ℕ → List ℕ → Scan R) → ((n : ℕ) → Fits n → Begins (u ++ (tab ∷ decimal n)))
    → ((n : ℕ) → Fits n → GoesOn (u ++ (tab ∷ decimal n)) (T n))
    → GoesOn u (λ bs. then (field number bs) T)
num = then-goes-on number decimal Fits 0 number-exact (omega arith) number-opens

nam : {R : Type 0} (u : List ℕ) (T : Name → List ℕ → Scan R) → ((w : Name) → NameFits w → Begins (u ++ (tab ∷ w)))
    → ((w : Name) → NameFits w → GoesOn (u ++ (tab ∷ w)) (T w))
    → GoesOn u (λ bs. then (field name_scan bs) T)
nam = then-goes-on name_scan (λ (w : Name). w) NameFits [] name-exact tt name-opens

-- ---- lines of two fields: all their bytes but the LF
zero-fits : Fits 0
zero-fits = omega arith

name-bytes : (n : ℕ) (w : Name) → Fits n → NameFits w → Begins ((name_word ++ (tab ∷ decimal n)) ++ (tab ∷ w))
unfolding line_text fields_after
name-bytes n w h k = record { line = name-line n w; fits = (h, k); rest = lf ∷ []; printed = simp append_assoc }

act-bytes : (w : Name) (k : Kind) → NameFits w → Begins ((act_word ++ (tab ∷ w)) ++ (tab ∷ kind_word k))
unfolding line_text fields_after
act-bytes w k h = record { line = act-line w k; fits = h; rest = lf ∷ []; printed = simp append_assoc }

comp-bytes : (n s : ℕ) → Fits n → Fits s → Begins ((comp_word ++ (tab ∷ decimal n)) ++ (tab ∷ decimal s))
unfolding line_text line_of fields_after
comp-bytes n s h k = record { line = plain-line (comp-entry n s); fits = ((h, k), tt); rest = lf ∷ []; printed = simp append_assoc }

clk-bytes : (x b : ℕ) → Fits x → Fits b → Begins ((clk_word ++ (tab ∷ decimal x)) ++ (tab ∷ decimal b))
unfolding line_text line_of fields_after
clk-bytes x b h k = record { line = plain-line (clk-entry x b); fits = ((h, k), tt); rest = lf ∷ []; printed = simp append_assoc }

form-goes-on : GoesOn form_word form_end
unfolding form_end line_text
form-goes-on bs m e = go (exactly form_rest bs) refl e
  where
    go : (o : Scan (Unit {0})) → exactly form_rest bs ≡ o → then o (λ _ cs. got form-line cs) ≡ stops m → (f : List ℕ) × (bs ≡ f ++ m) × Begins (form_word ++ f)
    go (is g) q e = absurd (no-is e refl)
    go (stops n) q e =
        let t = exactly-opens form_rest bs m (q ∙ ap (λ l. stops l) (stops-inj e)) in (
          t.0,
          t.2,
          record {
            line = form-line;
            fits = tt;
            rest = t.1;
            printed = ap (λ (l : List ℕ). form_word ++ l) t.3 ∙ sym (append_assoc form_word
                t.0 t.1);
          },
        )

name-goes-on : GoesOn name_word name_end
unfolding name_end
name-goes-on =
    num name_word (λ n cs. then (field name_scan cs) (λ w ds. ended (name-line n w) ds))
    (λ n h. begins-front (name_word ++ (tab ∷ decimal n)) (tab ∷ []) (name-bytes n [] h tt))
    (λ n h. nam (name_word ++ (tab ∷ decimal n)) (λ w ds. ended (name-line n w) ds) (λ w k. name-bytes n w h k) (λ w k. ended-goes-on _ (name-line n w)
    (name-bytes n w h k)))

act-goes-on : GoesOn act_word act_end
unfolding act_end
act-goes-on =
    nam act_word (λ w cs. then (field kind cs) (λ k ds. ended (act-line w k) ds))
    (λ w h. begins-front (act_word ++ (tab ∷ w)) (tab ∷ kind_word in-kind) (act-bytes w in-kind h))
    (λ w h. then-goes-on kind kind_word (λ _. Unit {0}) in-kind kind-exact tt kind-opens (act_word ++ (tab ∷ w)) (λ k ds. ended (act-line w k) ds)
    (λ k _. act-bytes w k h) (λ k _. ended-goes-on _ (act-line w k) (act-bytes w k h)))

comp-goes-on : GoesOn comp_word comp_entry
unfolding comp_entry
comp-goes-on =
    num comp_word (λ n cs. then (field number cs) (λ s ds. old-ended (comp-entry n s) ds))
    (λ n h. begins-front (comp_word ++ (tab ∷ decimal n)) (tab ∷ decimal 0) (comp-bytes n 0 h zero-fits))
    (λ n h. num (comp_word ++ (tab ∷ decimal n)) (λ s ds. old-ended (comp-entry n s) ds) (λ s k. comp-bytes n s h k) (λ s k. ended-goes-on _ (comp-entry n s)
    (comp-bytes n s h k)))

clk-goes-on : GoesOn clk_word clk_entry
unfolding clk_entry
clk-goes-on =
    num clk_word (λ n cs. then (field number cs) (λ s ds. old-ended (clk-entry n s) ds))
    (λ n h. begins-front (clk_word ++ (tab ∷ decimal n)) (tab ∷ decimal 0) (clk-bytes n 0 h zero-fits))
    (λ n h. num (clk_word ++ (tab ∷ decimal n)) (λ s ds. old-ended (clk-entry n s) ds) (λ s k. clk-bytes n s h k) (λ s k. ended-goes-on _ (clk-entry n s)
    (clk-bytes n s h k)))

-- ---- a row: its bytes up to a field
abbrev r1 : ℕ → List ℕ
r1 s = row_word ++ (tab ∷ decimal s)

abbrev r2 : ℕ → Option ℕ → List ℕ
r2 s g = r1 s ++ (tab ∷ guard_field (guard_of g))

abbrev r3 : ℕ → Option ℕ → Name → List ℕ
r3 s g w = r2 s g ++ (tab ∷ w)

abbrev r4 : ℕ → Option ℕ → Name → List ℕ → List ℕ
r4 s g w r = r3 s g w ++ (tab ∷ list_field r)

row-bytes : (s : ℕ) (g : Option ℕ) (w : Name) (r : List ℕ) (t : ℕ) → LineFits₂ (row-line s g w r t) → Begins (r4 s g w r ++ (tab ∷ decimal t))
unfolding line_text fields_after
row-bytes s g w r t h = record { line = row-line s g w r t; fits = h; rest = lf ∷ []; printed = simp append_assoc }

b4 : (s : ℕ) (g : Option ℕ) (w : Name) (r : List ℕ) → Fits s → GuardFits g → NameFits w → AllFit r → Begins (r4 s g w r)
b4 s g w r h k l n = begins-front (r4 s g w r) (tab ∷ decimal 0) (row-bytes s g w r 0 (h, k, l, n, zero-fits))

b3 : (s : ℕ) (g : Option ℕ) (w : Name) → Fits s → GuardFits g → NameFits w → Begins (r3 s g w)
b3 s g w h k l = begins-front (r3 s g w) (tab ∷ list_field []) (b4 s g w [] h k l tt)

b2 : (s : ℕ) (g : Option ℕ) → Fits s → GuardFits g → Begins (r2 s g)
b2 s g h k = begins-front (r2 s g) (tab ∷ []) (b3 s g [] h k tt)

b1 : (s : ℕ) → Fits s → Begins (r1 s)
b1 s h = begins-front (r1 s) (tab ∷ guard_field 0) (b2 s none h tt)

row-goes-on : GoesOn row_word row_end
unfolding row_end
row-goes-on =
    num row_word _ (λ s h. b1 s h) (λ s h.
    then-goes-on guard_or_dash (λ o. guard_field (guard_of o)) GuardFits none guard-exact tt guard-opens (r1 s) _ (λ g k. b2 s g h k) (λ g k.
    nam (r2 s g) _ (λ w l. b3 s g w h k l) (λ w l.
    then-goes-on numbers_or_dash list_field AllFit [] list-exact tt list-opens (r3 s g w) _ (λ r n. b4 s g w r h k l n) (λ r n.
    num (r4 s g w r) _ (λ t o. row-bytes s g w r t (h, k, l, n, o)) (λ t o. ended-goes-on _ (row-line s g w r t) (row-bytes s g w r t (h, k, l, n, o)))))))

-- ---- what does not depend on the bytes behind
line-ended : (l : Line) → Local (ended l)
line-ended l = then-local (the_byte lf) (λ _ cs. got l cs) (exactly-local (lf ∷ [])) (λ _. got-local l)

form-local : Local form_end
unfolding form_end
form-local = then-local (exactly form_rest) (λ _ cs. got form-line cs) (exactly-local form_rest) (λ _. got-local form-line)

names-local : Local name_end
unfolding name_end
names-local =
    then-local (field number) _ (field-local number-local) (λ n. then-local (field name_scan) _ (field-local name-local) (λ w. line-ended (name-line n w)))

act-local : Local act_end
unfolding act_end
act-local = then-local (field name_scan) _ (field-local name-local) (λ w. then-local (field kind) _ (field-local kind-local) (λ k. line-ended (act-line w k)))

row-local : Local row_end
unfolding row_end
row-local =
    then-local (field number) _ (field-local number-local) (λ s.
    then-local (field guard_or_dash) _ (field-local guard-local) (λ g.
    then-local (field name_scan) _ (field-local name-local) (λ w.
    then-local (field numbers_or_dash) _ (field-local list-local) (λ r.
    then-local (field number) _ (field-local number-local) (λ t. line-ended (row-line s g w r t))))))

comp-local : Local comp_entry
unfolding comp_entry
comp-local =
    then-local (field number) _ (field-local number-local) (λ n. then-local (field number) _ (field-local number-local) (λ s. ended-local (comp-entry n s)))

clk-local : Local clk_entry
unfolding clk_entry
clk-local =
    then-local (field number) _ (field-local number-local) (λ n. then-local (field number) _ (field-local number-local) (λ s. ended-local (clk-entry n s)))

plain_local : {S : List ℕ → Scan Entry} → Local S → Local (λ bs. plain (S bs))
plain_local {S} l = then-local S (λ e cs. got (plain-line e) cs) l (λ e. got-local (plain-line e))

plain-goes-on : {S : List ℕ → Scan Entry} (u : List ℕ) → GoesOn u S → GoesOn u (λ bs. plain (S bs))
plain-goes-on {S} u f bs m e = go (S bs) refl e
  where
    go : (o : Scan Entry) → S bs ≡ o → plain o ≡ stops m → (f : List ℕ) × (bs ≡ f ++ m) × Begins (u ++ f)
    go (is g) q e = absurd (no-is e refl)
    go (stops n) q e = f bs m (q ∙ ap (λ l. stops l) (stops-inj e))

-- ---- what is behind a first word, and how it is scanned
record Word (w : List ℕ) : Type 0 where
  fields : List ℕ → Scan Line
  found : (bs : List ℕ) → line (w ++ bs) ≡ fields bs
  local : Local fields
  goes_on : GoesOn w fields

form-word : Word form_word
unfolding line exactly
form-word = record { fields = form_end; found = λ bs. refl; local = form-local; goes_on = form-goes-on }

name-word : Word name_word
unfolding line exactly
name-word = record { fields = name_end; found = λ bs. refl; local = names-local; goes_on = name-goes-on }

act-word : Word act_word
unfolding line exactly
act-word = record { fields = act_end; found = λ bs. refl; local = act-local; goes_on = act-goes-on }

row_word_lem : Word row_word
unfolding line exactly
row_word_lem = record { fields = row_end; found = λ bs. refl; local = row-local; goes_on = row-goes-on }

-- a word that neither `form` nor `name` gets further in
shorter-same : (m : List ℕ) → shorter m m ≡ m
unfolding shorter
shorter-same m = shorter-either (λ l. l ≡ m) m m refl refl

shorter-first : (m n : List ℕ) → length m < length n → shorter m n ≡ m
unfolding shorter
shorter-first m n h = rw (lt-ltb (length m) (length n) h)

plain-found : (w bs : List ℕ) {S : List ℕ → Scan Entry} → Local S → 0 < length w → furthest (plain (S bs)) (stops (shorter (w ++ bs) (w ++ bs))) ≡ plain (S bs)
plain-found w bs {S} l h = go (S bs) refl
  where
    go : (o : Scan Entry) → S bs ≡ o → furthest (plain o) (stops (shorter (w ++ bs) (w ++ bs))) ≡ plain o
    go (is g) e = refl
    go (stops m) e =
        let f = (stop-local l).front bs m e in
        ap (λ n. stops (shorter m n)) (shorter-same (w ++ bs))
        ∙ ap (λ n. stops n) (shorter-first m (w ++ bs) (omega (arith, ap length f.1, length-append f.0 m, length-append w bs)))

comp-word : Word comp_word
unfolding line entry exactly
comp-word = record {
  fields = λ bs. plain (comp_entry bs);
  found = λ bs. plain-found comp_word bs comp-local (omega arith);
  local = plain_local comp-local;
  goes_on = plain-goes-on comp_word comp-goes-on;
}

clk-word : Word clk_word
unfolding line entry exactly
clk-word = record {
  fields = λ bs. plain (clk_entry bs);
  found = λ bs. plain-found clk_word bs clk-local (omega arith);
  local = plain_local clk-local;
  goes_on = plain-goes-on clk_word clk-goes-on;
}

-- ---- where there is none of the six words
old-words : List ℕ → Scan (Unit {0})
old-words bs = furthest (exactly comp_word bs) (furthest (exactly act_word bs) (furthest (exactly clk_word bs) (exactly row_word bs)))

new-words : List ℕ → Scan (Unit {0})
new-words bs = furthest (exactly form_word bs) (exactly name_word bs)

words : List ℕ → Scan (Unit {0})
words bs = furthest (old-words bs) (new-words bs)

data View (bs : List ℕ) : Type 0 where
  has_word : (w : List ℕ) → Word w → (cs : List ℕ) → bs ≡ w ++ cs → View bs
  no-word : (m : List ℕ) → words bs ≡ stops m → View bs

view : (bs : List ℕ) → View bs
unfolding words old-words new-words
view bs =
    go (exactly comp_word bs) refl (exactly act_word bs) refl (exactly clk_word bs) refl (exactly row_word bs) refl (exactly form_word bs) refl
    (exactly name_word bs) refl
  where
    W : Type 0
    W = Scan (Unit {0})

    go : (c : W) → exactly comp_word bs ≡ c → (a : W) → exactly act_word bs ≡ a → (k : W) → exactly clk_word bs ≡ k → (r : W) → exactly row_word bs ≡ r
        → (f : W) → exactly form_word bs ≡ f → (n : W) → exactly name_word bs ≡ n → View bs
    go (is g) p a q k s r t f u n v = has_word comp_word comp-word g.rest (exactly-scanned comp_word bs g p)
    go (stops c) p (is g) q k s r t f u n v = has_word act_word act-word g.rest (exactly-scanned act_word bs g q)
    go (stops c) p (stops a) q (is g) s r t f u n v = has_word clk_word clk-word g.rest (exactly-scanned clk_word bs g s)
    go (stops c) p (stops a) q (stops k) s (is g) t f u n v = has_word row_word row_word_lem g.rest (exactly-scanned row_word bs g t)
    go (stops c) p (stops a) q (stops k) s (stops r) t (is g) u n v = has_word form_word form-word g.rest (exactly-scanned form_word bs g u)
    go (stops c) p (stops a) q (stops k) s (stops r) t (stops f) u (is g) v = has_word name_word name-word g.rest (exactly-scanned name_word bs g v)
    go (stops c) p (stops a) q (stops k) s (stops r) t (stops f) u (stops n) v =
        no-word (shorter (shorter c (shorter a (shorter k r))) (shorter f n)) (rw (p, q, s, t, u, v))

old-stops : (bs m : List ℕ) → old-words bs ≡ stops m
    → (entry bs ≡ stops m) × ((a : List ℕ) × (exactly act_word bs ≡ stops a)) × ((r : List ℕ) × (exactly row_word bs ≡ stops r))
unfolding old-words entry
old-stops bs m e =
    let c = both-stop (exactly comp_word bs) (furthest (exactly act_word bs) (furthest (exactly clk_word bs) (exactly row_word bs))) e in
    let a = both-stop (exactly act_word bs) (furthest (exactly clk_word bs) (exactly row_word bs)) c.3 in
    let k = both-stop (exactly clk_word bs) (exactly row_word bs) a.3 in (
      rw (c.2, entry) (rw a.2 (rw k.2 (rw k.3 (ap (λ l. stops l) (ap (shorter c.0) (ap (shorter a.0) k.4 ∙ a.4) ∙ c.4))))),
      (a.0, a.2),
      (k.1, k.3),
    )

no-word-stops : (bs m : List ℕ) → words bs ≡ stops m → line bs ≡ stops m
unfolding words new-words line
no-word-stops bs m e =
    let b = both-stop (old-words bs) (furthest (exactly form_word bs) (exactly name_word bs)) e in
    let n = both-stop (exactly form_word bs) (exactly name_word bs) b.3 in
    let o = old-stops bs b.0 b.2 in
    rw (n.2, line) (rw n.3 (rw o.1.1 (rw o.2.1 (rw o.0 (ap (λ l. stops l) (ap (shorter b.0) n.4 ∙ b.4))))))

words-local : StopLocal words
unfolding words old-words new-words
words-local =
    let l : (w : List ℕ) → StopLocal (exactly w) = λ w. stop-local (exactly-local w) in
    furthest-local (furthest-local (l comp_word) (furthest-local (l act_word) (furthest-local (l clk_word) (l row_word)))) (furthest-local (l form_word)
    (l name_word))

-- a word that is not there: the bytes up to where the furthest stops begin that word
words-begin : (bs m : List ℕ) → words bs ≡ stops m → (f : List ℕ) × (bs ≡ f ++ m) × Begins f
unfolding words old-words new-words line_text
words-begin bs m e =
    either (furthest (exactly comp_word bs) (furthest (exactly act_word bs) (furthest (exactly clk_word bs) (exactly row_word bs)))) (furthest
    (exactly form_word bs) (exactly name_word bs))
    (either (exactly comp_word bs) _ comp (either (exactly act_word bs) _ act (either (exactly clk_word bs) _ clk row))) (either
    (exactly form_word bs) _ form names) m e
  where
    Up : List ℕ → Type 0
    Up m = (f : List ℕ) × (bs ≡ f ++ m) × Begins f

    either : (o p : Scan (Unit {0})) → ((n : List ℕ) → o ≡ stops n → Up n) → ((n : List ℕ) → p ≡ stops n → Up n) → (n : List ℕ) → furthest o p ≡ stops n → Up n
    either o p f g n e = let t = both-stop o p e in subst Up t.4 (shorter-either Up t.0 t.1 (f t.0 t.2) (g t.1 t.3))

    up : (w : List ℕ) → Begins w → (n : List ℕ) → exactly w bs ≡ stops n → Up n
    up w h n e = let t = exactly-opens w bs n e in (t.0, t.2, begins-front t.0 t.1 (subst Begins t.3 h))

    form : (n : List ℕ) → exactly form_word bs ≡ stops n → Up n
    form = up form_word (record { line = form-line; fits = tt; rest = form_rest; printed = refl })

    names : (n : List ℕ) → exactly name_word bs ≡ stops n → Up n
    names = up name_word (begins-front name_word (tab ∷ decimal 0) (begins-front (name_word ++ (tab ∷ decimal 0)) (tab ∷ []) (name-bytes 0 [] zero-fits tt)))

    comp : (n : List ℕ) → exactly comp_word bs ≡ stops n → Up n
    comp =
        up comp_word (begins-front comp_word (tab ∷ decimal 0) (begins-front (comp_word ++ (tab ∷ decimal 0)) (tab ∷ decimal 0)
        (comp-bytes 0 0 zero-fits zero-fits)))

    act : (n : List ℕ) → exactly act_word bs ≡ stops n → Up n
    act = up act_word (begins-front act_word (tab ∷ []) (begins-front (act_word ++ (tab ∷ [])) (tab ∷ kind_word in-kind) (act-bytes [] in-kind tt)))

    clk : (n : List ℕ) → exactly clk_word bs ≡ stops n → Up n
    clk =
        up clk_word (begins-front clk_word (tab ∷ decimal 0) (begins-front (clk_word ++ (tab ∷ decimal 0)) (tab ∷ decimal 0) (clk-bytes 0 0 zero-fits zero-fits)))

    row : (n : List ℕ) → exactly row_word bs ≡ stops n → Up n
    row = up row_word (begins-front row_word (tab ∷ decimal 0) (b1 0 zero-fits))

-- ---- the bytes up to where a line's scan stops begin a line
line-begins : (bs m : List ℕ) → line bs ≡ stops m → (f : List ℕ) × (bs ≡ f ++ m) × Begins f
line-begins bs m e = go (view bs)
  where
    go : View bs → (f : List ℕ) × (bs ≡ f ++ m) × Begins f
    go (no-word n w) = words-begin bs m (w ∙ ap (λ l. stops l) (stops-inj (sym (no-word-stops bs n w) ∙ e)))
    go (has_word w x cs h) =
        let t = x.goes_on cs m (sym (x.found cs) ∙ ap line (sym h) ∙ e) in
        (w ++ t.0, h ∙ ap (λ (l : List ℕ). w ++ l) t.1 ∙ sym (append_assoc w t.0 m), t.2)

-- where a line's scan stops at the byte c, it does whatever stands behind c
line-stops : StopLocal line
line-stops = record { front = λ bs m e. let t = line-begins bs m e in (t.0, t.1); same = same_of }
  where
    same_of : (p : List ℕ) (c : ℕ) (r s q : List ℕ) → line (p ++ c ∷ r) ≡ stops (q ++ c ∷ r) → line (p ++ c ∷ s) ≡ stops (q ++ c ∷ s)
    same_of p c r s q e = go (view (p ++ c ∷ r))
      where
        go : View (p ++ c ∷ r) → line (p ++ c ∷ s) ≡ stops (q ++ c ∷ s)
        go (no-word m w) =
            let z = stops-inj (sym (no-word-stops (p ++ c ∷ r) m w) ∙ e) in
            no-word-stops (p ++ c ∷ s) (q ++ c ∷ s) (words-local.same p c r s q (w ∙ ap (λ l. stops l) z))
        go (has_word w x cs h) =
            let l = stop-local x.local in
            let k : x.fields cs ≡ stops (q ++ c ∷ r) = sym (x.found cs) ∙ ap line (sym h) ∙ e in
            let f = l.front cs (q ++ c ∷ r) k in
            let m = f.0 ++ q in
            let left : cs ≡ m ++ c ∷ r = f.1 ∙ sym (append_assoc f.0 q (c ∷ r)) in
            let at : p ++ c ∷ s ≡ (w ++ m) ++ c ∷ s = behind p (w ++ m) c r s (h ∙ ap (λ (l : List ℕ). w ++ l) left ∙ sym (append_assoc w m (c ∷ r))) in
            ap line (at ∙ append_assoc w m (c ∷ s)) ∙ x.found (m ++ c ∷ s) ∙ l.same m c r s q (ap x.fields (sym left) ∙ k)

-- ---- the wrong byte: where a line's scan stops
pub wrong-byte-here : (bs cs : List ℕ) → line bs ≡ stops cs → WrongByteOf line_text LineFits₂ bs (stop_column bs cs)
wrong-byte-here = stop-is-wrong line line_text LineFits₂ line-exact line-stops line-begins

-- on line 1
form-exact : Exact (exactly form_line) (λ _. form_line) (λ _. Unit {0}) Any
form-exact = record { printed = λ x bs h k. exactly-printed form_line bs; scanned = λ bs g e. (exactly-scanned form_line bs g e, tt) }

form-begins : (bs m : List ℕ) → exactly form_line bs ≡ stops m → (f : List ℕ) × (bs ≡ f ++ m) × BeginsOf {A = Unit {0}} (λ _. form_line) (λ _. Unit {0}) f
form-begins bs m e = let t = exactly-opens form_line bs m e in (t.0, t.2, record { line = tt; fits = tt; rest = t.1; printed = t.3 })

pub wrong-form : (t cs : List ℕ) → exactly form_line t ≡ stops cs → WrongForm t (stop_column t cs)
wrong-form = stop-is-wrong (exactly form_line) (λ _. form_line) (λ _. Unit {0}) form-exact (stop-local (exactly-local form_line)) form-begins
