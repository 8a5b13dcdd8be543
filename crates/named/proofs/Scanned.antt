-- Each line of the second form is scanned as it is printed, and printed as it was scanned.
use mathlib.Core.Path.{◌≡◌, refl, sym, ◌∙◌, ap, subst}
use mathlib.Core.Option.{Option}
use mathlib.Core.List.{List, [], ◌∷◌, ◌++◌, append_assoc}
use Prim.Native.Nat.{ℕ}
use Rattle.model.specs.Text.{tab, lf, act_word, row_word, Kind, kind_word, decimal, guard_field, fields_after}
use Rattle.model.specs.Reading.{Got, Scan, is, stops, got, then, shorter, furthest, exactly, the_byte, field, number, guard_or_dash}
use Rattle.model.specs.Reading.{numbers_or_dash, kind, guard_of, Entry, comp-entry, act-entry, clk-entry, row-entry, entry}
use Rattle.model.specs.Line.{Fits, AllFit, GuardFits, list_field, line_of, LineFits, Ends, Any, Exact}
use Rattle.model.proofs.Reading.Scans.{is-inj, no-is, then_is}
use Rattle.model.proofs.Reading.Fields.{exactly-printed, exactly-scanned, number-exact, kind-exact, guard-exact, list-exact}
use Rattle.model.proofs.Reading.Lines.{field-printed, field-scanned, field-before, entry-exact}
use Rattle.named.specs.NamedText.{Name, form_word, form_rest, name_word, name_scan, Line, form-line}
use Rattle.named.specs.NamedText.{name-line, act-line, row-line, plain-line, ended, form_end, name_end}
use Rattle.named.specs.NamedText.{act_end, row_end, plain, line, NameFits, IsPlain, line_text, LineFits₂}
use Rattle.named.proofs.Names.{name-exact, name-field}

ended-printed : (l : Line) (bs : List ℕ) → ended l (fields_after [] ++ bs) ≡ got l bs
unfolding fields_after exactly
ended-printed l bs = refl

ended-scanned : (l : Line) (bs : List ℕ) (g : Got Line) → ended l bs ≡ is g → (bs ≡ fields_after [] ++ g.rest) × (l ≡ g.value)
unfolding fields_after
ended-scanned l bs g h =
    let t = then_is (the_byte lf bs) (λ _ cs. got l cs) h in
    let q = is-inj t.2 in
    (exactly-scanned (lf ∷ []) bs t.0 t.1 ∙ ap (λ (r : Got Line). lf ∷ r.rest) q, ap (λ (r : Got Line). r.value) q)

-- ---- printed, then scanned
num : (n : ℕ) → Fits n → (fs : List (List ℕ)) (bs : List ℕ) → field number (fields_after (decimal n ∷ fs) ++ bs) ≡ got n (fields_after fs ++ bs)
num = field-printed number decimal Fits number-exact

kinds : Exact kind kind_word (λ _. Unit {0}) Ends
kinds = record { printed = λ k bs h e. kind-exact.printed k bs h tt; scanned = kind-exact.scanned }

name-printed : (n : ℕ) (w : Name) (bs : List ℕ) → Fits n → NameFits w → name_end (fields_after (decimal n ∷ w ∷ []) ++ bs) ≡ got (name-line n w) bs
unfolding name_end
name-printed n w bs h k = rw (num n h (w ∷ []) bs, name-field w k [] bs) (ended-printed (name-line n w) bs)

act-printed : (w : Name) (k : Kind) (bs : List ℕ) → NameFits w → act_end (fields_after (w ∷ kind_word k ∷ []) ++ bs) ≡ got (act-line w k) bs
unfolding act_end
act-printed w k bs h = rw (name-field w h (kind_word k ∷ []) bs, field-printed kind kind_word (λ _. Unit {0}) kinds k tt [] bs) (ended-printed (act-line w k) bs)

row-printed : (s : ℕ) (g : Option ℕ) (w : Name) (r : List ℕ) (t : ℕ) (bs : List ℕ) → LineFits₂ (row-line s g w r t)
    → row_end (fields_after (decimal s ∷ guard_field (guard_of g) ∷ w ∷ list_field r ∷ decimal t ∷ []) ++ bs) ≡ got (row-line s g w r t) bs
unfolding row_end
row-printed s g w r t bs h =
    rw (
      num s h.0 (guard_field (guard_of g) ∷ w ∷ list_field r ∷ decimal t ∷ []) bs,
      field-printed guard_or_dash (λ o. guard_field (guard_of o)) GuardFits guard-exact g h.1 (w ∷ list_field r ∷ decimal t ∷ []) bs,
      name-field w h.2 (list_field r ∷ decimal t ∷ []) bs,
      field-printed numbers_or_dash list_field AllFit list-exact r h.3 (decimal t ∷ []) bs,
      num t h.4 [] bs,
    )
    (ended-printed (row-line s g w r t) bs)

plain-printed : (e : Entry) (bs : List ℕ) → LineFits e → IsPlain e → line (line_of e ++ bs) ≡ got (plain-line e) bs
unfolding line line_of exactly
plain-printed (comp-entry n s) bs h p = rw (entry-exact.printed (comp-entry n s) bs h tt)
plain-printed (act-entry a k) bs h p = absurd p
plain-printed (clk-entry x b) bs h p = rw (entry-exact.printed (clk-entry x b) bs h tt)
plain-printed (row-entry s g a r t) bs h p = absurd p

pub line-printed : (l : Line) (bs : List ℕ) → LineFits₂ l → line (line_text l ++ bs) ≡ got l bs
unfolding line line_text exactly form_end
line-printed form-line bs h = refl
line-printed (name-line n w) bs h = name-printed n w bs h.0 h.1
line-printed (act-line w k) bs h = act-printed w k bs h
line-printed (row-line s g w r t) bs h = row-printed s g w r t bs h
line-printed (plain-line e) bs h = plain-printed e bs h.0 h.1

-- ---- scanned, then printed: the bytes bs behind the first word w
record ReadLine (w bs : List ℕ) (g : Got Line) : Type 0 where
  front : w ++ bs ≡ line_text g.value ++ g.rest
  fit : LineFits₂ g.value

line_read : (w : List ℕ) (fs : List (List ℕ)) (l : Line) (bs : List ℕ) (g : Got Line) → w ++ fields_after fs ≡ line_text l → LineFits₂ l
    → bs ≡ fields_after fs ++ g.rest → l ≡ g.value → ReadLine w bs g
line_read w fs l bs g p h q d =
    record {
      front = ap (λ (x : List ℕ). w ++ x) q ∙ sym (append_assoc w (fields_after fs) g.rest) ∙ ap (λ (x : List ℕ). x ++ g.rest) (p ∙ ap line_text d);
      fit = subst LineFits₂ d h;
    }

num-back : (bs : List ℕ) (g : Got ℕ) → field number bs ≡ is g → (bs ≡ (tab ∷ decimal g.value) ++ g.rest) × Fits g.value
num-back = field-scanned number decimal Fits number-exact

name_back : (bs : List ℕ) (g : Got Name) → field name_scan bs ≡ is g → (bs ≡ (tab ∷ g.value) ++ g.rest) × NameFits g.value
name_back = field-scanned name_scan (λ (w : Name). w) NameFits name-exact

name-scanned : (bs : List ℕ) (g : Got Line) → name_end bs ≡ is g → ReadLine name_word bs g
unfolding name_end line_text
name-scanned bs g h =
    let t = then_is (field number bs) (λ n cs. then (field name_scan cs) (λ w ds. ended (name-line n w) ds)) h in
    let u = then_is (field name_scan t.0.rest) (λ w ds. ended (name-line t.0.value w) ds) t.2 in
    let z = ended-scanned (name-line t.0.value u.0.value) u.0.rest g u.2 in
    let f = num-back bs t.0 t.1 in
    let k = name_back t.0.rest u.0 u.1 in
    line_read name_word (decimal t.0.value ∷ u.0.value ∷ []) (name-line t.0.value u.0.value) bs g refl (f.1, k.1)
    (field-before (decimal t.0.value) (u.0.value ∷ []) g.rest f.0 (field-before u.0.value [] g.rest k.0 z.0)) z.1

act-scanned : (bs : List ℕ) (g : Got Line) → act_end bs ≡ is g → ReadLine act_word bs g
unfolding act_end line_text
act-scanned bs g h =
    let t = then_is (field name_scan bs) (λ w cs. then (field kind cs) (λ k ds. ended (act-line w k) ds)) h in
    let u = then_is (field kind t.0.rest) (λ k ds. ended (act-line t.0.value k) ds) t.2 in
    let z = ended-scanned (act-line t.0.value u.0.value) u.0.rest g u.2 in
    let f = name_back bs t.0 t.1 in
    let k = field-scanned kind kind_word (λ _. Unit {0}) kinds t.0.rest u.0 u.1 in
    line_read act_word (t.0.value ∷ kind_word u.0.value ∷ []) (act-line t.0.value u.0.value) bs g refl f.1
    (field-before t.0.value (kind_word u.0.value ∷ []) g.rest f.0 (field-before (kind_word u.0.value) [] g.rest k.0 z.0)) z.1

row-parts : (bs : List ℕ) (s : Got ℕ) (g : Got (Option ℕ)) (a : Got Name) (r : Got (List ℕ)) (t : Got ℕ) (h : Got Line)
    → field number bs ≡ is s → field guard_or_dash s.rest ≡ is g → field name_scan g.rest ≡ is a → field numbers_or_dash a.rest ≡ is r
    → field number r.rest ≡ is t
    → ended (row-line s.value g.value a.value r.value t.value) t.rest ≡ is h → ReadLine row_word bs h
unfolding line_text
row-parts bs s g a r t h es eg ea er et e =
    let z = ended-scanned (row-line s.value g.value a.value r.value t.value) t.rest h e in
    let ps = num-back bs s es in
    let pg = field-scanned guard_or_dash (λ o. guard_field (guard_of o)) GuardFits guard-exact s.rest g eg in
    let pa = name_back g.rest a ea in
    let pr = field-scanned numbers_or_dash list_field AllFit list-exact a.rest r er in
    let pt = num-back r.rest t et in
    let ft = field-before (decimal t.value) [] h.rest pt.0 z.0 in
    let fr = field-before (list_field r.value) (decimal t.value ∷ []) h.rest pr.0 ft in
    let fa = field-before a.value (list_field r.value ∷ decimal t.value ∷ []) h.rest pa.0 fr in
    let fg = field-before (guard_field (guard_of g.value)) (a.value ∷ list_field r.value ∷ decimal t.value ∷ []) h.rest pg.0 fa in
    let rest : List (List ℕ) = guard_field (guard_of g.value) ∷ a.value ∷ list_field r.value ∷ decimal t.value ∷ [] in
    let fs = field-before (decimal s.value) rest h.rest ps.0 fg in
    line_read row_word (decimal s.value ∷ rest) (row-line s.value g.value a.value r.value t.value) bs h refl
    (ps.1, pg.1, pa.1, pr.1, pt.1) fs z.1

row-scanned : (bs : List ℕ) (h : Got Line) → row_end bs ≡ is h → ReadLine row_word bs h
unfolding row_end
row-scanned bs h e =
    let s = then_is (field number bs) (λ s cs.
    then (field guard_or_dash cs)
    (λ g ds. then (field name_scan ds)
    (λ a es. then (field numbers_or_dash es) (λ r fs. then (field number fs) (λ t gs. ended (row-line s g a r t) gs))))) e in
    let g = then_is (field guard_or_dash s.0.rest) (λ g ds.
    then (field name_scan ds) (λ a es. then (field numbers_or_dash es)
    (λ r fs. then (field number fs) (λ t gs. ended (row-line s.0.value g a r t) gs)))) s.2 in
    let a = then_is (field name_scan g.0.rest) (λ a es. then (field numbers_or_dash es) (λ r fs. then (field number fs) (λ t gs. ended (row-line s.0.value
    g.0.value a r t) gs))) g.2 in
    let r = then_is (field numbers_or_dash a.0.rest) (λ r fs. then (field number fs) (λ t gs. ended (row-line s.0.value g.0.value
    a.0.value r t) gs)) a.2 in
    let t = then_is (field number r.0.rest) (λ t gs. ended (row-line s.0.value g.0.value a.0.value r.0.value t) gs) r.2 in
    row-parts bs s.0 g.0 a.0 r.0 t.0 h s.1 g.1 a.1 r.1 t.1 t.2

form-scanned : (bs : List ℕ) (g : Got Line) → form_end bs ≡ is g → ReadLine form_word bs g
unfolding form_end line_text
form-scanned bs g h =
    let t = then_is (exactly form_rest bs) (λ _ cs. got form-line cs) h in
    let q = is-inj t.2 in
    let e = exactly-scanned form_rest bs t.0 t.1 in
    let v : form-line ≡ g.value = ap (λ (r : Got Line). r.value) q in
    let z : t.0.rest ≡ g.rest = ap (λ (r : Got Line). r.rest) q in
    record {
      front = ap (λ (l : List ℕ). form_word ++ l) (e ∙ ap (λ (l : List ℕ). form_rest ++ l) z)
          ∙ ap (λ l. line_text l ++ g.rest) v;
      fit = subst LineFits₂ v tt;
    }

-- an entry that is no `act` and no `row` is plain
word-there : (e : Entry) (bs cs : List ℕ) → bs ≡ line_of e ++ cs → {a r : List ℕ} → exactly act_word bs ≡ stops a → exactly row_word bs ≡ stops r → IsPlain e
unfolding line_of
word-there (comp-entry n s) bs cs p a r = tt
word-there (act-entry x k) bs cs p a r =
    no-is a (ap (exactly act_word) (p ∙ append_assoc act_word (fields_after (decimal x ∷ kind_word k ∷ [])) cs)
    ∙ exactly-printed act_word (fields_after (decimal x ∷ kind_word k ∷ []) ++ cs))
word-there (clk-entry x b) bs cs p a r = tt
word-there (row-entry s g x q t) bs cs p a r =
    let fs : List (List ℕ) = decimal s ∷ guard_field (guard_of g) ∷ decimal x ∷ list_field q ∷ decimal t ∷ [] in
    no-is r (ap (exactly row_word) (p ∙ append_assoc row_word (fields_after fs) cs) ∙ exactly-printed row_word (fields_after fs ++ cs))

plain-scanned : (bs : List ℕ) (ds : List ℕ) (g : Got Line) {a r : List ℕ} → exactly act_word bs ≡ stops a → exactly row_word bs ≡ stops r
    → furthest (plain (entry bs)) (stops ds) ≡ is g → (bs ≡ line_text g.value ++ g.rest) × LineFits₂ g.value
unfolding line_text
plain-scanned bs ds g a r h = go (entry bs) refl h
  where
    go : (o : Scan Entry) → entry bs ≡ o → furthest (plain o) (stops ds) ≡ is g → (bs ≡ line_text g.value ++ g.rest) × LineFits₂ g.value
    go (stops cs) p h = absurd (no-is refl h)
    go (is e) p h =
        let s = entry-exact.scanned bs e p in
        let q = is-inj h in
        rw (← q) (s.0, (s.1, word-there e.value bs e.rest s.0 a r))

pub line-scanned : (bs : List ℕ) (g : Got Line) → line bs ≡ is g → (bs ≡ line_text g.value ++ g.rest) × LineFits₂ g.value
unfolding line
line-scanned bs g e = go (exactly form_word bs) refl (exactly name_word bs) refl (exactly act_word bs) refl (exactly row_word bs) refl e
  where
    found : (w : List ℕ) (h : Got (Unit {0})) → exactly w bs ≡ is h → ReadLine w h.rest g → (bs ≡ line_text g.value ++ g.rest) × LineFits₂ g.value
    found w h p r = (exactly-scanned w bs h p ∙ r.front, r.fit)

    go : (f : Scan (Unit {0})) → exactly form_word bs ≡ f → (n : Scan (Unit {0})) → exactly name_word bs ≡ n → (a : Scan (Unit {0})) → exactly act_word bs ≡ a
        → (r : Scan (Unit {0})) → exactly row_word bs ≡ r
        → (elim f as (λ _. Scan Line) [
          | is g ↦ form_end g.rest
          | stops f ↦ elim n as (λ _. Scan Line) [
            | is g ↦ name_end g.rest
            | stops n ↦ elim a as (λ _. Scan Line) [
              | is g ↦ act_end g.rest
              | stops a ↦ elim r as (λ _. Scan Line) [ is g ↦ row_end g.rest | stops r ↦ furthest (plain (entry bs)) (stops (shorter f n)) ]
            ]
          ]
        ]) ≡ is g
        → (bs ≡ line_text g.value ++ g.rest) × LineFits₂ g.value
    go (is h) p n q a s r t e = found form_word h p (form-scanned h.rest g e)
    go (stops f) p (is h) q a s r t e = found name_word h q (name-scanned h.rest g e)
    go (stops f) p (stops n) q (is h) s r t e = found act_word h s (act-scanned h.rest g e)
    go (stops f) p (stops n) q (stops a) s (is h) t e = found row_word h t (row-scanned h.rest g e)
    go (stops f) p (stops n) q (stops a) s (stops r) t e = plain-scanned bs (shorter f n) g s t e

pub line-exact : Exact line line_text LineFits₂ Any
line-exact = record { printed = λ l bs h _. line-printed l bs h; scanned = line-scanned }
