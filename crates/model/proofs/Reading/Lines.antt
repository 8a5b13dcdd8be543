-- Each line is scanned as it is printed, and printed as it was scanned.
use mathlib.Core.Path.{◌≡◌, refl, sym, ◌∙◌, ap, subst}
use mathlib.Core.Logic.{◌↔◌}
use mathlib.Core.Option.{Option}
use mathlib.Core.List.{List, [], ◌∷◌, ◌++◌, append_assoc}
use Prim.Native.Nat.{ℕ}
use Rattle.model.specs.Text.{tab, lf, comp_word, act_word, clk_word, row_word, Kind, kind_word, decimal, guard_field, fields_after}
use Rattle.model.specs.Reading.{Got, Scan, is, stops, got, then, shorter, exactly, the_byte, field, ended, number, guard_or_dash, numbers_or_dash}
use Rattle.model.specs.Reading.{kind, guard_of, Entry, comp-entry, act-entry, clk-entry, row-entry, comp_entry, act_entry, clk_entry, row_entry}
use Rattle.model.specs.Reading.{entry}
use Rattle.model.specs.Line.{Fits, AllFit, GuardFits, list_field, line_of, LineFits, Ends, Any, Exact}
use Rattle.model.specs.Faulty.{LineAt}
use Rattle.model.proofs.Reading.Scans.{is-inj, no-is, then_is}
use Rattle.model.proofs.Reading.Fields.{exactly-scanned, number-exact, kind-exact, guard-exact, list-exact}

-- ---- a field behind a tab, and the line's end
pub fields-end : (fs : List (List ℕ)) (bs : List ℕ) → Ends (fields_after fs ++ bs)
unfolding fields_after
fields-end [] bs = (refl, refl)
fields-end (f ∷ fs) bs = (refl, refl)

module _ {A : Type 0} (scan : List ℕ → Scan A) (print : A → List ℕ) (Good : A → Type 0) where
  pub field-printed : Exact scan print Good Ends → (x : A) → Good x → (fs : List (List ℕ)) (bs : List ℕ)
      → field scan (fields_after (print x ∷ fs) ++ bs) ≡ got x (fields_after fs ++ bs)
  unfolding fields_after exactly
  field-printed r x h fs bs = ap scan (append_assoc (print x) (fields_after fs) bs) ∙ r.printed x (fields_after fs ++ bs) h (fields-end fs bs)

  pub field-scanned : {E : List ℕ → Type 0} → Exact scan print Good E → (bs : List ℕ) (g : Got A) → field scan bs ≡ is g
      → (bs ≡ (tab ∷ print g.value) ++ g.rest) × Good g.value
  field-scanned r bs g e =
      let t = then_is (the_byte tab bs) (λ _ cs. scan cs) e in
      let q = r.scanned t.0.rest g t.2 in
      (exactly-scanned (tab ∷ []) bs t.0 t.1 ∙ ap {B = List ℕ} (λ l. tab ∷ l) q.0, q.1)

pub field-before : (l : List ℕ) (fs : List (List ℕ)) (rest : List ℕ) {bs cs : List ℕ} → bs ≡ (tab ∷ l) ++ cs → cs ≡ fields_after fs ++ rest
    → bs ≡ fields_after (l ∷ fs) ++ rest
unfolding fields_after
field-before l fs rest p q = p ∙ ap {B = List ℕ} (λ r. (tab ∷ l) ++ r) q ∙ sym (append_assoc (tab ∷ l) (fields_after fs) rest)

ended-printed : (e : Entry) (bs : List ℕ) → ended e (fields_after [] ++ bs) ≡ got e bs
unfolding fields_after exactly
ended-printed e bs = refl

ended-scanned : (e : Entry) (bs : List ℕ) (g : Got Entry) → ended e bs ≡ is g → (bs ≡ fields_after [] ++ g.rest) × (e ≡ g.value)
unfolding fields_after
ended-scanned e bs g h =
    let t = then_is (the_byte lf bs) (λ _ cs. got e cs) h in
    let q = is-inj t.2 in
    (exactly-scanned (lf ∷ []) bs t.0 t.1 ∙ ap (λ (r : Got Entry). lf ∷ r.rest) q, ap (λ (r : Got Entry). r.value) q)

-- ---- each kind of line
num : (n : ℕ) → Fits n → (fs : List (List ℕ)) (bs : List ℕ) → field number (fields_after (decimal n ∷ fs) ++ bs) ≡ got n (fields_after fs ++ bs)
num = field-printed number decimal Fits number-exact

comp-printed : (n s : ℕ) (bs : List ℕ) → Fits n → Fits s → comp_entry (fields_after (decimal n ∷ decimal s ∷ []) ++ bs) ≡ got (comp-entry n s) bs
unfolding comp_entry
comp-printed n s bs h k = rw (num n h (decimal s ∷ []) bs, num s k [] bs) (ended-printed (comp-entry n s) bs)

act-printed : (a : ℕ) (k : Kind) (bs : List ℕ) → Fits a → act_entry (fields_after (decimal a ∷ kind_word k ∷ []) ++ bs) ≡ got (act-entry a k) bs
unfolding act_entry
act-printed a k bs h = rw (num a h (kind_word k ∷ []) bs, field-printed kind kind_word (λ _. Unit {0}) kinds k tt [] bs) (ended-printed (act-entry a k) bs)
  where
    kinds : Exact kind kind_word (λ _. Unit {0}) Ends
    kinds = record { printed = λ k bs h e. kind-exact.printed k bs h tt; scanned = kind-exact.scanned }

clk-printed : (x b : ℕ) (bs : List ℕ) → Fits x → Fits b → clk_entry (fields_after (decimal x ∷ decimal b ∷ []) ++ bs) ≡ got (clk-entry x b) bs
unfolding clk_entry
clk-printed x b bs h k = rw (num x h (decimal b ∷ []) bs, num b k [] bs) (ended-printed (clk-entry x b) bs)

row-printed : (s : ℕ) (g : Option ℕ) (a : ℕ) (r : List ℕ) (t : ℕ) (bs : List ℕ) → LineFits (row-entry s g a r t)
    → row_entry (fields_after (decimal s ∷ guard_field (guard_of g) ∷ decimal a ∷ list_field r ∷ decimal t ∷ []) ++ bs) ≡ got (row-entry s g a r t) bs
unfolding row_entry
row-printed s g a r t bs h =
    rw (
      num s h.0 (guard_field (guard_of g) ∷ decimal a ∷ list_field r ∷ decimal t ∷ []) bs,
      field-printed guard_or_dash (λ o. guard_field (guard_of o)) GuardFits guard-exact g h.1 (decimal a ∷ list_field r ∷ decimal t ∷ []) bs,
      num a h.2 (list_field r ∷ decimal t ∷ []) bs,
      field-printed numbers_or_dash list_field AllFit list-exact r h.3 (decimal t ∷ []) bs,
      num t h.4 [] bs,
    )
    (ended-printed (row-entry s g a r t) bs)

entry-printed : (e : Entry) (bs : List ℕ) → LineFits e → entry (line_of e ++ bs) ≡ got e bs
unfolding entry line_of exactly
entry-printed (comp-entry n s) bs h = comp-printed n s bs h.0 h.1
entry-printed (act-entry a k) bs h = act-printed a k bs h
entry-printed (clk-entry x b) bs h = clk-printed x b bs h.0 h.1
entry-printed (row-entry s g a r t) bs h = row-printed s g a r t bs h

-- what a line that was read tells: the bytes bs behind its first word w
record ReadLine (w bs : List ℕ) (g : Got Entry) : Type 0 where
  front : w ++ bs ≡ line_of g.value ++ g.rest
  fit : LineFits g.value

num-back : (bs : List ℕ) (g : Got ℕ) → field number bs ≡ is g → (bs ≡ (tab ∷ decimal g.value) ++ g.rest) × Fits g.value
num-back = field-scanned number decimal Fits number-exact

-- the line e is read, and its bytes are its word and its fields
line_read : (w : List ℕ) (fs : List (List ℕ)) (e : Entry) (bs : List ℕ) (g : Got Entry) → w ++ fields_after fs ≡ line_of e → LineFits e
    → bs ≡ fields_after fs ++ g.rest → e ≡ g.value → ReadLine w bs g
line_read w fs e bs g p h q d =
    record {
      front = ap (λ (l : List ℕ). w ++ l) q ∙ sym (append_assoc w (fields_after fs) g.rest) ∙ ap (λ (l : List ℕ). l ++ g.rest) (p ∙ ap line_of d);
      fit = subst LineFits d h;
    }

-- lines of two fields, a number and one more
two-scanned : {A : Type 0} (scan : List ℕ → Scan A) (print : A → List ℕ) (Good : A → Type 0) {E : List ℕ → Type 0} → Exact scan print Good E
    → (w : List ℕ) (e : ℕ → A → Entry) → ((n : ℕ) (x : A) → w ++ fields_after (decimal n ∷ print x ∷ []) ≡ line_of (e n x))
    → ((n : ℕ) (x : A) → Fits n → Good x → LineFits (e n x))
    → (bs : List ℕ) (g : Got Entry) → then (field number bs) (λ n cs. then (field scan cs) (λ x ds. ended (e n x) ds)) ≡ is g → ReadLine w bs g
two-scanned {A = A} scan print Good r w e line good bs g h =
    let t = then_is (field number bs) (λ n cs. then (field scan cs) (λ x ds. ended (e n x) ds)) h in
    let u = then_is (field scan t.0.rest) (λ x ds. ended (e t.0.value x) ds) t.2 in
    go t.0 t.1 u.0 u.1 u.2
  where
    go : (n : Got ℕ) → field number bs ≡ is n → (x : Got A) → field scan n.rest ≡ is x → ended (e n.value x.value) x.rest ≡ is g → ReadLine w bs g
    go n p x q z =
        let d = ended-scanned (e n.value x.value) x.rest g z in
        let f = num-back bs n p in
        let k = field-scanned scan print Good r n.rest x q in
        line_read w (decimal n.value ∷ print x.value ∷ []) (e n.value x.value) bs g (line n.value x.value)
        (good n.value x.value f.1 k.1)
        (field-before (decimal n.value) (print x.value ∷ []) g.rest f.0 (field-before (print x.value) [] g.rest k.0 d.0)) d.1

comp-scanned : (bs : List ℕ) (g : Got Entry) → comp_entry bs ≡ is g → ReadLine comp_word bs g
unfolding comp_entry line_of
comp-scanned = two-scanned number decimal Fits number-exact comp_word comp-entry (λ n s. refl) (λ n s p q. (p, q))

act-scanned : (bs : List ℕ) (g : Got Entry) → act_entry bs ≡ is g → ReadLine act_word bs g
unfolding act_entry line_of
act-scanned = two-scanned kind kind_word (λ _. Unit {0}) kind-exact act_word act-entry (λ a k. refl) (λ a k p q. p)

clk-scanned : (bs : List ℕ) (g : Got Entry) → clk_entry bs ≡ is g → ReadLine clk_word bs g
unfolding clk_entry line_of
clk-scanned = two-scanned number decimal Fits number-exact clk_word clk-entry (λ x b. refl) (λ x b p q. (p, q))

row-fields : (s : ℕ) (g : Option ℕ) (a : ℕ) (r : List ℕ) (t : ℕ) → List (List ℕ)
row-fields s g a r t = decimal s ∷ guard_field (guard_of g) ∷ decimal a ∷ list_field r ∷ decimal t ∷ []

row-parts : (bs : List ℕ) (s : Got ℕ) (g : Got (Option ℕ)) (a : Got ℕ) (r : Got (List ℕ)) (t : Got ℕ) (h : Got Entry)
    → field number bs ≡ is s → field guard_or_dash s.rest ≡ is g → field number g.rest ≡ is a → field numbers_or_dash a.rest ≡ is r
    → field number r.rest ≡ is t
    → ended (row-entry s.value g.value a.value r.value t.value) t.rest ≡ is h → ReadLine row_word bs h
unfolding line_of row-fields
row-parts bs s g a r t h es eg ea er et e =
    let z = ended-scanned (row-entry s.value g.value a.value r.value t.value) t.rest h e in
    let ps = num-back bs s es in
    let pg = field-scanned guard_or_dash (λ o. guard_field (guard_of o)) GuardFits guard-exact s.rest g eg in
    let pa = num-back g.rest a ea in
    let pr = field-scanned numbers_or_dash list_field AllFit list-exact a.rest r er in
    let pt = num-back r.rest t et in
    let ft = field-before (decimal t.value) [] h.rest pt.0 z.0 in
    let fr = field-before (list_field r.value) (decimal t.value ∷ []) h.rest pr.0 ft in
    let fa = field-before (decimal a.value) (list_field r.value ∷ decimal t.value ∷ []) h.rest pa.0 fr in
    let fg = field-before (guard_field (guard_of g.value)) (decimal a.value ∷ list_field r.value ∷ decimal t.value ∷ []) h.rest pg.0 fa in
    let fs = field-before (decimal s.value) (guard_field (guard_of g.value) ∷ decimal a.value ∷ list_field r.value ∷ decimal t.value ∷ [])
    h.rest ps.0 fg in
    line_read row_word (row-fields s.value g.value a.value r.value t.value)
    (row-entry s.value g.value a.value r.value t.value) bs h refl
    (ps.1, pg.1, pa.1, pr.1, pt.1) fs z.1

row-scanned : (bs : List ℕ) (h : Got Entry) → row_entry bs ≡ is h → ReadLine row_word bs h
unfolding row_entry
row-scanned bs h e =
    let s = then_is (field number bs) (λ s cs.
    then (field guard_or_dash cs) (λ g ds. then (field number ds)
    (λ a es. then (field numbers_or_dash es) (λ r fs. then (field number fs) (λ t gs. ended (row-entry s g a r t) gs))))) e in
    let g = then_is (field guard_or_dash s.0.rest) (λ g ds.
    then (field number ds) (λ a es. then (field numbers_or_dash es)
    (λ r fs. then (field number fs) (λ t gs. ended (row-entry s.0.value g a r t) gs)))) s.2 in
    let a = then_is (field number g.0.rest) (λ a es. then (field numbers_or_dash es) (λ r fs. then (field number fs) (λ t gs. ended (row-entry s.0.value
    g.0.value a r t) gs))) g.2 in
    let r = then_is (field numbers_or_dash a.0.rest) (λ r fs. then (field number fs) (λ t gs. ended (row-entry s.0.value g.0.value
    a.0.value r t) gs)) a.2 in
    let t = then_is (field number r.0.rest) (λ t gs. ended (row-entry s.0.value g.0.value a.0.value r.0.value t) gs) r.2 in
    row-parts bs s.0 g.0 a.0 r.0 t.0 h s.1 g.1 a.1 r.1 t.1 t.2

-- the first word tells what is behind it
entry-scanned : (bs : List ℕ) (g : Got Entry) → entry bs ≡ is g → (bs ≡ line_of g.value ++ g.rest) × LineFits g.value
unfolding entry
entry-scanned bs g e = go (exactly comp_word bs) refl (exactly act_word bs) refl (exactly clk_word bs) refl (exactly row_word bs) refl e
  where
    Word : Type 0
    Word = Scan (Unit {0})

    found : (w : List ℕ) (h : Got (Unit {0})) → exactly w bs ≡ is h → ReadLine w h.rest g → (bs ≡ line_of g.value ++ g.rest) × LineFits g.value
    found w h p r = (exactly-scanned w bs h p ∙ r.front, r.fit)

    go : (c : Word) → exactly comp_word bs ≡ c → (a : Word) → exactly act_word bs ≡ a → (k : Word) → exactly clk_word bs ≡ k → (r : Word) → exactly row_word bs ≡ r
        → (elim c as (λ _. Scan Entry) [
          | is g ↦ comp_entry g.rest
          | stops c ↦ elim a as (λ _. Scan Entry) [
            | is g ↦ act_entry g.rest
            | stops a ↦ elim k as (λ _. Scan Entry) [
              | is g ↦ clk_entry g.rest
              | stops k ↦ elim r as (λ _. Scan Entry) [ is g ↦ row_entry g.rest | stops r ↦ stops (shorter c (shorter a (shorter k r))) ]
            ]
          ]
        ]) ≡ is g
        → (bs ≡ line_of g.value ++ g.rest) × LineFits g.value
    go (is h) p a q k s r t e = found comp_word h p (comp-scanned h.rest g e)
    go (stops c) p (is h) q k s r t e = found act_word h q (act-scanned h.rest g e)
    go (stops c) p (stops a) q (is h) s r t e = found clk_word h s (clk-scanned h.rest g e)
    go (stops c) p (stops a) q (stops k) s (is h) t e = found row_word h t (row-scanned h.rest g e)
    go (stops c) p (stops a) q (stops k) s (stops r) t e = absurd (no-is refl e)

pub entry-exact : Exact entry line_of LineFits Any
entry-exact = record { printed = λ e bs h _. entry-printed e bs h; scanned = entry-scanned }

-- ---- what is scanned is the line at the front
pub line-exactly : (bs : List ℕ) (e : Entry) (cs : List ℕ) → (entry bs ≡ got e cs) ↔ LineAt bs e cs
line-exactly bs e cs = (
  λ h. let p = entry-exact.scanned bs (record { value = e; rest = cs }) h in record { fits = p.1; printed = p.0 },
  λ l. ap entry l.printed ∙ entry-exact.printed e cs l.fits tt,
)

pub no_line : (bs cs : List ℕ) → entry bs ≡ stops cs → (e : Entry) (ds : List ℕ) → LineAt bs e ds → ⊥
no_line bs cs h e ds l = no-is h ((line-exactly bs e ds).1 l)
