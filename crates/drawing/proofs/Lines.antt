-- A line of the file is read exactly where it is printed.
use mathlib.Core.Path.{◌≡◌, refl, sym, ◌∙◌, ap, subst}
use mathlib.Core.Bool.{Bool, true, false, cond}
use mathlib.Core.List.{List, [], ◌∷◌, ◌++◌, append_assoc}
use Prim.Native.Nat.{ℕ, ◌^◌, ◌<◌}
use lib.Dec.{T, eqb}
use lib.Ieee.{Float}
use lib.Ieee.Bits.{is_true}
use borrow.Author.Tests.{eq-eqb, eqb-true}
use Rattle.answer.specs.Limits.{max_digits}
use Rattle.model.specs.Text.{tab, lf, decimal, fields_after}
use Rattle.model.specs.Reading.{Got, Scan, is, stops, got, then, exactly, the_byte, field, number}
use Rattle.model.proofs.Reading.Scans.{is-inj, no-is, then_is}
use Rattle.model.proofs.Reading.Fields.{exactly-scanned, number-exact}
use Rattle.model.proofs.Reading.Lines.{fields-end, field-printed, field-scanned, field-before}
use Rattle.draw.specs.declared.Law.{Law}
use Rattle.draw.specs.declared.Law.TheVariants.{Uniform, Mixture}
use Rattle.draw.specs.Draw.{lawful}
use Rattle.drawing.specs.File.{Range, real_at, real_text, Real, range_at, ended, uni_word, mix_word, uni_at}
use Rattle.drawing.specs.File.{mix_at, form_at, law_at, line_at, form_fields, line_of, Reals, Good}
use Rattle.drawing.proofs.Hex.{real-exact}

-- ---- a number behind a tab, and the line's end
number-there : (x : Float) → Real x → (fs : List (List ℕ)) (bs : List ℕ) → field real_at (fields_after (real_text x ∷ fs) ++ bs) ≡ got x (fields_after fs ++ bs)
number-there = field-printed real_at real_text Real real-exact

number-back : (bs : List ℕ) (g : Got Float) → field real_at bs ≡ is g → (bs ≡ (tab ∷ real_text g.value) ++ g.rest) × Real g.value
number-back = field-scanned real_at real_text Real real-exact

ended-there : (l : Law) (bs : List ℕ) → ended l (fields_after [] ++ bs) ≡ got l bs
unfolding fields_after exactly
ended-there l bs = refl

ended-back : (l : Law) (bs : List ℕ) (g : Got Law) → ended l bs ≡ is g → (bs ≡ fields_after [] ++ g.rest) × (l ≡ g.value)
unfolding fields_after
ended-back l bs g e =
    let t = then_is (the_byte lf bs) (λ _ cs. got l cs) e in
    let q = is-inj t.2 in
    (exactly-scanned (lf ∷ []) bs t.0 t.1 ∙ ap (λ (r : Got Law). lf ∷ r.rest) q, ap (λ (r : Got Law). r.value) q)

-- ---- two ends
abbrev range : Float → Float → Range
range a b = record { lower = a; upper = b }

range-there : (a b : Float) → Real a → Real b → (fs : List (List ℕ)) (bs : List ℕ)
    → range_at (fields_after (real_text a ∷ real_text b ∷ fs) ++ bs) ≡ got (range a b) (fields_after fs ++ bs)
unfolding range_at
range-there a b h k fs bs = rw (number-there a h (real_text b ∷ fs) bs, number-there b k fs bs)

record RangeBack (bs : List ℕ) (g : Got Range) : Type 0 where
  low : Real g.value.lower
  high : Real g.value.upper
  front : (fs : List (List ℕ)) (rest : List ℕ) → g.rest ≡ fields_after fs ++ rest
      → bs ≡ fields_after (real_text g.value.lower ∷ real_text g.value.upper ∷ fs) ++ rest

range_back : (bs : List ℕ) (g : Got Range) → range_at bs ≡ is g → RangeBack bs g
unfolding range_at
range_back bs g e =
    let t = then_is (field real_at bs) (λ a cs. then (field real_at cs) (λ b ds. got (range a b) ds)) e in
    let u = then_is (field real_at t.0.rest) (λ b ds. got (range t.0.value b) ds) t.2 in
    go t.0 (number-back bs t.0 t.1) u.0 (number-back t.0.rest u.0 u.1) (is-inj u.2)
  where
    go : (a : Got Float) → (bs ≡ (tab ∷ real_text a.value) ++ a.rest) × Real a.value
        → (b : Got Float) → (a.rest ≡ (tab ∷ real_text b.value) ++ b.rest) × Real b.value
        → ◌≡◌ {A = Got Range} (record { value = range a.value b.value; rest = b.rest }) g → RangeBack bs g
    go a p b q e = rw (← e) (record {
      low = p.1;
      high = q.1;
      front = λ fs rest k. field-before (real_text a.value) (real_text b.value ∷ fs) rest p.0 (field-before (real_text b.value) fs rest q.0 k);
    })

-- ---- the two forms
uni-there : (a b : Float) (bs : List ℕ) → Reals (Uniform a b) → uni_at (fields_after (real_text a ∷ real_text b ∷ []) ++ bs) ≡ got (Uniform a b) bs
unfolding uni_at
uni-there a b bs h = rw (range-there a b h.0 h.1 [] bs) (ended-there (Uniform a b) bs)

mix-there : (w a b c d : Float) (bs : List ℕ) → Reals (Mixture w a b c d)
    → mix_at (fields_after (real_text w ∷ real_text a ∷ real_text b ∷ real_text c ∷ real_text d ∷ []) ++ bs) ≡ got (Mixture w a b c d) bs
unfolding mix_at
mix-there w a b c d bs h =
    rw (
      number-there w h.0 (real_text a ∷ real_text b ∷ real_text c ∷ real_text d ∷ []) bs,
      range-there a b h.1 h.2 (real_text c ∷ real_text d ∷ []) bs,
      range-there c d h.3 h.4 [] bs,
    )
    (ended-there (Mixture w a b c d) bs)

-- the bytes behind the word, and the numbers
record FormBack (w bs : List ℕ) (g : Got Law) : Type 0 where
  front : (tab ∷ w) ++ bs ≡ fields_after (form_fields g.value) ++ g.rest
  reals : Reals g.value

uni-back : (bs : List ℕ) (g : Got Law) → uni_at bs ≡ is g → FormBack uni_word bs g
unfolding uni_at fields_after
uni-back bs g e =
    let t = then_is (range_at bs) (λ r cs. ended (Uniform r.lower r.upper) cs) e in
    let r = t.0 in
    let k = range_back bs r t.1 in
    let z = ended-back (Uniform r.value.lower r.value.upper) r.rest g t.2 in
    rw (← z.1) (record { front = ap {B = List ℕ} (λ l. (tab ∷ uni_word) ++ l) (k.front [] g.rest z.0); reals = (k.low, k.high) })

mix-back : (bs : List ℕ) (g : Got Law) → mix_at bs ≡ is g → FormBack mix_word bs g
unfolding mix_at fields_after
mix-back bs g e =
    let t = then_is (field real_at bs) (λ w cs.
    then (range_at cs) (λ r ds. then (range_at ds) (λ q es. ended (Mixture w r.lower r.upper q.lower q.upper) es))) e in
    let u = then_is (range_at t.0.rest) (λ r ds.
    then (range_at ds) (λ q es. ended (Mixture t.0.value r.lower r.upper q.lower q.upper) es)) t.2 in
    let v = then_is (range_at u.0.rest) (λ q es.
    ended (Mixture t.0.value u.0.value.lower u.0.value.upper q.lower q.upper) es) u.2 in
    go t.0 (number-back bs t.0 t.1) u.0 (range_back t.0.rest u.0 u.1) v.0 (range_back u.0.rest v.0 v.1) v.2
  where
    go : (w : Got Float) → (bs ≡ (tab ∷ real_text w.value) ++ w.rest) × Real w.value → (r : Got Range) → RangeBack w.rest r
        → (q : Got Range) → RangeBack r.rest q
        → ended (Mixture w.value r.value.lower r.value.upper q.value.lower q.value.upper) q.rest ≡ is g → FormBack mix_word bs g
    go w p r k q j e =
        let l = Mixture w.value r.value.lower r.value.upper q.value.lower q.value.upper in
        let z = ended-back l q.rest g e in
        let last = real_text q.value.lower ∷ real_text q.value.upper ∷ [] in
        let two = real_text r.value.lower ∷ real_text r.value.upper ∷ last in
        let f = field-before (real_text w.value) two g.rest p.0 (k.front last g.rest (j.front [] g.rest z.0)) in
        rw (← z.1) (record { front = ap {B = List ℕ} (λ l. (tab ∷ mix_word) ++ l) f; reals = (p.1, k.low, k.high, j.low, j.high) })

form-there : (l : Law) (bs : List ℕ) → Reals l → field form_at (fields_after (form_fields l) ++ bs) ≡ got l bs
unfolding form_at fields_after exactly
form-there (Uniform a b) bs h = uni-there a b bs h
form-there (Mixture w a b c d) bs h = mix-there w a b c d bs h

form-back : (bs : List ℕ) (g : Got Law) → field form_at bs ≡ is g → (bs ≡ fields_after (form_fields g.value) ++ g.rest) × Reals g.value
unfolding form_at
form-back bs g e =
    let t = then_is (the_byte tab bs) (λ _ cs. form_at cs) e in
    go t.0.rest (exactly-scanned (tab ∷ []) bs t.0 t.1) (exactly uni_word t.0.rest) refl t.2
  where
    behind : (w cs ds : List ℕ) → bs ≡ (tab ∷ []) ++ cs → cs ≡ w ++ ds → FormBack w ds g
        → (bs ≡ fields_after (form_fields g.value) ++ g.rest) × Reals g.value
    behind w cs ds p q k = (p ∙ ap {B = List ℕ} (λ l. (tab ∷ []) ++ l) q ∙ k.front, k.reals)

    go : (cs : List ℕ) → bs ≡ (tab ∷ []) ++ cs → (o : Scan (Unit {0})) → exactly uni_word cs ≡ o
        → (elim o as (λ _. Scan Law) [ is h ↦ uni_at h.rest | stops ds ↦ then (exactly mix_word cs) (λ _ es. mix_at es) ]) ≡ is g
        → (bs ≡ fields_after (form_fields g.value) ++ g.rest) × Reals g.value
    go cs p (is h) q e = behind uni_word cs h.rest p (exactly-scanned uni_word cs h q) (uni-back h.rest g e)
    go cs p (stops ds) q e =
        let t = then_is (exactly mix_word cs) (λ _ es. mix_at es) e in
        behind mix_word cs t.0.rest p (exactly-scanned mix_word cs t.0 t.1) (mix-back t.0.rest g t.2)

-- ---- what stands behind a clock's number
law-there : (l : Law) (bs : List ℕ) → Good l → law_at (fields_after (form_fields l) ++ bs) ≡ got l bs
unfolding law_at
law-there l bs h = rw (form-there l bs h.reals) (rw (is_true (lawful l) h.within))

law-back : (bs : List ℕ) (g : Got Law) → law_at bs ≡ is g → (bs ≡ fields_after (form_fields g.value) ++ g.rest) × Good g.value
unfolding law_at
law-back bs g e =
    let t = then_is (field form_at bs) (λ l cs. cond (lawful l) (got l cs) (stops bs)) e in
    go t.0 (form-back bs t.0 t.1) (lawful t.0.value) refl t.2
  where
    go : (h : Got Law) → (bs ≡ fields_after (form_fields h.value) ++ h.rest) × Reals h.value → (b : Bool) → lawful h.value ≡ b
        → cond b (got h.value h.rest) (stops bs) ≡ is g → (bs ≡ fields_after (form_fields g.value) ++ g.rest) × Good g.value
    go h r true q e = rw (← is-inj e) (r.0, record { reals = r.1; within = subst T (sym q) tt })
    go h r false q e = absurd (no-is refl e)

pub law-lawful : (bs : List ℕ) (l : Law) (cs : List ℕ) → law_at bs ≡ got l cs → T (lawful l)
law-lawful bs l cs e = (law-back bs (record { value = l; rest = cs }) e).1.within

-- ---- a line
pub line-there : (x : ℕ) (l : Law) (cs : List ℕ) → x < 10 ^ max_digits → Good l → line_at x (line_of x l ++ cs) ≡ got l cs
unfolding line_at line_of
line-there x l cs b h =
    let f = fields_after (form_fields l) ++ cs in
    ap (λ bs. then (number bs) (λ y ds. cond (eqb y x) (law_at ds) (stops bs))) (append_assoc (decimal x) (fields_after (form_fields l)) cs)
    ∙ ap (λ s. then s (λ y ds. cond (eqb y x) (law_at ds) (stops (decimal x ++ f)))) (number-exact.printed x f b (fields-end (form_fields l) cs))
    ∙ ap (λ t. cond t (law_at f) (stops (decimal x ++ f))) (eq-eqb x x refl)
    ∙ law-there l cs h

pub line-back : (x : ℕ) (bs : List ℕ) (g : Got Law) → line_at x bs ≡ is g → (bs ≡ line_of x g.value ++ g.rest) × Good g.value
unfolding line_at line_of
line-back x bs g e =
    let t = then_is (number bs) (λ y cs. cond (eqb y x) (law_at cs) (stops bs)) e in
    go t.0 (number-exact.scanned bs t.0 t.1) (eqb t.0.value x) refl t.2
  where
    go : (h : Got ℕ) → (bs ≡ decimal h.value ++ h.rest) × (h.value < 10 ^ max_digits) → (b : Bool) → eqb h.value x ≡ b
        → cond b (law_at h.rest) (stops bs) ≡ is g → (bs ≡ (decimal x ++ fields_after (form_fields g.value)) ++ g.rest) × Good g.value
    go h n false q e = absurd (no-is refl e)
    go h n true q e =
        let s = law-back h.rest g e in (
          n.0 ∙ ap (λ y. decimal y ++ h.rest) (eqb-true h.value x q) ∙ ap (λ (r : List ℕ). decimal x ++ r) s.0
              ∙ sym (append_assoc (decimal x) (fields_after (form_fields g.value)) g.rest),
          s.1,
        )
