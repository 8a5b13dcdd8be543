-- A sample, and a line of samples, is read exactly where it is printed.
use mathlib.Core.Path.{◌≡◌, refl, sym, ◌∙◌, ap, ap₂}
use mathlib.Core.Bool.{Bool, true, false, cond}
use mathlib.Core.List.{List, [], ◌∷◌, ◌++◌, append_assoc}
use Prim.Native.Nat.{ℕ, zero, suc, ◌+◌, ◌-◌, ◌^◌, ◌≤◌, ◌<◌}
use native.Mathlib.Omega.{arith}
use lib.ListN.{length, length-append}
use lib.Dec.{eqb, leb}
use borrow.Author.Tests.{le-leb, leb-true, eq-eqb, eqb-true, eqb-false, ne_eqb}
use Rattle.answer.specs.Limits.{max_digits, max_ticks, max_tick_digits}
use Rattle.model.specs.Text.{lf, byte0, digits_of, decimal, fields_after}
use Rattle.model.specs.Reading.{Got, Scan, is, stops, got, then, exactly, the_byte, field, is_digit, more_digits, number}
use Rattle.model.specs.Line.{Ends, Exact}
use Rattle.model.proofs.Reading.Scans.{is-inj, no-is, then_is}
use Rattle.model.proofs.Reading.Number.{digit-is, is_digit_lem, digits_of_lem, Digits, digits-taken, digits-end, taken, behind-least, digits-back}
use Rattle.model.proofs.Reading.Fields.{exactly-scanned, ends-no-digit, number-exact}
use Rattle.model.proofs.Reading.Lines.{fields-end, field-printed, field-scanned, field-before}
use Rattle.simulation.specs.Samples.{ticking, sample_at, samples_at, line_at, texts, line_of, Ticks, AllTicks}

-- ---- one sample
sample-lead : (d : ℕ) (bs : List ℕ) → 1 ≤ d → d < 10 → sample_at ((byte0 + d) ∷ bs) ≡ ticking (more_digits (max_tick_digits - 1) d bs) ((byte0 + d) ∷ bs)
unfolding sample_at
sample-lead d bs p h =
    let e : byte0 + d - byte0 ≡ d = omega arith in
    rw (digit-is d h, sample_at) (rw (ne_eqb (byte0 + d) byte0 (omega arith)) (ap (λ n. ticking (more_digits (max_tick_digits - 1) n bs) ((byte0 + d) ∷ bs)) e))

sample-printed : (n : ℕ) (bs : List ℕ) → Ticks n → Ends bs → sample_at (digits_of max_tick_digits n ++ bs) ≡ got n bs
sample-printed n bs h e =
    let d : Digits max_tick_digits n = digits_of_lem (max_tick_digits - 1) n (omega (arith, h.1)) in
    ap (λ (l : List ℕ). sample_at (l ++ bs)) d.here
    ∙ sample-lead d.lead (d.more ++ bs) (d.some h.0) d.digit
    ∙ ap (λ g. ticking g ((byte0 + d.lead) ∷ (d.more ++ bs))) (digits-taken (max_tick_digits - 1) d.lead bs d.worth (omega (arith, d.fits))
    ∙ digits-end (max_tick_digits - 1 - length d.more) n bs (ends-no-digit bs e))
    ∙ rw (le-leb n max_ticks h.1)

sample-scanned : (bs : List ℕ) (g : Got ℕ) → sample_at bs ≡ is g → (bs ≡ digits_of max_tick_digits g.value ++ g.rest) × Ticks g.value
unfolding sample_at
sample-scanned [] g e = absurd (no-is refl e)
sample-scanned (b ∷ bs) g e = go (is_digit b) refl (eqb b byte0) refl (leb (more_digits (max_tick_digits - 1) (b - byte0) bs).value max_ticks) refl e
  where
    go : (t : Bool) → is_digit b ≡ t → (z : Bool) → eqb b byte0 ≡ z → (u : Bool) → leb (more_digits (max_tick_digits - 1) (b - byte0) bs).value max_ticks ≡ u
        → cond t (cond z (stops (b ∷ bs)) (cond u (is (more_digits (max_tick_digits - 1) (b - byte0) bs)) (stops (b ∷ bs)))) (stops (b ∷ bs)) ≡ is g
        → (b ∷ bs ≡ digits_of max_tick_digits g.value ++ g.rest) × Ticks g.value
    go false d z w u v e = absurd (no-is refl e)
    go true d true w u v e = absurd (no-is refl e)
    go true d false w false v e = absurd (no-is refl e)
    go true d false w true v e =
        let q = is-inj e in
        let h = is_digit_lem b d in
        let ne = eqb-false b byte0 w in
        let r = taken (max_tick_digits - 1) (b - byte0) bs in
        let s = digits-back (max_tick_digits - 1) (b - byte0) (omega arith) (omega arith) r.worth r.fits in
        let at : b ≡ byte0 + (b - byte0) = omega arith in
        let lead : 1 ≤ b - byte0 = omega arith in
        rw (← q) (
          ap₂ {C = List ℕ} (λ n l. n ∷ l) at r.front ∙ ap (λ (l : List ℕ). l ++ (more_digits (max_tick_digits - 1) (b - byte0) bs).rest) (sym s.0),
          (omega (arith, lead, behind-least r.worth), leb-true _ max_ticks v),
        )

pub sample-exact : Exact sample_at (digits_of max_tick_digits) Ticks Ends
sample-exact = record { printed = sample-printed; scanned = sample-scanned }

-- ---- the samples of a line, and its end
samples-end : (k : ℕ) (cs : List ℕ) → samples_at k (lf ∷ cs) ≡ got [] cs
unfolding samples_at exactly
samples-end zero cs = refl
samples-end (suc k) cs = refl

samples-printed : (k : ℕ) (l cs : List ℕ) → AllTicks l → length l ≤ k → samples_at k (fields_after (texts l) ++ cs) ≡ got l cs
unfolding samples_at fields_after exactly
samples-printed k [] cs h b = samples-end k cs
samples-printed zero (n ∷ ns) cs h b = absurd (omega arith)
samples-printed (suc k) (n ∷ ns) cs h b =
    ap (λ s. then s (λ m ds. then (samples_at k ds) (λ ms es. got (m ∷ ms) es)))
    (field-printed sample_at (digits_of max_tick_digits) Ticks sample-exact n h.0 (texts ns) cs)
    ∙ ap (λ s. then s (λ ms es. got (n ∷ ms) es)) (samples-printed k ns cs h.1 (omega arith))

samples-scanned : (k : ℕ) (bs : List ℕ) (g : Got (List ℕ)) → samples_at k bs ≡ is g → (bs ≡ fields_after (texts g.value) ++ g.rest) × AllTicks g.value
unfolding samples_at fields_after
samples-scanned zero bs g e =
    let t = then_is (the_byte lf bs) (λ _ cs. got [] cs) e in
    rw (← is-inj t.2) (exactly-scanned (lf ∷ []) bs t.0 t.1, tt)
samples-scanned (suc k) bs g e = go (samples-scanned k) (the_byte lf bs) refl e
  where
    go : ((ds : List ℕ) (h : Got (List ℕ)) → samples_at k ds ≡ is h → (ds ≡ fields_after (texts h.value) ++ h.rest) × AllTicks h.value)
        → (o : Scan (Unit {0})) → the_byte lf bs ≡ o
        → (elim o as (λ _. Scan (List ℕ)) [
          | is h ↦ got [] h.rest
          | stops cs ↦ then (field sample_at bs) (λ n ds. then (samples_at k ds) (λ ns es. got (n ∷ ns) es))
        ]) ≡ is g
        → (bs ≡ fields_after (texts g.value) ++ g.rest) × AllTicks g.value
    go rec (is h) q e = rw (← is-inj e) (exactly-scanned (lf ∷ []) bs h q, tt)
    go rec (stops cs) q e =
        let t = then_is (field sample_at bs) (λ n ds. then (samples_at k ds) (λ ns es. got (n ∷ ns) es)) e in
        let u = then_is (samples_at k t.0.rest) (λ ns es. got (t.0.value ∷ ns) es) t.2 in
        let f = field-scanned sample_at (digits_of max_tick_digits) Ticks sample-exact bs t.0 t.1 in
        let r = rec t.0.rest u.0 u.1 in
        rw (← is-inj u.2) (field-before (digits_of max_tick_digits t.0.value) (texts u.0.value) u.0.rest f.0 r.0, (f.1, r.1))

-- ---- a line
enough : (l cs : List ℕ) → length l ≤ length (fields_after (texts l) ++ cs)
unfolding fields_after
enough [] cs = omega arith
enough (n ∷ ns) cs =
    let e : length ((digits_of max_tick_digits n ++ fields_after (texts ns)) ++ cs) ≡ length (digits_of max_tick_digits n) + length (fields_after (texts ns) ++ cs) =
    ap (λ (r : List ℕ). length r) (append_assoc (digits_of max_tick_digits n) (fields_after (texts ns)) cs)
    ∙ length-append (digits_of max_tick_digits n) (fields_after (texts ns) ++ cs) in
    omega (arith, e, enough ns cs)

pub line-printed : (x : ℕ) (l cs : List ℕ) → x < 10 ^ max_digits → AllTicks l → line_at x (line_of x l ++ cs) ≡ got l cs
unfolding line_at line_of
line-printed x l cs b h =
    let f = fields_after (texts l) ++ cs in
    ap (λ bs. then (number bs) (λ y ds. cond (eqb y x) (samples_at (length ds) ds) (stops bs))) (append_assoc (decimal x) (fields_after (texts l)) cs)
    ∙ ap (λ s. then s (λ y ds. cond (eqb y x) (samples_at (length ds) ds) (stops (decimal x ++ f)))) (number-exact.printed x f b (fields-end (texts l) cs))
    ∙ ap (λ t. cond t (samples_at (length f) f) (stops (decimal x ++ f))) (eq-eqb x x refl)
    ∙ samples-printed (length f) l cs h (enough l cs)

pub line-scanned : (x : ℕ) (bs : List ℕ) (g : Got (List ℕ)) → line_at x bs ≡ is g → (bs ≡ line_of x g.value ++ g.rest) × AllTicks g.value
unfolding line_at line_of
line-scanned x bs g e =
    let t = then_is (number bs) (λ y cs. cond (eqb y x) (samples_at (length cs) cs) (stops bs)) e in
    let n = number-exact.scanned bs t.0 t.1 in
    go t.0 n (eqb t.0.value x) refl t.2
  where
    go : (h : Got ℕ) → (bs ≡ decimal h.value ++ h.rest) × (h.value < 10 ^ max_digits) → (b : Bool) → eqb h.value x ≡ b
        → cond b (samples_at (length h.rest) h.rest) (stops bs) ≡ is g
        → (bs ≡ (decimal x ++ fields_after (texts g.value)) ++ g.rest) × AllTicks g.value
    go h n false q e = absurd (no-is refl e)
    go h n true q e =
        let s = samples-scanned (length h.rest) h.rest g e in (
          n.0 ∙ ap (λ y. decimal y ++ h.rest) (eqb-true h.value x q) ∙ ap (λ (r : List ℕ). decimal x ++ r) s.0
              ∙ sym (append_assoc (decimal x) (fields_after (texts g.value)) g.rest),
          s.1,
        )
