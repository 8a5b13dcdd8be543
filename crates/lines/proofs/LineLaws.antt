-- A line's scan goes field by field.
use mathlib.Core.Path.{◌≡◌, refl, sym, ◌∙◌, ap}
use mathlib.Core.Option.{Option}
use mathlib.Core.List.{List}
use Prim.Native.Nat.{ℕ}
use Rattle.model.specs.Text.{lf, comp_word, act_word, clk_word, row_word}
use Rattle.model.specs.Reading.{Scan, is, stops, got, then, shorter, exactly, the_byte, number, guard_or_dash, numbers_or_dash, Entry, row-entry, field}
use Rattle.model.specs.Reading.{ended, comp_entry, act_entry, clk_entry, row_entry, entry}
use Rattle.model.proofs.Reading.Scans.{is-inj, stops-inj, no-is}
use Rattle.fields.specs.declared.Guard.{Guard}
use Rattle.fields.specs.declared.Guard.TheVariants as OfGuard
use Rattle.fields.specs.declared.Kind.{Kind}
use Rattle.fields.specs.declared.Kind.TheVariants as OfKind
use Rattle.fields.specs.declared.Resets.{Resets}
use Rattle.fields.specs.Fields.{guard_of, kind_of}
use Rattle.fields.specs.Resets.{valued, summary}
use Rattle.lines.specs.Lines.{guard_is, kind_is, line_of, row_end, stop_of, no_word}
use Rattle.lines.specs.declared.Line.{Line}
use Rattle.lines.specs.declared.Line.TheVariants.{Row}

pub guard-back : (g : Guard) → guard_is (guard_of g) ≡ g
guard-back OfGuard.Dash = refl
guard-back (OfGuard.Clock x) = refl

pub kind-back : (k : Kind) → kind_is (kind_of k) ≡ k
kind-back OfKind.In = refl
kind-back OfKind.Out = refl
kind-back OfKind.Uin = refl
kind-back OfKind.Uout = refl

-- ---- a scan whose value was changed
pub valued-stops : {A B : Type 0} (f : A → B) (o : Scan A) {cs : List ℕ} → valued f o ≡ stops cs → o ≡ stops cs
valued-stops f (stops cs) e = ap (λ l. stops l) (stops-inj e)
valued-stops f (is g) e = absurd (no-is e refl)

pub valued-is : {A B : Type 0} (f : A → B) (o : Scan A) {y : B} {bs : List ℕ} → valued f o ≡ got y bs → (x : A) × (o ≡ got x bs) × (f x ≡ y)
valued-is f (stops cs) e = absurd (no-is refl e)
valued-is f (is g) {y} {bs} e =
    let s = is-inj e in
    (g.value, ap (λ h. got g.value h.rest) s, ap (λ h. h.value) s)

-- ---- a line, field by field
-- its end
ended-as : (e : Entry) (bs : List ℕ) → valued line_of (ended e bs) ≡ then (the_byte lf bs) (λ _ cs. got (line_of e) cs)
ended-as e bs = go (the_byte lf bs)
  where
    go : (o : Scan (Unit {0})) → valued line_of (then o (λ _ cs. got e cs)) ≡ then o (λ _ cs. got (line_of e) cs)
    go (is g) = refl
    go (stops cs) = refl

-- lines of two fields: the first is missing, the second is, or both are there
pub two-no-1 : {A : Type 0} (scan : List ℕ → Scan A) (e : ℕ → A → Entry) (bs : List ℕ) {cs : List ℕ} → field number bs ≡ stops cs
    → stops cs ≡ valued line_of (then (field number bs) (λ n cs. then (field scan cs) (λ x ds. ended (e n x) ds)))
two-no-1 scan e bs p = rw p

pub two-no-2 : {A : Type 0} (scan : List ℕ → Scan A) (e : ℕ → A → Entry) (bs : List ℕ) {cs ds : List ℕ} {n : ℕ} → field number bs ≡ got n cs
    → field scan cs ≡ stops ds
    → stops ds ≡ valued line_of (then (field number bs) (λ n cs. then (field scan cs) (λ x ds. ended (e n x) ds)))
two-no-2 scan e bs p q = rw p (rw q)

pub two-are : {A : Type 0} (scan : List ℕ → Scan A) (e : ℕ → A → Entry) (bs : List ℕ) {cs ds : List ℕ} {n : ℕ} {x : A} {l : Line} → field number bs ≡ got n cs
    → field scan cs ≡ got x ds → line_of (e n x) ≡ l
    → then (the_byte lf ds) (λ _ es. got l es) ≡ valued line_of (then (field number bs) (λ n cs. then (field scan cs) (λ x ds. ended (e n x) ds)))
two-are scan e bs {ds = ds} {n = n} {x = x} p q w = rw p (rw q (ap (λ l. then (the_byte lf ds) (λ _ es. got l es)) (sym w) ∙ sym (ended-as (e n x) ds)))

-- rows
pub row-no-1 : (bs : List ℕ) {cs : List ℕ} → field number bs ≡ stops cs → stops cs ≡ valued line_of (row_entry bs)
unfolding row_entry
row-no-1 bs p = rw (p, row_entry)

pub row-no-2 : (bs : List ℕ) {cs ds : List ℕ} {s : ℕ} → field number bs ≡ got s cs → field guard_or_dash cs ≡ stops ds → stops ds ≡ valued line_of (row_entry bs)
unfolding row_entry
row-no-2 bs p q = rw (p, q, row_entry)

pub row-no-3 : (bs : List ℕ) {cs ds es : List ℕ} {s : ℕ} {g : Option ℕ} → field number bs ≡ got s cs → field guard_or_dash cs ≡ got g ds
    → field number ds ≡ stops es → stops es ≡ valued line_of (row_entry bs)
unfolding row_entry
row-no-3 bs p q r = rw (p, q, r, row_entry)

pub row-are : (bs : List ℕ) {cs ds es : List ℕ} {s : ℕ} {g : Option ℕ} {a : ℕ} {h : Guard} → field number bs ≡ got s cs → field guard_or_dash cs ≡ got g ds
    → field number ds ≡ got a es → guard_is g ≡ h
    → row_end s h a es ≡ valued line_of (row_entry bs)
unfolding row_entry row_end
row-are bs {es = es} {s = s} {g = g} {a = a} p q r w = rw (p, q, r, row_entry) (ap (λ h. row_end s h a es) (sym w) ∙ go (field numbers_or_dash es))
  where
    last : (r : List ℕ) (o : Scan ℕ) → then o (λ t ds. then (the_byte lf ds) (λ _ es. got (Row s (guard_is g) a (summary r) t) es)) ≡ valued line_of (then o
        (λ t gs. ended (row-entry s g a r t) gs))
    last r (stops cs) = refl
    last r (is t) = sym (ended-as (row-entry s g a r t.value) t.rest)

    go : (o : Scan (List ℕ))
        → then (valued summary o) (λ r cs. then (field number cs) (λ t ds. then (the_byte lf ds) (λ _ es. got (Row s (guard_is g) a r t) es)))
        ≡ valued line_of (then o (λ r fs. then (field number fs) (λ t gs. ended (row-entry s g a r t) gs)))
    go (stops cs) = refl
    go (is r) = last r.value (field number r.rest)

-- behind the action: the resets are missing, the target is, or both are there
module _ (s : ℕ) (h : Guard) (a : ℕ) (bs : List ℕ) where
  pub end-no-1 : {cs : List ℕ} → valued summary (field numbers_or_dash bs) ≡ stops cs → stops cs ≡ row_end s h a bs
  unfolding row_end
  end-no-1 p = rw (p, row_end)

  pub end-no-2 : {cs ds : List ℕ} {r : Resets} → valued summary (field numbers_or_dash bs) ≡ got r cs → field number cs ≡ stops ds → stops ds ≡ row_end s h a bs
  unfolding row_end
  end-no-2 p q = rw (p, q, row_end)

  pub end-are : {cs ds : List ℕ} {r : Resets} {t : ℕ} → valued summary (field numbers_or_dash bs) ≡ got r cs → field number cs ≡ got t ds
      → then (the_byte lf ds) (λ _ es. got (Row s h a r t) es) ≡ row_end s h a bs
  unfolding row_end
  end-are p q = rw (p, q, row_end)

-- ---- the first word
module _ (bs : List ℕ) where
  pub entry-comp : {cs : List ℕ} → exactly comp_word bs ≡ got tt cs → entry bs ≡ comp_entry cs
  unfolding entry
  entry-comp a = rw (a, entry)

  pub entry-act : {x cs : List ℕ} → exactly comp_word bs ≡ stops x → exactly act_word bs ≡ got tt cs → entry bs ≡ act_entry cs
  unfolding entry
  entry-act a b = rw (a, b, entry)

  pub entry-clk : {x y cs : List ℕ} → exactly comp_word bs ≡ stops x → exactly act_word bs ≡ stops y → exactly clk_word bs ≡ got tt cs → entry bs ≡ clk_entry cs
  unfolding entry
  entry-clk a b c = rw (a, b, c, entry)

  pub entry_row : {x y z cs : List ℕ} → exactly comp_word bs ≡ stops x → exactly act_word bs ≡ stops y → exactly clk_word bs ≡ stops z
      → exactly row_word bs ≡ got tt cs → entry bs ≡ row_entry cs
  unfolding entry
  entry_row a b c d = rw (a, b, c, d, entry)

  pub no-word : {x y z v : List ℕ} → x ≡ stop_of (exactly comp_word bs) → y ≡ stop_of (exactly act_word bs) → z ≡ stop_of (exactly clk_word bs)
      → v ≡ stop_of (exactly row_word bs)
      → shorter x (shorter y (shorter z v)) ≡ no_word bs
  unfolding no_word
  no-word a b c d = rw (a, b, c, d, no_word)

  pub entry-none : {x y z v : List ℕ} → exactly comp_word bs ≡ stops x → exactly act_word bs ≡ stops y → exactly clk_word bs ≡ stops z
      → exactly row_word bs ≡ stops v
      → entry bs ≡ stops (no_word bs)
  unfolding entry no_word
  entry-none a b c d = rw (a, b, c, d, entry, no_word)
