-- A line of the second form is scanned field by field.
use mathlib.Core.Path.{◌≡◌, refl, sym, ◌∙◌, ap}
use mathlib.Core.Option.{Option}
use mathlib.Core.List.{List}
use Prim.Native.Nat.{ℕ, ◌+◌, ◌≤◌}
use native.Mathlib.Omega.{arith}
use lib.ListN.{length, drop}
use lib.Seq.{drop-drop, drop_at}
use Rattle.model.specs.Text.{lf, tab, act_word, row_word}
use Rattle.model.specs.Reading.{Scan, is, stops, got, then, shorter, exactly, the_byte, number, guard_or_dash, numbers_or_dash, field, Entry, entry}
use Rattle.model.proofs.Reading.Scans.{is-inj, stops-inj, no-is}
use Rattle.fields.specs.declared.Guard.{Guard}
use Rattle.fields.specs.declared.Resets.{Resets}
use Rattle.fields.specs.Resets.{valued, summary}
use Rattle.fields.specs.declared.Guard.TheVariants as OfGuard
use Rattle.measure.proofs.Fields.{width-most}
use Rattle.columns.specs.Columns.{wide_guard}
use Rattle.lines.specs.Lines.{guard_is, stop_of}
use Rattle.named.specs.NamedText.{Name, form_word, form_rest, name_word, name_at, name_scan, Line, form-line}
use Rattle.named.specs.NamedText.{row-line, plain-line, ended, form_end, name_end, act_end, row_end, line}
use Rattle.named.proofs.Names.{name-here}
use Rattle.namelines.specs.NamedLines.{code_of, row_tail, other_line}
use Rattle.namelines.specs.declared.NamedLine.{NamedLine}
use Rattle.namelines.specs.declared.NamedLine.TheVariants.{Row}

-- ---- a name behind a tab: the bytes behind it
abbrev pub passed : {A : Type 0} → Scan A → Scan (Unit {0})
passed s = then s (λ _ cs. got tt cs)

pub name-behind : (t : List ℕ) (at : ℕ) → drop (at + length (name_at (drop at t)).value) t ≡ (name_at (drop at t)).rest
name-behind t at =
    let g = name_at (drop at t) in
    sym (drop-drop (length g.value) at t) ∙ ap (drop (length g.value)) (name-here (drop at t)).bytes
    ∙ drop_at g.value g.rest (length g.value) refl

pub passed_is : {A : Type 0} (o : Scan A) {cs : List ℕ} → passed o ≡ got tt cs → (x : A) × (o ≡ got x cs)
passed_is (stops ds) e = absurd (no-is refl e)
passed_is (is g) {cs} e = (g.value, ap (λ h. got g.value h.rest) (is-inj e))

pub passed-stops : {A : Type 0} (o : Scan A) {cs : List ℕ} → passed o ≡ stops cs → o ≡ stops cs
passed-stops (stops ds) e = ap (λ l. stops l) (stops-inj e)
passed-stops (is g) e = absurd (no-is e refl)

pub name-field-is : (t bs : List ℕ) (d : ℕ) → the_byte tab bs ≡ got tt (drop d t) → (r : ℕ) → r ≡ d + length (name_at (drop d t)).value
    → got tt (drop r t) ≡ passed (field name_scan bs)
name-field-is t bs d p r e = rw p (ap (λ l. got tt l) (ap (λ k. drop k t) e ∙ name-behind t d))

pub name-field-no : (bs : List ℕ) {cs : List ℕ} → the_byte tab bs ≡ stops cs → stops cs ≡ passed (field name_scan bs)
name-field-no bs p = rw p

-- ---- widths
pub guard-most : (g : Guard) → wide_guard g ≤ 5
guard-most OfGuard.Dash = omega arith
guard-most (OfGuard.Clock x) = width-most x

-- ---- a line's end
ended-as : (l : Line) (bs : List ℕ) → valued code_of (ended l bs) ≡ then (the_byte lf bs) (λ _ cs. got (code_of l) cs)
ended-as l bs = go (the_byte lf bs)
  where
    go : (o : Scan (Unit {0})) → valued code_of (then o (λ _ cs. got l cs)) ≡ then o (λ _ cs. got (code_of l) cs)
    go (is g) = refl
    go (stops cs) = refl

-- lines of two fields: the first is missing, the second is, or both are there
module _ {A B : Type 0} (one : List ℕ → Scan A) (two : List ℕ → Scan B) (e : A → B → Line) (bs : List ℕ) where
  abbrev pub pair : Scan Line
  pair = then (field one bs) (λ x cs. then (field two cs) (λ y ds. ended (e x y) ds))

  pub two-no-1 : {cs : List ℕ} → field one bs ≡ stops cs → stops cs ≡ valued code_of pair
  two-no-1 p = rw p

  pub two-no-2 : {cs ds : List ℕ} {x : A} → field one bs ≡ got x cs → field two cs ≡ stops ds → stops ds ≡ valued code_of pair
  two-no-2 p q = rw p (rw q)

  pub two-are : {cs ds : List ℕ} {x : A} {y : B} {l : NamedLine} → field one bs ≡ got x cs → field two cs ≡ got y ds → code_of (e x y) ≡ l
      → then (the_byte lf ds) (λ _ es. got l es) ≡ valued code_of pair
  two-are {ds = ds} {x = x} {y = y} p q w = rw p (rw q (ap (λ l. then (the_byte lf ds) (λ _ es. got l es)) (sym w) ∙ sym (ended-as (e x y) ds)))

-- ---- rows
pub row-no-1 : (bs : List ℕ) {cs : List ℕ} → field number bs ≡ stops cs → stops cs ≡ valued code_of (row_end bs)
unfolding row_end
row-no-1 bs p = rw (p, row_end)

pub row-no-2 : (bs : List ℕ) {cs ds : List ℕ} {s : ℕ} → field number bs ≡ got s cs → field guard_or_dash cs ≡ stops ds → stops ds ≡ valued code_of (row_end bs)
unfolding row_end
row-no-2 bs p q = rw (p, q, row_end)

pub row-no-3 : (bs : List ℕ) {cs ds es : List ℕ} {s : ℕ} {g : Option ℕ} → field number bs ≡ got s cs → field guard_or_dash cs ≡ got g ds
    → field name_scan ds ≡ stops es → stops es ≡ valued code_of (row_end bs)
unfolding row_end
row-no-3 bs p q r = rw (p, q, r, row_end)

pub row-are : (bs : List ℕ) {cs ds es : List ℕ} {s : ℕ} {g : Option ℕ} {w : Name} {h : Guard} → field number bs ≡ got s cs → field guard_or_dash cs ≡ got g ds
    → field name_scan ds ≡ got w es → guard_is g ≡ h
    → row_tail s h es ≡ valued code_of (row_end bs)
unfolding row_end row_tail
row-are bs {es = es} {s = s} {g = g} {w = w} p q r z = rw (p, q, r, row_end) (ap (λ h. row_tail s h es) (sym z) ∙ go (field numbers_or_dash es))
  where
    last : (r : List ℕ) (o : Scan ℕ) → then o (λ t ds. then (the_byte lf ds) (λ _ es. got (Row s (guard_is g) (summary r) t) es)) ≡ valued code_of (then o
        (λ t gs. ended (row-line s g w r t) gs))
    last r (stops cs) = refl
    last r (is t) = sym (ended-as (row-line s g w r t.value) t.rest)

    go : (o : Scan (List ℕ))
        → then (valued summary o) (λ r cs. then (field number cs) (λ t ds. then (the_byte lf ds) (λ _ es. got (Row s (guard_is g) r t) es)))
        ≡ valued code_of (then o (λ r fs. then (field number fs) (λ t gs. ended (row-line s g w r t) gs)))
    go (stops cs) = refl
    go (is r) = last r.value (field number r.rest)

-- behind the name: the resets are missing, the target is, or both are there
module _ (s : ℕ) (h : Guard) (bs : List ℕ) where
  pub end-no-1 : {cs : List ℕ} → valued summary (field numbers_or_dash bs) ≡ stops cs → stops cs ≡ row_tail s h bs
  unfolding row_tail
  end-no-1 p = rw (p, row_tail)

  pub end-no-2 : {cs ds : List ℕ} {r : Resets} → valued summary (field numbers_or_dash bs) ≡ got r cs → field number cs ≡ stops ds → stops ds ≡ row_tail s h bs
  unfolding row_tail
  end-no-2 p q = rw (p, q, row_tail)

  pub end-are : {cs ds : List ℕ} {r : Resets} {t : ℕ} → valued summary (field numbers_or_dash bs) ≡ got r cs → field number cs ≡ got t ds
      → then (the_byte lf ds) (λ _ es. got (Row s h r t) es) ≡ row_tail s h bs
  unfolding row_tail
  end-are p q = rw (p, q, row_tail)

-- ---- the `form` line
pub form-is : (bs : List ℕ) {cs : List ℕ} → exactly form_rest bs ≡ got tt cs → got (code_of form-line) cs ≡ valued code_of (form_end bs)
unfolding form_end
form-is bs p = rw (p, form_end)

pub form-no : (bs : List ℕ) {cs : List ℕ} → exactly form_rest bs ≡ stops cs → stops cs ≡ valued code_of (form_end bs)
unfolding form_end
form-no bs p = rw (p, form_end)

-- ---- the first word
module _ (bs : List ℕ) where
  pub line-form : {cs : List ℕ} → exactly form_word bs ≡ got tt cs → line bs ≡ form_end cs
  unfolding line
  line-form a = rw (a, line)

  pub line-name : {x cs : List ℕ} → exactly form_word bs ≡ stops x → exactly name_word bs ≡ got tt cs → line bs ≡ name_end cs
  unfolding line
  line-name a b = rw (a, b, line)

  pub line-act : {x y cs : List ℕ} → exactly form_word bs ≡ stops x → exactly name_word bs ≡ stops y → exactly act_word bs ≡ got tt cs → line bs ≡ act_end cs
  unfolding line
  line-act a b c = rw (a, b, c, line)

  pub line_row : {x y z cs : List ℕ} → exactly form_word bs ≡ stops x → exactly name_word bs ≡ stops y → exactly act_word bs ≡ stops z
      → exactly row_word bs ≡ got tt cs → line bs ≡ row_end cs
  unfolding line
  line_row a b c d = rw (a, b, c, d, line)

  pub line_other : {x y z v : List ℕ} → exactly form_word bs ≡ stops x → exactly name_word bs ≡ stops y → exactly act_word bs ≡ stops z
      → exactly row_word bs ≡ stops v
      → line bs ≡ other_line bs
  unfolding line other_line
  line_other a b c d = rw (a, b, c, d, line, other_line)

  pub other-is : {e : Entry} {cs : List ℕ} → entry bs ≡ got e cs → got (code_of (plain-line e)) cs ≡ valued code_of (other_line bs)
  unfolding other_line
  other-is p = rw (p, other_line)

  pub other-no : {cs f n : List ℕ} → entry bs ≡ stops cs → f ≡ stop_of (exactly form_word bs) → n ≡ stop_of (exactly name_word bs)
      → stops (shorter cs (shorter f n)) ≡ valued code_of (other_line bs)
  unfolding other_line
  other-no p q r = rw (p, q, r, other_line)
