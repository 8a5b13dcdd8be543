-- The sheet of default names, action by action; and a model's text by them.
use mathlib.Core.Path.{◌≡◌, refl, sym, ◌∙◌, ap, ap₂}
use mathlib.Core.Bool.{Bool, true, false}
use mathlib.Core.Option.{Option, none, some}
use mathlib.Core.List.Memᴰ.{head as here}
use mathlib.Core.List.Memᴰ.{tail as there}
use mathlib.Core.List.{List, [], ◌∷◌, ◌++◌, append-nil, Memᴰ as In}
use Prim.Native.Nat.{ℕ, zero, suc, ◌+◌, ◌*◌, ◌≤◌, ◌<◌}
use native.Mathlib.Nat.{le_refl}
use native.Mathlib.Omega.{arith}
use native.Mathlib.Decide.{ℕ_discrete}
use lib.ListN.{length, length-append}
use Rattle.laws.specs.Sets.{has, ◌∈◌}
use Rattle.laws.proofs.SearchLaws.{no-some}
use Rattle.laws.proofs.ListLaws.{All, at_all}
use Rattle.answer.specs.Limits.{max_actions}
use Rattle.answer.specs.Told.{answered}
use Rattle.model.specs.Model.{Model, no_comp}
use Rattle.model.specs.WellFormed.{WellComp}
use Rattle.model.specs.Text.{Kind, decimal, fields_after, tab, lf}
use Rattle.model.specs.Reading.{read_of, Entry, comp-entry, act-entry, clk-entry, row-entry}
use Rattle.model.proofs.Reading.TextOfRead.{text-of-read}
use Rattle.named.specs.NamedText.{Name, Sheet, NameLine, name_word, name_of, name_line, sheet_text, default_name, defaults, defaults_of}
use Rattle.named.specs.NamedText.{form_line, entries_of, declared_in, line_named, lines_named, lines_text, text_named}
use Rattle.named.proofs.Entries.{model-lines, model-fits}
use Rattle.namedtheory.proofs.Lookup.{name-here, name-there, named-below}
use Rattle.namedtheory.proofs.Defaults.{defaults-good}
use Rattle.namedtheory.proofs.Declared.{named-declared}
use Rattle.measure.proofs.Fields.{width-most}
use Rattle.naminglaws.specs.Naming.{entries_in, entries_at, default_line, default_lines, name_part}
use Rattle.naminglaws.proofs.LineLaws.{entries-printed}

module _ (d n : ℕ) where
  pub default-in : has d n ≡ true → defaults d (suc n) ≡ record { number = n; name = default_name n } ∷ defaults d n
  unfolding defaults
  default-in h = rw (h, defaults)

  pub default-out : has d n ≡ false → defaults d (suc n) ≡ defaults d n
  unfolding defaults
  default-out h = rw (h, defaults)

sheet-over : (e : NameLine) (s : Sheet) → sheet_text (e ∷ s) ≡ sheet_text s ++ name_line e
unfolding sheet_text
sheet-over e s = refl

pub sheet-none : (d : ℕ) → sheet_text (defaults d 0) ≡ []
unfolding sheet_text defaults
sheet-none d = refl

pub sheet-in : (d n : ℕ) → has d n ≡ true → sheet_text (defaults d (suc n)) ≡ sheet_text (defaults d n) ++ name_line (record { number = n; name = default_name n })
sheet-in d n h = ap sheet_text (default-in d n h) ∙ sheet-over (record { number = n; name = default_name n }) (defaults d n)

pub sheet-out : (d n : ℕ) → has d n ≡ false → sheet_text (defaults d (suc n)) ≡ sheet_text (defaults d n)
sheet-out d n h = ap sheet_text (default-out d n h)

-- ---- the name of a declared action
no_name : (d a : ℕ) → name_of (defaults d 0) a ≡ none
unfolding name_of defaults
no_name d a = refl

default-only : (d n a : ℕ) (w : Name) → name_of (defaults d n) a ≡ some w → name_of (defaults d n) a ≡ some (default_name a)
default-only d zero a w h = absurd (no-some (no_name d a) h)
default-only d (suc n) a w h = go (default-only d n a w) (has d n) refl (ℕ_discrete n a)
  where
    go : (name_of (defaults d n) a ≡ some w → name_of (defaults d n) a ≡ some (default_name a)) → (b : Bool) → has d n ≡ b → Dec (n ≡ a)
        → name_of (defaults d (suc n)) a ≡ some (default_name a)
    go ih true e (yes q) =
        ap (λ s. name_of s a) (default-in d n e) ∙ ap (name_of (record { number = n; name = default_name n } ∷ defaults d n)) (sym q)
        ∙ name-here n (default_name n) (defaults d n)
        ∙ ap (λ i. some (default_name i)) q
    go ih true e (no q) =
        let z = ap (λ s. name_of s a) (default-in d n e) ∙ name-there n a (default_name n) (defaults d n) q in
        z ∙ ih (sym z ∙ h)
    go ih false e q = let z = ap (λ s. name_of s a) (default-out d n e) in z ∙ ih (sym z ∙ h)

-- ---- a line by the sheet
line-act : (s : Sheet) (a : ℕ) (k : Kind) → name_of s a ≡ some (default_name a) → line_named s (act-entry a k) ≡ default_line (act-entry a k)
unfolding line_named default_line
line-act s a k e = rw (e, line_named, default_line)

line_row : (s : Sheet) (x : ℕ) (g : Option ℕ) (a : ℕ) (r : List ℕ) (u : ℕ) → name_of s a ≡ some (default_name a)
    → line_named s (row-entry x g a r u) ≡ default_line (row-entry x g a r u)
unfolding line_named default_line
line_row s x g a r u e = rw (e, line_named, default_line)

line-comp : (s : Sheet) (n x : ℕ) → line_named s (comp-entry n x) ≡ default_line (comp-entry n x)
unfolding line_named default_line
line-comp s n x = refl

line-clk : (s : Sheet) (n x : ℕ) → line_named s (clk-entry n x) ≡ default_line (clk-entry n x)
unfolding line_named default_line
line-clk s n x = refl

-- ---- the lines of a model
module _ (m : Model) (well : All WellComp m) where
  abbrev sheet : Sheet
  sheet = defaults_of m

  called : (a : ℕ) → a ∈ declared_in (entries_of m) → name_of sheet a ≡ some (default_name a)
  called a h = let w = (defaults-good m well).each a h in default-only (declared_in (entries_of m)) max_actions a w.0 w.1

  pub below : (a : ℕ) → a ∈ declared_in (entries_of m) → a < max_actions
  below a h = let g = defaults-good m well in named-below g.names a (g.each a h).0 (g.each a h).1

  line-default : (e : Entry) → In e (entries_of m) → line_named sheet e ≡ default_line e
  line-default (comp-entry n s) i = line-comp sheet n s
  line-default (act-entry a k) i = line-act sheet a k (called a (named-declared m well (act-entry a k) i a refl))
  line-default (clk-entry x b) i = line-clk sheet x b
  line-default (row-entry x g a r u) i = line_row sheet x g a r u (called a (named-declared m well (row-entry x g a r u) i a refl))

  lines-default : (es : List Entry) → ((e : Entry) → In e es → In e (entries_of m)) → lines_named sheet es ≡ default_lines es
  unfolding lines_named default_lines
  lines-default [] h = refl
  lines-default (e ∷ es) h = ap₂ {C = List ℕ} (λ x y. x ++ y) (line-default e (h e (here refl))) (lines-default es (λ x i. h x (there i)))

  pub text-default : text_named sheet m ≡ form_line ++ sheet_text sheet ++ default_lines (entries_of m)
  unfolding text_named
  text-default = ap (λ (x : List ℕ). form_line ++ sheet_text sheet ++ x) (lines-default (entries_of m) (λ e i. i))

-- ---- the lines of a good text are its model's
pub record Good (t : List ℕ) (m : Model) : Type 0 where
  pub well : All WellComp m
  pub lines : entries_at t 0 ≡ entries_of m

pub good : (t : List ℕ) (m : Model) → read_of t ≡ answered m → Good t m
good t m e =
    let q = text-of-read t m e in
    let well = at_all WellComp no_comp m q.0.each in
    let text : lines_text (entries_of m) ≡ t = model-lines m well ∙ q.1 in
    record {
      well = well;
      lines =
          ap (λ (x : List ℕ). entries_in (length x) x) (sym text)
          ∙ entries-printed (length (lines_text (entries_of m))) (entries_of m) (model-fits m well) (le_refl _);
    }

-- ---- the `name` lines, one by one
pub sheet-next : (d n : ℕ) → sheet_text (defaults d (suc n)) ≡ sheet_text (defaults d n) ++ name_part d n
sheet-next d n = go (has d n) refl
  where
    go : (b : Bool) → has d n ≡ b → sheet_text (defaults d (suc n)) ≡ sheet_text (defaults d n) ++ name_part d n
    go true e = rw e (sheet-in d n e)
    go false e = rw e (sheet-out d n e ∙ sym (append-nil (sheet_text (defaults d n))))

pub sheet-more : (d n k : ℕ) → n ≤ k → length (sheet_text (defaults d n)) ≤ length (sheet_text (defaults d k))
sheet-more d n zero h = let e : n ≡ 0 = omega arith in omega (arith, ap (λ i. length (sheet_text (defaults d i))) e)
sheet-more d n (suc k) h = elim (ℕ_discrete n (suc k)) [
  | yes e ↦ omega (arith, ap (λ i. length (sheet_text (defaults d i))) e)
  | no w ↦
      let ih = sheet-more d n k (omega arith) in
      omega (arith, ih, ap length (sheet-next d k), length-append (sheet_text (defaults d k)) (name_part d k))
]

pub name-parts : (d n : ℕ) → has d n ≡ true
    → name_part d n ≡ (name_word ++ (tab ∷ [])) ++ (decimal n ++ ((tab ∷ 97 ∷ []) ++ (decimal n ++ lf ∷ [])))
unfolding name_line fields_after
name-parts d n h = rw h refl

pub name-none : (d n : ℕ) → has d n ≡ false → name_part d n ≡ []
name-none d n h = rw h refl

pub name-there-long : (d n : ℕ) → has d n ≡ true → length (name_part d n) ≡ 8 + length (decimal n) + length (decimal n)
name-there-long d n h =
    omega (
      arith,
      ap length (name-parts d n h),
      length-append (decimal n) (tab ∷ (97 ∷ (decimal n ++ (lf ∷ [])))),
      length-append (decimal n) (lf ∷ []),
    )

pub name-none-long : (d n : ℕ) → has d n ≡ false → length (name_part d n) ≡ 0
name-none-long d n h = ap length (name-none d n h)

pub name-most : (d n : ℕ) → length (name_part d n) ≤ 18
name-most d n = go (has d n) refl
  where
    go : (b : Bool) → has d n ≡ b → length (name_part d n) ≤ 18
    go true e = omega (arith, name-there-long d n e, width-most n)
    go false e = omega (arith, name-none-long d n e)

pub sheet-most : (d n : ℕ) → length (sheet_text (defaults d n)) ≤ 18 * n
sheet-most d zero = omega (arith, ap length (sheet-none d))
sheet-most d (suc n) =
    omega (arith, sheet-most d n, ap length (sheet-next d n), length-append (sheet_text (defaults d n)) (name_part d n), name-most d n)
