-- The text of a good sheet and a model within the limits is read in the second form, and they are the answer.
use mathlib.Core.Path.{◌≡◌, refl, sym, ◌∙◌, ap, ap₂, subst}
use mathlib.Core.Logic.{⊎_elim}
use mathlib.Core.Option.{Option, none, some}
use mathlib.Core.Bool.{true, false}
use mathlib.Core.List.{List, [], ◌∷◌, ◌++◌, append_assoc, append-nil, reverse}
use Prim.Native.Nat.{ℕ, suc, ◌+◌, ◌≤◌, ◌<◌}
use native.Mathlib.Omega.{arith}
use native.Mathlib.Nat.{le_refl}
use lib.ListN.{length}
use borrow.Author.Tests.{lt-ltb, le-ltb}
use Rattle.laws.specs.Sets.{has, ◌∪◌, ◌∈◌}
use Rattle.laws.specs.Search.{is_some, map_some}
use Rattle.laws.proofs.SetLaws.{or_assoc, or-in-l, or-in-r, in-or, none_in, same-members}
use Rattle.laws.proofs.ListLaws.{All}
use Rattle.answer.specs.Limits.{max_actions, max_bytes}
use Rattle.answer.specs.Told.{answered}
use Rattle.model.specs.Model.{Comp}
use Rattle.model.specs.Reading.{got, Entry, comp-entry, act-entry, clk-entry, row-entry, Progress, at_start}
use Rattle.model.specs.Line.{LineFits}
use Rattle.model.proofs.Reading.Fields.{exactly-printed}
use Rattle.named.specs.NamedText.{Name, good_name, form_line, NameLine, Sheet, name_of, number_of, name_line, sheet_text}
use Rattle.named.specs.NamedText.{bytes_of, name_field, line_named, lines_named, text_by, declared_by, declared_in, Line}
use Rattle.named.specs.NamedText.{name-line, act-line, row-line, plain-line, line, line_text, LineFits₂, NameFits}
use Rattle.named.specs.ReadNamed.{Progress₂, begun, resolve, above, fault_named, taken, unused, finish_named, lines_from₂, first_line, read_named}
use Rattle.named.proofs.Scanned.{line-exact}
use Rattle.named.proofs.Onward.{lines_next, lines_end, lines-bound}
use Rattle.named.proofs.Resolved.{resolved-fault}
use Rattle.namedtheory.specs.Named.{Names, no_name, name}
use Rattle.namedtheory.proofs.Lookup.{name-here, name-there, name-of, number-of, good-fits, names-fit, lower}
use Rattle.namedtheory.proofs.Taking.{Takes, none_left, takes}

-- ---- the `name` lines
abbrev pub sheeted : Sheet → Progress₂
sheeted sheet = record { sheet = sheet; lines = []; model = at_start; declared = 0 }

no_number : (sheet : Sheet) (w : Name) → ((a : ℕ) → name_of sheet a ≡ some w → ⊥) → is_some (number_of sheet w) ≡ false
no_number sheet w d = go (number_of sheet w) refl
  where
    go : (o : Option ℕ) → number_of sheet w ≡ o → is_some o ≡ false
    go none e = refl
    go (some a) e = absurd (d a (name-of sheet a w e).0)

name-faultless : (sheet : Sheet) (n : ℕ) (w : Name) → n < max_actions → above sheet n ≡ true → good_name w ≡ true → ((a : ℕ) → name_of sheet a ≡ some w → ⊥)
    → fault_named (sheeted sheet) (name-line n w) ≡ none
unfolding fault_named
name-faultless sheet n w l u g d = rw (lt-ltb n max_actions l, u, g, no_number sheet w d)

name-taken : (sheet : Sheet) (n : ℕ) (w : Name) → taken (sheeted sheet) (name-line n w) ≡ sheeted (record { number = n; name = w } ∷ sheet)
unfolding taken
name-taken sheet n w = refl

line-of-name : (n : ℕ) (w : Name) → name_line (record { number = n; name = w }) ≡ line_text (name-line n w)
unfolding name_line line_text
line-of-name n w = refl

pub names-read : {sheet : Sheet} → Names sheet → (k : ℕ) (bs : List ℕ) → length (sheet_text sheet ++ bs) ≤ k
    → lines_from₂ k 2 begun (sheet_text sheet ++ bs) ≡ lines_from₂ (length bs) (length sheet + 2) (sheeted sheet) bs
unfolding sheet_text
names-read no_name k bs h = lines-bound k (length bs) 2 begun bs h (le_refl _)
names-read (name {sheet} n w s l u g d) k bs h =
    let e : NameLine = record { number = n; name = w } in
    let q : sheet_text sheet ++ name_line e ++ bs ≡ sheet_text sheet ++ (name_line e ++ bs) = append_assoc (sheet_text sheet) (name_line e) bs in
    let f : LineFits₂ (name-line n w) = (omega arith, good-fits w g) in
    let r : line (name_line e ++ bs) ≡ got (name-line n w) bs = ap (λ (x : List ℕ). line (x ++ bs)) (line-of-name n w)
    ∙ line-exact.printed (name-line n w) bs f tt in
    ap (lines_from₂ k 2 begun) q
    ∙ names-read s k (name_line e ++ bs) (subst (λ (x : List ℕ). length x ≤ k) q h)
    ∙ lines_next (length sheet + 2) (sheeted sheet) (name-line n w) bs (length (name_line e ++ bs)) (length bs) (name_line e ++ bs) (le_refl _) (le_refl _) r
    (name-faultless sheet n w l u g d)
    ∙ ap (λ p. lines_from₂ (length bs) (suc (length sheet + 2)) p bs) (name-taken sheet n w)
    ∙ ap (λ j. lines_from₂ (length bs) j (sheeted (e ∷ sheet)) bs) (let z : suc (length sheet + 2) ≡ suc (length sheet) + 2 = omega arith in z)

-- ---- the lines behind them
-- the line of the new form
abbrev line_for : Sheet → Entry → Line
line_for sheet (comp-entry n s) = plain-line (comp-entry n s)
line_for sheet (act-entry a k) = act-line (name_field sheet a) k
line_for sheet (clk-entry x b) = plain-line (clk-entry x b)
line_for sheet (row-entry s g a r t) = row-line s g (name_field sheet a) r t

line-for : (sheet : Sheet) (e : Entry) → line_named sheet e ≡ line_text (line_for sheet e)
unfolding line_named line_text
line-for sheet (comp-entry n s) = refl
line-for sheet (act-entry a k) = refl
line-for sheet (clk-entry x b) = refl
line-for sheet (row-entry s g a r t) = refl

-- the action of a line has a name
abbrev pub Called : Sheet → Entry → Type 0
Called sheet (comp-entry n s) = Unit {0}
Called sheet (act-entry a k) = (w : Name) × (name_of sheet a ≡ some w)
Called sheet (clk-entry x b) = Unit {0}
Called sheet (row-entry s g a r t) = (w : Name) × (name_of sheet a ≡ some w)

pub or-zero : (d : ℕ) → d ∪ 0 ≡ d
or-zero d = same-members (d ∪ 0) d (λ x m. ⊎_elim (λ p. p) (λ p. absurd (none_in x p)) (in-or d 0 x m)) (λ x m. or-in-l d 0 x m)

module _ {sheet : Sheet} (s : Names sheet) where
  field_fits : (a : ℕ) (w : Name) → name_of sheet a ≡ some w → NameFits (name_field sheet a)
  field_fits a w h = rw h (names-fit s a w h)

  for-fits : (e : Entry) → LineFits e → Called sheet e → LineFits₂ (line_for sheet e)
  for-fits (comp-entry n z) f c = (f, tt)
  for-fits (act-entry a k) f c = field_fits a c.0 c.1
  for-fits (clk-entry x b) f c = (f, tt)
  for-fits (row-entry z g a r t) f c = (f.0, f.1, field_fits a c.0 c.1, f.3, f.4)

  field-number : (a : ℕ) (w : Name) → name_of sheet a ≡ some w → number_of sheet (name_field sheet a) ≡ some a
  field-number a w h = ap (λ o. number_of sheet (bytes_of o)) h ∙ number-of s a w h

  for-resolves : (e : Entry) → Called sheet e → resolve sheet (line_for sheet e) ≡ some e
  for-resolves (comp-entry n z) c = refl
  for-resolves (act-entry a k) c = ap (map_some (λ a. act-entry a k)) (field-number a c.0 c.1)
  for-resolves (clk-entry x b) c = refl
  for-resolves (row-entry z g a r t) c = ap (map_some (λ a. row-entry z g a r t)) (field-number a c.0 c.1)

  -- what stands before a line behind the `name` lines
  abbrev pub behind : List Entry → Progress → ℕ → Progress₂
  behind ls m d = record { sheet = sheet; lines = ls; model = m; declared = d }

  pub lines-read : (n : ℕ) (ls : List Entry) (d : ℕ) {m q : Progress} {es : List Entry} → Takes m es q → All LineFits es → All (Called sheet) es
      → (k : ℕ) → length (lines_named sheet es) ≤ k
      → lines_from₂ k n (behind ls m d) (lines_named sheet es) ≡ finish_named (behind (ls ++ es) q (d ∪ declared_in es)) q.comps
  unfolding lines_named declared_in
  lines-read n ls d {m} none_left f c k h =
      lines_end n (behind ls m d) k ∙ ap₂ (λ l x. finish_named (behind l m x) m.comps) (sym (append-nil ls)) (sym (or-zero d))
  lines-read n ls d {m} {q} (takes e {es} z t) f c k h =
      let rest = lines_named sheet es in
      let r : line (line_named sheet e ++ rest) ≡ got (line_for sheet e) rest =
      ap (λ (x : List ℕ). line (x ++ rest)) (line-for sheet e) ∙ line-exact.printed (line_for sheet e) rest (for-fits e f.0 c.0) tt in
      let w = resolved-fault (behind ls m d) (line_for sheet e) e (for-resolves e c.0) in
      lines_next n (behind ls m d) (line_for sheet e) rest k (length rest) (line_named sheet e ++ rest) h (le_refl _) r (w.0 ∙ z)
      ∙ ap (λ p. lines_from₂ (length rest) (suc n) p rest) w.1
      ∙ lines-read (suc n) (ls ++ e ∷ []) (d ∪ declared_by e) t f.1 c.1 (length rest) (le_refl _)
      ∙ ap₂ (λ l x. finish_named (behind l q x) q.comps) (append_assoc ls (e ∷ []) es) (or_assoc d (declared_by e) (declared_in es))

-- ---- every name is used
pub all-used : {sheet : Sheet} → Names sheet → (d : ℕ) → ((a : ℕ) (w : Name) → name_of sheet a ≡ some w → a ∈ d) → unused d sheet ≡ none
unfolding unused
all-used no_name d h = refl
all-used (name {sheet} n w s l u g z) d h =
    let here : has d n ≡ true = h n w (name-here n w sheet) in
    let there = all-used s d (λ a v e. let b = lower s n u a v e in h a v (name-there n a w sheet (λ q. omega arith) ∙ e)) in
    rw (there, here)

-- ---- the whole text
first_read : (rest : List ℕ) → first_line (form_line ++ rest) ≡ lines_from₂ (length rest) 2 begun rest
unfolding first_line
first_read rest = rw (exactly-printed form_line rest, first_line)

some-comps : (p : Progress₂) (m : List Comp) → 1 ≤ length m → unused p.declared p.sheet ≡ none
    → finish_named p m ≡ answered (record { sheet = p.sheet; lines = p.lines; model = reverse m })
some-comps p [] h u = absurd (omega arith)
some-comps p (c ∷ cs) h u = rw u

pub short-read : (bs : List ℕ) → length bs ≤ max_bytes → read_named bs ≡ first_line bs
unfolding read_named
short-read bs h = rw (le-ltb max_bytes (length bs) h, read_named)

pub text-read : {sheet : Sheet} {es : List Entry} {q : Progress} → Names sheet → Takes at_start es q
    → All LineFits es → All (Called sheet) es → 1 ≤ length q.comps
    → ((a : ℕ) (w : Name) → name_of sheet a ≡ some w → a ∈ declared_in es) → length (text_by sheet es) ≤ max_bytes
    → read_named (text_by sheet es) ≡ answered (record { sheet = sheet; lines = es; model = reverse q.comps })
text-read {sheet} {es} {q} s t f c n u l =
    let body = lines_named sheet es in
    let d = declared_in es in
    let used : unused (0 ∪ d) sheet ≡ none = all-used s (0 ∪ d) (λ a w h. or-in-r 0 d a (u a w h)) in
    let regroup : text_by sheet es ≡ form_line ++ (sheet_text sheet ++ body) = append_assoc form_line (sheet_text sheet) body in
    let walked : first_line (text_by sheet es) ≡ answered (record { sheet = sheet; lines = es; model = reverse q.comps }) =
    ap first_line regroup ∙ first_read (sheet_text sheet ++ body)
    ∙ names-read s (length (sheet_text sheet ++ body)) body (le_refl _)
    ∙ lines-read s (length sheet + 2) [] 0 t f c (length body) (le_refl _)
    ∙ some-comps (record { sheet = sheet; lines = es; model = q; declared = 0 ∪ d }) q.comps n used in
    short-read (text_by sheet es) l ∙ walked
