-- The column of a row's fault: that of the old row, moved behind the name. The old row need not stand in the text: its resets do.
use mathlib.Core.Path.{◌≡◌, refl, sym, ◌∙◌, ap}
use mathlib.Core.Option.{Option, some}
use mathlib.Core.Bool.{Bool, true, false, cond}
use mathlib.Core.List.{List, [], ◌∷◌, ◌++◌, append_assoc}
use Prim.Native.Nat.{ℕ, zero, suc, ◌+◌, ◌-◌, ◌≤◌}
use native.Mathlib.Omega.{arith}
use native.Mathlib.Decide.{ℕ_discrete}
use lib.ListN.{length, drop, length-append, length-drop}
use lib.Seq.{drop-drop, drop_at}
use lib.Dec.{eqb, ltb}
use borrow.Author.Tests.{eq-eqb, ne_eqb}
use Rattle.answer.specs.Told.{told, tell}
use Rattle.model.specs.Text.{tab, lf, row_word, decimal, guard_field, fields_after}
use Rattle.model.specs.Reading.{got, Entry, row-entry, entry, Progress, current, guard_of, fault_of, column_of, first_column, outside, unnamed, states_by}
use Rattle.model.specs.Line.{list_field, LineFits, line_of as printed_line}
use Rattle.model.proofs.Reading.Lines.{entry-exact}
use Rattle.measure.proofs.Fields.{width-most}
use Rattle.namelines.proofs.NamedLaws.{guard-most}
use Rattle.named.proofs.Names.{name-here}
use Rattle.fields.specs.declared.Guard.{Guard}
use Rattle.fields.specs.declared.Resets.{Resets}
use Rattle.fields.specs.Resets.{summary}
use Rattle.lines.specs.declared.Line.TheVariants as OfLine
use Rattle.lines.specs.Lines.{guard_is}
use Rattle.columns.specs.declared.Allowed.{Allowed}
use Rattle.columns.specs.Columns.{beyond, guard_out, member_of, wide_guard, resets_out, before_resets, row_column, value_column}
use Rattle.columns.proofs.ValueColumn.{value-column-is}
use Rattle.judge.specs.declared.Progress.{Progress as CodeProgress}
use Rattle.judge.specs.Judged.{standing}
use Rattle.survey.specs.Places.{allowed_of, place_of}
use Rattle.survey.proofs.AllowedLaws.{three-on, range-as, names-as}
use Rattle.named.specs.NamedText.{Name, name_at, row-line, line}
use Rattle.named.specs.ReadNamed.{moved_by, moved_in, name_column}
use Rattle.namefields.specs.NameFields.{name_from}
use Rattle.namelaws.specs.Judging.{before_row, old_start, row_column_by}
use Rattle.namelaws.proofs.NameTurns.{guard-wide, row-bytes, row-front, name-in-row}

-- ---- the first value at fault, by what the code allows
module _ (m : Progress) (e : Entry) (fits : LineFits e) (p : CodeProgress) (kept : p ≡ standing m) (f : ℕ) (fault : fault_of m e ≡ some f) where
  read : entry (printed_line e ++ []) ≡ got e []
  read = entry-exact.printed e [] fits tt

  pub fault-range : (3 ≤ f) × (f ≤ 7)
  fault-range = three-on m (printed_line e ++ []) e [] read f fault

  pub column-as : (k : ℕ) → k ≡ first_column (beyond (allowed_of p f)) e → column_of (current m) f e ≡ cond (eqb f 4) (k ∷ []) (cond (eqb f 5) (k ∷ []) [])
  unfolding column_of
  column-as k h = elim (ℕ_discrete f 4) [
    | yes z ↦
        let q : k ≡ first_column (outside (states_by (current m) e)) e =
        h ∙ ap (λ i. first_column (beyond (allowed_of p i)) e) z
        ∙ ap (λ (x : CodeProgress). first_column (beyond (allowed_of x 4)) e) kept ∙ range-as (current m) e in
        rw (eq-eqb f 4 z) (ap {B = List ℕ} (λ i. i ∷ []) (sym q))
    | no w ↦ elim (ℕ_discrete f 5) [
      | yes z ↦
          let q : k ≡ first_column (unnamed (current m)) e =
          h ∙ ap (λ i. first_column (beyond (allowed_of p i)) e) z ∙ ap (λ (x : CodeProgress). first_column (beyond (allowed_of x 5)) e) kept
          ∙ names-as m (printed_line e ++ []) e [] read (fault ∙ ap some z) in
          rw (ne_eqb f 4 w, eq-eqb f 5 z) (ap {B = List ℕ} (λ i. i ∷ []) (sym q))
      | no v ↦ rw (ne_eqb f 4 w, ne_eqb f 5 v)
    ]
  ]

-- ---- what a refusal at a line tells
pub told_at : (f n k : ℕ) → 3 ≤ f → f ≤ 7 → told (record { number = f; place = place_of n f k })
    ≡ some (tell f (n ∷ cond (eqb f 4) (k ∷ []) (cond (eqb f 5) (k ∷ []) [])))
unfolding told
told_at zero n k h l = absurd (omega arith)
told_at (suc zero) n k h l = absurd (omega arith)
told_at (suc (suc zero)) n k h l = absurd (omega arith)
told_at (suc (suc (suc zero))) n k h l = refl
told_at (suc (suc (suc (suc zero)))) n k h l = refl
told_at (suc (suc (suc (suc (suc zero))))) n k h l = refl
told_at (suc (suc (suc (suc (suc (suc zero)))))) n k h l = refl
told_at (suc (suc (suc (suc (suc (suc (suc zero))))))) n k h l = refl
told_at (suc (suc (suc (suc (suc (suc (suc (suc f)))))))) n k h l = absurd (omega arith)

pub told-44 : (n k : ℕ) → told (record { number = 44; place = place_of n 44 k }) ≡ some (tell 44 (n ∷ []))
unfolding told
told-44 n k = refl

-- ---- a row of the second form
-- the column depends on the text only by its length from the row on, and by the bytes from the resets on
row_same : (t t' : List ℕ) (at at' : ℕ) (a : Allowed) (s : ℕ) (g : Guard) (x : ℕ) → length (drop at t) ≡ length (drop at' t')
    → drop (at + before_resets s g x) t ≡ drop (at' + before_resets s g x) t' → row_column t at a s g x ≡ row_column t' at' a s g x
unfolding row_column
row_same t t' at at' a s g x l e =
    λ i.
    cond (ltb s a.states)
    (cond (guard_out a.clocks g) (6 + length (decimal s))
    (cond (member_of a.acts x) (suc (l i - length (resets_out a.clocks (e i)))) (6 + length (decimal s) + 1 + wide_guard g)))
    5

module _ (t : List ℕ) (at : ℕ) (cs : List ℕ) (s : ℕ) (g : Option ℕ) (w : Name) (r : List ℕ) (u : ℕ)
    (read : line (drop at t) ≡ got (row-line s g w r u) cs) (low : 7 ≤ at) where
  abbrev rest : List ℕ
  rest = list_field r ++ (tab ∷ (decimal u ++ (lf ∷ cs)))

  abbrev front : List ℕ
  front = row_word ++ (tab ∷ (decimal s ++ (tab ∷ (guard_field (guard_of g) ++ (tab ∷ [])))))

  abbrev before : ℕ
  before = before_row s (guard_is g)

  bytes : drop at t ≡ (front ++ (w ++ (tab ∷ []))) ++ rest
  bytes = row-bytes t at cs s g w r u read ∙ simp append_assoc

  long : length (front ++ (w ++ (tab ∷ []))) ≡ before + length w + 1
  long = omega (arith, row-front t at cs s g, length-append front (w ++ (tab ∷ [])), length-append w (tab ∷ []))

  from-resets : drop (at + (before + length w + 1)) t ≡ rest
  from-resets = sym (drop-drop (before + length w + 1) at t) ∙ ap (drop (before + length w + 1)) bytes
      ∙ drop_at (front ++ (w ++ (tab ∷ []))) rest (before + length w + 1) long

  reach : length t ≡ at + (before + length w + 1) + length rest
  reach = omega (arith, ap length bytes, length-append (front ++ (w ++ (tab ∷ []))) rest, long, length-drop at t)

  module _ (x : ℕ) (fits : LineFits (row-entry s g x r u)) where
    -- the old row by itself
    abbrev old : List ℕ
    old = printed_line (row-entry s g x r u) ++ cs

    abbrev old-front : List ℕ
    old-front = row_word ++ (tab ∷ (decimal s ++ (tab ∷ (guard_field (guard_of g) ++ (tab ∷ (decimal x ++ (tab ∷ [])))))))

    old-bytes : old ≡ old-front ++ rest
    unfolding printed_line fields_after
    old-bytes = simp append_assoc

    old-long : length old-front ≡ before_resets s (guard_is g) x
    old-long =
        let G = guard_field (guard_of g) in
        omega (
          arith,
          guard-wide g,
          length-append (decimal s) (tab ∷ (G ++ (tab ∷ (decimal x ++ (tab ∷ []))))),
          length-append G (tab ∷ (decimal x ++ (tab ∷ []))),
          length-append (decimal x) (tab ∷ []),
        )

    abbrev start : ℕ
    start = old_start at before (length w) (length (decimal x))

    place : start + before_resets s (guard_is g) x ≡ at + (before + length w + 1)
    place = omega (arith, low, width-most x)

    same_length : length (drop start t) ≡ length (drop 0 old)
    same_length = omega (arith, length-drop start t, reach, ap length old-bytes, length-append old-front rest, old-long, low, width-most x)

    same-resets : drop (start + before_resets s (guard_is g) x) t ≡ drop (0 + before_resets s (guard_is g) x) old
    same-resets =
        ap (λ k. drop k t) place ∙ from-resets ∙ sym (drop_at old-front rest (before_resets s (guard_is g) x) old-long)
        ∙ ap (drop (before_resets s (guard_is g) x)) (sym old-bytes)
        ∙ ap (λ k. drop k old) (let z : before_resets s (guard_is g) x ≡ 0 + before_resets s (guard_is g) x = omega arith in z)

    value_as : (a : Allowed) → value_column t start a (OfLine.Row s (guard_is g) x (summary r) u) ≡ first_column (beyond a) (row-entry s g x r u)
    value_as a =
        row_same t old start 0 a s (guard_is g) x same_length same-resets
        ∙ value-column-is old 0 a (row-entry s g x r u) cs (entry-exact.printed (row-entry s g x r u) cs fits tt)

    -- as the code finds it: the old row's column, moved
    pub row-column-as : (a : Allowed)
        → row_column_by t at a s (guard_is g) x (summary r) u
        ≡ moved_by (name_column s g) (length w) (length (decimal x)) (first_column (beyond a) (row-entry s g x r u))
    row-column-as a =
        let n : before + 1 ≡ name_column s g = omega (arith, guard-wide g) in
        ap (λ (v : Name). moved_by (before + 1) (length v) (length (decimal x))
        (value_column t (old_start at before (length v) (length (decimal x))) a (OfLine.Row s (guard_is g) x (summary r) u)))
        (name-in-row t at cs s g w r u read).name
        ∙ ap (λ k. moved_by k (length w) (length (decimal x)) (value_column t start a (OfLine.Row s (guard_is g) x (summary r) u))) n
        ∙ ap (moved_by (name_column s g) (length w) (length (decimal x))) (value_as a)

-- the place of a fault, moved
pub moved_by_lem : (s : ℕ) (g : Option ℕ) (w : Name) (a k : ℕ) (b c : Bool)
    → moved_in s g w a (cond b (k ∷ []) (cond c (k ∷ []) []))
    ≡ cond b (moved_by (name_column s g) (length w) (length (decimal a)) k ∷ []) (cond c (moved_by (name_column s g) (length w) (length (decimal a)) k ∷ []) [])
moved_by_lem s g w a k true c = refl
moved_by_lem s g w a k false true = refl
moved_by_lem s g w a k false false = refl

-- ---- as the code measures it
pub name-most : (t : List ℕ) (k : ℕ) → k ≤ length t → k + length (name_from t k) ≤ length t
name-most t k h =
    let n = (name-here (drop k t)).bytes in
    omega (arith, ap length n, length-append (name_at (drop k t)).value (name_at (drop k t)).rest, length-drop k t)

pub row-most : (t : List ℕ) (at : ℕ) (a : Allowed) (s : ℕ) (g : Guard) (x : ℕ) → row_column t at a s g x ≤ length t + 32
unfolding row_column
row-most t at a s g x = go (ltb s a.states) (guard_out a.clocks g) (member_of a.acts x)
  where
    go : (b c d : Bool)
        → cond b
        (cond c (6 + length (decimal s))
        (cond d (suc (length (drop at t) - length (resets_out a.clocks (drop (at + before_resets s g x) t)))) (6 + length (decimal s) + 1 + wide_guard g)))
        5
        ≤ length t + 32
    go false c d = omega arith
    go true true d = omega (arith, width-most s)
    go true false true = omega (arith, length-drop at t)
    go true false false = omega (arith, width-most s, guard-most g)

module _ (t : List ℕ) (at : ℕ) (a : Allowed) (s : ℕ) (g : Guard) (r : Resets) (u : ℕ) where
  pub column-found : (before end wide y x k : ℕ) → before ≡ before_row s g
      → end ≡ at + before + length (name_from t (at + before)) → y ≡ x → wide ≡ length (decimal y)
      → k ≡ value_column t (end - before - wide) a (OfLine.Row s g y r u) → moved_by (before + 1) (end - at - before) wide k ≡ row_column_by t at a s g x r u
  column-found before end wide y x k B E X D K =
      let W : wide ≡ length (decimal x) = D ∙ ap (λ i. length (decimal i)) X in
      let n : end - at - before ≡ length (name_from t (at + before)) = omega (arith, E) in
      let L : end - at - before ≡ length (name_from t (at + before_row s g)) = n ∙ ap (λ b. length (name_from t (at + b))) B in
      let S : end - before - wide ≡ old_start at (before_row s g) (length (name_from t (at + before_row s g))) (length (decimal x)) =
      ap (λ e. e - before - wide) E ∙ (λ i. at + B i + length (name_from t (at + B i)) - B i - W i) in
      ap (moved_by (before + 1) (end - at - before) wide) K ∙ (λ i. moved_by (B i + 1) (L i) (W i) (value_column t (S i) a (OfLine.Row s g (X i) r u)))
