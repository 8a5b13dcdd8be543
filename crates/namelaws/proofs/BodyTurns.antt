-- One turn of reading behind the `name` lines: how what the code keeps stands to what the definition keeps, before a line and behind it.
use mathlib.Core.Path.{◌≡◌, refl, sym, ◌∙◌, ap, subst}
use mathlib.Core.Option.{Option, none, some}
use mathlib.Core.Bool.{Bool, true, false, cond, true≢false}
use mathlib.Core.List.{List, [], ◌∷◌, ◌++◌, reverse}
use Prim.Native.Nat.{ℕ, zero, suc, ◌+◌, ◌≤◌, ◌<◌}
use native.Mathlib.Numerals.{add-one}
use native.Mathlib.Nat.{le_refl}
use native.Mathlib.Omega.{arith}
use lib.ListN.{length, drop, drop_of_length-le, length-drop}
use lib.Dec.{eqb}
use borrow.Author.Tests.{lt-ltb, ne_eqb}
use Rattle.laws.specs.Sets.{◌∪◌}
use Rattle.laws.specs.Search.{when, or_else, map_some}
use Rattle.laws.proofs.SearchLaws.{no-some}
use Rattle.answer.specs.Limits.{max_actions}
use Rattle.answer.specs.Told.{told, tell, refused, as_refused, says_checked, done_of}
use Rattle.answer.specs.declared.Place.TheVariants.{Line as AtLine, Whole, Spot}
use Rattle.std.specs.Prelude.{Ok, Err}
use Rattle.model.specs.Model.{Comp}
use Rattle.model.specs.Text.{Kind, decimal}
use Rattle.model.specs.Reading.{stops, got, Entry, act-entry, row-entry, entry, Progress, current, out_of_turn}
use Rattle.model.specs.Reading.{out_of_range, lacks, out_of_order, too_many, fault_of, column_of, stop_column, first_column}
use Rattle.model.specs.Line.{Fits, LineFits, line_of as printed_line}
use Rattle.model.proofs.Reading.Lines.{entry-exact}
use Rattle.columns.specs.Columns.{beyond}
use Rattle.columns.proofs.ValueColumn.{value-column-is}
use Rattle.judge.specs.declared.Progress.{Progress as CodeProgress}
use Rattle.judge.specs.Judged.{standing, beginning}
use Rattle.judge.proofs.StepIs.{judged_of, Begun}
use Rattle.survey.specs.Places.{allowed_of, place_of}
use Rattle.named.specs.NamedText.{Name, number_of, Line, form-line, name-line, act-line, row-line, plain-line, line, LineFits₂, line_text}
use Rattle.named.specs.ReadNamed.{Progress₂, Read, without_acts, fault_named, behind_line, moved_by, moved_in, name_column, taken, finish_named, unused, unless_unused}
use Rattle.named.proofs.Scanned.{line-exact}
use Rattle.named.proofs.Onward.{line-shortens, lines_end, lines-shapeless, lines-fault, lines_next}
use Rattle.named.proofs.Resolved.{act-unknown, row-unknown, resolved-fault}
use Rattle.namedtheory.proofs.Lookup.{name-of}
use Rattle.namefields.specs.NameFields.{name_from, number_by}
use Rattle.namelines.specs.NamedLines.{code_of, before_name}
use Rattle.namelaws.specs.Sheets.{sheet_of, begins_name, with_sheet, onward, SheetIs, line_at}
use Rattle.namelaws.specs.Judging.{actless, judged_by, step_named, declared_named, column_by}
use Rattle.namelaws.proofs.PlaceLaws.{number-as}
use Rattle.namelaws.proofs.NameTurns.{name-in-act, name-in-row, begins}
use Rattle.namelaws.proofs.JudgeLaws.{standing-actless, Looked, Later, form-later, name-later, judged-is, onward-is}
use Rattle.namelaws.proofs.ColumnLaws.{fault-range, column-as, told_at, told-44, row-column-as, moved_by_lem}

-- what the code keeps stands for q: places P, progress p, at line n, and the set d of declared actions
pub record Stands (t P : List ℕ) (from first : ℕ) (q : Progress₂) (p : CodeProgress) (at n d : ℕ) : Type 0 where
  pub sheet : q.sheet ≡ sheet_of t P
  pub kept : p ≡ standing q.model
  pub begun : Begun q.model
  pub declared : d ≡ q.declared
  pub same : onward t q at n ≡ onward t (with_sheet (sheet_of t P)) from first
  pub count : n + length (drop at t) ≤ 2 + length t
  pub later : q.model.last ≡ none → begins_name (drop at t) ≡ false
  pub low : 7 ≤ at

pub stands-first : (t P : List ℕ) (from first start : ℕ) → SheetIs t start P from first → 7 ≤ from
    → Stands t P from first (with_sheet (sheet_of t P)) beginning from first 0
unfolding Rattle.model.specs.Model.row_count
stands-first t P from first start s l = record {
  sheet = refl;
  kept = refl;
  begun = record { some-comp = λ d e. absurd (no-some refl e) };
  declared = refl;
  same = refl;
  count = s.count;
  later = λ _. s.no_name;
  low = l;
}

left : (t : List ℕ) (at : ℕ) → at < length t → (drop at t ≡ [] → ⊥)
left t at h e = omega (arith, length-drop at t, ap length e)

judged-fault : (o : Option ℕ) (q : Progress) (f : ℕ) → judged_of o q ≡ Err f → o ≡ some f
judged-fault none q f e = let z : ◌≡◌ {A = ℕ} 0 1 = cc in absurd (omega arith)
judged-fault (some g) q f e = cc

judged-taken : (o : Option ℕ) (q : Progress) (p : CodeProgress) → judged_of o q ≡ Ok p → (o ≡ none) × (p ≡ standing q)
judged-taken none q p e = (refl, cc)
judged-taken (some g) q p e = let z : ◌≡◌ {A = ℕ} 0 1 = cc in absurd (omega arith)

-- ---- an `act` line by a known name has neither 4 nor 5
act-other : (m : Progress) (a : ℕ) (k : Kind) (f : ℕ) → a < max_actions → fault_of m (act-entry a k) ≡ some f → (f ≡ 4 → ⊥) × (f ≡ 5 → ⊥)
unfolding fault_of out_of_range lacks too_many
act-other m a k f l h = go (out_of_turn m.last (act-entry a k)) (out_of_order m.last (act-entry a k))
    (sym (rw (lt-ltb a max_actions l, fault_of, out_of_range)) ∙ h)
  where
    go : (x y : Bool) → or_else (when x 3) (or_else none (or_else none (or_else (when y 6) none))) ≡ some f → (f ≡ 4 → ⊥) × (f ≡ 5 → ⊥)
    go true y h = let z : 3 ≡ f = cc in (λ e. omega arith, λ e. omega arith)
    go false true h = let z : 6 ≡ f = cc in (λ e. omega arith, λ e. omega arith)
    go false false h = absurd (no-some refl h)

turned : (c : Bool) (f n k : ℕ) → cond c (some 3) (some 44) ≡ some f → told (record { number = f; place = place_of n f k }) ≡ some (tell f (n ∷ []))
turned true f n k h = let z : 3 ≡ f = cc in
    subst (λ f. told (record { number = f; place = place_of n f k }) ≡ some (tell f (n ∷ []))) z (told_at 3 n k (omega arith) (omega arith))
turned false f n k h = let z : 44 ≡ f = cc in subst (λ f. told (record { number = f; place = place_of n f k }) ≡ some (tell f (n ∷ []))) z (told-44 n k)

told-3 : (f n k : ℕ) → some 3 ≡ some f → told (record { number = f; place = place_of n f k }) ≡ some (tell f (n ∷ []))
told-3 f n k h = turned true f n k h

-- ---- the places of faults
module _ (q : Progress₂) (f n k : ℕ) where
  abbrev Tells : Line → Type 0
  Tells l = told (record { number = f; place = place_of n f k }) ≡ some (tell f (n ∷ behind_line q f l))

  none-behind : (l : Line) → behind_line q f l ≡ [] → told (record { number = f; place = place_of n f k }) ≡ some (tell f (n ∷ [])) → Tells l
  none-behind l e h = h ∙ ap (λ x. some (tell f (n ∷ x))) (sym e)

  form-behind : behind_line q f form-line ≡ []
  unfolding behind_line
  form-behind = refl

  name-behind : (m : ℕ) (w : Name) → (f ≡ 4 → ⊥) → behind_line q f (name-line m w) ≡ []
  unfolding behind_line
  name-behind m w h = rw (ne_eqb f 4 h, behind_line)

  act-behind : (w : Name) (j : Kind) → behind_line q f (act-line w j) ≡ []
  unfolding behind_line
  act-behind w j = refl

  plain-behind : (e : Entry) → behind_line q f (plain-line e) ≡ column_of (current q.model) f e
  unfolding behind_line
  plain-behind e = refl

  row-behind-none : (s : ℕ) (g : Option ℕ) (w : Name) (r : List ℕ) (u : ℕ) → number_of q.sheet w ≡ none
      → behind_line q f (row-line s g w r u) ≡ moved_in s g w 0 (column_of (current (without_acts q.model)) f (row-entry s g 0 r u))
  unfolding behind_line
  row-behind-none s g w r u e = rw (e, behind_line)

  row-behind-some : (s : ℕ) (g : Option ℕ) (w : Name) (r : List ℕ) (u a : ℕ) → number_of q.sheet w ≡ some a
      → behind_line q f (row-line s g w r u) ≡ moved_in s g w a (column_of (current q.model) f (row-entry s g a r u))
  unfolding behind_line
  row-behind-some s g w r u a e = rw (e, behind_line)

plain-text : (e : Entry) → line_text (plain-line e) ≡ printed_line e
unfolding line_text
plain-text e = refl

-- ---- one line
module _ (t P : List ℕ) (from first : ℕ) (q : Progress₂) (p : CodeProgress) (at n d : ℕ) (s : Stands t P from first q p at n d) where
  pub no_line : (cs : List ℕ) → at < length t → line (drop at t) ≡ stops cs
      → onward t (with_sheet (sheet_of t P)) from first ≡ refused (tell 2 (n ∷ stop_column (drop at t) cs ∷ []))
  no_line cs h e = sym s.same ∙ lines-shapeless n q (length (drop at t)) (drop at t) cs (left t at h) (le_refl _) e

  pub at-end : length t ≤ at → onward t (with_sheet (sheet_of t P)) from first ≡ finish_named q q.model.comps
  at-end h = sym s.same ∙ rw (drop_of_length-le t h) (lines_end n q 0)

  module _ (l : Line) (to : ℕ) (read : line (drop at t) ≡ got l (drop to t)) (o : Option ℕ)
      (look : o ≡ number_by t P (name_from t (at + before_name (code_of l)))) where
    scanned : (drop at t ≡ line_text l ++ drop to t) × LineFits₂ l
    scanned = line-exact.scanned (drop at t) (record { value = l; rest = drop to t }) read

    number_by_lem : (w : Name) → name_from t (at + before_name (code_of l)) ≡ w → o ≡ number_of q.sheet w
    number_by_lem w e = look ∙ ap (number_by t P) e ∙ sym (number-as t P w) ∙ ap (λ z. number_of z w) (sym s.sheet)

    looked : Looked q.sheet l o
    looked = go l refl
      where
        go : (x : Line) → l ≡ x → Looked q.sheet x o
        go form-line e = tt
        go (name-line m w) e = tt
        go (act-line w k) e = number_by_lem w (ap (λ y. name_from t (at + before_name (code_of y))) e
            ∙ (name-in-act t at (drop to t) w k (read ∙ ap (λ y. got y (drop to t)) e)).name)
        go (row-line z g w r u) e =
            number_by_lem w (ap (λ y. name_from t (at + before_name (code_of y))) e
            ∙ (name-in-row t at (drop to t) z g w r u (read ∙ ap (λ y. got y (drop to t)) e)).name)
        go (plain-line x) e = tt

    behind : Later q l
    behind = go l refl
      where
        some-last : (b : begins_name (drop at t) ≡ true) (x : Option Entry) → q.model.last ≡ x → (d : Entry) × (q.model.last ≡ some d)
        some-last b none e = absurd (true≢false (sym b ∙ s.later e))
        some-last b (some d) e = (d, e)

        go : (x : Line) → l ≡ x → Later q x
        go form-line e = tt
        go (name-line m w) e = some-last (begins (drop at t) (drop to t) m w (read ∙ ap (λ y. got y (drop to t)) e)) q.model.last refl
        go (act-line w k) e = tt
        go (row-line z g w r u) e = tt
        go (plain-line x) e = tt

    judged : step_named p (code_of l) o ≡ judged_of (fault_named q l) (taken q l).model
    judged = ap (λ (x : CodeProgress). step_named x (code_of l) o) s.kept ∙ judged-is q s.begun l o looked behind

    found : (f : ℕ) → step_named p (code_of l) o ≡ Err f → fault_named q l ≡ some f
    found f e = judged-fault (fault_named q l) (taken q l).model f (sym judged ∙ e)

    line-fault : (f : ℕ) → step_named p (code_of l) o ≡ Err f → onward t (with_sheet (sheet_of t P)) from first ≡ refused (tell f (n ∷ behind_line q f l))
    line-fault f e = sym s.same ∙ lines-fault n q l (drop to t) (length (drop at t)) (drop at t) f (le_refl _) read (found f e)

    -- the place that the code gives is the fault's
    module _ (f k : ℕ) where
      row-tells : (m : Progress) (pm : CodeProgress) → pm ≡ standing m → (z : ℕ) (g : Option ℕ) (w : Name) (r : List ℕ) (u a : ℕ)
          → line (drop at t) ≡ got (row-line z g w r u) (drop to t)
          → LineFits (row-entry z g a r u) → fault_of m (row-entry z g a r u) ≡ some f
          → k ≡ column_by t at (allowed_of pm f) (code_of (row-line z g w r u)) (some a)
          → behind_line q f (row-line z g w r u) ≡ moved_in z g w a (column_of (current m) f (row-entry z g a r u))
          → Tells q f n k (row-line z g w r u)
      row-tells m pm kept z g w r u a here fits fault c b =
          let e = row-entry z g a r u in
          let k₀ = first_column (beyond (allowed_of pm f)) e in
          let h = fault-range m e fits pm kept f fault in
          let mk = moved_by (name_column z g) (length w) (length (decimal a)) k₀ in
          let ck : k ≡ mk = c ∙ row-column-as t at (drop to t) z g w r u here s.low a fits (allowed_of pm f) in
          told_at f n k h.0 h.1 ∙ ap (λ i. some (tell f (n ∷ cond (eqb f 4) (i ∷ []) (cond (eqb f 5) (i ∷ []) [])))) ck
          ∙ ap (λ x. some (tell f (n ∷ x)))
          (sym (b ∙ ap (moved_in z g w a) (column-as m e fits pm kept f fault k₀ refl) ∙ moved_by_lem z g w a k₀ (eqb f 4) (eqb f 5)))

      tells : (x : Line) (y : Option ℕ) → line (drop at t) ≡ got x (drop to t) → drop at t ≡ line_text x ++ drop to t
          → LineFits₂ x → Looked q.sheet x y → Later q x
          → fault_named q x ≡ some f → k ≡ column_by t at (allowed_of (judged_by p (code_of x) y) f) (code_of x) y
          → Tells q f n k x
      tells form-line y here bytes fits look z h c = none-behind q f n k form-line (form-behind q f n k) (told-3 f n k (sym (form-later q) ∙ h))
      tells (name-line m w) y here bytes fits look z h c =
          let e = sym (name-later q m w z.0 z.1) ∙ h in
          let v : 3 ≡ f = cc in
          none-behind q f n k (name-line m w) (name-behind q f n k m w (λ x. omega arith)) (told-3 f n k e)
      tells (act-line w j) none here bytes fits look z h c =
          none-behind q f n k (act-line w j) (act-behind q f n k w j)
          (turned (out_of_turn q.model.last (act-entry 0 j)) f n k (sym (act-unknown q w j (sym look)) ∙ h))
      tells (act-line w j) (some a) here bytes fits look z h c =
          let v = resolved-fault q (act-line w j) (act-entry a j) (ap (map_some (λ a. act-entry a j)) (sym look)) in
          let below = (name-of q.sheet a w (sym look)).1 in
          let fault = sym v.0 ∙ h in
          let w45 = act-other q.model a j f below fault in
          let room : Fits a = omega arith in
          let r = fault-range q.model (act-entry a j) room (standing q.model) refl f fault in
          none-behind q f n k (act-line w j) (act-behind q f n k w j) (told_at f n k r.0 r.1 ∙ rw (ne_eqb f 4 w45.0, ne_eqb f 5 w45.1))
      tells (row-line x g w r u) none here bytes fits look z h c =
          row-tells (without_acts q.model) (actless p) (ap actless s.kept ∙ sym (standing-actless q.model)) x g w r u 0 here
          (fits.0, fits.1, omega arith, fits.3, fits.4) (sym (row-unknown q x g w r u (sym look)) ∙ h) c (row-behind-none q f n k x g w r u (sym look))
      tells (row-line x g w r u) (some a) here bytes fits look z h c =
          let v = resolved-fault q (row-line x g w r u) (row-entry x g a r u) (ap (map_some (λ a. row-entry x g a r u)) (sym look)) in
          let below = (name-of q.sheet a w (sym look)).1 in
          let room : Fits a = omega arith in
          row-tells q.model p s.kept x g w r u a here (fits.0, fits.1, room, fits.3, fits.4)
          (sym v.0 ∙ h) c (row-behind-some q f n k x g w r u a (sym look))
      tells (plain-line e) y here bytes fits look z h c =
          let v = resolved-fault q (plain-line e) e refl in
          let fault = sym v.0 ∙ h in
          let r = fault-range q.model e fits.0 p s.kept f fault in
          let b : entry (drop at t) ≡ got e (drop to t) = ap entry (bytes ∙ ap (λ (l : List ℕ). l ++ drop to t) (plain-text e))
          ∙ entry-exact.printed e (drop to t) fits.0 tt in
          let ck : k ≡ first_column (beyond (allowed_of p f)) e = c ∙ value-column-is t at (allowed_of p f) e (drop to t) b in
          told_at f n k r.0 r.1
          ∙ ap (λ x. some (tell f (n ∷ x))) (sym (plain-behind q f n k e ∙ column-as q.model e fits.0 p s.kept f fault k ck))

    pub line-told : (f k : ℕ) → step_named p (code_of l) o ≡ Err f → k ≡ column_by t at (allowed_of (judged_by p (code_of l) o) f) (code_of l) o
        → says_checked (Err (record { number = f; place = place_of n f k })) ≡ some (done_of (onward t (with_sheet (sheet_of t P)) from first))
    unfolding says_checked
    line-told f k e c =
        ap as_refused (tells f k l o read scanned.0 scanned.1 looked behind (found f e) c) ∙ ap (λ a. some (done_of a)) (sym (line-fault f e))

    line-judged : (p' : CodeProgress) → step_named p (code_of l) o ≡ Ok p' → (fault_named q l ≡ none) × (p' ≡ standing (taken q l).model)
    line-judged p' e = judged-taken (fault_named q l) (taken q l).model p' (sym judged ∙ e)

    pub line-less : length (drop to t) < length (drop at t)
    line-less = line-shortens (drop at t) (record { value = l; rest = drop to t }) read

    pub line_taken : (p' : CodeProgress) → step_named p (code_of l) o ≡ Ok p'
        → Stands t P from first (taken q l) p' to (n + 1) (d ∪ declared_named (code_of l) o)
    line_taken p' e =
        let h = line-judged p' e in
        let w = onward-is q s.begun l o scanned.1 looked behind h.0 in
        record {
          sheet = w.sheet ∙ s.sheet;
          kept = h.1;
          begun = w.begun;
          declared = ap (λ z. z ∪ declared_named (code_of l) o) s.declared ∙ sym w.declared;
          same =
              ap (onward t (taken q l) to) (add-one n)
              ∙ sym (lines_next n q l (drop to t) (length (drop at t)) (length (drop to t)) (drop at t) (le_refl _) (le_refl _) read h.0) ∙ s.same;
          count = omega (arith, line-less, s.count);
          later = λ z. absurd (w.last z);
          low = omega (arith, s.low, line-less, length-drop at t, length-drop to t);
        }

  -- ---- behind the last line
  pub says-shape : (k : ℕ) (cs : List ℕ) → at < length t → line (drop at t) ≡ stops cs → k ≡ stop_column (drop at t) cs
      → says_checked (Err (record { number = 2; place = Spot n k })) ≡ some (done_of (onward t (with_sheet (sheet_of t P)) from first))
  unfolding says_checked told
  says-shape k cs h e c = ap (λ i. some (refused (tell 2 (n ∷ i ∷ [])))) c ∙ ap (λ a. some (done_of a)) (sym (no_line cs h e))

  components : p.components ≡ length q.model.comps
  components = ap (λ (x : CodeProgress). x.components) s.kept

  pub says_none : length t ≤ at → p.components ≡ 0 → says_checked (Err (record { number = 8; place = Whole }))
      ≡ some (done_of (onward t (with_sheet (sheet_of t P)) from first))
  unfolding says_checked told
  says_none h z = go q.model.comps (sym components ∙ z) (at-end h)
    where
      go : (m : List Comp) → length m ≡ 0 → onward t (with_sheet (sheet_of t P)) from first ≡ finish_named q m
          → says_checked (Err (record { number = 8; place = Whole })) ≡ some (done_of (onward t (with_sheet (sheet_of t P)) from first))
      go [] e f = ap (λ a. some (done_of a)) (sym f)
      go (c ∷ cs) e f = absurd (omega arith)

  abbrev unused_now : Option ℕ
  unused_now = unused d (sheet_of t P)

  finished : length t ≤ at → (p.components ≡ 0 → ⊥) → (r : Read) × (onward t (with_sheet (sheet_of t P)) from first ≡ unless_unused unused_now r)
  finished h z = go q.model.comps (λ e. z (components ∙ e)) (at-end h)
    where
      same : unused q.declared q.sheet ≡ unused d (sheet_of t P)
      same = ap (λ x. unused x q.sheet) (sym s.declared) ∙ ap (unused d) s.sheet

      go : (m : List Comp) → (length m ≡ 0 → ⊥) → onward t (with_sheet (sheet_of t P)) from first ≡ finish_named q m
          → (r : Read) × (onward t (with_sheet (sheet_of t P)) from first ≡ unless_unused unused_now r)
      go [] e f = absurd (e refl)
      go (c ∷ cs) e f =
          let r : Read = record { sheet = q.sheet; lines = q.lines; model = reverse (c ∷ cs) } in
          (r, f ∙ ap (λ u. unless_unused u r) same)

  pub says-unused : length t ≤ at → (p.components ≡ 0 → ⊥) → (r : ℕ) → unused_now ≡ line_at r → (r ≡ 0 → ⊥)
      → says_checked (Err (record { number = 44; place = AtLine r })) ≡ some (done_of (onward t (with_sheet (sheet_of t P)) from first))
  unfolding says_checked told
  says-unused h z zero e w = absurd (w refl)
  says-unused h z (suc r) e w = let v = finished h z in ap (λ a. some (done_of a)) (sym (v.1 ∙ ap (λ u. unless_unused u v.0) e))

  pub says-fine : length t ≤ at → (p.components ≡ 0 → ⊥) → (r : ℕ) → unused_now ≡ line_at r → r ≡ 0
      → says_checked (Ok tt) ≡ some (done_of (onward t (with_sheet (sheet_of t P)) from first))
  unfolding says_checked
  says-fine h z zero e w = let v = finished h z in ap (λ a. some (done_of a)) (sym (v.1 ∙ ap (λ u. unless_unused u v.0) e))
  says-fine h z (suc r) e w = absurd (omega arith)
