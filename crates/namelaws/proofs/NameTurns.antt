-- A `name` line: where its name stands, and its fault or none.
use mathlib.Core.Path.{◌≡◌, refl, sym, ◌∙◌, ap, ap₂, subst}
use mathlib.Core.Option.{Option, none, some}
use mathlib.Core.Bool.{Bool, true, false, ◌||◌, not, cond, true≢false}
use mathlib.Core.List.{List, [], ◌∷◌, ◌++◌, append_assoc}
use Prim.Native.Nat.{ℕ, suc, ◌+◌, ◌≤◌, ◌<◌}
use native.Mathlib.Numerals.{add-one}
use native.Mathlib.Omega.{arith}
use native.Mathlib.Decide.{dec_lt}
use native.Mathlib.Nat.{le_refl}
use lib.ListN.{length, drop, get_or, set, length-append, length-drop, drop_of_length-le}
use lib.Seq.{drop-drop, drop_at}
use lib.Dec.{eqb, ltb, leb}
use borrow.Author.Tests.{lt-ltb, le-ltb, le-leb, lt-leb, ltb-true, ltb-false, eq-eqb, ne_eqb}
use Rattle.laws.specs.Search.{when, is_some, or_else}
use Rattle.laws.proofs.SearchLaws.{least-some}
use Rattle.answer.specs.Limits.{max_actions}
use Rattle.answer.specs.Told.{told, tell}
use Rattle.answer.specs.declared.Place.TheVariants.{Line as AtLine, Spot}
use Rattle.answer.specs.declared.Refusal.{Refusal}
use Rattle.model.specs.Text.{tab, lf, act_word, row_word, Kind, kind_word, decimal, guard_field, fields_after}
use Rattle.model.specs.Reading.{Got, stops, got, exactly, guard_of, comp-entry, act-entry, clk-entry, row-entry, stop_column}
use Rattle.model.specs.Line.{list_field, line_of}
use Rattle.model.proofs.Reading.Scans.{is-inj}
use Rattle.lines.specs.Lines.{guard_is}
use Rattle.lines.proofs.LineLaws.{valued-is}
use Rattle.fields.specs.Resets.{valued}
use Rattle.columns.specs.Columns.{wide_guard}
use Rattle.named.specs.NamedText.{Name, good_name, name_word, is_named, Line, form-line, name-line, act-line, row-line, plain-line, line, NameFits, line_text}
use Rattle.named.specs.ReadNamed.{fault_named, behind_line, taken, begun}
use Rattle.named.proofs.Names.{Stops, name-exact}
use Rattle.named.proofs.Scanned.{line-exact}
use Rattle.named.proofs.Onward.{line-shortens, lines-shapeless, lines-fault, lines_next}
use Rattle.namefields.specs.NameFields.{name_from, name_by, number_by}
use Rattle.namelines.specs.declared.NamedLine.{NamedLine}
use Rattle.namelines.specs.declared.NamedLine.TheVariants.{Name as Named}
use Rattle.namelines.specs.NamedLines.{code_of, before_name}
use Rattle.namelaws.specs.Sheets.{sheet_of, begins_name, fault_by, name_fault, name_told, with_sheet, onward, Refuses, SoFar, NameFine, SheetIs}
use Rattle.namelaws.proofs.PlaceLaws.{number-as, so-far-none, sheet-stored, so-far-next}

-- ---- a name behind bytes
pub record NamePlace (t : List ℕ) (at : ℕ) (w : Name) : Type 0 where
  pub name : name_from t at ≡ w
  pub inside : at ≤ length t

pub name-stands : (t : List ℕ) (at k : ℕ) (F w rest : List ℕ) → drop at t ≡ F ++ (w ++ rest)
    → length F ≡ k → 1 ≤ k → NameFits w → Stops rest → NamePlace t (at + k) w
name-stands t at k F w rest e l p f s =
    record {
      name = ap (λ bs. name_from bs 0) (sym (drop-drop k at t) ∙ ap (drop k) e ∙ drop_at F (w ++ rest) k l)
          ∙ ap (λ (g : Got Name). g.value) (is-inj (name-exact.printed w rest f s));
      inside = omega (arith, ap length e, length-append F (w ++ rest), length-drop at t, l);
    }

pub guard-wide : (g : Option ℕ) → length (guard_field (guard_of g)) ≡ wide_guard (guard_is g)
unfolding guard_field
guard-wide none = refl
guard-wide (some x) = refl

module _ (t : List ℕ) (at : ℕ) (cs : List ℕ) where
  pub name-in-name : (n : ℕ) (w : Name) → line (drop at t) ≡ got (name-line n w) cs → NamePlace t (at + (6 + length (decimal n))) w
  unfolding line_text fields_after
  name-in-name n w read =
      let p = line-exact.scanned (drop at t) (record { value = name-line n w; rest = cs }) read in
      let F = name_word ++ (tab ∷ (decimal n ++ (tab ∷ []))) in
      let e : drop at t ≡ F ++ (w ++ (lf ∷ cs)) = p.0 ∙ simp append_assoc in
      name-stands t at (6 + length (decimal n)) F w (lf ∷ cs) e (omega (arith, length-append (decimal n) (tab ∷ []))) (omega arith) p.1.1 refl

  pub name-in-act : (w : Name) (k : Kind) → line (drop at t) ≡ got (act-line w k) cs → NamePlace t (at + 4) w
  unfolding line_text fields_after
  name-in-act w k read =
      let p = line-exact.scanned (drop at t) (record { value = act-line w k; rest = cs }) read in
      let F = act_word ++ (tab ∷ []) in
      let e : drop at t ≡ F ++ (w ++ (tab ∷ (kind_word k ++ (lf ∷ cs)))) = p.0 ∙ simp append_assoc in
      name-stands t at 4 F w (tab ∷ (kind_word k ++ (lf ∷ cs))) e refl (omega arith) p.1 refl

  -- the bytes of a row, by its name
  pub row-bytes : (s : ℕ) (g : Option ℕ) (w : Name) (r : List ℕ) (u : ℕ) → line (drop at t) ≡ got (row-line s g w r u) cs
      → drop at t ≡ (row_word ++ (tab ∷ (decimal s ++ (tab ∷ (guard_field (guard_of g) ++ (tab ∷ []))))))
      ++ (w ++ (tab ∷ (list_field r ++ (tab ∷ (decimal u ++ (lf ∷ cs))))))
  unfolding line_text fields_after
  row-bytes s g w r u read = (line-exact.scanned (drop at t) (record { value = row-line s g w r u; rest = cs }) read).0 ∙ simp append_assoc

  pub row-front : (s : ℕ) (g : Option ℕ)
      → length (row_word ++ (tab ∷ (decimal s ++ (tab ∷ (guard_field (guard_of g) ++ (tab ∷ [])))))) ≡ 6 + length (decimal s) + wide_guard (guard_is g)
  row-front s g =
      let G = guard_field (guard_of g) in
      omega (arith, guard-wide g, length-append (decimal s) (tab ∷ (G ++ (tab ∷ []))), length-append G (tab ∷ []))

  pub name-in-row : (s : ℕ) (g : Option ℕ) (w : Name) (r : List ℕ) (u : ℕ) → line (drop at t) ≡ got (row-line s g w r u) cs
      → NamePlace t (at + (6 + length (decimal s) + wide_guard (guard_is g))) w
  name-in-row s g w r u read =
      let p = line-exact.scanned (drop at t) (record { value = row-line s g w r u; rest = cs }) read in
      name-stands t at (6 + length (decimal s) + wide_guard (guard_is g)) (row_word ++ (tab ∷ (decimal s ++ (tab ∷ (guard_field (guard_of g) ++ (tab ∷ [])))))) w
      (tab ∷ (list_field r ++ (tab ∷ (decimal u ++ (lf ∷ cs))))) (row-bytes s g w r u read) (row-front s g) (omega arith) p.1.2 refl

-- ---- which line begins with `name`
abbrev pub IsName : Line → Type 0
IsName form-line = ⊥
IsName (name-line n w) = Unit {0}
IsName (act-line w k) = ⊥
IsName (row-line s g w r u) = ⊥
IsName (plain-line e) = ⊥

other_word : (l : Line) (cs : List ℕ) → (IsName l → ⊥) → begins_name (line_text l ++ cs) ≡ false
unfolding line_text line_of exactly
other_word form-line cs h = refl
other_word (name-line n w) cs h = absurd (h tt)
other_word (act-line w k) cs h = refl
other_word (row-line s g w r u) cs h = refl
other_word (plain-line (comp-entry n s)) cs h = refl
other_word (plain-line (act-entry a k)) cs h = refl
other_word (plain-line (clk-entry x b)) cs h = refl
other_word (plain-line (row-entry s g a r u)) cs h = refl

name-word : (n : ℕ) (w : Name) (cs : List ℕ) → begins_name (line_text (name-line n w) ++ cs) ≡ true
unfolding line_text exactly
name-word n w cs = refl

pub begins : (bs cs : List ℕ) (n : ℕ) (w : Name) → line bs ≡ got (name-line n w) cs → begins_name bs ≡ true
begins bs cs n w read = ap begins_name (line-exact.scanned bs (record { value = name-line n w; rest = cs }) read).0 ∙ name-word n w cs

pub is_name : (bs cs : List ℕ) (l : Line) → line bs ≡ got l cs → begins_name bs ≡ true → IsName l
is_name bs cs l read h = go l (λ x. true≢false (sym h ∙ ap begins_name (line-exact.scanned bs (record { value = l; rest = cs }) read).0 ∙ other_word l cs x))
  where
    go : (l : Line) → ((IsName l → ⊥) → ⊥) → IsName l
    go form-line h = absurd (h (λ x. x))
    go (name-line n w) h = tt
    go (act-line w k) h = absurd (h (λ x. x))
    go (row-line s g w r u) h = absurd (h (λ x. x))
    go (plain-line e) h = absurd (h (λ x. x))

-- ---- the fault of a `name` line
leb-not : (low n : ℕ) → leb low n ≡ not (ltb n low)
leb-not low n = elim (dec_lt n low) [
  | yes h ↦ lt-leb low n h ∙ ap not (sym (lt-ltb n low h))
  | no h ↦ le-leb low n (omega arith) ∙ ap not (sym (le-ltb n low (omega arith)))
]

-- the tests in their order
abbrev chain : Bool → Bool → Bool → Bool → Option ℕ
chain a b c d = or_else (when (not a) 4) (or_else (when (not (not b)) 6) (when (not c || d) 43))

chain-none : (a b c d : Bool) → fault_by a b c d ≡ 0 → (chain a b c d ≡ none) × (a ≡ true) × (b ≡ false)
chain-none false b c d e = absurd (omega (arith, e))
chain-none true true c d e = absurd (omega (arith, e))
chain-none true false false d e = absurd (omega (arith, e))
chain-none true false true true e = absurd (omega (arith, e))
chain-none true false true false e = (refl, refl, refl)

module _ (n : ℕ) where
  abbrev Tells : Bool → Bool → Bool → Bool → ℕ → Type 0
  Tells a b c d f = (chain a b c d ≡ some f) × (told (name_told f n) ≡ some (tell f (n ∷ cond (eqb f 4) (6 ∷ []) [])))

  tells-4 : told (name_told 4 n) ≡ some (tell 4 (n ∷ 6 ∷ []))
  unfolding told
  tells-4 = refl

  tells-6 : told (name_told 6 n) ≡ some (tell 6 (n ∷ []))
  unfolding told
  tells-6 = refl

  tells-43 : told (name_told 43 n) ≡ some (tell 43 (n ∷ []))
  unfolding told
  tells-43 = refl

  chain-some : (a b c d : Bool) → (fault_by a b c d ≡ 0 → ⊥) → Tells a b c d (fault_by a b c d)
  chain-some false b c d w = (refl, tells-4)
  chain-some true true c d w = (refl, tells-6)
  chain-some true false false d w = (refl, tells-43)
  chain-some true false true true w = (refl, tells-43)
  chain-some true false true false w = absurd (w refl)

module _ (t P : List ℕ) (low : ℕ) (s : SoFar t P low) (n : ℕ) (w : Name) where
  fault-as : fault_named (with_sheet (sheet_of t P)) (name-line n w) ≡ chain (ltb n max_actions) (ltb n low) (good_name w) (is_some (number_by t P w))
  unfolding fault_named
  fault-as =
      ap₂ {C = Option ℕ} (λ a (b : Option ℕ). or_else (when (not (ltb n max_actions)) 4) (or_else (when (not a) 6) (when (not (good_name w) || is_some b) 43)))
      (s.least n ∙ leb-not low n) (number-as t P w)

  place-as : (f line : ℕ) → behind_line (with_sheet (sheet_of t P)) f (name-line n w) ≡ cond (eqb f 4) (6 ∷ []) []
  unfolding behind_line
  place-as f line = refl

-- ---- one line
nothing : begins_name [] ≡ true → ⊥
unfolding exactly
nothing h = true≢false (sym h)

module _ (t P : List ℕ) (low at n : ℕ) (s : SoFar t P low) where
  -- 2
  pub no-shape : (stop : List ℕ) → begins_name (drop at t) ≡ true → line (drop at t) ≡ stops stop
      → Refuses (onward t (with_sheet (sheet_of t P)) at n) (record { number = 2; place = Spot n (stop_column (drop at t) stop) })
  unfolding told
  no-shape stop h e = record {
    tells = tell 2 (n ∷ stop_column (drop at t) stop ∷ []);
    says = refl;
    same = lines-shapeless n (with_sheet (sheet_of t P)) (length (drop at t)) (drop at t) stop (λ z. nothing (ap begins_name (sym z) ∙ h)) (le_refl _) e;
  }

  module _ (number place next : ℕ) (w : Name) (read : line (drop at t) ≡ got (name-line number w) (drop next t)) (name : name_from t place ≡ w) where
    as-fault : name_fault t P low number place ≡ fault_by (ltb number max_actions) (ltb number low) (good_name w) (is_some (number_by t P w))
    as-fault = ap (λ v. fault_by (ltb number max_actions) (ltb number low) (good_name v) (is_some (number_by t P v))) name

    pub name-refused : (f : ℕ) → f ≡ name_fault t P low number place → (f ≡ 0 → ⊥) → Refuses (onward t (with_sheet (sheet_of t P)) at n) (name_told f n)
    name-refused f e z =
        let q = e ∙ as-fault in
        let k = chain-some n (ltb number max_actions) (ltb number low) (good_name w) (is_some (number_by t P w)) (λ x. z (q ∙ x)) in
        record {
          tells = tell f (n ∷ behind_line (with_sheet (sheet_of t P)) f (name-line number w));
          says =
              ap (λ i. told (name_told i n)) q ∙ k.1 ∙ ap (λ i. some (tell i (n ∷ cond (eqb i 4) (6 ∷ []) []))) (sym q)
              ∙ ap (λ l. some (tell f (n ∷ l))) (sym (place-as t P low s number w f n));
          same =
              lines-fault n (with_sheet (sheet_of t P)) (name-line number w) (drop next t) (length (drop at t)) (drop at t) f (le_refl _) read
              (fault-as t P low s number w ∙ k.0 ∙ ap some (sym q));
        }

    pub name-fine : name_fault t P low number place ≡ 0 → 1 ≤ place → NameFine t P low at number place next
    name-fine e p =
        let k = chain-none (ltb number max_actions) (ltb number low) (good_name w) (is_some (number_by t P w)) (sym as-fault ∙ e) in
        record {
          read = read ∙ ap (λ v. got (name-line number v) (drop next t)) (sym name);
          below = ltb-true number max_actions k.1;
          from = ltb-false number low k.2;
          fault = e;
          inside = p;
        }

  -- reading goes on with one name more
  pub name-taken : (number place next : ℕ) → NameFine t P low at number place next
      → (onward t (with_sheet (record { number = number; name = name_from t place } ∷ sheet_of t P)) next (suc n) ≡ onward t (with_sheet (sheet_of t P)) at n)
      × (length (drop next t) < length (drop at t))
  unfolding taken
  name-taken number place next f =
      let w = name_from t place in
      let k = chain-none (ltb number max_actions) (ltb number low) (good_name w) (is_some (number_by t P w)) f.fault in (
        sym (lines_next n (with_sheet (sheet_of t P)) (name-line number w) (drop next t) (length (drop at t))
            (length (drop next t)) (drop at t) (le_refl _) (le_refl _) f.read
            (fault-as t P low s number w ∙ k.0)),
        line-shortens (drop at t) (record { value = name-line number w; rest = drop next t }) f.read,
      )

-- ---- the tests one by one
module _ (n low : ℕ) (good again : Bool) where
  abbrev Fault : ℕ
  Fault = fault_by (ltb n max_actions) (ltb n low) good again

  pub fault-4 : max_actions ≤ n → 4 ≡ Fault
  fault-4 h = rw (le-ltb n max_actions h)

  pub fault-6 : n < max_actions → n < low → 6 ≡ Fault
  fault-6 h k = rw (lt-ltb n max_actions h, lt-ltb n low k)

  pub fault-bad : n < max_actions → low ≤ n → good ≡ false → 43 ≡ Fault
  fault-bad h k e = rw (lt-ltb n max_actions h, le-ltb n low k, e)

  pub fault-again : n < max_actions → low ≤ n → good ≡ true → again ≡ true → 43 ≡ Fault
  fault-again h k e f = rw (lt-ltb n max_actions h, le-ltb n low k, e, f)

  pub fault-no : n < max_actions → low ≤ n → good ≡ true → again ≡ false → 0 ≡ Fault
  fault-no h k e f = rw (lt-ltb n max_actions h, le-ltb n low k, e, f)

pub told-4 : (f n : ℕ) → f ≡ 4 → ◌≡◌ {A = Refusal} (record { number = f; place = Spot n 6 }) (name_told f n)
told-4 f n e = rw (eq-eqb f 4 e)

pub told-other : (f n : ℕ) → (f ≡ 4 → ⊥) → ◌≡◌ {A = Refusal} (record { number = f; place = AtLine n }) (name_told f n)
told-other f n e = rw (ne_eqb f 4 e)

-- ---- the line that a scan found, where it begins with `name`
pub record NamedAt (t : List ℕ) (at : ℕ) (l : NamedLine) (next : ℕ) : Type 0 where
  pub number : ℕ
  pub name : Name
  pub read : line (drop at t) ≡ got (name-line number name) (drop next t)
  pub code : l ≡ Named number
  pub place : NamePlace t (at + before_name l) name

pub named-at : (t : List ℕ) (at : ℕ) (l : NamedLine) (next : ℕ) → begins_name (drop at t) ≡ true
    → valued code_of (line (drop at t)) ≡ got l (drop next t) → NamedAt t at l next
named-at t at l next h e =
    let v = valued-is code_of (line (drop at t)) e in
    go v.0 v.1 v.2 (is_name (drop at t) (drop next t) v.0 v.1 h)
  where
    go : (x : Line) → line (drop at t) ≡ got x (drop next t) → code_of x ≡ l → IsName x → NamedAt t at l next
    go form-line read c i = absurd i
    go (name-line n w) read c i = record {
      number = n;
      name = w;
      read = read;
      code = sym c;
      place = subst (λ m. NamePlace t (at + before_name m) w) c (name-in-name t at (drop next t) n w read);
    }
    go (act-line w k) read c i = absurd i
    go (row-line s g w r u) read c i = absurd i
    go (plain-line x) read c i = absurd i

pub begins-inside : (t : List ℕ) (at : ℕ) → begins_name (drop at t) ≡ true → at < length t
begins-inside t at h = elim (dec_lt at (length t)) [
  | yes l ↦ l
  | no l ↦ absurd (nothing (ap begins_name (sym (drop_of_length-le t {i = at} (omega arith))) ∙ h))
]

-- ---- the loop
pub record Between (t : List ℕ) (from : ℕ) (P : List ℕ) (at n low : ℕ) : Type 0 where
  pub behind : from ≤ at
  pub so_far : SoFar t P low
  pub same : onward t (with_sheet (sheet_of t P)) at n ≡ onward t begun from 2
  pub count : n + length (drop at t) ≤ 2 + length t

pub between_first : (t : List ℕ) (from : ℕ) (P : List ℕ) → length P ≡ max_actions → ((a : ℕ) → get_or P a 0 ≡ 0) → Between t from P from 2 0
between_first t from P l h =
    let s = so-far-none t P l h in
    record { behind = le_refl from; so_far = s.0; same = ap (λ z. onward t (with_sheet z) from 2) s.1; count = omega (arith, length-drop from t) }

module _ (t : List ℕ) (from : ℕ) (P : List ℕ) (at n low : ℕ) (b : Between t from P at n low) where
  pub between-refused : (f : Refusal) → Refuses (onward t (with_sheet (sheet_of t P)) at n) f → Refuses (onward t begun from 2) f
  between-refused f r = record { tells = r.tells; says = r.says; same = sym b.same ∙ r.same }

  pub between-end : begins_name (drop at t) ≡ false → SheetIs t from P at n
  between-end h = record { long = b.so_far.long; behind = b.behind; count = b.count; no_name = h; same = b.same }

  module _ (number place next : ℕ) (f : NameFine t P low at number place next) where
    pub between-less : length (drop next t) < length (drop at t)
    between-less = (name-taken t P low at n b.so_far number place next f).1

    pub between_next : Between t from (set P number place) next (n + 1) (number + 1)
    between_next =
        let k = between-less in
        let z = sheet-stored t P low number place b.so_far f.from f.below f.inside in
        let o : n + 1 ≡ suc n = add-one n in
        record {
          behind = omega (arith, b.behind, length-drop next t, length-drop at t);
          so_far = so-far-next t P low number place b.so_far f.from f.below f.inside;
          same =
              ap (λ s. onward t (with_sheet s) next (n + 1)) z
              ∙ ap (onward t (with_sheet (record { number = number; name = name_from t place } ∷ sheet_of t P)) next) o
              ∙ (name-taken t P low at n b.so_far number place next f).0 ∙ b.same;
          count = omega (arith, b.count);
        }

-- what stands before a name lies in the text
pub line-inside : (t : List ℕ) (at : ℕ) (cs : List ℕ) (l : Line) → line (drop at t) ≡ got l cs → at < length t → at + before_name (code_of l) ≤ length t
line-inside t at cs form-line read h = omega arith
line-inside t at cs (name-line n w) read h = (name-in-name t at cs n w read).inside
line-inside t at cs (act-line w k) read h = (name-in-act t at cs w k read).inside
line-inside t at cs (row-line s g w r u) read h = (name-in-row t at cs s g w r u read).inside
line-inside t at cs (plain-line e) read h = omega arith

pub number-below : (t P : List ℕ) (w : Name) (a : ℕ) → number_by t P w ≡ some a → a < max_actions
number-below t P w a e = (least-some (λ i. is_named w (name_by t (get_or P i 0))) max_actions a e).below

-- the line that a scan found
pub record ReadAs (t : List ℕ) (at : ℕ) (m : NamedLine) (to : ℕ) : Type 0 where
  pub it : Line
  pub here : line (drop at t) ≡ got it (drop to t)
  pub code : code_of it ≡ m

pub read_as : (t : List ℕ) (at : ℕ) (m : NamedLine) (to : ℕ) → valued code_of (line (drop at t)) ≡ got m (drop to t) → ReadAs t at m to
read_as t at m to e = let v = valued-is code_of (line (drop at t)) e in record { it = v.0; here = v.1; code = v.2 }
