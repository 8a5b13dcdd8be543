-- A text that is read in the second form is the text of the sheet and the model that are answered.
use mathlib.Core.Path.{◌≡◌, refl, sym, ◌∙◌, ap, ap₂, subst}
use mathlib.Core.Option.{Option, none, some}
use mathlib.Core.Bool.{not}
use mathlib.Core.List.{List, [], ◌∷◌, ◌++◌, append_assoc, append-nil, reverse, cons≢nil}
use Prim.Native.Nat.{ℕ, zero, suc, ◌≤◌}
use native.Mathlib.Omega.{arith}
use lib.ListN.{length}
use lib.Dec.{ltb}
use borrow.Author.Tests.{ltb-true, not-false}
use Rattle.laws.specs.Sets.{◌∪◌}
use Rattle.laws.specs.Search.{when, is_some}
use Rattle.laws.proofs.SetLaws.{or_assoc}
use Rattle.laws.proofs.SearchLaws.{no-some, when-none, or_else_none, map-some, is_none}
use Rattle.laws.proofs.TestLaws.{or-false}
use Rattle.laws.proofs.ListLaws.{All}
use Rattle.answer.specs.Limits.{max_actions}
use Rattle.answer.specs.Told.{Told, Answer, answered, refused}
use Rattle.model.specs.Model.{Comp}
use Rattle.model.specs.Reading.{Got, Scan, is, stops, Entry, comp-entry, act-entry, clk-entry, row-entry, Progress, at_start, fault_of}
use Rattle.model.specs.Line.{LineFits}
use Rattle.model.specs.Faulty.{with_line}
use Rattle.named.specs.NamedText.{Name, good_name, Sheet, number_of, name_line, sheet_text, bytes_of, name_field}
use Rattle.named.specs.NamedText.{line_named, lines_named, declared_by, declared_in, Line, form-line, name-line}
use Rattle.named.specs.NamedText.{act-line, row-line, plain-line, line, line_text, LineFits₂, IsPlain}
use Rattle.named.specs.ReadNamed.{Progress₂, resolve, above, bad_name, fault_named, with_old, taken, Read, unused, unless_unused, finish_named, lines_from₂}
use Rattle.named.proofs.Scanned.{line-scanned}
use Rattle.named.proofs.Onward.{lines_next, lines_end, lines-shapeless, lines-fault, line-shortens}
use Rattle.named.proofs.Resolved.{Good, good-name, good_old, good}
use Rattle.namedtheory.specs.Named.{Names, name}
use Rattle.namedtheory.proofs.Lookup.{name-of, number-of}
use Rattle.namedtheory.proofs.Taking.{Takes, none_left, takes}
use Rattle.namedtheory.proofs.Forward.{sheeted, Called, or-zero}

pub no_answer {ℓ} : {A : Type 0} {P : Type ℓ} {o : Answer A} {t : Told} {x : A} → o ≡ refused t → o ≡ answered x → P
no_answer {A = A} p q = let z : ◌≡◌ {A = ℕ} 0 1 =
    ap (λ (o : Answer A). elim o as (λ _. ℕ) [ answered y ↦ 1 | refused u ↦ 0 ]) (sym p ∙ q) in absurd (omega arith)

pub same_answer : {A : Type 0} {x y : A} → ◌≡◌ {A = Answer A} (answered x) (answered y) → x ≡ y
same_answer {A} {x} e = ap (λ (o : Answer A). elim o as (λ _. A) [ answered z ↦ z | refused u ↦ x ]) e

-- ---- the line that a scanned line is
field_is : (sheet : Sheet) (a : ℕ) (w : Name) → number_of sheet w ≡ some a → name_field sheet a ≡ w
field_is sheet a w h = ap bytes_of (name-of sheet a w h).0

pub record LineBack (sheet : Sheet) (l : Line) (e : Entry) : Type 0 where
  pub text : line_text l ≡ line_named sheet e
  pub fits : LineFits e
  pub called : Called sheet e

plain_back : (sheet : Sheet) (e : Entry) → LineFits e → IsPlain e → LineBack sheet (plain-line e) e
unfolding line_text line_named
plain_back sheet (comp-entry n s) f p = record { text = refl; fits = f; called = tt }
plain_back sheet (act-entry a k) f p = absurd p
plain_back sheet (clk-entry x b) f p = record { text = refl; fits = f; called = tt }
plain_back sheet (row-entry s g a r t) f p = absurd p

line-back : (sheet : Sheet) (l : Line) (e : Entry) → resolve sheet l ≡ some e → LineFits₂ l → LineBack sheet l e
unfolding line_text line_named
line-back sheet form-line e h f = absurd (no-some refl h)
line-back sheet (name-line n w) e h f = absurd (no-some refl h)
line-back sheet (act-line w k) e h f =
    let m = map-some (λ a. act-entry a k) (number_of sheet w) e h in
    let n = name-of sheet m.0 w m.1 in
    let b : LineBack sheet (act-line w k) (act-entry m.0 k) =
    record { text = rw (field_is sheet m.0 w m.1); fits = omega (arith, n.1); called = (w, n.0) } in
    subst (LineBack sheet (act-line w k)) m.2 b
line-back sheet (row-line s g w r t) e h f =
    let m = map-some (λ a. row-entry s g a r t) (number_of sheet w) e h in
    let n = name-of sheet m.0 w m.1 in
    let b : LineBack sheet (row-line s g w r t) (row-entry s g m.0 r t) = record {
      text = rw (field_is sheet m.0 w m.1);
      fits = (f.0, f.1, omega (arith, n.1), f.3, f.4);
      called = (w, n.0);
    } in
    subst (LineBack sheet (row-line s g w r t)) m.2 b
line-back sheet (plain-line d) e h f = let q : d ≡ e = cc in subst (LineBack sheet (plain-line d)) q (plain_back sheet d f.0 f.1)

-- ---- the end
finish-is : (p : Progress₂) (m : List Comp) (r : Read) → finish_named p m ≡ answered r
    → (1 ≤ length m) × (unused p.declared p.sheet ≡ none) × (r ≡ record { sheet = p.sheet; lines = p.lines; model = reverse m })
finish-is p [] r h = no_answer refl h
finish-is p (c ∷ cs) r h = go (unused p.declared p.sheet) refl h
  where
    go : (o : Option ℕ) → unused p.declared p.sheet ≡ o
        → unless_unused o (record { sheet = p.sheet; lines = p.lines; model = reverse (c ∷ cs) }) ≡ answered r
        → (1 ≤ length (c ∷ cs)) × (unused p.declared p.sheet ≡ none) × (r ≡ record { sheet = p.sheet; lines = p.lines; model = reverse (c ∷ cs) })
    go none u h = (omega arith, u, sym (same_answer h))
    go (some n) u h = no_answer refl h

-- ---- the lines behind the `name` lines
pub record Walked (sheet : Sheet) (ls : List Entry) (m : Progress) (d : ℕ) (bs : List ℕ) (r : Read) : Type 0 where
  pub es : List Entry
  pub end : Progress
  pub taken : Takes m es end
  pub bytes : bs ≡ lines_named sheet es
  pub fit : All LineFits es
  pub called : All (Called sheet) es
  pub some : 1 ≤ length end.comps
  pub used : unused (d ∪ declared_in es) sheet ≡ none
  pub answer : r ≡ record { sheet = sheet; lines = ls ++ es; model = reverse end.comps }

no_more : (sheet : Sheet) (ls : List Entry) (m : Progress) (d : ℕ) (r : Read)
    → finish_named (record { sheet = sheet; lines = ls; model = m; declared = d }) m.comps ≡ answered r
    → d ∪ 0 ≡ d → Walked sheet ls m d [] r
unfolding lines_named declared_in
no_more sheet ls m d r h z =
    let f = finish-is (record { sheet = sheet; lines = ls; model = m; declared = d }) m.comps r h in
    record {
      es = [];
      end = m;
      taken = none_left;
      bytes = refl;
      fit = tt;
      called = tt;
      some = f.0;
      used = ap (λ x. unused x sheet) z ∙ f.1;
      answer = f.2 ∙ ap (λ (l : List Entry). record { sheet = sheet; lines = l; model = reverse m.comps }) (sym (append-nil ls));
    }

one_more : (sheet : Sheet) (ls : List Entry) (m : Progress) (d : ℕ) (bs cs : List ℕ) (r : Read) (l : Line) (e : Entry)
    → LineBack sheet l e → bs ≡ line_text l ++ cs
    → fault_of m e ≡ none → Walked sheet (ls ++ e ∷ []) (with_line m e) (d ∪ declared_by e) cs r → Walked sheet ls m d bs r
unfolding lines_named declared_in
one_more sheet ls m d bs cs r l e b q f w =
    record {
      es = e ∷ w.es;
      end = w.end;
      taken = takes e f w.taken;
      bytes = q ∙ ap₂ {C = List ℕ} (λ x y. x ++ y) b.text w.bytes;
      fit = (b.fits, w.fit);
      called = (b.called, w.called);
      some = w.some;
      used = ap (λ x. unused x sheet) (sym (or_assoc d (declared_by e) (declared_in w.es))) ∙ w.used;
      answer = w.answer ∙ ap (λ (x : List Entry). record { sheet = sheet; lines = x; model = reverse w.end.comps }) (append_assoc ls (e ∷ []) w.es);
    }

abbrev Onward : Sheet → ℕ → Type 0
Onward sheet k = (n : ℕ) (ls : List Entry) (m : Progress) (d : ℕ) (bs : List ℕ) (r : Read) → length bs ≤ k → (m.last ≡ none → ⊥)
    → lines_from₂ k n (record { sheet = sheet; lines = ls; model = m; declared = d }) bs ≡ answered r → Walked sheet ls m d bs r

-- one line of good shape, faultless and no `name` line
step-on : (sheet : Sheet) (k n : ℕ) (ls : List Entry) (m : Progress) (d : ℕ) (b : ℕ) (bs : List ℕ) (r : Read) (g : Got Line)
    → Onward sheet k → length (b ∷ bs) ≤ suc k
    → line (b ∷ bs) ≡ is g → (e : Entry) → resolve sheet g.value ≡ some e → fault_of m e ≡ none
    → fault_named (record { sheet = sheet; lines = ls; model = m; declared = d }) g.value ≡ none
    → taken (record { sheet = sheet; lines = ls; model = m; declared = d }) g.value
    ≡ with_old (record { sheet = sheet; lines = ls; model = m; declared = d }) (some e)
    → lines_from₂ (suc k) n (record { sheet = sheet; lines = ls; model = m; declared = d }) (b ∷ bs) ≡ answered r
    → Walked sheet ls m d (b ∷ bs) r
step-on sheet k n ls m d b bs r g on l read e res flt fine tk h =
    let p : Progress₂ = record { sheet = sheet; lines = ls; model = m; declared = d } in
    let s = line-scanned (b ∷ bs) g read in
    let short = line-shortens (b ∷ bs) g read in
    let next = lines_next n p g.value g.rest (suc k) k (b ∷ bs) l (omega arith) read fine ∙ ap (λ x. lines_from₂ k (suc n) x g.rest) tk in
    one_more sheet ls m d (b ∷ bs) g.rest r g.value e (line-back sheet g.value e res s.1) s.0 flt
    (on (suc n) (ls ++ e ∷ []) (with_line m e) (d ∪ declared_by e) g.rest r (omega arith) (λ z. no-some z refl) (sym next ∙ h))

-- a faultless line that is no `name` line
pub record Old (p : Progress₂) (l : Line) : Type 0 where
  pub entry : Entry
  pub resolves : resolve p.sheet l ≡ some entry
  pub faultless : fault_of p.model entry ≡ none
  pub takes : taken p l ≡ with_old p (some entry)

old-only : (p : Progress₂) (l : Line) → Good p l → (p.model.last ≡ none → ⊥) → Old p l
old-only p l (good-name n w z) h = absurd (h z)
old-only p l (good_old e res flt tk) h = record { entry = e; resolves = res; faultless = flt; takes = tk }

walked : (sheet : Sheet) (k : ℕ) → Onward sheet k
walked sheet zero n ls m d [] r l w h =
    no_more sheet ls m d r (sym (lines_end n (record { sheet = sheet; lines = ls; model = m; declared = d }) zero) ∙ h) (or-zero d)
walked sheet zero n ls m d (b ∷ bs) r l w h = absurd (omega arith)
walked sheet (suc k) n ls m d [] r l w h =
    no_more sheet ls m d r (sym (lines_end n (record { sheet = sheet; lines = ls; model = m; declared = d }) (suc k)) ∙ h) (or-zero d)
walked sheet (suc k) n ls m d (b ∷ bs) r l w h = go (λ n ls m d bs r l w h. walked sheet k n ls m d bs r l w h) (line (b ∷ bs)) refl
  where
    p : Progress₂
    p = record { sheet = sheet; lines = ls; model = m; declared = d }

    faulty : Onward sheet k → (g : Got Line) → line (b ∷ bs) ≡ is g → (o : Option ℕ) → fault_named p g.value ≡ o → Walked sheet ls m d (b ∷ bs) r
    faulty on g read (some f) z = no_answer (lines-fault n p g.value g.rest (suc k) (b ∷ bs) f l read z) h
    faulty on g read none z = let o = old-only p g.value (good p g.value z) w in
        step-on sheet k n ls m d b bs r g on l read o.entry o.resolves o.faultless z o.takes h

    go : Onward sheet k → (o : Scan Line) → line (b ∷ bs) ≡ o → Walked sheet ls m d (b ∷ bs) r
    go on (stops cs) read = no_answer (lines-shapeless n p (suc k) (b ∷ bs) cs cons≢nil l read) h
    go on (is g) read = faulty on g read (fault_named p g.value) refl

-- ---- the `name` lines
pub record Began (sheet : Sheet) (bs : List ℕ) (r : Read) : Type 0 where
  pub whole : Sheet
  pub names : Names whole
  pub rest : List ℕ
  pub bytes : sheet_text sheet ++ bs ≡ sheet_text whole ++ rest
  pub walk : Walked whole [] at_start 0 rest r

-- what a faultless `name` line tells
name-good : (sheet : Sheet) (n : ℕ) (w : Name) → Names sheet → fault_named (sheeted sheet) (name-line n w) ≡ none
    → Names (record { number = n; name = w } ∷ sheet)
unfolding fault_named
name-good sheet n w s h =
    let a = or_else_none (when (not (ltb n max_actions)) 4) _ h in
    let b = or_else_none (when (not (above sheet n)) 6) _ a.1 in
    let c = or-false (not (good_name w)) (is_some (number_of sheet w)) (when-none (bad_name sheet w) 43 b.1) in
    let none_yet = is_none (number_of sheet w) c.1 in
    name n w s (ltb-true n max_actions (not-false (ltb n max_actions) (when-none (not (ltb n max_actions)) 4 a.0)))
    (not-false (above sheet n) (when-none (not (above sheet n)) 6 b.0))
    (not-false (good_name w) c.0) (λ a e. no-some none_yet (number-of s a w e))

-- a faultless line is a `name` line or an old one
pub data Either (p : Progress₂) (l : Line) : Type 0 where
  a-name : (n : ℕ) (w : Name) → l ≡ name-line n w → Either p l
  an-old : Old p l → Either p l

either : (p : Progress₂) (l : Line) → Good p l → Either p l
either p l (good-name n w z) = a-name n w refl
either p l (good_old e res flt tk) = an-old (record { entry = e; resolves = res; faultless = flt; takes = tk })

name-bytes : (sheet : Sheet) (n : ℕ) (w : Name) (bs cs : List ℕ) → bs ≡ line_text (name-line n w) ++ cs
    → sheet_text sheet ++ bs ≡ sheet_text (record { number = n; name = w } ∷ sheet) ++ cs
unfolding sheet_text name_line line_text
name-bytes sheet n w bs cs q = ap (λ (x : List ℕ). sheet_text sheet ++ x) q
    ∙ sym (append_assoc (sheet_text sheet) (name_line (record { number = n; name = w })) cs)

name-takes : (sheet : Sheet) (n : ℕ) (w : Name) → taken (sheeted sheet) (name-line n w) ≡ sheeted (record { number = n; name = w } ∷ sheet)
unfolding taken
name-takes sheet n w = refl

abbrev Beginning : ℕ → Type 0
Beginning k = (n : ℕ) (sheet : Sheet) (bs : List ℕ) (r : Read) → Names sheet → length bs ≤ k → lines_from₂ k n (sheeted sheet) bs ≡ answered r → Began sheet bs r

no_lines : (k n : ℕ) (sheet : Sheet) (r : Read) → lines_from₂ k n (sheeted sheet) [] ≡ answered r → ⊥
no_lines k n sheet r h = no_answer (lines_end n (sheeted sheet) k) h

pub began : (k : ℕ) → Beginning k
began zero n sheet [] r s l h = absurd (no_lines zero n sheet r h)
began zero n sheet (b ∷ bs) r s l h = absurd (omega arith)
began (suc k) n sheet [] r s l h = absurd (no_lines (suc k) n sheet r h)
began (suc k) n sheet (b ∷ bs) r s l h = go (λ n sheet bs r s l h. began k n sheet bs r s l h) (line (b ∷ bs)) refl
  where
    p : Progress₂
    p = sheeted sheet

    sort : Beginning k → (g : Got Line) → line (b ∷ bs) ≡ is g → fault_named p g.value ≡ none → Either p g.value → Began sheet (b ∷ bs) r
    sort on g read z (a-name n₁ w q) =
        let c = line-scanned (b ∷ bs) g read in
        let short = line-shortens (b ∷ bs) g read in
        let more : Sheet = record { number = n₁; name = w } ∷ sheet in
        let next =
        lines_next n p g.value g.rest (suc k) k (b ∷ bs) l (omega arith) read z
        ∙ ap (λ x. lines_from₂ k (suc n) x g.rest) (ap (taken p) q ∙ name-takes sheet n₁ w) in
        let rest = on (suc n) more g.rest r (name-good sheet n₁ w s (ap (fault_named p) (sym q) ∙ z)) (omega arith) (sym next ∙ h) in
        record {
          whole = rest.whole;
          names = rest.names;
          rest = rest.rest;
          bytes = name-bytes sheet n₁ w (b ∷ bs) g.rest (c.0 ∙ ap (λ x. line_text x ++ g.rest) q) ∙ rest.bytes;
          walk = rest.walk;
        }
    sort on g read z (an-old o) =
        record {
          whole = sheet;
          names = s;
          rest = b ∷ bs;
          bytes = refl;
          walk = step-on sheet k n [] at_start 0 b bs r g (walked sheet k) l read o.entry o.resolves o.faultless z o.takes h;
        }

    faulty : Beginning k → (g : Got Line) → line (b ∷ bs) ≡ is g → (o : Option ℕ) → fault_named p g.value ≡ o → Began sheet (b ∷ bs) r
    faulty on g read (some f) z = no_answer (lines-fault n p g.value g.rest (suc k) (b ∷ bs) f l read z) h
    faulty on g read none z = sort on g read z (either p g.value (good p g.value z))

    go : Beginning k → (o : Scan Line) → line (b ∷ bs) ≡ o → Began sheet (b ∷ bs) r
    go on (stops cs) read = no_answer (lines-shapeless n p (suc k) (b ∷ bs) cs cons≢nil l read) h
    go on (is g) read = faulty on g read (fault_named p g.value) refl
