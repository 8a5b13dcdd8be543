-- A text is read in the second form exactly if it is the text of a good sheet and a model within the limits, and then they are the answer.
use mathlib.Core.Path.{◌≡◌, refl, sym, ◌∙◌, ap, subst}
use mathlib.Core.Logic.{◌↔◌, ⊎_elim}
use mathlib.Core.Option.{none, some}
use mathlib.Core.Bool.{Bool, true, false, not}
use mathlib.Core.List.{List, [], ◌∷◌, ◌++◌, append_assoc, append-nil, reverse}
use Prim.Native.Nat.{ℕ, ◌+◌, ◌≤◌}
use native.Mathlib.Omega.{arith}
use native.Mathlib.Nat.{le_refl}
use lib.ListN.{length, length-reverse}
use lib.Dec.{eqb, ltb}
use borrow.Author.Tests.{ltb-false, eqb-true, eqb-false, not-false}
use Rattle.laws.specs.Sets.{has, ◌∪◌, ◌∈◌}
use Rattle.laws.specs.Search.{when}
use Rattle.laws.proofs.SetLaws.{in-or, one_in, none_in}
use Rattle.laws.proofs.SearchLaws.{no-some, when-none, or_else_none}
use Rattle.laws.proofs.ListLaws.{All, all-at, all-reverse}
use Rattle.answer.specs.Limits.{max_bytes}
use Rattle.answer.specs.Told.{tell, answered, refused}
use Rattle.model.specs.Model.{Comp, Model, no_comp, row_count}
use Rattle.model.specs.Text.{text_of}
use Rattle.model.specs.WellFormed.{WellComp}
use Rattle.model.specs.Reading.{Got, Scan, is, stops, Entry, comp-entry, act-entry, clk-entry, row-entry, exactly, stop_column, at_start}
use Rattle.model.specs.Faulty.{Reaches, first-line}
use Rattle.model.proofs.Reading.Fields.{exactly-scanned}
use Rattle.model.proofs.Reading.TextOfRead.{count-reverse}
use Rattle.named.specs.NamedText.{Name, form_line, Sheet, name_of, sheet_text, lines_named, declared_by, declared_in, lines_text, entries_of, text_by, text_named}
use Rattle.named.specs.ReadNamed.{Read, begun, unused, first_line, lines_from₂, read_named}
use Rattle.named.proofs.Unbounded.{reaches-sound}
use Rattle.named.proofs.Entries.{model-lines, model-fits, one-lines}
use Rattle.namedtheory.specs.Named.{Names, no_name, name, GoodSheet, Fine, TextOf}
use Rattle.namedtheory.proofs.Lookup.{name-there}
use Rattle.namedtheory.proofs.Taking.{reached}
use Rattle.namedtheory.proofs.Forward.{Called, short-read}
use Rattle.namedtheory.proofs.TextRead.{text-is-read}
use Rattle.namedtheory.proofs.Back.{no_answer, Walked, began}

-- ---- every name is used, and every action declared has one
used_all : {sheet : Sheet} → Names sheet → (d : ℕ) → unused d sheet ≡ none → (a : ℕ) (v : Name) → name_of sheet a ≡ some v → a ∈ d
unfolding unused name_of
used_all no_name d u a v h = absurd (no-some refl h)
used_all (name {sheet} n w s l z g k) d u a v h = go (λ x y. used_all s d x a v y) (eqb n a) refl
  where
    both : (unused d sheet ≡ none) × (when (not (has d n)) (length sheet + 2) ≡ none)
    both = or_else_none (unused d sheet) _ u

    go : (unused d sheet ≡ none → name_of sheet a ≡ some v → a ∈ d) → (b : Bool) → eqb n a ≡ b → a ∈ d
    go ih true e = rw (← (eqb-true n a e)) (not-false (has d n) (when-none (not (has d n)) (length sheet + 2) both.1))
    go ih false e = ih both.0 (sym (name-there n a w sheet (eqb-false n a e)) ∙ h)

declared-called : (sheet : Sheet) (es : List Entry) → All (Called sheet) es → (a : ℕ) → a ∈ declared_in es → (w : Name) × (name_of sheet a ≡ some w)
unfolding declared_in
declared-called sheet [] c a h = absurd (none_in a h)
declared-called sheet (e ∷ es) c a h = ⊎_elim (one e c.0) (declared-called sheet es c.1 a) (in-or (declared_by e) (declared_in es) a h)
  where
    one : (e : Entry) → Called sheet e → a ∈ declared_by e → (w : Name) × (name_of sheet a ≡ some w)
    one (comp-entry n s) c h = absurd (none_in a h)
    one (act-entry b k) c h = (c.0, ap (name_of sheet) (one_in b a h) ∙ c.1)
    one (clk-entry x b) c h = absurd (none_in a h)
    one (row-entry s g b r t) c h = absurd (none_in a h)

-- ---- the model that the lines come to
fine-model : (m : List Comp) → 1 ≤ length m → length m ≤ 32 → All WellComp m → row_count m ≤ 1024 → Fine (reverse m)
fine-model m n l w r =
    record {
      some = omega (arith, length-reverse m);
      components = omega (arith, length-reverse m);
      each = all-at WellComp no_comp (reverse m) (all-reverse WellComp m [] w tt);
      rows = omega (arith, count-reverse m);
    }

no_text : (bs : List ℕ) → bs ≡ sheet_text [] ++ bs
unfolding sheet_text
no_text bs = refl

-- what is known of a text that is read
pub record ReadBack (t : List ℕ) (r : Read) : Type 0 where
  pub text : TextOf t r.sheet r.model
  pub lines : r.lines ≡ entries_of r.model

walk-back : (sheet : Sheet) (rest t : List ℕ) (r : Read) → Names sheet → Walked sheet [] at_start 0 rest r
    → t ≡ form_line ++ (sheet_text sheet ++ rest) → length t ≤ max_bytes → ReadBack t r
unfolding text_named
walk-back sheet rest t r s w q l =
    let es = w.es in
    let m = reverse w.end.comps in
    let lines = lines_text es in
    let got = reached {t = lines} [] w.taken w.fit (subst (λ (x : List ℕ). Reaches lines 1 at_start x) (sym (append-nil lines)) first-line) in
    let sound = reaches-sound got.1 in
    let fine = fine-model w.end.comps w.some sound.many sound.each sound.rows in
    let well = all-reverse WellComp w.end.comps [] sound.each tt in
    let same : es ≡ entries_of m =
    one-lines es (entries_of m) w.fit (model-fits m well) (sound.text ∙ append-nil (text_of m) ∙ sym (model-lines m well)) in
    let good : GoodSheet sheet m = record {
      names = s;
      each = λ a h. declared-called sheet es w.called a (subst (λ x. a ∈ declared_in x) (sym same) h);
      only = λ a v h. ⊎_elim (λ z. absurd (none_in a z)) (λ z. subst (λ x. a ∈ declared_in x) same z)
          (in-or 0 (declared_in es) a (used_all s (0 ∪ declared_in es) w.used a v h));
    } in
    let bytes : text_named sheet m ≡ t =
    ap (λ x. text_by sheet x) (sym same) ∙ append_assoc form_line (sheet_text sheet) (lines_named sheet es)
    ∙ ap (λ (x : List ℕ). form_line ++ (sheet_text sheet ++ x)) (sym w.bytes) ∙ sym q in
    let back : ReadBack t (record { sheet = sheet; lines = es; model = m }) =
    record { text = record { good = good; fine = fine; bytes = bytes; short = l }; lines = same } in
    subst (ReadBack t) (sym w.answer) back

first-is : (b : ℕ) (bs : List ℕ) (g : Got (Unit {0})) → exactly form_line (b ∷ bs) ≡ is g → first_line (b ∷ bs) ≡ lines_from₂ (length g.rest) 2 begun g.rest
unfolding first_line
first-is b bs g q = rw (q, first_line)

first_stops : (b : ℕ) (bs cs : List ℕ) → exactly form_line (b ∷ bs) ≡ stops cs → first_line (b ∷ bs) ≡ refused (tell 2 (1 ∷ stop_column (b ∷ bs) cs ∷ []))
unfolding first_line
first_stops b bs cs q = rw (q, first_line)

first-none : first_line [] ≡ refused (tell 8 (0 ∷ []))
unfolding first_line
first-none = refl

too_long : (t : List ℕ) → ltb max_bytes (length t) ≡ true → read_named t ≡ refused (tell 1 (0 ∷ []))
unfolding read_named
too_long t e = rw (e, read_named)

first_back : (t : List ℕ) (r : Read) → length t ≤ max_bytes → first_line t ≡ answered r → ReadBack t r
first_back [] r l h = no_answer first-none h
first_back (b ∷ bs) r l h = go (exactly form_line (b ∷ bs)) refl
  where
    go : (o : Scan (Unit {0})) → exactly form_line (b ∷ bs) ≡ o → ReadBack (b ∷ bs) r
    go (stops cs) q = no_answer (first_stops b bs cs q) h
    go (is g) q =
        let w = began (length g.rest) 2 [] g.rest r no_name (le_refl _) (sym (first-is b bs g q) ∙ h) in
        walk-back w.whole w.rest (b ∷ bs) r w.names w.walk
        (exactly-scanned form_line (b ∷ bs) g q ∙ ap (λ (x : List ℕ). form_line ++ x) (no_text g.rest ∙ w.bytes)) l

pub read_back : (t : List ℕ) (r : Read) → read_named t ≡ answered r → ReadBack t r
read_back t r h = go (ltb max_bytes (length t)) refl
  where
    go : (b : Bool) → ltb max_bytes (length t) ≡ b → ReadBack t r
    go true e = no_answer (too_long t e) h
    go false e = let l = ltb-false max_bytes (length t) e in first_back t r l (sym (short-read t l) ∙ h)

-- ---- both ways
pub named-exactly : (t : List ℕ) (sheet : Sheet) (m : Model)
    → (read_named t ≡ answered (record { sheet = sheet; lines = entries_of m; model = m })) ↔ TextOf t sheet m
named-exactly t sheet m = (λ h. (read_back t (record { sheet = sheet; lines = entries_of m; model = m }) h).text, text-is-read t sheet m)
