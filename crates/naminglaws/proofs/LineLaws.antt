-- A line by default names, and the lines of a text one by one.
use mathlib.Core.Path.{◌≡◌, refl, sym, ◌∙◌, ap}
use mathlib.Core.Option.{Option}
use mathlib.Core.List.{List, [], ◌∷◌, ◌++◌, append_assoc}
use Prim.Native.Nat.{ℕ, zero, suc, ◌+◌, ◌≤◌, ◌<◌}
use native.Mathlib.Omega.{arith}
use native.Mathlib.Nat.{le_refl}
use lib.ListN.{length, drop, length-append, length-drop, drop_of_length-le}
use Rattle.laws.proofs.ListLaws.{All}
use Rattle.model.specs.Text.{tab, lf, act_word, row_word, Kind, kind_word, decimal, guard_field, fields_after}
use Rattle.model.specs.Reading.{Scan, is, stops, got, exactly, shorter, guard_of, Entry, comp-entry, act-entry, clk-entry, row-entry, entry}
use Rattle.model.specs.Line.{list_field, line_of, LineFits}
use Rattle.model.proofs.Reading.Lines.{entry-exact}
use Rattle.model.proofs.Reading.LinesFrom.{entry-shortens}
use Rattle.lines.specs.Lines.{guard_is, line_of as code_of}
use Rattle.columns.specs.Columns.{wide_guard}
use Rattle.named.specs.NamedText.{lines_text}
use Rattle.namelaws.proofs.NameTurns.{row-front}
use Rattle.cutlaws.proofs.CutLaws.{part-is, behind-is, next-is}
use Rattle.naminglaws.specs.Naming.{entries_in, entries_at, place_in, default_line, letter_part, line_bytes}

-- a line in two parts, before its action and from it on
record Parted (e : Entry) : Type 0 where
  front : List ℕ
  back : List ℕ
  text : line_of e ≡ front ++ back
  place : length front ≡ place_in (code_of e)
  new : default_line e ≡ front ++ (letter_part (place_in (code_of e)) ++ back)

pub letter-there : (n : ℕ) → (n ≡ 0 → ⊥) → letter_part n ≡ 97 ∷ []
letter-there zero h = absurd (h refl)
letter-there (suc n) h = refl

act-parted : (a : ℕ) (k : Kind) → Parted (act-entry a k)
unfolding default_line line_of fields_after
act-parted a k = record { front = act_word ++ (tab ∷ []); back = decimal a ++ (tab ∷ (kind_word k ++ (lf ∷ []))); text = refl; place = refl; new = refl }

row-parted : (s : ℕ) (g : Option ℕ) (a : ℕ) (r : List ℕ) (u : ℕ) → Parted (row-entry s g a r u)
unfolding default_line line_of fields_after
row-parted s g a r u =
    let F = row_word ++ (tab ∷ (decimal s ++ (tab ∷ (guard_field (guard_of g) ++ (tab ∷ []))))) in
    let R = decimal a ++ (tab ∷ (list_field r ++ (tab ∷ (decimal u ++ (lf ∷ []))))) in
    let one : default_line (row-entry s g a r u) ≡ F ++ (97 ∷ R) = simp append_assoc in
    let n = 6 + length (decimal s) + wide_guard (guard_is g) in
    record {
      front = F;
      back = R;
      text = simp append_assoc;
      place = row-front [] 0 [] s g;
      new = one ∙ ap (λ (x : List ℕ). F ++ (x ++ R)) (sym (letter-there n (λ e. omega arith)));
    }

parted : (e : Entry) → Parted e
unfolding default_line
parted (comp-entry n s) = record { front = []; back = line_of (comp-entry n s); text = refl; place = refl; new = refl }
parted (act-entry a k) = act-parted a k
parted (clk-entry x b) = record { front = []; back = line_of (clk-entry x b); text = refl; place = refl; new = refl }
parted (row-entry s g a r u) = row-parted s g a r u

-- ---- the line at a place
module _ (t : List ℕ) (at next : ℕ) (e : Entry) (read : entry (drop at t) ≡ got e (drop next t)) (start : at ≤ length t) (end : next ≤ length t) where
  bytes : drop at t ≡ line_of e ++ drop next t
  bytes = (entry-exact.scanned (drop at t) (record { value = e; rest = drop next t }) read).0

  pub line-more : at < next
  line-more = let h = entry-shortens (drop at t) (record { value = e; rest = drop next t }) read in omega (arith, h, length-drop at t, length-drop next t)

  ends : next ≡ at + length (line_of e)
  ends = next-is t at next (line_of e) bytes start end

  pub place_inside : at + place_in (code_of e) ≤ next
  place_inside = let p = parted e in omega (arith, ends, ap length p.text, length-append p.front p.back, p.place)

  pub line-is : line_bytes t at (place_in (code_of e)) next ≡ default_line e
  line-is =
      let p = parted e in
      let k = place_in (code_of e) in
      let all : drop at t ≡ p.front ++ (p.back ++ drop next t) =
      bytes ∙ ap (λ (x : List ℕ). x ++ drop next t) p.text ∙ append_assoc p.front p.back (drop next t) in
      let s1 : at + k ≡ at + length p.front = ap (λ i. at + i) (sym p.place) in
      let d1 : drop (at + k) t ≡ p.back ++ drop next t = behind-is t at (at + k) p.front (p.back ++ drop next t) all s1 in
      let s2 : next ≡ at + k + length p.back = omega (arith, ends, ap length p.text, length-append p.front p.back, p.place) in
      let one = part-is t at (at + k) p.front (p.back ++ drop next t) all s1 in
      let two = part-is t (at + k) next p.back (drop next t) d1 s2 in
      (λ i. one i ++ letter_part k ++ two i) ∙ append_assoc p.front (letter_part k) p.back ∙ sym p.new

-- ---- the lines of a text, one by one
entry-nothing : entry [] ≡ stops []
unfolding entry exactly shorter
entry-nothing = refl

none_in : (k : ℕ) → entries_in k [] ≡ []
unfolding entries_in entry exactly shorter
none_in zero = refl
none_in (suc k) = refl

one_in : (k : ℕ) (bs cs : List ℕ) (e : Entry) → entry bs ≡ got e cs → entries_in (suc k) bs ≡ e ∷ entries_in k cs
unfolding entries_in
one_in k bs cs e h = rw (h, entries_in)

stop-in : (k : ℕ) (bs cs : List ℕ) → entry bs ≡ stops cs → entries_in k bs ≡ []
unfolding entries_in
stop-in zero bs cs h = refl
stop-in (suc k) bs cs h = rw (h, entries_in)

in-bound : (k j : ℕ) (bs : List ℕ) → length bs ≤ k → length bs ≤ j → entries_in k bs ≡ entries_in j bs
in-bound zero j [] l m = none_in zero ∙ sym (none_in j)
in-bound zero j (b ∷ bs) l m = absurd (omega arith)
in-bound (suc k) zero [] l m = none_in (suc k) ∙ sym (none_in zero)
in-bound (suc k) zero (b ∷ bs) l m = absurd (omega arith)
in-bound (suc k) (suc j) bs l m = go (λ cs l m. in-bound k j cs l m) (entry bs) refl
  where
    go : ((cs : List ℕ) → length cs ≤ k → length cs ≤ j → entries_in k cs ≡ entries_in j cs) → (o : Scan Entry) → entry bs ≡ o
        → entries_in (suc k) bs ≡ entries_in (suc j) bs
    go ih (stops cs) h = stop-in (suc k) bs cs h ∙ sym (stop-in (suc j) bs cs h)
    go ih (is g) h =
        let s = entry-shortens bs g h in
        one_in k bs g.rest g.value h ∙ ap {B = List Entry} (λ x. g.value ∷ x) (ih g.rest (omega arith) (omega arith))
        ∙ sym (one_in j bs g.rest g.value h)

module _ (t : List ℕ) (at : ℕ) where
  pub entries_over : length t ≤ at → entries_at t at ≡ []
  entries_over h = stop-in (length (drop at t)) (drop at t) [] (ap entry (drop_of_length-le t {i = at} h) ∙ entry-nothing)

  pub entries-stop : (cs : List ℕ) → entry (drop at t) ≡ stops cs → entries_at t at ≡ []
  entries-stop cs h = stop-in (length (drop at t)) (drop at t) cs h

  pub entries_next : (next : ℕ) (e : Entry) → entry (drop at t) ≡ got e (drop next t) → entries_at t at ≡ e ∷ entries_at t next
  entries_next next e h =
      let s = entry-shortens (drop at t) (record { value = e; rest = drop next t }) h in
      in-bound (length (drop at t)) (suc (length (drop at t))) (drop at t) (le_refl _) (omega arith) ∙ one_in (length (drop at t)) (drop at t) (drop next t) e h
      ∙ ap {B = List Entry} (λ x. e ∷ x) (in-bound (length (drop at t)) (length (drop next t)) (drop next t) (omega arith) (le_refl _))

-- lines that are printed are read back
pub entries-printed : (k : ℕ) (es : List Entry) → All LineFits es → length (lines_text es) ≤ k → entries_in k (lines_text es) ≡ es
unfolding lines_text
entries-printed zero [] h l = none_in zero
entries-printed zero (e ∷ es) h l =
    let s = entry-shortens (line_of e ++ lines_text es) (record { value = e; rest = lines_text es }) (entry-exact.printed e (lines_text es) h.0 tt) in
    absurd (omega arith)
entries-printed (suc k) [] h l = none_in (suc k)
entries-printed (suc k) (e ∷ es) h l =
    let read = entry-exact.printed e (lines_text es) h.0 tt in
    let s = entry-shortens (line_of e ++ lines_text es) (record { value = e; rest = lines_text es }) read in
    one_in k (line_of e ++ lines_text es) (lines_text es) e read ∙ ap {B = List Entry} (λ x. e ∷ x) (entries-printed k es h.1 (omega arith))
