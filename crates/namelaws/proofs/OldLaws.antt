-- A text that is read says its old lines; and how a check's answer stands to reading.
use mathlib.Core.Path.{◌≡◌, refl, sym, ◌∙◌, ap}
use mathlib.Core.Option.{Option, none, some}
use mathlib.Core.Bool.{false, true≢false}
use mathlib.Core.List.{List, [], ◌∷◌, ◌++◌, append_assoc, append-nil, cons≢nil}
use Prim.Native.Nat.{ℕ, zero, suc, ◌≤◌, ◌<◌}
use native.Mathlib.Nat.{le_refl}
use native.Mathlib.Omega.{arith}
use lib.ListN.{length, drop, length-append}
use lib.Seq.{drop_at}
use borrow.Author.Tests.{lt-ltb, le-ltb}
use Rattle.laws.specs.Search.{map_some}
use Rattle.laws.proofs.SearchLaws.{no-some}
use Rattle.answer.specs.Limits.{max_bytes}
use Rattle.answer.specs.Told.{Told, told, tell, Answer, answered, refused, as_refused, says_checked, done_of}
use Rattle.answer.specs.declared.Refusal.{Refusal}
use Rattle.answer.specs.declared.Place.TheVariants.{Whole, Spot}
use Rattle.std.specs.Prelude.{Ok, Err}
use Rattle.model.specs.Model.{Comp}
use Rattle.model.specs.Reading.{Got, Scan, is, stops, got, exactly, Entry, entry, shorter, stop_column}
use Rattle.model.proofs.Reading.Fields.{exactly-scanned}
use Rattle.named.specs.NamedText.{Name, form_line, number_of, Line, line}
use Rattle.named.specs.ReadNamed.{Progress₂, Read, resolve, fault_named, with_old, taken, finish_named}
use Rattle.named.specs.ReadNamed.{unused, unless_unused, lines_from₂, begun, first_line, read_named}
use Rattle.named.proofs.Onward.{line-shortens, lines_end, lines-shapeless, lines-fault, lines_next}
use Rattle.named.proofs.Resolved.{Good, good-name, good_old, good}
use Rattle.namelaws.specs.Sheets.{sheet_of, begins_name, with_sheet, onward, Refuses, SheetIs}
use Rattle.namelaws.specs.OldLines.{old_of, old_from, old_lines}
use Rattle.namelaws.proofs.PlaceLaws.{number-as}
use Rattle.namelaws.proofs.NameTurns.{begins}

-- ---- what is answered
finish-lines : (q : Progress₂) (m : List Comp) (it : Read) → finish_named q m ≡ answered it → it.lines ≡ q.lines
finish-lines q [] it e = let z : ◌≡◌ {A = ℕ} 0 1 = cc in absurd (omega arith)
finish-lines q (c ∷ cs) it e =
    go (unused q.declared q.sheet) (record { sheet = q.sheet; lines = q.lines; model = mathlib.Core.List.reverse (c ∷ cs) }) refl e
  where
    go : (u : Option ℕ) (r : Read) → r.lines ≡ q.lines → unless_unused u r ≡ answered it → it.lines ≡ q.lines
    go none r h e = let z : r ≡ it = cc in ap (λ (x : Read). x.lines) (sym z) ∙ h
    go (some n) r h e = let z : ◌≡◌ {A = ℕ} 0 1 = cc in absurd (omega arith)

-- ---- old lines, one by one
old-none : (f : Name → Option ℕ) (k : ℕ) → old_from f k [] ≡ []
unfolding old_from line entry exactly shorter
old-none f zero = refl
old-none f (suc k) = refl

pub old-next : (f : Name → Option ℕ) (k : ℕ) (bs : List ℕ) (e : Entry) (cs : List ℕ) → old_of f (line bs) ≡ some (record { value = e; rest = cs })
    → old_from f (suc k) bs ≡ e ∷ old_from f k cs
unfolding old_from
old-next f k bs e cs h = rw (h, old_from)

old-of : (f : Name → Option ℕ) (bs : List ℕ) (g : Got Line) (e : Entry) → line bs ≡ is g → Rattle.named.specs.ReadNamed.resolve_by f g.value ≡ some e
    → old_of f (line bs) ≡ some (record { value = e; rest = g.rest })
old-of f bs g e read h = ap (old_of f) read ∙ ap (map_some (λ x. record { value = x; rest = g.rest })) h

pub old-lines : (k n : ℕ) (q : Progress₂) (bs : List ℕ) (it : Read) → length bs ≤ k
    → (q.model.last ≡ none → begins_name bs ≡ false) → lines_from₂ k n q bs ≡ answered it
    → it.lines ≡ q.lines ++ old_from (number_of q.sheet) k bs
old-lines zero n q [] it l w e =
    finish-lines q q.model.comps it (sym (lines_end n q 0) ∙ e) ∙ sym (append-nil q.lines)
    ∙ ap (λ (x : List Entry). q.lines ++ x) (sym (old-none (number_of q.sheet) 0))
old-lines zero n q (b ∷ bs) it l w e = absurd (omega arith)
old-lines (suc k) n q [] it l w e =
    finish-lines q q.model.comps it (sym (lines_end n q (suc k)) ∙ e) ∙ sym (append-nil q.lines)
    ∙ ap (λ (x : List Entry). q.lines ++ x) (sym (old-none (number_of q.sheet) (suc k)))
old-lines (suc k) n q (b ∷ bs) it l w e = go (λ r cs l w e. old-lines k (suc n) r cs it l w e) (line (b ∷ bs)) refl
  where
    Goal : Type 0
    Goal = it.lines ≡ q.lines ++ old_from (number_of q.sheet) (suc k) (b ∷ bs)

    Again : Type 0
    Again = (r : Progress₂) (cs : List ℕ) → length cs ≤ k → (r.model.last ≡ none → begins_name cs ≡ false) → lines_from₂ k (suc n) r cs ≡ answered it
        → it.lines ≡ r.lines ++ old_from (number_of r.sheet) k cs

    onto : Again → (g : Got Line) → line (b ∷ bs) ≡ is g → (x : Entry) → resolve q.sheet g.value ≡ some x
        → lines_from₂ k (suc n) (with_old q (some x)) g.rest ≡ answered it → Goal
    onto ih g read x h f =
        let s = line-shortens (b ∷ bs) g read in
        ih (with_old q (some x)) g.rest (omega arith) (λ z. absurd (no-some z refl)) f
        ∙ append_assoc q.lines (x ∷ []) (old_from (number_of q.sheet) k g.rest)
        ∙ ap (λ (y : List Entry). q.lines ++ y)
        (sym (old-next (number_of q.sheet) k (b ∷ bs) x g.rest (old-of (number_of q.sheet) (b ∷ bs) g x read h)))

    taken_as : Again → (g : Got Line) → line (b ∷ bs) ≡ is g → (x : Line) → g.value ≡ x → Good q x
        → lines_from₂ k (suc n) (taken q x) g.rest ≡ answered it → Goal
    taken_as ih g read x z (good-name m v h) f =
        absurd (true≢false (sym (begins (b ∷ bs) g.rest m v (read ∙ ap (λ y. got y g.rest) z)) ∙ w h))
    taken_as ih g read x z (good_old y h fault t) f =
        onto ih g read y (ap (resolve q.sheet) z ∙ h) (ap (λ r. lines_from₂ k (suc n) r g.rest) (sym t) ∙ f)

    judged : Again → (g : Got Line) → line (b ∷ bs) ≡ is g → (o : Option ℕ) → fault_named q g.value ≡ o → Goal
    judged ih g read (some f) h =
        let z : refused (tell f (n ∷ Rattle.named.specs.ReadNamed.behind_line q f g.value)) ≡ answered it =
        sym (lines-fault n q g.value g.rest (suc k) (b ∷ bs) f l read h) ∙ e in
        let y : ◌≡◌ {A = ℕ} 0 1 = cc in
        absurd (omega arith)
    judged ih g read none h =
        let s = line-shortens (b ∷ bs) g read in
        taken_as ih g read g.value refl (good q g.value h) (sym (lines_next n q g.value g.rest (suc k) k (b ∷ bs) l (omega arith) read h) ∙ e)

    go : Again → (o : Scan Line) → line (b ∷ bs) ≡ o → Goal
    go ih (stops cs) read =
        let z : refused (tell 2 (n ∷ stop_column (b ∷ bs) cs ∷ [])) ≡ answered it = sym (lines-shapeless n q (suc k) (b ∷ bs) cs cons≢nil l read) ∙ e in
        let y : ◌≡◌ {A = ℕ} 0 1 = cc in
        absurd (omega arith)
    go ih (is g) read = judged ih g read (fault_named q g.value) refl

-- the lines of a good text, by the places of its names
pub lines-by : (t P : List ℕ) (at n start : ℕ) (it : Read) → SheetIs t start P at n
    → onward t (with_sheet (sheet_of t P)) at n ≡ answered it → it.lines ≡ old_lines t P at
lines-by t P at n start it s e =
    old-lines (length (drop at t)) n (with_sheet (sheet_of t P)) (drop at t) it (le_refl _) (λ _. s.no_name) e
    ∙ (λ i. old_from (λ w. number-as t P w i) (length (drop at t)) (drop at t))

-- ---- what a check says
pub refuses-of : (o : Answer Read) (f : Refusal) → says_checked (Err f) ≡ some (done_of o) → Refuses o f
unfolding says_checked
refuses-of o f e = go (told f) refl o e
  where
    go : (x : Option Told) → told f ≡ x → (o : Answer Read) → as_refused x ≡ some (done_of o) → Refuses o f
    go none h o e = absurd (no-some refl e)
    go (some τ) h (answered r) e = let z : ◌≡◌ {A = ℕ} 0 1 = cc in absurd (omega arith)
    go (some τ) h (refused σ) e = let z : τ ≡ σ = cc in record { tells = τ; says = h; same = ap (λ x. refused x) (sym z) }

pub fine_of : (o : Answer Read) → says_checked (Ok tt) ≡ some (done_of o) → (r : Read) × (o ≡ answered r)
unfolding says_checked
fine_of (answered r) e = (r, refl)
fine_of (refused τ) e = let z : ◌≡◌ {A = ℕ} 0 1 = cc in absurd (omega arith)

-- ---- the first line
module _ (t : List ℕ) where
  pub long-refused : max_bytes < length t → Refuses (read_named t) (record { number = 1; place = Whole })
  unfolding read_named told
  long-refused h = record { tells = tell 1 (0 ∷ []); says = refl; same = rw (lt-ltb max_bytes (length t) h, read_named) }

  short-read : length t ≤ max_bytes → read_named t ≡ first_line t
  unfolding read_named
  short-read h = rw (le-ltb max_bytes (length t) h, read_named)

  pub empty-refused : length t ≡ 0 → Refuses (read_named t) (record { number = 8; place = Whole })
  unfolding first_line told
  empty-refused h = record { tells = tell 8 (0 ∷ []); says = refl; same = short-read (omega arith) ∙ go t h }
    where
      go : (t : List ℕ) → length t ≡ 0 → first_line t ≡ refused (tell 8 (0 ∷ []))
      go [] h = refl
      go (b ∷ bs) h = absurd (omega arith)

  pub form-refused : length t ≤ max_bytes → (length t ≡ 0 → ⊥) → (cs : List ℕ) → exactly form_line t ≡ stops cs
      → Refuses (read_named t) (record { number = 2; place = Spot 1 (stop_column t cs) })
  unfolding first_line told
  form-refused l h cs e = record { tells = tell 2 (1 ∷ stop_column t cs ∷ []); says = refl; same = short-read l ∙ go t h e }
    where
      go : (t : List ℕ) → (length t ≡ 0 → ⊥) → exactly form_line t ≡ stops cs → first_line t ≡ refused (tell 2 (1 ∷ stop_column t cs ∷ []))
      go [] h e = absurd (h refl)
      go (b ∷ bs) h e = rw (e, first_line)

  pub form-read : length t ≤ max_bytes → (length t ≡ 0 → ⊥) → (cs : List ℕ) → exactly form_line t ≡ got tt cs
      → (read_named t ≡ onward t begun 7 2) × (7 ≤ length t)
  unfolding first_line
  form-read l h cs e =
      let b = exactly-scanned form_line t (record { value = tt; rest = cs }) e in
      let d : drop 7 t ≡ cs = ap (drop 7) b ∙ drop_at form_line cs 7 refl in
      (short-read l ∙ go t h e ∙ ap (λ x. lines_from₂ (length x) 2 begun x) (sym d), omega (arith, ap length b, length-append form_line cs))
    where
      go : (t : List ℕ) → (length t ≡ 0 → ⊥) → exactly form_line t ≡ got tt cs → first_line t ≡ lines_from₂ (length cs) 2 begun cs
      go [] h e = absurd (h refl)
      go (b ∷ bs) h e = rw (e, first_line)
