-- The answer of new to old is the one that its lines, in file order, make it, in the paper's words: each fault a relation of its own.
use mathlib.Core.Path.{◌≡◌, refl, sym, ◌∙◌, ap, subst}
use mathlib.Core.Logic.{◌↔◌}
use mathlib.Core.Option.{Option, none, some}
use mathlib.Core.List.{List, [], ◌∷◌, ◌++◌, cons≢nil}
use Prim.Native.Nat.{ℕ, zero, suc, ◌≤◌, ◌<◌}
use native.Mathlib.Nat.{le_refl}
use native.Mathlib.Omega.{arith}
use native.Mathlib.Decide.{dec_lt}
use lib.ListN.{length}
use Rattle.answer.specs.Limits.{max_bytes}
use Rattle.answer.specs.Told.{tell, Answer, answered, refused}
use Rattle.answer.specs.Told.{Written}
use Rattle.model.specs.Model.{Comp}
use Rattle.model.specs.Reading.{Scan, is, stops, exactly, Entry, stop_column}
use Rattle.model.proofs.Reading.Scans.{no-is}
use Rattle.model.proofs.Reading.Stopped.{one-wrong}
use Rattle.model.proofs.Reading.Fields.{exactly-printed, exactly-scanned}
use Rattle.named.specs.NamedText.{form_line, Line, line, lines_text, entries_of}
use Rattle.named.specs.ReadNamed.{Progress₂, Read, begun, fault_named, taken, unused, finish_named, lines_from₂, first_line, read_named}
use Rattle.named.specs.Converted.{to_numbers, Converts}
use Rattle.named.proofs.Onward.{line-shortens, lines_end, lines_next}
use Rattle.namedtheory.proofs.TextRead.{text-is-read}
use Rattle.namedtheory.proofs.Exactly.{read_back}
use Rattle.namedfaults.specs.NamedFaults.{Before, form-first, line-next, WrongForm}
use Rattle.namedfaults.proofs.LowestNamed.{line-at, at-line, fault-none, none-fault}
use Rattle.namedfaults.proofs.WrongNamed.{wrong-form}
use Rattle.namedfaults.proofs.Lines.{shapeless, faulty, line_refused, first-unused}
use Rattle.names.specs.NumbersExactly.{NumbersWords, is1, is-empty, is-form, is-fault, is8, is44, is-text, NumbersExactly}
use Rattle.names.proofs.ConvertLaws.{to-answered}
use Rattle.names.proofs.Fitted.{converts-exactly}
use Rattle.names.proofs.Exactly.{long-read, short-read, empty-first, first_stops, first-is, finish-none, numbers-refused, finish-unused}

-- ---- reading a text
-- where the first byte that differs stands, reading says so
wrong_first : (t : List ℕ) (k : ℕ) → (t ≡ [] → ⊥) → ((bs : List ℕ) → ¬ (t ≡ form_line ++ bs)) → WrongForm t k → first_line t ≡ refused (tell 2 (1 ∷ k ∷ []))
wrong_first t k h d w = go (exactly form_line t) refl
  where
    go : (o : Scan (Unit {0})) → exactly form_line t ≡ o → first_line t ≡ refused (tell 2 (1 ∷ k ∷ []))
    go (stops cs) e = first_stops t cs h e ∙ ap (λ i. refused (tell 2 (1 ∷ i ∷ []))) (one-wrong (λ _. form_line) (λ _. Unit {0}) (wrong-form t cs e) w)
    go (is g) e = absurd (d g.rest (exactly-scanned form_line t g e))

-- what reading comes to is what it comes to from a line on
pub reads_on : (t : List ℕ) {n : ℕ} {p : Progress₂} {bs : List ℕ} → Before t n p bs → read_named t ≡ lines_from₂ (length bs) n p bs
reads_on t (form-first {bs} l e) =
    short-read t l ∙ first-is t bs (ap (exactly form_line) e ∙ exactly-printed form_line bs)
reads_on t (line-next {n} {p} {bs} {cs} {l} b at f) =
    reads_on t b ∙ lines_next n p l cs (length bs) (length cs) bs (le_refl _) (le_refl _) (line-at at) (none-fault p l f)

-- ---- the answer that a text has
right : (t : List ℕ) (a : Answer (List ℕ)) → NumbersWords t a → to_numbers t ≡ a
right t a (is1 h) = numbers-refused t (long-read t h)
right t a (is-empty e) = numbers-refused t (ap read_named e ∙ short-read [] (omega arith) ∙ empty-first)
right t a (is-form {k} l h d w) = numbers-refused t (short-read t l ∙ wrong_first t k h d w)
right t a (is-fault {n} {f} {column} {p} {bs} b h w c) = numbers-refused t (reads_on t b ∙ line_refused n p bs f column h (record { lowest = w; carried = c }))
right t a (is8 {n} {p} b e) = numbers-refused t (reads_on t b ∙ lines_end n p 0 ∙ finish-none p p.model.comps e)
right t a (is44 {n} {k} {p} b h e) =
    numbers-refused t (reads_on t b ∙ lines_end n p 0 ∙ finish-unused p p.model.comps k h ((first-unused p.declared p.sheet k).1 e))
right t a (is-text {sheet} {m} x) = to-answered t (record { sheet = sheet; lines = entries_of m; model = m }) (text-is-read t sheet m x)

-- ---- and it has one
answer-text : (t : List ℕ) (it : Read) → read_named t ≡ answered it → NumbersWords t (to_numbers t)
answer-text t it e =
    let b = read_back t it e in
    subst (NumbersWords t) (ap (λ (x : List Entry). answered (lines_text x)) (sym b.lines) ∙ sym (to-answered t it e)) (is-text b.text)

ended : (t : List ℕ) {n : ℕ} {p : Progress₂} → Before t n p [] → NumbersWords t (to_numbers t)
ended t {n} {p} b = go p.model.comps refl (unused p.declared p.sheet) refl
  where
    e : read_named t ≡ finish_named p p.model.comps
    e = reads_on t b ∙ lines_end n p 0

    go : (m : List Comp) → p.model.comps ≡ m → (u : Option ℕ) → unused p.declared p.sheet ≡ u → NumbersWords t (to_numbers t)
    go [] h u k = let x = is8 b h in subst (NumbersWords t) (sym (right t _ x)) x
    go (c ∷ cs) h (some i) k =
        let x = is44 b (λ z. cons≢nil (sym h ∙ z)) ((first-unused p.declared p.sheet i).0 k) in
        subst (NumbersWords t) (sym (right t _ x)) x
    go (c ∷ cs) h none k =
        answer-text t (record { sheet = p.sheet; lines = p.lines; model = mathlib.Core.List.reverse (c ∷ cs) })
        (e ∙ ap (finish_named p) h ∙ ap (λ u. Rattle.named.specs.ReadNamed.unless_unused u
        (record { sheet = p.sheet; lines = p.lines; model = mathlib.Core.List.reverse (c ∷ cs) })) k)

from-line : (t : List ℕ) (k n : ℕ) (p : Progress₂) (bs : List ℕ) → length bs ≤ k → Before t n p bs → NumbersWords t (to_numbers t)
from-line t zero n p [] l b = ended t b
from-line t zero n p (x ∷ bs) l b = absurd (omega arith)
from-line t (suc k) n p [] l b = ended t b
from-line t (suc k) n p (x ∷ bs) l b = go (λ q cs l b. from-line t k (suc n) q cs l b) (line (x ∷ bs)) refl
  where
    go : ((q : Progress₂) (cs : List ℕ) → length cs ≤ k → Before t (suc n) q cs → NumbersWords t (to_numbers t)) → (o : Scan Line) → line (x ∷ bs) ≡ o
        → NumbersWords t (to_numbers t)
    go ih (stops cs) read =
        let w = shapeless p (x ∷ bs) cs read in
        let y = is-fault b cons≢nil w.lowest w.carried in
        subst (NumbersWords t) (sym (right t _ y)) y
    go ih (is g) read = judged (fault_named p g.value) refl
      where
        judged : (o : Option ℕ) → fault_named p g.value ≡ o → NumbersWords t (to_numbers t)
        judged (some f) h =
            let w = faulty p (x ∷ bs) g.value g.rest f read h in
            let y = is-fault b cons≢nil w.lowest w.carried in
            subst (NumbersWords t) (sym (right t _ y)) y
        judged none h =
            let s = line-shortens (x ∷ bs) g read in
            ih (taken p g.value) g.rest (omega arith) (line-next b (at-line read) (fault-none p g.value h))

answer-there : (t : List ℕ) → NumbersWords t (to_numbers t)
answer-there t = elim (dec_lt max_bytes (length t)) [
  | yes h ↦ let x = is1 h in subst (NumbersWords t) (sym (right t _ x)) x
  | no h ↦ first t (omega arith)
]
  where
    first : (t : List ℕ) → length t < suc max_bytes → NumbersWords t (to_numbers t)
    first [] l = let x = is-empty refl in subst (NumbersWords []) (sym (right [] _ x)) x
    first (b ∷ bs) l = go (exactly form_line (b ∷ bs)) refl
      where
        go : (o : Scan (Unit {0})) → exactly form_line (b ∷ bs) ≡ o → NumbersWords (b ∷ bs) (to_numbers (b ∷ bs))
        go (stops cs) e =
            let x : NumbersWords (b ∷ bs) (refused (tell 2 (1 ∷ stop_column (b ∷ bs) cs ∷ []))) =
            is-form (omega arith) cons≢nil (λ ds q. no-is e (ap (exactly form_line) q ∙ exactly-printed form_line ds)) (wrong-form (b ∷ bs) cs e) in
            subst (NumbersWords (b ∷ bs)) (sym (right (b ∷ bs) _ x)) x
        go (is g) e = from-line (b ∷ bs) (length g.rest) 2 begun g.rest (le_refl _) (form-first (omega arith) (exactly-scanned form_line (b ∷ bs) g e))

pub to-numbers-words : (t : List ℕ) (a : Answer (List ℕ)) → (to_numbers t ≡ a) ↔ NumbersWords t a
to-numbers-words t a = (λ e. subst (NumbersWords t) e (answer-there t), right t a)

pub to_numbers-lent-exactly : (t old new : List ℕ) (r : Written) → Converts (to_numbers t) old new r ↔ NumbersExactly t old new r
to_numbers-lent-exactly t old new r = converts-exactly (to_numbers t) (NumbersWords t) (to-numbers-words t) old new r
