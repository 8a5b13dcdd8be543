-- The answer of new to old is the one that its lines, in file order, make it.
use mathlib.Core.Path.{◌≡◌, refl, sym, ◌∙◌, ap, subst}
use mathlib.Core.Logic.{◌↔◌}
use mathlib.Core.Option.{Option, none, some}
use mathlib.Core.List.{List, [], ◌∷◌, ◌++◌, cons≢nil}
use Prim.Native.Nat.{ℕ, zero, suc, ◌≤◌, ◌<◌}
use native.Mathlib.Nat.{le_refl}
use native.Mathlib.Omega.{arith}
use native.Mathlib.Decide.{dec_lt}
use lib.ListN.{length}
use borrow.Author.Tests.{lt-ltb, le-ltb}
use Rattle.answer.specs.Limits.{max_bytes}
use Rattle.answer.specs.Told.{tell, Answer, answered, refused}
use Rattle.answer.specs.Told.{Written}
use Rattle.model.specs.Model.{Comp}
use Rattle.model.specs.Reading.{Scan, is, stops, got, exactly, Entry, stop_column}
use Rattle.model.proofs.Reading.Fields.{exactly-printed, exactly-scanned}
use Rattle.iosa.specs.InOrder.{Leaves}
use Rattle.answering.proofs.Answers.InOrder.{leaves-exactly}
use Rattle.named.specs.NamedText.{form_line, Line, line, lines_text, entries_of}
use Rattle.named.specs.ReadNamed.{Progress₂, Read, begun, fault_named, behind_line, taken, unused, finish_named, lines_from₂, first_line, read_named}
use Rattle.named.specs.Converted.{to_numbers, Converts}
use Rattle.named.proofs.Onward.{line-shortens, lines_end, lines-shapeless, lines-fault, lines_next}
use Rattle.namedtheory.proofs.TextRead.{text-is-read}
use Rattle.namedtheory.proofs.Exactly.{read_back}
use Rattle.names.specs.Names.{Before, form-first, line-next, NumbersAnswer, is1, is-empty, is-form, is-shape, is-fault, is8, is44, is-text}
use Rattle.names.proofs.ConvertLaws.{to-answered}

-- ---- reading a text
pub long-read : (t : List ℕ) → max_bytes < length t → read_named t ≡ refused (tell 1 (0 ∷ []))
unfolding read_named
long-read t h = rw (lt-ltb max_bytes (length t) h, read_named)

pub short-read : (t : List ℕ) → length t ≤ max_bytes → read_named t ≡ first_line t
unfolding read_named
short-read t h = rw (le-ltb max_bytes (length t) h, read_named)

pub empty-first : first_line [] ≡ refused (tell 8 (0 ∷ []))
unfolding first_line
empty-first = refl

pub first_stops : (t cs : List ℕ) → (t ≡ [] → ⊥) → exactly form_line t ≡ stops cs → first_line t ≡ refused (tell 2 (1 ∷ stop_column t cs ∷ []))
unfolding first_line
first_stops [] cs h e = absurd (h refl)
first_stops (b ∷ bs) cs h e = rw (e, first_line)

pub first-is : (t cs : List ℕ) → exactly form_line t ≡ got tt cs → first_line t ≡ lines_from₂ (length cs) 2 begun cs
unfolding first_line exactly
first-is [] cs e = let z : ◌≡◌ {A = ℕ} 0 1 = cc in absurd (omega arith)
first-is (b ∷ bs) cs e = rw (e, first_line)

-- what reading comes to is what it comes to from a line on
pub reads_on : (t : List ℕ) {n : ℕ} {p : Progress₂} {bs : List ℕ} → Before t n p bs → read_named t ≡ lines_from₂ (length bs) n p bs
reads_on t (form-first {bs} l e) =
    short-read t (omega arith) ∙ first-is t bs (ap (exactly form_line) e ∙ exactly-printed form_line bs)
reads_on t (line-next {n} {p} {bs} {cs} {l} b read f) = reads_on t b ∙ lines_next n p l cs (length bs) (length cs) bs (le_refl _) (le_refl _) read f

-- ---- the answer that a text has
pub finish-none : (p : Progress₂) (m : List Comp) → m ≡ [] → finish_named p m ≡ refused (tell 8 (0 ∷ []))
finish-none p m e = rw e

pub numbers-refused : (t : List ℕ) {f : Rattle.answer.specs.Told.Told} → read_named t ≡ refused f → to_numbers t ≡ refused f
unfolding to_numbers
numbers-refused t e = rw (e, to_numbers)

pub finish-unused : (p : Progress₂) (m : List Comp) (k : ℕ) → (m ≡ [] → ⊥) → unused p.declared p.sheet ≡ some k → finish_named p m ≡ refused (tell 44 (k ∷ []))
finish-unused p [] k h e = absurd (h refl)
finish-unused p (c ∷ cs) k h e = rw e

right : (t : List ℕ) (a : Answer (List ℕ)) → NumbersAnswer t a → to_numbers t ≡ a
right t a (is1 h) = numbers-refused t (long-read t h)
right t a (is-empty e) = numbers-refused t (ap read_named e ∙ short-read [] (omega arith) ∙ empty-first)
right t a (is-form {cs} l h e) = numbers-refused t (short-read t (omega arith) ∙ first_stops t cs h e)
right t a (is-shape {n} {p} {bs} {cs} b h e) = numbers-refused t (reads_on t b ∙ lines-shapeless n p (length bs) bs cs h (le_refl _) e)
right t a (is-fault {n} {f} {p} {bs} {cs} {l} b read e) = numbers-refused t (reads_on t b ∙ lines-fault n p l cs (length bs) bs f (le_refl _) read e)
right t a (is8 {n} {p} b e) = numbers-refused t (reads_on t b ∙ lines_end n p 0 ∙ finish-none p p.model.comps e)
right t a (is44 {n} {k} {p} b h e) = numbers-refused t (reads_on t b ∙ lines_end n p 0 ∙ finish-unused p p.model.comps k h e)
right t a (is-text {sheet} {m} x) = to-answered t (record { sheet = sheet; lines = entries_of m; model = m }) (text-is-read t sheet m x)

-- ---- and it has one
answer-text : (t : List ℕ) (it : Read) → read_named t ≡ answered it → NumbersAnswer t (to_numbers t)
answer-text t it e =
    let b = read_back t it e in
    subst (NumbersAnswer t) (ap (λ (x : List Entry). answered (lines_text x)) (sym b.lines) ∙ sym (to-answered t it e)) (is-text b.text)

ended : (t : List ℕ) {n : ℕ} {p : Progress₂} → Before t n p [] → NumbersAnswer t (to_numbers t)
ended t {n} {p} b = go p.model.comps refl (unused p.declared p.sheet) refl
  where
    e : read_named t ≡ finish_named p p.model.comps
    e = reads_on t b ∙ lines_end n p 0

    go : (m : List Comp) → p.model.comps ≡ m → (u : Option ℕ) → unused p.declared p.sheet ≡ u → NumbersAnswer t (to_numbers t)
    go [] h u k = let x = is8 b h in subst (NumbersAnswer t) (sym (right t _ x)) x
    go (c ∷ cs) h (some i) k = let x = is44 b (λ z. cons≢nil (sym h ∙ z)) k in subst (NumbersAnswer t) (sym (right t _ x)) x
    go (c ∷ cs) h none k =
        answer-text t (record { sheet = p.sheet; lines = p.lines; model = mathlib.Core.List.reverse (c ∷ cs) })
        (e ∙ ap (finish_named p) h ∙ ap (λ u. Rattle.named.specs.ReadNamed.unless_unused u (record { sheet = p.sheet; lines = p.lines; model = mathlib.Core.List.reverse (c ∷ cs) })) k)

from-line : (t : List ℕ) (k n : ℕ) (p : Progress₂) (bs : List ℕ) → length bs ≤ k → Before t n p bs → NumbersAnswer t (to_numbers t)
from-line t zero n p [] l b = ended t b
from-line t zero n p (x ∷ bs) l b = absurd (omega arith)
from-line t (suc k) n p [] l b = ended t b
from-line t (suc k) n p (x ∷ bs) l b = go (λ q cs l b. from-line t k (suc n) q cs l b) (line (x ∷ bs)) refl
  where
    go : ((q : Progress₂) (cs : List ℕ) → length cs ≤ k → Before t (suc n) q cs → NumbersAnswer t (to_numbers t)) → (o : Scan Line) → line (x ∷ bs) ≡ o → NumbersAnswer t (to_numbers t)
    go ih (stops cs) read = let y = is-shape b cons≢nil read in subst (NumbersAnswer t) (sym (right t _ y)) y
    go ih (is g) read = judged (fault_named p g.value) refl
      where
        judged : (o : Option ℕ) → fault_named p g.value ≡ o → NumbersAnswer t (to_numbers t)
        judged (some f) h = let y = is-fault b read h in subst (NumbersAnswer t) (sym (right t _ y)) y
        judged none h = let s = line-shortens (x ∷ bs) g read in ih (taken p g.value) g.rest (omega arith) (line-next b read h)

answer-there : (t : List ℕ) → NumbersAnswer t (to_numbers t)
answer-there t = elim (dec_lt max_bytes (length t)) [
  | yes h ↦ let x = is1 h in subst (NumbersAnswer t) (sym (right t _ x)) x
  | no h ↦ first t (omega arith)
]
  where
    first : (t : List ℕ) → length t < suc max_bytes → NumbersAnswer t (to_numbers t)
    first [] l = let x = is-empty refl in subst (NumbersAnswer []) (sym (right [] _ x)) x
    first (b ∷ bs) l = go (exactly form_line (b ∷ bs)) refl
      where
        go : (o : Scan (Unit {0})) → exactly form_line (b ∷ bs) ≡ o → NumbersAnswer (b ∷ bs) (to_numbers (b ∷ bs))
        go (stops cs) e = let x = is-form l cons≢nil e in subst (NumbersAnswer (b ∷ bs)) (sym (right (b ∷ bs) _ x)) x
        go (is g) e = from-line (b ∷ bs) (length g.rest) 2 begun g.rest (le_refl _) (form-first l (exactly-scanned form_line (b ∷ bs) g e))

pub to-numbers-exactly : (t : List ℕ) (a : Answer (List ℕ)) → (to_numbers t ≡ a) ↔ NumbersAnswer t a
to-numbers-exactly t a = (λ e. subst (NumbersAnswer t) e (answer-there t), right t a)

pub to_numbers-answers-exactly : (t old new : List ℕ) (r : Written) → Converts (to_numbers t) old new r ↔ Leaves (NumbersAnswer t) (λ o. Converts o old new r)
to_numbers-answers-exactly t old new r = leaves-exactly (to_numbers t) (NumbersAnswer t) (λ o. Converts o old new r) (to-numbers-exactly t)
