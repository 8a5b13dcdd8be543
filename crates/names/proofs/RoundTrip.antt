-- The calls `to_names` and `to_numbers` one after the other (02, 7/13): "Where neither way is refused, old to new and back yields the same bytes;
-- new to old and back does so exactly when the names are those defaults".
use mathlib.Core.Path.{◌≡◌, refl, sym, ◌∙◌, ap, subst}
use mathlib.Core.Logic.{◌↔◌}
use mathlib.Core.Option.{some}
use mathlib.Core.List.{List}
use Prim.Native.Nat.{ℕ, ◌≤◌}
use lib.ListN.{length, take, drop}
use lib.Seq.{take_at}
use Rattle.answer.specs.Limits.{max_bytes}
use Rattle.answer.specs.Told.{Answer, answered, says_written}
use Rattle.answer.specs.Told.{Written}
use Rattle.std.specs.Prelude.{Ok}
use Rattle.answer.proofs.SaysFixes.{written-fixed, says-the-length}
use Rattle.model.specs.Model.{Model}
use Rattle.model.proofs.Reading.TextOfRead.{text-of-read}
use Rattle.iosa.specs.Lent.{Fills}
use Rattle.named.specs.NamedText.{Sheet, defaults_of, entries_of, lines_text}
use Rattle.named.specs.ReadNamed.{Read}
use Rattle.named.specs.Converted.{to_names, to_numbers, written_by, Converts}
use Rattle.namedtheory.specs.Named.{TextOf}
use Rattle.namedtheory.proofs.TextRead.{text-is-read}
use Rattle.namedtheory.proofs.Back.{no_answer, same_answer}
use Rattle.namedtheory.proofs.RoundTrip.{renamed, names-then-numbers, numbers-then-names}
use Rattle.names.specs.NamesExactly.{Fitting, is-refused, is24, is26, is-fine}
use Rattle.names.proofs.ConvertLaws.{to-answered}
use Rattle.names.proofs.Fitted.{fitted-fine, converts-exactly}

-- a length is answered, so a text was written
record Wrote (o : Answer (List ℕ)) (new : List ℕ) (n : ℕ) : Type 0 where
  text : List ℕ
  answer : o ≡ answered text
  short : length text ≤ max_bytes
  front : take n new ≡ text

says-length : (n : ℕ) → says_written (Ok n) ≡ some (answered n)
unfolding says_written
says-length n = refl

wrote : (o : Answer (List ℕ)) (old new : List ℕ) (n : ℕ) → Converts o old new (Ok n) → Wrote o new n
wrote o old new n c =
    let l = (converts-exactly o (λ a. o ≡ a) (λ a. (λ e. e, λ e. e)) old new (Ok n)).0 c in
    go l.right l.left
  where
    go : {a : Answer (List ℕ)} → Fitting (λ b. o ≡ b) (length old) a → Fills old new (Ok n) a → Wrote o new n
    go (is-refused e) x = no_answer refl (says-the-length n _ x.refusal)
    go (is24 e h) x = no_answer refl (says-the-length n _ x.refusal)
    go (is26 e h k) x = no_answer refl (says-the-length n _ x.refusal)
    go (is-fine {u = u} e h k) x =
        let q : length u ≡ n = same_answer (says-the-length n _ x.length-told) in
        record { text = u; answer = e; short = k; front = ap (take n) x.buffer ∙ take_at u (drop (length u) old) n q }

-- a text that there is room for is written
pub writes : (o : Answer (List ℕ)) (t old new : List ℕ) (r : Written) → o ≡ answered t → length t ≤ length old → length t ≤ max_bytes → Converts o old new r
    → (r ≡ Ok (length t)) × (take (length t) new ≡ t)
writes o t old new r e h k c =
    let w : written_by (length old) o ≡ answered (length t) = ap (written_by (length old)) e ∙ fitted-fine (length old) t h k in
    let s : r ≡ Ok (length t) = written-fixed r (Ok (length t)) (answered (length t)) (c.answer ∙ ap some w) (says-length (length t)) in
    let v = wrote o old new (length t) (subst (Converts o old new) s c) in
    (s, v.front ∙ same_answer (sym v.answer ∙ e))

-- ---- old to new and back
pub to_names-then-to_numbers : (t old new : List ℕ) (n : ℕ) → Converts (to_names t) old new (Ok n)
    → (buf out : List ℕ) (r : Written) → length t ≤ length buf → Converts (to_numbers (take n new)) buf out r
    → (r ≡ Ok (length t)) × (take (length t) out ≡ t)
to_names-then-to_numbers t old new n c buf out r h d =
    let w = wrote (to_names t) old new n c in
    let u = renamed t w.text w.answer in
    let q = text-of-read t u.model u.read in
    let back : to_numbers (take n new) ≡ answered t = ap to_numbers w.front ∙ names-then-numbers t w.text w.answer w.short in
    writes (to_numbers (take n new)) t buf out r back h (subst (λ (x : List ℕ). length x ≤ max_bytes) q.1 q.0.bytes) d

-- ---- new to old and back
pub to_numbers-then-to_names : (u old new : List ℕ) (n : ℕ) → Converts (to_numbers u) old new (Ok n)
    → (buf out : List ℕ) (k : ℕ) → Converts (to_names (take n new)) buf out (Ok k)
    → (sheet : Sheet) (m : Model) → TextOf u sheet m → (take k out ≡ u) ↔ (sheet ≡ defaults_of m)
to_numbers-then-to_names u old new n c buf out k d sheet m x =
    let r : Read = record { sheet = sheet; lines = entries_of m; model = m } in
    let read = text-is-read u sheet m x in
    let w = wrote (to_numbers u) old new n c in
    let v = wrote (to_names (take n new)) buf out k d in
    let old-text : take n new ≡ lines_text (entries_of m) = w.front ∙ same_answer (sym w.answer ∙ to-answered u r read) in
    let e = numbers-then-names u r v.text read (ap to_names (sym old-text) ∙ v.answer) in
    (λ q. e.0 (sym v.front ∙ q), λ q. v.front ∙ e.1 q)
