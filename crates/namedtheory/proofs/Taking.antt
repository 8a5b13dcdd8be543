-- Lines taken in one after the other, each faultless in its turn; and what reading says of them.
use mathlib.Core.Path.{◌≡◌, refl, sym, ◌∙◌, ap}
use mathlib.Core.Option.{none}
use mathlib.Core.List.{List, [], ◌∷◌, ◌++◌, append_assoc}
use Prim.Native.Nat.{ℕ, suc}
use Rattle.laws.proofs.ListLaws.{All}
use Rattle.model.specs.Reading.{got, Entry, entry, Progress, at_start, fault_of}
use Rattle.model.specs.Line.{line_of, LineFits}
use Rattle.model.specs.Faulty.{with_line, Reaches, first-line, next-line}
use Rattle.model.proofs.Reading.Lines.{entry-exact}
use Rattle.model.proofs.Reading.LowestFault.{fault-none, none-fault}
use Rattle.model.proofs.Reading.Phases.{line_on}
use Rattle.named.specs.NamedText.{lines_text}
use Rattle.named.proofs.Entries.{lines-append, line-alone}

pub data Takes : Progress → List Entry → Progress → Type 0 where
  none_left : {p : Progress} → Takes p [] p
  takes : {p q : Progress} (e : Entry) {es : List Entry} → fault_of p e ≡ none → Takes (with_line p e) es q → Takes p (e ∷ es) q

takes-last : {p q : Progress} {es : List Entry} → Takes p es q → (e : Entry) → fault_of q e ≡ none → Takes p (es ++ e ∷ []) (with_line q e)
takes-last none_left e h = takes e h none_left
takes-last (takes d h t) e k = takes d h (takes-last t e k)

-- ---- the lines that reading came by
pub record Came (t : List ℕ) (p : Progress) (bs : List ℕ) : Type 0 where
  pub lines : List Entry
  pub taken : Takes at_start lines p
  pub bytes : t ≡ lines_text lines ++ bs
  pub fit : All LineFits lines

all-last : (es : List Entry) (e : Entry) → All LineFits es → LineFits e → All LineFits (es ++ e ∷ [])
all-last [] e h k = (k, tt)
all-last (d ∷ es) e h k = (h.0, all-last es e h.1 k)

pub came : {t : List ℕ} {k : ℕ} {p : Progress} {bs : List ℕ} → Reaches t k p bs → Came t p bs
unfolding lines_text
came {t} first-line = record { lines = []; taken = none_left; bytes = refl; fit = tt }
came {t} (next-line {p = p} {bs} {e} {cs} r l f) =
    let c = came r in
    record {
      lines = c.lines ++ e ∷ [];
      taken = takes-last c.taken e (none-fault p e f);
      bytes =
          c.bytes ∙ ap (λ (x : List ℕ). lines_text c.lines ++ x) l.printed ∙ sym (append_assoc (lines_text c.lines) (line_of e) cs)
          ∙ ap (λ (x : List ℕ). x ++ cs) (sym (lines-append c.lines (e ∷ []) ∙ ap (λ (x : List ℕ). lines_text c.lines ++ x) (line-alone e)));
      fit = all-last c.lines e c.fit l.fits;
    }

-- ---- lines taken in are read
pub reached : {t : List ℕ} {k : ℕ} {p q : Progress} {es : List Entry} (bs : List ℕ) → Takes p es q
    → All LineFits es → Reaches t k p (lines_text es ++ bs) → (j : ℕ) × Reaches t j q bs
unfolding lines_text
reached {k = k} bs none_left h r = (k, r)
reached {k = k} {p = p} bs (takes e {es} f t) h r =
    let rest = lines_text es ++ bs in
    let read : entry (line_of e ++ rest) ≡ got e rest = entry-exact.printed e rest h.0 tt in
    reached {k = suc k} bs t h.1 (line_on e rest r (append_assoc (line_of e) (lines_text es) bs) h.0 (fault-none p (line_of e ++ rest) e rest read f))
