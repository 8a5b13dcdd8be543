-- The text of a good sheet and a model within the limits is read in the second form: the sheet, the model's lines, and the model.
use mathlib.Core.Path.{◌≡◌, refl, sym, ◌∙◌, ap, subst}
use mathlib.Core.List.Memᴰ.{head as here}
use mathlib.Core.List.Memᴰ.{tail as there}
use mathlib.Core.List.{List, [], ◌∷◌, append-nil, reverse, reverse-reverse, Memᴰ as In}
use Prim.Native.Nat.{ℕ, ◌≤◌}
use native.Mathlib.Omega.{arith}
use lib.ListN.{length, length-reverse}
use Rattle.laws.proofs.ListLaws.{All, at_all}
use Rattle.answer.specs.Told.{answered}
use Rattle.model.specs.Model.{Model, no_comp, row_count}
use Rattle.model.specs.Text.{text_of}
use Rattle.model.specs.WellFormed.{WellComp}
use Rattle.model.specs.Reading.{Entry, comp-entry, act-entry, clk-entry, row-entry, Progress, at_start}
use Rattle.model.specs.Faulty.{first-line}
use Rattle.named.specs.NamedText.{Sheet, entries_of, lines_text, text_named}
use Rattle.named.specs.ReadNamed.{read_named}
use Rattle.named.proofs.AllLines.{comps-read}
use Rattle.named.proofs.Entries.{model-lines, model-fits, one-lines}
use Rattle.namedtheory.specs.Named.{GoodSheet, Fine, TextOf}
use Rattle.namedtheory.proofs.Taking.{Takes, came}
use Rattle.namedtheory.proofs.Forward.{Called, text-read}
use Rattle.namedtheory.proofs.Declared.{named-declared}

pub all-well : (m : Model) → Fine m → All WellComp m
all-well m f = at_all WellComp no_comp m f.each

-- its lines are taken in, and come to it
pub record Whole (m : Model) : Type 0 where
  pub progress : Progress
  pub taken : Takes at_start (entries_of m) progress
  pub comps : progress.comps ≡ reverse m

pub whole : (m : Model) → Fine m → Whole m
unfolding row_count
whole m f =
    let r = comps-read {t = text_of m} at_start m (all-well m f) (omega (arith, f.components)) (omega (arith, f.rows)) first-line in
    let c = came r.2 in
    let same : c.lines ≡ entries_of m =
    one-lines c.lines (entries_of m) c.fit (model-fits m (all-well m f))
    (sym (append-nil (lines_text c.lines)) ∙ sym c.bytes ∙ sym (model-lines m (all-well m f))) in
    record { progress = r.1; taken = subst (λ es. Takes at_start es r.1) same c.taken; comps = r.3 }

module _ (sheet : Sheet) (m : Model) (g : GoodSheet sheet m) (f : Fine m) where
  calls : (e : Entry) → In e (entries_of m) → Called sheet e
  calls (comp-entry n s) i = tt
  calls (act-entry a k) i = g.each a (named-declared m (all-well m f) (act-entry a k) i a refl)
  calls (clk-entry x b) i = tt
  calls (row-entry s h a r t) i = g.each a (named-declared m (all-well m f) (row-entry s h a r t) i a refl)

  all-called : (es : List Entry) → ((e : Entry) → In e es → Called sheet e) → All (Called sheet) es
  all-called [] h = tt
  all-called (e ∷ es) h = (h e (here refl), all-called es (λ d i. h d (there i)))

pub text-is-read : (t : List ℕ) (sheet : Sheet) (m : Model) → TextOf t sheet m
    → read_named t ≡ answered (record { sheet = sheet; lines = entries_of m; model = m })
unfolding text_named
text-is-read t sheet m x =
    let w = whole m x.fine in
    let n : 1 ≤ length w.progress.comps = omega (arith, x.fine.some, ap length w.comps, length-reverse m) in
    let back : reverse w.progress.comps ≡ m = ap reverse w.comps ∙ reverse-reverse m in
    let l = subst (λ (b : List ℕ). length b ≤ 32768) (sym x.bytes) x.short in
    ap read_named (sym x.bytes)
    ∙ text-read x.good.names w.taken (model-fits m (all-well m x.fine))
    (all-called sheet m x.good x.fine (entries_of m) (calls sheet m x.good x.fine)) n
    x.good.only l
    ∙ ap (λ k. answered (record { sheet = sheet; lines = entries_of m; model = k })) back
