-- "Where neither way is refused, old to new and back yields the same bytes; new to old and back does so exactly when the names are those defaults" (02, 7/13).
use mathlib.Core.Path.{◌≡◌, refl, sym, ◌∙◌, ap, subst}
use mathlib.Core.Logic.{◌↔◌}
use mathlib.Core.List.{List}
use Prim.Native.Nat.{ℕ, ◌≤◌}
use lib.ListN.{length}
use Rattle.answer.specs.Limits.{max_bytes}
use Rattle.answer.specs.Told.{Answer, answered, refused}
use Rattle.model.specs.Model.{Model}
use Rattle.model.specs.Text.{text_of}
use Rattle.model.specs.WellFormed.{WellFormed}
use Rattle.model.specs.Reading.{read_of}
use Rattle.model.proofs.Reading.TextOfRead.{text-of-read}
use Rattle.model.proofs.Reading.ReadOfText.{one-text-one-model}
use Rattle.named.specs.NamedText.{Sheet, lines_text, entries_of, text_named, defaults_of}
use Rattle.named.specs.ReadNamed.{Read, read_named}
use Rattle.named.specs.Converted.{to_names, to_numbers}
use Rattle.named.proofs.Entries.{model-lines}
use Rattle.namedtheory.specs.Named.{Fine, TextOf}
use Rattle.namedtheory.proofs.TextRead.{all-well, text-is-read}
use Rattle.namedtheory.proofs.Back.{no_answer, same_answer}
use Rattle.namedtheory.proofs.Exactly.{read_back}
use Rattle.namedtheory.proofs.Defaults.{defaults-good}

fine : (m : Model) → WellFormed m → Fine m
fine m w = record { some = w.some; components = w.components; each = w.each; rows = w.rows }

-- what the two conversions write
pub record Renamed (t u : List ℕ) : Type 0 where
  pub model : Model
  pub read : read_of t ≡ answered model
  pub bytes : u ≡ text_named (defaults_of model) model

pub renamed : (t u : List ℕ) → to_names t ≡ answered u → Renamed t u
unfolding to_names
renamed t u h = go (read_of t) refl h
  where
    go : (o : Answer Model) → read_of t ≡ o
        → (elim o as (λ _. Answer (List ℕ)) [ refused f ↦ refused f | answered m ↦ answered (text_named (defaults_of m) m) ]) ≡ answered u → Renamed t u
    go (refused f) e h = no_answer refl h
    go (answered m) e h = record { model = m; read = e; bytes = sym (same_answer h) }

numbers_of : (u : List ℕ) (r : Read) → read_named u ≡ answered r → to_numbers u ≡ answered (lines_text r.lines)
unfolding to_numbers
numbers_of u r h = rw (h, to_numbers)

default-text : (t u : List ℕ) (r : Renamed t u) → length u ≤ max_bytes → TextOf u (defaults_of r.model) r.model
default-text t u r l =
    let w = (text-of-read t r.model r.read).0 in
    let f = fine r.model w in
    record { good = defaults-good r.model (all-well r.model f); fine = f; bytes = sym r.bytes; short = l }

-- old to new and back
pub names-then-numbers : (t u : List ℕ) → to_names t ≡ answered u → length u ≤ max_bytes → to_numbers u ≡ answered t
names-then-numbers t u h l =
    let r = renamed t u h in
    let m = r.model in
    let q = text-of-read t m r.read in
    numbers_of u (record { sheet = defaults_of m; lines = entries_of m; model = m }) (text-is-read u (defaults_of m) m (default-text t u r l))
    ∙ ap (λ (x : List ℕ). answered x) (model-lines m (all-well m (fine m q.0)) ∙ q.1)

-- new to old and back
pub numbers-then-names : (u : List ℕ) (r : Read) (v : List ℕ) → read_named u ≡ answered r → to_names (lines_text r.lines) ≡ answered v
    → (v ≡ u) ↔ (r.sheet ≡ defaults_of r.model)
numbers-then-names u r v h k =
    let b = read_back u r h in
    let m = r.model in
    let t = lines_text r.lines in
    let n = renamed t v k in
    let q = text-of-read t n.model n.read in
    let f = b.text.fine in
    let old : t ≡ text_of m = ap lines_text b.lines ∙ model-lines m (all-well m f) in
    let short : length (text_of m) ≤ max_bytes = subst (λ (x : List ℕ). length x ≤ max_bytes) (q.1 ∙ old) q.0.bytes in
    let same : n.model ≡ m =
    one-text-one-model n.model m q.0
    (record { some = f.some; components = f.components; each = f.each; rows = f.rows; bytes = short }) (q.1 ∙ old) in
    let bytes : v ≡ text_named (defaults_of m) m = n.bytes ∙ ap (λ x. text_named (defaults_of x) x) same in (
      λ e.
          let z = text-is-read v (defaults_of n.model) n.model
          (default-text t v n (subst (λ (x : List ℕ). length x ≤ max_bytes) (sym e) b.text.short)) in
          ap (λ (x : Read). x.sheet) (same_answer (sym h ∙ ap read_named (sym e) ∙ z)) ∙ ap defaults_of same,
      λ e. bytes ∙ ap (λ (s : Sheet). text_named s m) (sym e) ∙ b.text.bytes,
    )
