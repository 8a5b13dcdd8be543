-- The new text of a good text; and what a check of the whole text tells of it.
use mathlib.Core.Path.{◌≡◌, refl, sym, ◌∙◌, ap, ap₂}
use mathlib.Core.Option.{some}
use mathlib.Core.List.Memᴰ.{head as here}
use mathlib.Core.List.Memᴰ.{tail as there}
use mathlib.Core.List.{List, ◌∷◌, [], ◌++◌, append_assoc, Memᴰ as In}
use Prim.Native.Nat.{ℕ, ◌+◌, ◌≤◌}
use native.Mathlib.Omega.{arith}
use lib.ListN.{length, length-append}
use borrow.Author.Tests.{lt-ltb}
use Rattle.laws.specs.Sets.{◌∪◌}
use Rattle.laws.proofs.ListLaws.{All}
use Rattle.answer.specs.Limits.{max_actions, max_bytes}
use Rattle.answer.specs.Told.{Told, told, Answer, answered, refused, says_checked, done_of}
use Rattle.answer.specs.declared.Refusal.{Refusal}
use Rattle.std.specs.Prelude.{Ok, Err}
use Rattle.answer.proofs.SaysFixes.{tells}
use Rattle.model.specs.Model.{Model}
use Rattle.model.specs.WellFormed.{WellComp}
use Rattle.model.specs.Reading.{Entry, comp-entry, act-entry, clk-entry, row-entry, read_of}
use Rattle.model.proofs.Reading.Faults.{model-read}
use Rattle.lines.specs.Lines.{line_of as code_of}
use Rattle.named.specs.NamedText.{form_line, declared_in, declared_by, defaults_of, entries_of, text_named}
use Rattle.named.specs.Converted.{to_names}
use Rattle.namedtheory.proofs.Declared.{named-declared}
use Rattle.naminglaws.specs.Naming.{entries_at, line_set, set_in, set_of, default_lines, sheet_part, new_text, Sums}
use Rattle.naminglaws.proofs.SheetLaws.{below, good, text-default}

-- in a model every action is below 64
module _ (m : Model) (well : All WellComp m) where
  set-by : (e : Entry) → In e (entries_of m) → line_set (code_of e) ≡ declared_by e
  set-by (comp-entry n s) i = refl
  set-by (act-entry a k) i = rw (lt-ltb a max_actions (below m well a (named-declared m well (act-entry a k) i a refl)))
  set-by (clk-entry x b) i = refl
  set-by (row-entry s g a r u) i = refl

  sets-by : (es : List Entry) → ((e : Entry) → In e es → In e (entries_of m)) → set_in es ≡ declared_in es
  unfolding set_in declared_in
  sets-by [] h = refl
  sets-by (e ∷ es) h = ap₂ (λ x y. x ∪ y) (set-by e (h e (here refl))) (sets-by es (λ x i. h x (there i)))

  pub set-as : set_in (entries_of m) ≡ declared_in (entries_of m)
  set-as = sets-by (entries_of m) (λ e i. i)

-- ---- the new text of a good text
pub new-text : (t : List ℕ) (m : Model) → read_of t ≡ answered m → to_names t ≡ answered (new_text t)
unfolding to_names new_text
new-text t m e =
    let g = good t m e in
    let d : declared_in (entries_of m) ≡ set_of t = sym (set-as m g.well) ∙ ap set_in (sym g.lines) in
    let x : text_named (defaults_of m) m ≡ new_text t = text-default m g.well ∙ (λ i. form_line ++ sheet_part (d i) ++ default_lines (sym g.lines i)) in
    rw (e, to_names) (ap answered x)

pub new-parts : (t : List ℕ) (d : ℕ) → d ≡ set_of t → new_text t ≡ form_line ++ (sheet_part d ++ default_lines (entries_at t 0))
unfolding new_text
new-parts t d e =
    append_assoc form_line (sheet_part (set_of t)) (default_lines (entries_at t 0))
    ∙ ap (λ x. form_line ++ (sheet_part x ++ default_lines (entries_at t 0))) (sym e)

pub new-long : (t : List ℕ) (d sum names : ℕ) → Sums t d sum → names ≡ length (sheet_part d) → 7 + names + sum ≡ length (new_text t)
new-long t d sum names s q =
    omega (
      arith,
      ap length (new-parts t d s.set),
      length-append form_line (sheet_part d ++ default_lines (entries_at t 0)),
      length-append (sheet_part d) (default_lines (entries_at t 0)),
      s.long,
      q,
    )

-- ---- a check of the whole text
as-refused : (t : List ℕ) (τ : Told) → read_of t ≡ refused τ → to_names t ≡ refused τ
unfolding to_names
as-refused t τ e = rw (e, to_names)

pub names-refused : (t : List ℕ) (f : Refusal) → says_checked (Err f) ≡ some (done_of (read_of t)) → (τ : Told) × (told f ≡ some τ) × (to_names t ≡ refused τ)
unfolding says_checked
names-refused t f h = let x = tells f (done_of (read_of t)) h in (x.0, x.1, as-refused t x.0 (go (read_of t) x.2))
  where
    go : {τ : Told} (o : Answer Model) → done_of o ≡ refused τ → o ≡ refused τ
    go (refused s) q = cc
    go (answered m) q = let z : ◌≡◌ {A = ℕ} 0 1 = cc in absurd (omega arith)

-- a good text: it is short, and its new text is the answer
pub record Names (t : List ℕ) : Type 0 where
  pub short : length t ≤ max_bytes
  pub answer : to_names t ≡ answered (new_text t)

pub names-good : (t : List ℕ) → says_checked (Ok tt) ≡ some (done_of (read_of t)) → Names t
unfolding says_checked
names-good t h = go (read_of t) refl h
  where
    go : (o : Answer Model) → read_of t ≡ o → some (answered tt) ≡ some (done_of o) → Names t
    go (refused τ) e q = let z : ◌≡◌ {A = ℕ} 0 1 = cc in absurd (omega arith)
    go (answered m) e q = record { short = (model-read t m e).short; answer = new-text t m e }
