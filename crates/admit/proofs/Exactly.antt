-- `accept` answers fine exactly where the table is the image of a well-formed model that meets the conditions; `confluent` exactly where its
-- components are confluent too.
-- `component` answers fine exactly where that component is there and meets them, `compatible` exactly where every two are compatible.
use mathlib.Core.Path.{◌≡◌, refl, ◌∙◌, ap}
use mathlib.Core.Logic.{◌↔◌}
use mathlib.Core.Option.{Option, none, some}
use mathlib.Core.List.{List}
use Prim.Native.Nat.{ℕ, ◌<◌}
use lib.ListN.{length}
use Rattle.answer.specs.Told.{Told, answered, says_checked}
use Rattle.answer.specs.Told.{Checked}
use Rattle.std.specs.Prelude.{Ok}
use Rattle.model.specs.Model.{Model, comp_at}
use Rattle.iosa.specs.Automaton.{auto_of, Conditions, Conforming, Joinable, AllConfluent}
use Rattle.iosa.specs.Checks.{component_of, compatible_of, accept_of, confluent_of}
use Rattle.iosa.specs.Step.{unless}
use Rattle.iosa.proofs.Acceptance.Accepted.{conditions-exactly, joinable-exactly, accepted-exactly}
use Rattle.iosa.proofs.Acceptance.ConfluentExactly.{confluent-exactly, confluent-accepted}
use Rattle.layout.specs.Image.{Image, model_of}
use Rattle.layout.proofs.RowsOfRange.{well-formed}
use Rattle.table.specs.OnTable.{check_on}
use Rattle.table.proofs.OnTableLaws.{on-image}
use Rattle.table.proofs.CheckedLaws.{fine-passes}
use Rattle.table.proofs.ImageExactly.{image-exactly}
use Rattle.admit.specs.Admit.{ByItself, Compatibly, Accepted, Confluently}
use Rattle.answer.proofs.SaysFixes.{checked-fixed}

-- what a call that goes on after `(Ok tt)` counts on
pub record Admitted (t : List ℕ) : Type 0 where
  pub image : Image t
  pub accepted : accept_of (model_of t) ≡ none
  pub conforming : Conforming (model_of t)
  pub joinable : Joinable (model_of t)

admitted : (t : List ℕ) → Image t → accept_of (model_of t) ≡ none → Admitted t
admitted t im e = let p = (accepted-exactly (model_of t) (well-formed t im)).0 e in record { image = im; accepted = e; conforming = p.0; joinable = p.1 }

pub accept-fine : (t : List ℕ) → Accepted t (Ok tt) → Admitted t
accept-fine t e = let p = fine-passes t accept_of e in admitted t ((image-exactly t).0 p.0) p.1

pub confluent-fine : (t : List ℕ) → Confluently t (Ok tt) → Admitted t × (confluent_of (model_of t) ≡ none) × AllConfluent (model_of t)
confluent-fine t e =
    let p = fine-passes t confluent_of e in
    let im = (image-exactly t).0 p.0 in
    let a = confluent-accepted (model_of t) p.1 in
    (admitted t im a, p.1, (confluent-exactly (model_of t) (well-formed t im) a).0 p.1)

-- ---- both ways
pub passes-fine : (t : List ℕ) (check : Model → Option Told) (r : Checked) → Image t → check (model_of t) ≡ none
    → says_checked r ≡ some (check_on t check) → r ≡ (Ok tt)
unfolding says_checked
passes-fine t check r im e s =
    checked-fixed r (Ok tt) (answered tt) (s ∙ ap some (on-image t (λ m. unless (check m) tt) ((image-exactly t).1 im) ∙ ap (λ o. unless o tt) e)) refl

pub accept-exactly : (t : List ℕ) (r : Checked) → Accepted t r → (r ≡ (Ok tt)) ↔ (Image t × Conforming (model_of t) × Joinable (model_of t))
accept-exactly t r s = (
  λ e. let a = accept-fine t (rw e at s) in (a.image, a.conforming, a.joinable),
  λ p. passes-fine t accept_of r p.0 ((accepted-exactly (model_of t) (well-formed t p.0)).1 (p.1, p.2)) s,
)

pub confluent-call-exactly : (t : List ℕ) (r : Checked) → Confluently t r
    → (r ≡ (Ok tt)) ↔ (Image t × Conforming (model_of t) × Joinable (model_of t) × AllConfluent (model_of t))
confluent-call-exactly t r s = (
  λ e. let a = confluent-fine t (rw e at s) in (a.0.image, a.0.conforming, a.0.joinable, a.2),
  λ p.
      let w = well-formed t p.0 in
      let ok = (accepted-exactly (model_of t) w).1 (p.1, p.2) in
      passes-fine t confluent_of r p.0 ((confluent-exactly (model_of t) w ok).1 p.3) s,
)

pub component-exactly : (t : List ℕ) (i : ℕ) (r : Checked) → ByItself t i r
    → (r ≡ (Ok tt)) ↔ (Image t × (i < length (model_of t)) × Conditions (auto_of (comp_at (model_of t) i)))
component-exactly t i r s = (
  λ e.
      let p = fine-passes t (λ m. component_of m i) (rw e at s) in
      let im = (image-exactly t).0 p.0 in
      let q = (conditions-exactly (model_of t) (well-formed t im) i).0 p.1 in
      (im, q.0, q.1),
  λ p. passes-fine t (λ m. component_of m i) r p.0 ((conditions-exactly (model_of t) (well-formed t p.0) i).1 (p.1, p.2)) s,
)

pub compatible-exactly : (t : List ℕ) (r : Checked) → Compatibly t r → (r ≡ (Ok tt)) ↔ (Image t × Joinable (model_of t))
compatible-exactly t r s = (
  λ e.
      let p = fine-passes t compatible_of (rw e at s) in
      let im = (image-exactly t).0 p.0 in
      (im, (joinable-exactly (model_of t) (well-formed t im)).0 p.1),
  λ p. passes-fine t compatible_of r p.0 ((joinable-exactly (model_of t) (well-formed t p.0)).1 p.1) s,
)
