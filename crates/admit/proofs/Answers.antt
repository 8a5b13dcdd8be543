-- The contracts of `component`, `compatible`, `accept` and `confluent` say exactly what document 000 and the paper's order of refusals say.
use mathlib.Core.Logic.{◌↔◌}
use mathlib.Core.List.{List}
use Prim.Native.Nat.{ℕ}
use Rattle.answer.specs.Told.{Checked}
use Rattle.iosa.specs.Checks.{component_of, compatible_of, accept_of, confluent_of}
use Rattle.iosa.specs.Step.{unless}
use Rattle.answering.specs.Answers.{ComponentAnswer, CompatibleAnswer, AcceptAnswer, ConfluentAnswer}
use Rattle.answering.proofs.Answers.Models.{component-model-exactly, compatible-model-exactly, accept-model-exactly, confluent-model-exactly}
use Rattle.layout.specs.OnImage.{Tells}
use Rattle.table.proofs.OnImageExactly.{on-table-leaves}
use Rattle.admit.specs.Admit.{ByItself, Compatibly, Accepted, Confluently}
use Rattle.admit.specs.AdmitExactly.{ComponentExactly, CompatibleExactly, AcceptExactly, ConfluentExactly}

pub component-answers-exactly : (t : List ℕ) (i : ℕ) (r : Checked) → ByItself t i r ↔ ComponentExactly t i r
component-answers-exactly t i r =
    on-table-leaves t (λ m. unless (component_of m i) tt) (ComponentAnswer i) (λ c cs w. component-model-exactly c cs w i) (Tells r)

pub compatible-answers-exactly : (t : List ℕ) (r : Checked) → Compatibly t r ↔ CompatibleExactly t r
compatible-answers-exactly t r = on-table-leaves t (λ m. unless (compatible_of m) tt) CompatibleAnswer compatible-model-exactly (Tells r)

pub accept-answers-exactly : (t : List ℕ) (r : Checked) → Accepted t r ↔ AcceptExactly t r
accept-answers-exactly t r = on-table-leaves t (λ m. unless (accept_of m) tt) AcceptAnswer accept-model-exactly (Tells r)

pub confluent-answers-exactly : (t : List ℕ) (r : Checked) → Confluently t r ↔ ConfluentExactly t r
confluent-answers-exactly t r = on-table-leaves t (λ m. unless (confluent_of m) tt) ConfluentAnswer confluent-model-exactly (Tells r)
