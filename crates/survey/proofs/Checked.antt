-- The contract of `check_text` fixes its answer, and says exactly what reading the text would.
use mathlib.Core.Path.{◌≡◌}
use mathlib.Core.Logic.{◌↔◌}
use mathlib.Core.Option.{some}
use mathlib.Core.List.{List}
use Prim.Native.Nat.{ℕ}
use Rattle.answer.specs.Told.{says_checked, done_of}
use Rattle.answer.specs.Told.{Checked}
use Rattle.answer.proofs.SaysFixes.{checked-fixed}
use Rattle.model.specs.Reading.{read_of}
use Rattle.iosa.specs.InOrder.{Leaves}
use Rattle.answering.specs.Answers.{ReadAnswer}
use Rattle.answering.proofs.Answers.InOrder.{leaves-exactly}
use Rattle.answering.proofs.Answers.Texts.{read-text-exactly}

pub check-text-determined : (t : List ℕ) (r q : Checked) → says_checked r ≡ some (done_of (read_of t)) → says_checked q ≡ some (done_of (read_of t)) → r ≡ q
check-text-determined t r q e f = checked-fixed r q (done_of (read_of t)) e f

pub check-text-answers-exactly : (t : List ℕ) (r : Checked)
    → (says_checked r ≡ some (done_of (read_of t))) ↔ Leaves (ReadAnswer t) (λ a. says_checked r ≡ some (done_of a))
check-text-answers-exactly t r = leaves-exactly (read_of t) (ReadAnswer t) (λ a. says_checked r ≡ some (done_of a)) (read-text-exactly t)
