-- What `repair` answers, said of any model and list that are what the relation says, and what the lent table and the lent list are then.
use Rattle.std.specs.Prelude.{◌≡◌, List, ◌∷◌, ℕ, ◌*◌, length}
use Rattle.std.proofs.Math.Option.{some}
use Rattle.answer.specs.Told.{Answer, says_written}
use Rattle.answer.specs.Told.{Written}
use Rattle.model.specs.Model.{Comp}
use Rattle.iosa.specs.InOrder.{◌▹◌, Gives, Leaves, needs, room}
use Rattle.layout.specs.OnImage.{OnImage}
use Rattle.lacking.specs.Repaired.{Mended, MendedAs, Small}
use Rattle.lacking.specs.Walk.{cell_bytes}
use Rattle.repair.specs.Repairing.{number_in, table_with, list_with}

-- 24, 26, and at last the repaired model with its added rows
abbrev pub RepairChain : ℕ → Mended → Answer Mended → Type 0
RepairChain bytes d = room (cell_bytes * length d.added) bytes ▹ needs 26 (Small d.model) ▹ Gives (λ e. e ≡ d)

pub data RepairAnswer (bytes : ℕ) (c : Comp) (cs : List Comp) : Answer Mended → Type 0 where
  of-repaired : {d : Mended} {a : Answer Mended} → MendedAs (c ∷ cs) d → RepairChain bytes d a → RepairAnswer bytes c cs a

pub record Mends (t l : List ℕ) (r : Written) (t' l' : List ℕ) (a : Answer Mended) : Type 0 where
  pub answer : says_written r ≡ some (number_in a)
  pub table : t' ≡ table_with a t
  pub list : l' ≡ list_with a l

abbrev pub RepairExactly : List ℕ → List ℕ → Written → List ℕ → List ℕ → Type 0
RepairExactly t l r t' l' = Leaves (OnImage t (RepairAnswer (length l))) (Mends t l r t' l')
