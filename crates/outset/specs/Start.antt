-- What the call `start` answers on every table: 20, and else where the table's model begins.
use Rattle.std.specs.Prelude.{◌≡◌, List, ◌∷◌, ℕ, Result, IsOkAnd}
use Rattle.answer.specs.Limits.{no_state}
use Rattle.answer.specs.Told.{Answer, answered, refused, RefusedWith}
use Rattle.answer.specs.declared.State.{State}
use Rattle.answer.specs.declared.Refusal.{Refusal}
use Rattle.answer.specs.State.{parts_of}
use Rattle.model.specs.Model.{Comp}
use Rattle.iosa.specs.Start.{Beginning, start_of, StartOf}
use Rattle.layout.specs.Image.{Image, model_of}
use Rattle.table.specs.OnTable.{on_table}
use Rattle.words.specs.Bytes.{state_of}
use Rattle.outset.specs.declared.Outset.{Outset}

-- 20, and no other refusal: every model has a start, accepted or not
abbrev pub start_on : List ℕ → Answer Beginning
start_on t = on_table t (λ m. answered (start_of m))

-- the state in which it begins, and no state where it is refused: "A refusal returns its number and place", and all else is zero
abbrev pub state_in : Answer Beginning → State
state_in (answered b) = state_of b.state
state_in (refused f) = no_state

-- the clocks and the state of this beginning
pub record StartGives (b : Beginning) (r : Outset) : Type 0 where
  pub started : r.started ≡ b.started
  pub state : r.state ≡ state_of b.state

-- r says this answer
abbrev pub StartLeaves : Result Outset Refusal → Answer Beginning → Type 0
StartLeaves r (answered b) = IsOkAnd r (λ p. StartGives b p)
StartLeaves r (refused f) = RefusedWith f r

abbrev pub StartCall : List ℕ → Result Outset Refusal → Type 0
StartCall t r = StartLeaves r (start_on t)

-- the table is the image of a model; its product begins in the state answered, whose places past the last component are 0, and sets the clocks answered
pub record BeginsAs (t : List ℕ) (r : Outset) : Type 0 where
  pub image : Image t
  pub first : Comp
  pub others : List Comp
  pub model : model_of t ≡ first ∷ others
  pub start : StartOf first others (record { state = parts_of r.state; started = r.started })
  pub places : r.state ≡ state_of (parts_of r.state)
