-- A round goes as it does whether or not its line can be written.
use Rattle.std.specs.Prelude as Answered
use Rattle.std.specs.Prelude.{Some, None}

-- it went as the call says: with what is handed on, or, where the line could not be written and nothing is, with some answer
abbrev pub Went : {A : Type 0} → (A → Type 0) → Answered.Option A → Type 0
Went call (Some c) = call c
Went {A = A} call None = (c : A) × call c
