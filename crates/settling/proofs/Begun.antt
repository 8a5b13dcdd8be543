-- Where settling may begin: an image of a confluent model, and a state that neither 21 nor 19 refuses.
use mathlib.Core.Path.{◌≡◌}
use mathlib.Core.Option.{none}
use mathlib.Core.List.{List}
use Prim.Native.Nat.{ℕ}
use Rattle.answer.specs.State.{parts_of}
use Rattle.answer.specs.declared.State.{State}
use Rattle.iosa.specs.Checks.{confluent_of}
use Rattle.iosa.specs.Settle.{begin_fault}
use Rattle.iosa.proofs.Acceptance.Accepted.{accepted-exactly}
use Rattle.iosa.proofs.Acceptance.ConfluentExactly.{confluent-accepted}
use Rattle.iosa.proofs.Settling.Called.{begin-faultless}
use Rattle.layout.specs.Image.{Image, model_of}
use Rattle.layout.proofs.RowsOfRange.{well-formed}
use Rattle.settling.specs.Gives.{Ready}

pub begun : (t : List ℕ) (x : State) → Image t → confluent_of (model_of t) ≡ none → begin_fault (model_of t) (parts_of x) ≡ none → Ready t x
begun t x im e b =
    let k = (accepted-exactly (model_of t) (well-formed t im)).0 (confluent-accepted (model_of t) e) in
    let w = ((begin-faultless (model_of t) (parts_of x)).0 b).0 in
    record { standing = record { image = im; within = w }; conforming = k.0; joinable = k.1 }
