-- Whether settling may begin (01, "Refusal numbers"; 02, 3/13): what the confluence check refuses, then 21, then 19.
use Rattle.std.proofs.Math.Option.{Option}
use Rattle.laws.specs.Search.{or_else}
use Rattle.answer.specs.State.{parts_of}
use Rattle.answer.specs.Told.{Told}
use Rattle.answer.specs.declared.State.{State}
use Rattle.model.specs.Model.{Model}
use Rattle.iosa.specs.Checks.{confluent_of}
use Rattle.iosa.specs.Settle.{begin_fault}

abbrev pub entry_fault : State → Model → Option Told
entry_fault x m = or_else (confluent_of m) (begin_fault m (parts_of x))
