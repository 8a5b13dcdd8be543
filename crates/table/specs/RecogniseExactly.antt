-- What `recognise` answers: yes exactly where the table holds a model.
use Rattle.std.specs.Prelude.{◌≡◌, ◌↔◌, Bool, true, List, ℕ}
use Rattle.model.specs.Model.{Model}
use Rattle.layout.specs.OnImage.{Holds}

abbrev pub RecogniseExactly : List ℕ → Bool → Type 0
RecogniseExactly t b = (b ≡ true) ↔ (m : Model) × Holds t m
