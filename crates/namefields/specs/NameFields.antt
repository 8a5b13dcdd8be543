-- Names where they stand in a text: the code keeps where each name begins, and no copy of it.
use Rattle.std.proofs.Math.Option.{Option, none, some}
use Rattle.std.specs.Prelude as Answered
use Rattle.std.specs.Prelude.{Some, None, List, [], ◌∷◌, Bool, true, cond, ℕ, drop, get_or, eqb}
use Rattle.laws.specs.Search.{least}
use Rattle.answer.specs.Limits.{max_actions}
use Rattle.named.specs.NamedText.{Name, ends_name, name_at, is_named}

-- the name that begins at a place
abbrev pub name_from : List ℕ → ℕ → Name
name_from t at = (name_at (drop at t)).value

-- no byte of a name stands in front
abbrev pub name_stops : List ℕ → Bool
name_stops [] = true
name_stops (b ∷ bs) = ends_name b

-- a name by where it begins; 0 stands for no name, as a text of names begins with another word
abbrev pub name_by : List ℕ → ℕ → Option Name
name_by t at = cond (eqb at 0) none (some (name_from t at))

abbrev pub number_by : List ℕ → List ℕ → Name → Option ℕ
number_by t places w = least (λ a. is_named w (name_by t (get_or places a 0))) max_actions

-- what the engine answers of a search
abbrev pub Found : Type 0
Found = Answered.Option ℕ

abbrev pub found_is : Found → Option ℕ
found_is (Some a) = some a
found_is None = none
