-- Tests joined: shut, so that a proof reads their parts back off a goal.
use Rattle.std.specs.Prelude.{Bool, true, false, ◌&&◌, ◌≡◌, List, [], ◌∷◌}

-- a and b
unfoldable pub both : Bool → Bool → Bool
both true b = b
both false b = false

-- every test of a list
unfoldable pub all_of : List Bool → Bool
all_of [] = true
all_of (b ∷ bs) = b && all_of bs

abbrev pub Each : List Bool → Type 0
Each [] = Unit {0}
Each (b ∷ bs) = (b ≡ true) × Each bs
