-- The examples of 02, 8/13 hold, antt computes every one: paths, and settling after them.
use mathlib.Core.Path.{◌≡◌, refl}
use mathlib.Core.Option.{none, some}
use mathlib.Core.List.{[], ◌∷◌}
use lib.ListN.{replicate}
use Rattle.answer.specs.Told.{tell}
use Rattle.paths.specs.Path.{long_path}
use Rattle.orderly_examples.specs.Examples.{says, walked, settled_after, Hold}

pub walked-hold : Hold walked
unfolding says walked
walked-hold = refl

pub settled-after-hold : Hold settled_after
unfolding says settled_after
settled-after-hold = refl

-- 4,096 steps, and one byte more
pub long-path-refused : (long_path (replicate 8192 0) ≡ none) × (long_path (replicate 8193 0) ≡ some (tell 22 (0 ∷ [])))
unfolding long_path
long-path-refused = (refl, refl)
