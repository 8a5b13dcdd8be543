-- The examples of 02, 8/13 hold, antt computes every one: where the new test passes, or check 18.
use mathlib.Core.Path.{refl}
use Rattle.orderly_examples.specs.Examples.{says, confluent_systems, let_through, let_through_too, Hold}

pub confluent-systems-hold : Hold confluent_systems
unfolding says confluent_systems
confluent-systems-hold = refl

pub let-through-hold : Hold let_through
unfolding says let_through
let-through-hold = refl

pub let-through-too-hold : Hold let_through_too
unfolding says let_through_too
let-through-too-hold = refl
