-- The examples of 02, 8/13 hold, antt computes every one: where both tests refuse.
use mathlib.Core.Path.{refl}
use Rattle.orderly_examples.specs.Examples.{says, refused_by_both, must_be_refused, must_be_refused_too, Hold}

pub refused-by-both-hold : Hold refused_by_both
unfolding says refused_by_both
refused-by-both-hold = refl

pub must-be-refused-hold : Hold must_be_refused
unfolding says must_be_refused
must-be-refused-hold = refl

pub must-be-refused-too-hold : Hold must_be_refused_too
unfolding says must_be_refused_too
must-be-refused-too-hold = refl
