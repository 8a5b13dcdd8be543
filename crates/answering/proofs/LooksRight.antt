-- No "error that looks right" is made: antt computes the answers.
use mathlib.Core.Path.{refl}
use Rattle.answering.specs.Examples.{reply, Hold}
use Rattle.answering.specs.LooksRight.{looks_right}

pub errors-that-look-right-show : Hold looks_right
unfolding reply looks_right
errors-that-look-right-show = refl
