-- The draws by hand hold: antt computes every one.
use Rattle.std.proofs.Common.{refl}
use Rattle.draw.specs.Examples.{draw_cases, law_cases, ticks_of, passes_of, HoldDraws, HoldLaws}

pub draw-examples-hold : HoldDraws draw_cases
unfolding ticks_of draw_cases
draw-examples-hold = refl

pub law-examples-hold : HoldLaws law_cases
unfolding passes_of law_cases
law-examples-hold = refl
