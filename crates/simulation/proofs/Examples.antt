-- The examples of a simulation hold: antt computes every one.
use mathlib.Core.Path.{refl}
use Rattle.simulation.specs.Examples.{reply, model_cases, round_cases, either_cases, text_cases, line_refused, Hold, HoldTexts}

-- M of paper 01
pub model-examples-hold : Hold model_cases
unfolding reply model_cases
model-examples-hold = refl

-- rounds
pub round-examples-hold : Hold round_cases
unfolding reply round_cases
round-examples-hold = refl

-- systems that are not confluent, or open
pub either-examples-hold : Hold either_cases
unfolding reply either_cases
either-examples-hold = refl

-- sample texts
pub text-examples-hold : HoldTexts text_cases
unfolding line_refused text_cases
text-examples-hold = refl
