-- The examples of paper 01, and of 02, 2/13 and 10/13, hold: antt computes every one.
use mathlib.Core.Path.{refl}
use Rattle.answering.specs.Examples.{reply, cases, further_cases, column_cases, component_cases, program_cases, Hold}

-- P1 to P13
pub paper-examples-hold : Hold cases
unfolding reply cases
paper-examples-hold = refl

-- the last bullets
pub further-examples-hold : Hold further_cases
unfolding reply further_cases
further-examples-hold = refl

-- columns
pub column-examples-hold : Hold column_cases
unfolding reply column_cases
column-examples-hold = refl

-- components by themselves
pub component-examples-hold : Hold component_cases
unfolding reply component_cases
component-examples-hold = refl

-- the program's example
pub program-example-holds : Hold program_cases
unfolding reply program_cases
program-example-holds = refl
