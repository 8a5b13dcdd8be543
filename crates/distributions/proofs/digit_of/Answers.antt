-- `distributions::digit_of` meets its contract.
use mathlib.Core.Path.{sym, ◌∙◌}
use Rattle.fields.proofs.ScanLaws.{is_digit_lem}
use Rattle.distributions.specs.Found.{digit_of}
use Rattle.distributions.proofs.HexLaws.{is-letter}
use Rattle.distributions.proofs.digit_of.Goals as goal

pub overflow_sub-result : goal.overflow_sub-result
overflow_sub-result c = (is_digit_lem _ (sym c.is_digit.ensures ∙ c.if-is_digit.true)).0

pub returns-then-is_digit : goal.returns-then-is_digit
unfolding digit_of
returns-then-is_digit c = rw (sym c.is_digit.ensures ∙ c.if-is_digit.true)

pub overflow_sub-result-then-is_letter : goal.overflow_sub-result-then-is_letter
overflow_sub-result-then-is_letter c = (is-letter _ (sym c.is_letter.ensures ∙ c.if-is_letter.true)).0

pub returns-then-is_letter : goal.returns-then-is_letter
unfolding digit_of
returns-then-is_letter c = rw (sym c.is_digit.ensures ∙ c.if-is_digit.false, sym c.is_letter.ensures ∙ c.if-is_letter.true)

pub returns : goal.returns
unfolding digit_of
returns c = rw (sym c.is_digit.ensures ∙ c.if-is_digit.false, sym c.is_letter.ensures ∙ c.if-is_letter.false)
