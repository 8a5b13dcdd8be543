-- `floodneedle::ended_words` meets its contract: a number of rounds is told as a length is.
use mathlib.Core.Path.{sym, ◌∙◌, ap}
use Rattle.answer.specs.Told.{says, says_written}
use Rattle.floodneedle.proofs.ended_words.Goals as goal

pub returns-in-Ok : goal.returns-in-Ok
unfolding says_written
returns-in-Ok c a h = c.written_words.ensures a (ap (says (λ p. p.rounds)) (sym c.in-Ok.is) ∙ h)

pub returns-in-Err : goal.returns-in-Err
unfolding says_written
returns-in-Err c a h = c.written_words-in-Err.ensures a (ap (says (λ p. p.rounds)) (sym c.in-Err.is) ∙ h)
