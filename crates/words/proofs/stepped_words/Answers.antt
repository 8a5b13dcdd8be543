-- `words::stepped_words` meets its contract: each arm lays out what its own case says.
use mathlib.Core.Path.{sym, ◌∙◌, ap}
use Rattle.answer.specs.Told.{step_said}
use Rattle.words.specs.Words.{stepped_words, step_words, says_step}
use Rattle.words.proofs.Tells.{refused_says, value-says}
use Rattle.words.proofs.stepped_words.Goals as goal

pub returns-in-Ok : goal.returns-in-Ok
unfolding stepped_words
returns-in-Ok c a e = c.outcome_words.ensures ∙ value-says step_words (step_said c.in-Ok.s.outcome) a (sym (ap says_step c.in-Ok.is) ∙ e)

pub returns-in-Err : goal.returns-in-Err
unfolding stepped_words
returns-in-Err c a e = c.refusal_words.ensures ∙ refused_says step_words _ a (sym (ap says_step c.in-Err.is) ∙ e)
