-- `words::fired_words` meets its contract: each arm lays out what its own case says.
use mathlib.Core.Path.{sym, ◌∙◌, ap}
use Rattle.answer.specs.Told.{shot_said}
use Rattle.words.specs.Words.{fired_words, shot_words, says_shot}
use Rattle.words.proofs.Tells.{refused_says, value-says}
use Rattle.words.proofs.fired_words.Goals as goal

pub returns-in-Ok : goal.returns-in-Ok
unfolding fired_words
returns-in-Ok c a e = c.firing_words.ensures ∙ value-says shot_words (shot_said c.in-Ok.t.firing) a (sym (ap says_shot c.in-Ok.is) ∙ e)

pub returns-in-Err : goal.returns-in-Err
unfolding fired_words
returns-in-Err c a e = c.refusal_words.ensures ∙ refused_says shot_words _ a (sym (ap says_shot c.in-Err.is) ∙ e)
