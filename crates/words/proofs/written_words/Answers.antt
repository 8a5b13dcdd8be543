-- `words::written_words` meets its contract: each arm lays out what its own case says.
use mathlib.Core.Path.{sym, ◌∙◌, ap}
use Rattle.answer.specs.Told.{says_written}
use Rattle.words.specs.Words.{written_words, given_words}
use Rattle.words.proofs.Tells.{refused_says, value-says}
use Rattle.words.proofs.written_words.Goals as goal

pub returns-in-Ok : goal.returns-in-Ok
unfolding says_written written_words
returns-in-Ok c a e = c.given.ensures ∙ value-says (λ n. given_words 1 n 0 0 0) _ a (sym (ap says_written c.in-Ok.is) ∙ e)

pub returns-in-Err : goal.returns-in-Err
unfolding says_written written_words
returns-in-Err c a e = c.refusal_words.ensures ∙ refused_says (λ n. given_words 1 n 0 0 0) _ a (sym (ap says_written c.in-Err.is) ∙ e)
