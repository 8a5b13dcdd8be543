-- `words::checked_words` meets its contract: done, with nothing beside it.
use Rattle.words.specs.Words.{checked_words, started_words}
use Rattle.words.proofs.checked_words.Goals as goal

pub returns : goal.returns
unfolding checked_words started_words
returns c a e = c.started_words.ensures a e
