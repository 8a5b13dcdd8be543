-- `words::started_words` meets its contract: each arm lays out what its own case says.
use mathlib.Core.Path.{sym, ◌∙◌, ap}
use mathlib.Core.List.{List}
use Prim.Native.Nat.{ℕ}
use Rattle.answer.specs.Told.{says_checked}
use Rattle.words.specs.Words.{started_words, given_words}
use Rattle.words.proofs.Tells.{refused_says, value-says}
use Rattle.words.proofs.started_words.Goals as goal

-- what is done is told with these numbers
abbrev done : ℕ → ℕ → Unit {0} → List ℕ
done count started _ = given_words 1 count 0 started 0

pub returns-in-Ok : goal.returns-in-Ok
unfolding says_checked started_words
returns-in-Ok c a e = let args = c.args in
    c.given.ensures ∙ value-says (done args.count args.started) tt a (sym (ap says_checked c.in-Ok.is) ∙ e)

pub returns-in-Err : goal.returns-in-Err
unfolding says_checked started_words
returns-in-Err c a e = let args = c.args in
    c.refusal_words.ensures ∙ refused_says (done args.count args.started) _ a (sym (ap says_checked c.in-Err.is) ∙ e)
