-- How an answer lies in words for C: what kind of answer, the refusal's number, how many values its place has, the values, and then the
-- length written or the steps taken, action, resets and ticks. Words that an answer does not use are 0.
use Rattle.std.specs.Prelude.{Bool, true, false, List, [], ◌∷◌, ℕ, length, get_or, Result, Ok, Err}
use Rattle.std.proofs.Math.Option.{Option}
use Rattle.answer.specs.declared.Refusal.{Refusal}
use Rattle.answer.specs.declared.Stepped.{Stepped}
use Rattle.answer.specs.declared.Settled.{Settled}
use Rattle.answer.specs.declared.Timed.{Timed}
use Rattle.answer.specs.Told.{Answer, answered, refused, Step, moved, stable, step_said, stable_said, Shot, fired, quiet, shot_said, says, values_at}

abbrev pub words_of : ℕ → ℕ → ℕ → ℕ → ℕ → ℕ → ℕ → ℕ → ℕ → ℕ → ℕ → List ℕ
words_of kind number places p0 p1 p2 p3 count action resets ticks =
    kind ∷ number ∷ places ∷ p0 ∷ p1 ∷ p2 ∷ p3 ∷ count ∷ action ∷ resets ∷ ticks ∷ []

-- "A refusal returns its number and place": kind 0
unfoldable pub told_words : ℕ → List ℕ → List ℕ
told_words n p = words_of 0 n (length p) (get_or p 0 0) (get_or p 1 0) (get_or p 2 0) (get_or p 3 0) 0 0 0 0

abbrev pub refusal_words : Refusal → List ℕ
refusal_words r = told_words r.number (values_at r.place)

-- kind, then count, action, resets and ticks, where nothing is refused
abbrev pub given_words : ℕ → ℕ → ℕ → ℕ → ℕ → List ℕ
given_words kind count action resets ticks = words_of kind 0 0 0 0 0 0 count action resets ticks

-- an answer's words: those of its value, or those of a refusal
abbrev pub said_words : {A : Type 0} → (A → List ℕ) → Answer A → List ℕ
said_words f (answered a) = f a
said_words f (refused t) = told_words t.number t.place

-- done: kind 1
unfoldable pub checked_words : Answer (Unit {0}) → List ℕ
checked_words = said_words (λ _. given_words 1 0 0 0 0)

-- done, with a number of components and the clocks set at the start
unfoldable pub started_words : Answer (Unit {0}) → ℕ → ℕ → List ℕ
started_words a count started = said_words (λ _. given_words 1 count 0 started 0) a

-- done, with the number of bytes
unfoldable pub written_words : Answer ℕ → List ℕ
written_words = said_words (λ n. given_words 1 n 0 0 0)

-- moved: kind 2; stable: kind 3
abbrev pub step_words : Step → List ℕ
step_words (moved a r) = given_words 2 0 a r 0
step_words stable = given_words 3 0 0 0 0

-- what a step's result says
abbrev pub says_step : Result Stepped Refusal → Option (Answer Step)
says_step r = says (λ p. step_said p.outcome) r

unfoldable pub stepped_words : Answer Step → List ℕ
stepped_words = said_words step_words

-- stable: kind 3; unsettled: kind 4; with steps and clocks reset
abbrev pub verdict_words : ℕ → ℕ → Bool → List ℕ
verdict_words steps resets true = given_words 3 steps 0 resets 0
verdict_words steps resets false = given_words 4 steps 0 resets 0

-- what the result of settling says, and the steps and the clocks reset, which are 0 beside a refusal
abbrev pub says_settling : Result Settled Refusal → Option (Answer Bool)
says_settling r = says (λ p. stable_said p.verdict) r

abbrev pub steps_in : Result Settled Refusal → ℕ
steps_in (Ok p) = p.steps
steps_in (Err q) = 0

abbrev pub resets_in : Result Settled Refusal → ℕ
resets_in (Ok p) = p.resets
resets_in (Err q) = 0

unfoldable pub settled_words : Answer Bool → ℕ → ℕ → List ℕ
settled_words a steps resets = said_words (verdict_words steps resets) a

-- fired: kind 5; quiet: kind 6
abbrev pub shot_words : Shot → List ℕ
shot_words (fired v a r) = given_words 5 0 a r v
shot_words quiet = given_words 6 0 0 0 0

-- what the result of a timed step says
abbrev pub says_shot : Result Timed Refusal → Option (Answer Shot)
says_shot r = says (λ p. shot_said p.firing) r

unfoldable pub fired_words : Answer Shot → List ℕ
fired_words = said_words shot_words
