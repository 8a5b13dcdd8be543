-- `words::settled_words` meets its contract: each arm lays out what its own case says.
use mathlib.Core.Path.{◌≡◌, sym, ◌∙◌, ap}
use mathlib.Core.Bool.{true, false}
use mathlib.Core.List.{List}
use mathlib.Core.Option.{some}
use Prim.Native.Nat.{ℕ}
use Rattle.std.specs.Prelude.{Bool, Result, Ok, Err}
use Rattle.answer.specs.declared.Refusal.{Refusal}
use Rattle.answer.specs.declared.Settled.{Settled}
use Rattle.answer.specs.Told.{Answer, stable_said}
use Rattle.words.specs.Words.{settled_words, verdict_words, refusal_words, says_settling, steps_in, resets_in}
use Rattle.words.proofs.Tells.{refused_says, value-says}
use Rattle.words.proofs.settled_words.Goals as goal

-- the words of a settling whose verdict is known
settled : {w : List ℕ} (r : Result Settled Refusal) (p : Settled) (b : Bool) → r ≡ Ok p → stable_said p.verdict ≡ b
    → w ≡ verdict_words p.steps p.resets b → (a : Answer Bool) → says_settling r ≡ some a → w ≡ settled_words a (steps_in r) (resets_in r)
unfolding settled_words
settled r p b is v k a e =
    rw is
    (k ∙ ap (verdict_words p.steps p.resets) (sym v) ∙ value-says (verdict_words p.steps p.resets) (stable_said p.verdict) a (sym (ap says_settling is) ∙ e))

pub returns-in-Stable : goal.returns-in-Stable
returns-in-Stable c = settled c.args.r.now c.in-Ok.s true c.in-Ok.is (ap stable_said c.in-Stable.is) c.given.ensures

pub returns-in-Unsettled : goal.returns-in-Unsettled
returns-in-Unsettled c = settled c.args.r.now c.in-Ok.s false c.in-Ok.is (ap stable_said c.in-Unsettled.is) c.given-in-Unsettled.ensures

-- a refusal tells neither steps nor clocks
none-done : {w : List ℕ} (r : Result Settled Refusal) (q : Refusal) → r ≡ Err q → w ≡ refusal_words q → (a : Answer Bool) → says_settling r ≡ some a
    → w ≡ settled_words a (steps_in r) (resets_in r)
unfolding settled_words
none-done r q is k a e = rw is (k ∙ refused_says (verdict_words 0 0) q a (sym (ap says_settling is) ∙ e))

pub returns-in-Err : goal.returns-in-Err
returns-in-Err c = none-done c.args.r.now c.in-Err.f c.in-Err.is c.refusal_words.ensures
