-- `words::refusal_words` meets its contract: each arm lays out the values of its own place.
use mathlib.Core.Path.{◌≡◌, sym, ◌∙◌, ap}
use mathlib.Core.List.{List}
use Prim.Native.Nat.{ℕ}
use Rattle.answer.specs.declared.Place.{Place}
use Rattle.answer.specs.declared.Refusal.{Refusal}
use Rattle.answer.specs.Told.{values_at}
use Rattle.words.specs.Words.{told_words, refusal_words}
use Rattle.words.proofs.refusal_words.Goals as goal

-- the words of a refusal whose place is known
known : {w : List ℕ} (r : Refusal) {q : Place} → w ≡ told_words r.number (values_at q) → r.place ≡ q → w ≡ refusal_words r
known r e at = e ∙ sym (ap (λ p. told_words r.number (values_at p)) at)

pub returns-in-Whole : goal.returns-in-Whole
unfolding told_words
returns-in-Whole c = known c.args.r c.told.ensures c.in-Whole.is

pub returns-in-Line : goal.returns-in-Line
unfolding told_words
returns-in-Line c = known c.args.r c.told-in-Line.ensures c.in-Line.is

pub returns-in-Row : goal.returns-in-Row
unfolding told_words
returns-in-Row c = known c.args.r c.told-in-Row.ensures c.in-Row.is

pub returns-in-Bytes : goal.returns-in-Bytes
unfolding told_words
returns-in-Bytes c = known c.args.r c.told-in-Bytes.ensures c.in-Bytes.is

pub returns-in-Index : goal.returns-in-Index
unfolding told_words
returns-in-Index c = known c.args.r c.told-in-Index.ensures c.in-Index.is

pub returns-in-Clock : goal.returns-in-Clock
unfolding told_words
returns-in-Clock c = known c.args.r c.told-in-Clock.ensures c.in-Clock.is

pub returns-in-Component : goal.returns-in-Component
unfolding told_words
returns-in-Component c = known c.args.r c.told-in-Component.ensures c.in-Component.is

pub returns-in-Cell : goal.returns-in-Cell
unfolding told_words
returns-in-Cell c = known c.args.r c.told-in-Cell.ensures c.in-Cell.is

pub returns-in-Clash : goal.returns-in-Clash
unfolding told_words
returns-in-Clash c = known c.args.r c.told-in-Clash.ensures c.in-Clash.is

pub returns-in-SharedAction : goal.returns-in-SharedAction
unfolding told_words
returns-in-SharedAction c = known c.args.r c.told-in-SharedAction.ensures c.in-SharedAction.is

pub returns-in-SharedClock : goal.returns-in-SharedClock
unfolding told_words
returns-in-SharedClock c = known c.args.r c.told-in-SharedClock.ensures c.in-SharedClock.is

pub returns-in-Spot : goal.returns-in-Spot
unfolding told_words
returns-in-Spot c = known c.args.r c.told-in-Spot.ensures c.in-Spot.is

pub returns-in-Condition : goal.returns-in-Condition
unfolding told_words
returns-in-Condition c = known c.args.r c.told-in-Condition.ensures c.in-Condition.is

pub returns-in-Action : goal.returns-in-Action
unfolding told_words
returns-in-Action c = known c.args.r c.told-in-Action.ensures c.in-Action.is
