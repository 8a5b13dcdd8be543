-- The words fix the answer: two refusals with the same words tell the same, where their places have at most four values, as all have.
use mathlib.Core.Path.{◌≡◌, ap}
use mathlib.Core.List.{List}
use Prim.Native.Nat.{ℕ, zero, suc, ◌≤◌, ◌<◌}
use native.Mathlib.Omega.{arith}
use lib.ListN.{length, get_or}
use lib.Seq.{ext_get_or}
use Rattle.answer.specs.declared.Place.{Place}
use Rattle.answer.specs.declared.Place.TheVariants.{Whole, Line, Row, Bytes, Index, Clock, Component, Cell, Clash, SharedAction, SharedClock, Spot}
use Rattle.answer.specs.declared.Place.TheVariants.{Condition, Action}
use Rattle.answer.specs.Told.{values_at}
use Rattle.words.specs.Words.{told_words}

-- every shape of place has at most four values
pub at-most-four : (p : Place) → length (values_at p) ≤ 4
at-most-four Whole = omega arith
at-most-four (Line n) = omega arith
at-most-four (Row n) = omega arith
at-most-four (Bytes n) = omega arith
at-most-four (Index n) = omega arith
at-most-four (Clock x) = omega arith
at-most-four (Component i) = omega arith
at-most-four (Cell i s a) = omega arith
at-most-four (Clash i s a b) = omega arith
at-most-four (SharedAction a i j) = omega arith
at-most-four (SharedClock x i j) = omega arith
at-most-four (Spot n k) = omega arith
at-most-four (Condition n) = omega arith
at-most-four (Action a) = omega arith

-- the value at a place below four is a word
word_at : (n m : ℕ) (p q : List ℕ) → told_words n p ≡ told_words m q → (k : ℕ) → k < 4 → get_or p k 0 ≡ get_or q k 0
unfolding told_words
word_at n m p q e zero h = ap (λ l. get_or l 3 0) e
word_at n m p q e (suc zero) h = ap (λ l. get_or l 4 0) e
word_at n m p q e (suc (suc zero)) h = ap (λ l. get_or l 5 0) e
word_at n m p q e (suc (suc (suc zero))) h = ap (λ l. get_or l 6 0) e
word_at n m p q e (suc (suc (suc (suc k)))) h = absurd (omega arith)

pub words-fix : (n m : ℕ) (p q : List ℕ) → length p ≤ 4 → told_words n p ≡ told_words m q → (n ≡ m) × (p ≡ q)
unfolding told_words
words-fix n m p q h e = (
  ap (λ l. get_or l 1 0) e,
  ext_get_or 0 p q (ap (λ l. get_or l 2 0) e) (λ k l. word_at n m p q e k (omega arith)),
)
