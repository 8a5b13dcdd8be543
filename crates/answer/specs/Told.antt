-- What a refusal tells: its number and the values of its place, as paper 01 prints them ("Refusal numbers").
use Rattle.std.proofs.Math.Option.{Option, none, some}
use Rattle.std.specs.Prelude.{◌≡◌, List, [], ◌∷◌, Bool, true, false, ℕ, get_or, Result, Ok, Err, IsErrAnd}
use Rattle.answer.specs.declared.Place.{Place}
use Rattle.answer.specs.declared.Place.TheVariants.{Whole, Line, Row, Bytes, Index, Clock, Component, Cell, Clash, SharedAction, SharedClock, Spot, Condition, Action}
use Rattle.answer.specs.declared.Refusal.{Refusal}
use Rattle.answer.specs.declared.Outcome.{Outcome}
use Rattle.answer.specs.declared.Outcome.TheVariants as OfOutcome
use Rattle.answer.specs.declared.Verdict.{Verdict}
use Rattle.answer.specs.declared.Verdict.TheVariants as OfVerdict
use Rattle.answer.specs.declared.Firing.{Firing}
use Rattle.answer.specs.declared.Firing.TheVariants as OfFiring

-- a refusal's number and the values of its place
pub record Told : Type 0 where
  pub number : ℕ
  pub place : List ℕ

abbrev pub tell : ℕ → List ℕ → Told
tell n p = record { number = n; place = p }

-- the shapes of place in the table's last column
pub data Shape : Type 0 where
  nowhere whole line row bytes index clock component cell clash shared-action shared-clock spot condition action : Shape
  deriving Discrete as same_shape

-- the shape of place of each number, from 0, which is none, nor have 31 to 39 one; 2, 4 and 5 "carry line and column" since request 2.
-- Of a simulation (02, 4/13): 40 "first bad line, or one past the last", 41 "lowest such clock", 42 "the round".
-- Of a system that is not closed (02, 8/13): 45 "the lowest" action that is an input and nobody's output; of a path: 46 "with its index".
-- Of names (02, 7/13): 43 and 44 "at the line".
-- Of a tree (02, 9/13): 47 "lowest condition broken, as a number", 48 "at 0".
-- Of draws (02, 13/13): 49 and 50 "placed as 40 and 41"
abbrev pub shapes : List Shape
shapes =
    nowhere ∷ whole ∷ spot ∷ line ∷ spot ∷ spot ∷ line ∷ line ∷ whole ∷ whole ∷ row ∷ row ∷ cell ∷ cell ∷ component ∷ shared-action ∷ shared-clock
    ∷ shared-action ∷ clash ∷ component ∷ whole ∷ whole ∷ whole ∷ index ∷ bytes ∷ whole ∷ whole ∷ whole ∷ whole ∷ clock ∷ clock
    ∷ nowhere ∷ nowhere ∷ nowhere ∷ nowhere ∷ nowhere ∷ nowhere ∷ nowhere ∷ nowhere ∷ nowhere ∷ line ∷ clock ∷ index
    ∷ line ∷ line ∷ action ∷ index ∷ condition ∷ whole ∷ line ∷ clock ∷ []

abbrev pub shape_of : ℕ → Shape
shape_of n = get_or shapes n nowhere

-- the shape of a place, and its values in the table's order; the whole is place 0
abbrev pub shape_at : Place → Shape
shape_at Whole = whole
shape_at (Line n) = line
shape_at (Row n) = row
shape_at (Bytes n) = bytes
shape_at (Index n) = index
shape_at (Clock x) = clock
shape_at (Component i) = component
shape_at (Cell i s a) = cell
shape_at (Clash i s a b) = clash
shape_at (SharedAction a i j) = shared-action
shape_at (SharedClock x i j) = shared-clock
shape_at (Spot n k) = spot
shape_at (Condition n) = condition
shape_at (Action a) = action

abbrev pub values_at : Place → List ℕ
values_at Whole = 0 ∷ []
values_at (Line n) = n ∷ []
values_at (Row n) = n ∷ []
values_at (Bytes n) = n ∷ []
values_at (Index n) = n ∷ []
values_at (Clock x) = x ∷ []
values_at (Component i) = i ∷ []
values_at (Cell i s a) = i ∷ s ∷ a ∷ []
values_at (Clash i s a b) = i ∷ s ∷ a ∷ b ∷ []
values_at (SharedAction a i j) = a ∷ i ∷ j ∷ []
values_at (SharedClock x i j) = x ∷ i ∷ j ∷ []
values_at (Spot n k) = n ∷ k ∷ []
values_at (Condition n) = n ∷ []
values_at (Action a) = a ∷ []

-- number and values of a refusal, and nothing where the place's shape is not that number's
unfoldable pub told : Refusal → Option Told
told r = elim (same_shape (shape_of r.number) (shape_at r.place)) [ yes e ↦ some (tell r.number (values_at r.place)) | no n ↦ none ]

-- ---- every kind of answer is a value or what a refusal tells
pub data Answer (A : Type 0) : Type 0 where
  answered : A → Answer A
  refused : Told → Answer A

-- of a call that fills a lent buffer: that it did, or what a refusal tells
abbrev pub done_of : {A : Type 0} → Answer A → Answer (Unit {0})
done_of (answered x) = answered tt
done_of (refused t) = refused t

abbrev pub as_refused : {A : Type 0} → Option Told → Option (Answer A)
as_refused none = none
as_refused (some t) = some (refused t)

-- what a call's result says: its value as f has it, or what its refusal tells
abbrev pub says : {A B : Type 0} → (A → B) → Result A Refusal → Option (Answer B)
says f (Ok x) = some (answered (f x))
says f (Err q) = as_refused (told q)

-- the result of a call that is done or refused, and of one that gives a number: how many bytes
abbrev pub Checked : Type 0
Checked = Result (Unit {0}) Refusal

abbrev pub Written : Type 0
Written = Result ℕ Refusal

unfoldable pub says_checked : Checked → Option (Answer (Unit {0}))
says_checked r = says (λ _. tt) r

unfoldable pub says_written : Written → Option (Answer ℕ)
says_written r = says (λ n. n) r

-- "Each step's outcome is one of moved, stable or refused, carrying action and resets, nothing, or number and place"
pub data Step : Type 0 where
  moved : ℕ → ℕ → Step
  stable : Step

abbrev pub step_said : Outcome → Step
step_said (OfOutcome.Moved a r) = moved a r
step_said OfOutcome.Stable = stable

-- "answers stable or unsettled"
abbrev pub stable_said : Verdict → Bool
stable_said OfVerdict.Stable = true
stable_said OfVerdict.Unsettled = false

-- "The answer gives v, action, resets", or "the answer is quiet"
pub data Shot : Type 0 where
  fired : ℕ → ℕ → ℕ → Shot
  quiet : Shot

abbrev pub shot_said : Firing → Shot
shot_said (OfFiring.Fired v a r) = fired v a r
shot_said OfFiring.Quiet = quiet

-- "A refusal returns its number and place": a result is refused, and with what it tells
abbrev pub RefusedWith : {A : Type 0} → Told → Result A Refusal → Type 0
RefusedWith f r = IsErrAnd r (λ q. told q ≡ some f)
