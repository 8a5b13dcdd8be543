-- Repairable fault trees (000, sections 5.4 and 5.5) of basic elements, AND, OR, PAND and repair boxes: signals, and their numbers.
use Rattle.std.proofs.Math.Option.{Option, none, some}
use Rattle.std.specs.Prelude.{Bool, true, false, ◌&&◌, ◌||◌, cond, List, [], ◌∷◌, ◌++◌, map, ℕ, zero, suc, ◌+◌, eqb}

-- `be`, `and`, `or`, `pand`, `rbox`
pub data Sort : Type 0 where
  be-sort and-sort or-sort pand-sort rbox-sort : Sort

pub record Element : Type 0 where
  pub sort : Sort
  pub number : ℕ
  pub ins : List ℕ

-- the lines, whose numbers ascend
abbrev pub Tree : Type 0
Tree = List Element

abbrev pub is_be : Sort → Bool
is_be be-sort = true
is_be and-sort = false
is_be or-sort = false
is_be pand-sort = false
is_be rbox-sort = false

abbrev pub is_box : Sort → Bool
is_box be-sort = false
is_box and-sort = false
is_box or-sort = false
is_box pand-sort = false
is_box rbox-sort = true

unfoldable pub among : ℕ → List ℕ → Bool
among v [] = false
among v (x ∷ xs) = eqb v x || among v xs

-- how many of the lines are basic elements
unfoldable pub bes : List Element → ℕ
bes [] = 0
bes (e ∷ es) = cond (is_be e.sort) 1 0 + bes es

-- v is in a box
unfoldable pub boxed : Tree → ℕ → Bool
boxed [] v = false
boxed (e ∷ es) v = (is_box e.sort && among v e.ins) || boxed es v

-- the signals of Definition 5.3: failure and repair by the clock, failure and repair told, start of repair
pub data Signal : Type 0 where
  fl up f u r : Signal

pub record Meaning : Type 0 where
  pub of : ℕ
  pub signal : Signal

-- in the order of their numbers; "a `be` in no box has no `r`"
abbrev pub signals_of : Sort → Bool → List Signal
signals_of be-sort true = fl ∷ up ∷ f ∷ u ∷ r ∷ []
signals_of be-sort false = fl ∷ up ∷ f ∷ u ∷ []
signals_of and-sort b = f ∷ u ∷ []
signals_of or-sort b = f ∷ u ∷ []
signals_of pand-sort b = f ∷ u ∷ []
signals_of rbox-sort b = []

abbrev pub meant : ℕ → List Signal → List Meaning
meant v [] = []
meant v (s ∷ ss) = record { of = v; signal = s } ∷ meant v ss

unfoldable pub meanings_from : Tree → List Element → List Meaning
meanings_from t [] = []
meanings_from t (e ∷ es) = meant e.number (signals_of e.sort (boxed t e.number)) ++ meanings_from t es

-- the rule of the numbers: an action's number is the place of its signal here
unfoldable pub meanings : Tree → List Meaning
meanings t = meanings_from t t

unfoldable pub at : {A : Type 0} → List A → ℕ → Option A
at [] n = none
at (x ∷ xs) zero = some x
at (x ∷ xs) (suc n) = at xs n

unfoldable pub meaning_of : Tree → ℕ → Option Meaning
meaning_of t a = at (meanings t) a
