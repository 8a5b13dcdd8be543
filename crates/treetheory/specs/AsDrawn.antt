-- A tree does what is drawn (000, sections 5.1 and 5.5): what each element stands as in a composed state, one number for each line, and what is promised of it at rest.
-- Words in quotes are those of docs/TREES.md.
use Rattle.std.specs.Prelude.{◌≡◌, ◌≢◌, ◌⊎◌, Bool, true, false, ◌&&◌, ◌||◌, not, cond, ℕ, ◌+◌, ◌%◌, ◌<◌, eqb, length, get_or}
use Rattle.std.proofs.Math.Option.{some}
use mathlib.Core.List.{List, [], ◌∷◌, Memᴰ as In}
use Rattle.laws.specs.Sets.{◌∈◌}
use Rattle.model.specs.Model.{Comp, Model}
use Rattle.iosa.specs.Automaton.{Stable, Reachable}
use Rattle.iosa.specs.Product.{product, state_of, Within, Series}
use Rattle.trees.specs.Tree.{Sort, be-sort, and-sort, or-sort, pand-sort, rbox-sort, Element, Tree, boxed, fl, up, Meaning, meaning_of}
use Rattle.trees.specs.Modules.{tree_model}
use Rattle.trees.specs.TreeFaults.{TextOf}

-- what h says of the line with number v, by its sort and its number in s; d if there is no such line
unfoldable pub look_at : {A : Type 0} → A → (Sort → ℕ → A) → Tree → List ℕ → ℕ → A
look_at d h [] s v = d
look_at d h (e ∷ es) [] v = d
look_at d h (e ∷ es) (x ∷ xs) v = cond (eqb e.number v) (h e.sort x) (look_at d h es xs v)

-- an element of this sort is down in state x: its `broken` is not 0; its `count` is 2, or not 0; its `st` is "failed"
abbrev pub down_in : Sort → ℕ → Bool
down_in be-sort x = not (eqb (x % 3) 0)
down_in and-sort x = eqb (x % 3) 2
down_in or-sort x = not (eqb (x % 3) 0)
down_in pand-sort x = eqb (x % 5) 2
down_in rbox-sort x = false

-- the element with number v is down
unfoldable pub down_at : Tree → List ℕ → ℕ → Bool
down_at t s v = look_at false down_in t s v

-- an element of this sort is being repaired in state x: its `broken` is 2
abbrev pub mending_in : Sort → ℕ → Bool
mending_in be-sort x = eqb (x % 3) 2
mending_in and-sort x = false
mending_in or-sort x = false
mending_in pand-sort x = false
mending_in rbox-sort x = false

-- the element with number v is being repaired
unfoldable pub mending_at : Tree → List ℕ → ℕ → Bool
mending_at t s v = look_at false mending_in t s v

-- the state of the element with number v
unfoldable pub state_at : Tree → List ℕ → ℕ → ℕ
state_at t s v = look_at 0 (λ q x. x) t s v

abbrev pub first_of : Element → ℕ
first_of e = get_or e.ins 0 0

abbrev pub second_of : Element → ℕ
second_of e = get_or e.ins 1 0

abbrev pub one_if : Bool → ℕ
one_if b = cond b 1 0

pub record AtRest (t : Tree) (s : List ℕ) : Type 0 where
  -- `and`: down "while both of its inputs are"
  pub both : (e : Element) → In e t → e.sort ≡ and-sort → down_at t s e.number ≡ (down_at t s (first_of e) && down_at t s (second_of e))
  -- `or`: down "while at least one of its inputs is"
  pub either : (e : Element) → In e t → e.sort ≡ or-sort → down_at t s e.number ≡ (down_at t s (first_of e) || down_at t s (second_of e))
  -- their `count` is how many of their inputs are down
  pub counted : (e : Element) → In e t → (e.sort ≡ and-sort) ⊎ (e.sort ≡ or-sort)
      → state_at t s e.number % 3 ≡ one_if (down_at t s (first_of e)) + one_if (down_at t s (second_of e))
  -- `pand`: down only while its second input is
  pub second : (e : Element) → In e t → e.sort ≡ pand-sort → down_at t s e.number ≡ true → down_at t s (second_of e) ≡ true

-- one instant: from rest, where the system got, a clock ends; then all that follows is told, in any order, until it rests again
pub record Instant (c : Comp) (cs : List Comp) (a : ℕ) (s z : List ℕ) : Type 0 where
  pub from : Within (c ∷ cs) s
  pub reached : Reachable (product c cs) (state_of c cs s)
  pub rested : Stable (product c cs) (state_of c cs s)
  pub calm : a ∈ (product c cs).urgent → ⊥
  pub guard : ℕ
  pub resets : ℕ
  pub middle : (product c cs).State
  pub row : (product c cs).Row (state_of c cs s) guard a resets middle
  pub actions : List ℕ
  pub clocks : ℕ
  pub told : Series (product c cs) middle actions clocks (state_of c cs z)
  pub to : Within (c ∷ cs) z
  pub rests : Stable (product c cs) (state_of c cs z)

-- what it changes, by the signal x that the clock gave
pub record AfterInstant (t : Tree) (x : Meaning) (s z : List ℕ) : Type 0 where
  -- a basic element is down "from when its running time ends until its repair is done"
  pub cause : (x.signal ≡ fl) ⊎ (x.signal ≡ up)
  pub failed : x.signal ≡ fl → down_at t z x.of ≡ true
  pub mended : x.signal ≡ up → down_at t z x.of ≡ false
  -- and only what is being repaired is repaired
  pub repaired : x.signal ≡ up → mending_at t s x.of ≡ true
  pub others : (e : Element) → In e t → e.sort ≡ be-sort → x.of ≢ e.number → down_at t z e.number ≡ down_at t s e.number
  -- `pand`: down "while its second input is, if the first was down already when the second went down, or went down in the same instant"
  pub priority : (e : Element) → In e t → e.sort ≡ pand-sort
      → down_at t z e.number ≡ (down_at t z (second_of e) && (down_at t s e.number || (not (down_at t s (second_of e)) && down_at t z (first_of e))))

-- ---- repair boxes
pub record RepairsAtRest (t : Tree) (s : List ℕ) : Type 0 where
  -- "It repairs one element at a time"
  pub one-repair : (e : Element) → In e t → e.sort ≡ rbox-sort → (v w : ℕ) → In v e.ins → In w e.ins → mending_at t s v ≡ true → mending_at t s w ≡ true
      → v ≡ w
  -- and some one, while any of its list is down
  pub no-idling : (e : Element) → In e t → e.sort ≡ rbox-sort → (v : ℕ) → In v e.ins → down_at t s v ≡ true
      → (w : ℕ) × In w e.ins × (mending_at t s w ≡ true)
  -- "A basic element that is in no box is never repaired"
  pub in-no-box : (e : Element) → In e t → e.sort ≡ be-sort → boxed t e.number ≡ false → mending_at t s e.number ≡ false

pub record RepairsAfter (t : Tree) (s z : List ℕ) : Type 0 where
  -- "It does not break off a repair"
  pub goes_on : (e : Element) → In e t → e.sort ≡ be-sort → mending_at t s e.number ≡ true → down_at t z e.number ≡ true → mending_at t z e.number ≡ true
  -- "it takes the first of its list": none before it is down
  pub takes_first : (e : Element) → In e t → e.sort ≡ rbox-sort → (j k : ℕ) → j < k → k < length e.ins
      → mending_at t s (get_or e.ins k 0) ≡ false → mending_at t z (get_or e.ins k 0) ≡ true → down_at t z (get_or e.ins j 0) ≡ false

-- at rest, in every stable composed state that is reached from the start by steps of which each non-urgent one leaves a stable state;
-- and from one rest to the next
pub record AsDrawn (t : Tree) : Type 0 where
  pub rests : (c : Comp) (cs : List Comp) → tree_model t ≡ c ∷ cs → (s : List ℕ) → Within (c ∷ cs) s → Reachable (product c cs) (state_of c cs s)
      → Stable (product c cs) (state_of c cs s) → AtRest t s
  pub instants : (c : Comp) (cs : List Comp) → tree_model t ≡ c ∷ cs → (a : ℕ) (s z : List ℕ) → Instant c cs a s z
      → (x : Meaning) × (meaning_of t a ≡ some x) × AfterInstant t x s z
  pub repairs : (c : Comp) (cs : List Comp) → tree_model t ≡ c ∷ cs → (s : List ℕ) → Within (c ∷ cs) s → Reachable (product c cs) (state_of c cs s)
      → Stable (product c cs) (state_of c cs s) → RepairsAtRest t s
  pub orders : (c : Comp) (cs : List Comp) → tree_model t ≡ c ∷ cs → (a : ℕ) (s z : List ℕ) → Instant c cs a s z → RepairsAfter t s z

-- the model of a text is that of its tree, and does what is drawn
pub record Drawing (text : List ℕ) (m : Model) : Type 0 where
  pub tree : Tree
  pub printed : TextOf text tree
  pub model : tree_model tree ≡ m
  pub drawn : AsDrawn tree
