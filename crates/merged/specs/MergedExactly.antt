-- What it is for a merged component to be the product of two (01, "Composition").
use Rattle.std.specs.Prelude.{◌≡◌, ◌↔◌, List, [], ◌∷◌, ◌++◌, ℕ, suc, ◌*◌, ◌≤◌, ◌<◌, length, get_or, take, drop}
use Rattle.answer.specs.Limits.{max_states, max_rows, max_bytes}
use Rattle.answer.specs.Told.{tell, Answer, answered, refused}
use Rattle.model.specs.Model.{Comp, Model, comp_at, inputs, outputs, urgents, row_count}
use Rattle.model.specs.Text.{text_of}
use Rattle.model.specs.WellFormed.{WellFormed}
use Rattle.iosa.specs.Automaton.{Leads, auto_of, Reachable}
use Rattle.iosa.specs.Product.{Joint, ◌⊗◌}
use Rattle.merged.specs.Merge.{merged, merged_at}
use Rattle.merged.specs.MergedAs.{pair_of}

-- from x to y: x and y number pairs of states, and by R1, R2 or R3 the first pair goes to the second
pub record PairRow (c d : Comp) (x C a R y : ℕ) : Type 0 where
  pub s : ℕ
  pub t : ℕ
  pub s' : ℕ
  pub t' : ℕ
  pub s-below : s < c.states
  pub t-below : t < d.states
  pub s'-below : s' < c.states
  pub t'-below : t' < d.states
  pub from : x ≡ pair_of d s t
  pub target : y ≡ pair_of d s' t'
  pub joint : Joint (auto_of c) (auto_of d) a s t C R s' t'

-- the merged component has the product's states, start, actions, clocks and rows, and no others
pub record MergedExactly (c d : Comp) : Type 0 where
  pub states : (merged c d).states ≡ c.states * d.states
  pub start : (merged c d).start ≡ pair_of d c.start d.start
  pub ins : inputs (merged c d) ≡ (auto_of c ⊗ auto_of d).inputs
  pub outs : outputs (merged c d) ≡ (auto_of c ⊗ auto_of d).outputs
  pub urgent : urgents (merged c d) ≡ (auto_of c ⊗ auto_of d).urgent
  pub clocks : (merged c d).clocks ≡ (auto_of c ⊗ auto_of d).clocks
  pub started : (merged c d).started ≡ (auto_of c ⊗ auto_of d).started
  -- "unreachable pairs included"
  pub rows : (s t s' t' C a R : ℕ) → s < c.states → t < d.states → s' < c.states → t' < d.states
      → Leads (merged c d) (pair_of d s t) C a R (pair_of d s' t') ↔ Joint (auto_of c) (auto_of d) a s t C R s' t'
  pub pairs : (x C a R y : ℕ) → Leads (merged c d) x C a R y → PairRow c d x C a R y

-- n is m after "Merging replaces components i and i+1 by their product": the others as they were, in order, and a model that a text can state
pub record MergedModel (m : Model) (i : ℕ) (n : Model) : Type 0 where
  pub neighbour : suc i < length m
  pub fewer : suc (length n) ≡ length m
  pub before : (k : ℕ) → k < i → comp_at n k ≡ comp_at m k
  pub here : comp_at n i ≡ merged (comp_at m i) (comp_at m (suc i))
  pub after : (k : ℕ) → i < k → comp_at n k ≡ comp_at m (suc k)
  pub exact : MergedExactly (comp_at m i) (comp_at m (suc i))
  pub well-formed : WellFormed n

-- not "over 64 states, 1,024 rows or 32,768 bytes"; 128 states since request 12
pub record FitsIn (m : Model) (i : ℕ) : Type 0 where
  pub states : (comp_at m i).states * (comp_at m (suc i)).states ≤ max_states
  pub rows : row_count (merged_at m i) ≤ max_rows
  pub bytes : length (text_of (merged_at m i)) ≤ max_bytes

-- the answers for an accepted model and a buffer with room, each with what it is given for
pub data MergeAnswer (m : Model) (i : ℕ) : Answer Model → Type 0 where
  no-neighbour : (suc i < length m → ⊥) → MergeAnswer m i (refused (tell 25 (0 ∷ [])))
  too_large : suc i < length m → (FitsIn m i → ⊥) → MergeAnswer m i (refused (tell 26 (0 ∷ [])))
  small-enough : suc i < length m → FitsIn m i → MergeAnswer m i (answered (merged_at m i))

-- a composed state of m as one of the merged model: the two numbers at i and i+1 as the number of their pair
abbrev pub paired_at : Model → ℕ → List ℕ → List ℕ
paired_at m i s = take i s ++ pair_of (comp_at m (suc i)) (get_or s i 0) (get_or s (suc i) 0) ∷ drop (suc (suc i)) s

-- x numbers a pair that the product of c and d reaches
pub record ReachedPair (c d : Comp) (x : ℕ) : Type 0 where
  pub s : ℕ
  pub t : ℕ
  pub s-below : s < c.states
  pub t-below : t < d.states
  pub pair : x ≡ pair_of d s t
  pub reached : Reachable (auto_of c ⊗ auto_of d) (s, t)
