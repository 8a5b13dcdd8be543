-- The theorem speaks of something: G fails check 18, passes the new test, and so demand 3 holds wherever it gets. Where the theorem stops: N1 and N2.
use mathlib.Core.Path.{◌≡◌, refl}
use mathlib.Core.Bool.{Bool, true, false}
use mathlib.Core.Option.{none, some}
use mathlib.Core.List.{List, [], ◌∷◌}
use Prim.Native.Nat.{ℕ, zero, suc, ◌<◌}
use native.Mathlib.Omega.{arith}
use Rattle.laws.specs.Fold.{all}
use Rattle.laws.specs.Tests.{all_of}
use Rattle.laws.specs.Sets.{◌∈◌}
use Rattle.laws.proofs.SetLaws.{none_in, or-in-r}
use Rattle.answer.specs.Told.{tell, answered}
use Rattle.model.specs.Model.{Row, Comp, Model, comp_at, inputs, outputs}
use Rattle.model.specs.WellFormed.{WellFormed}
use Rattle.iosa.specs.Automaton.{Reachable, Conforming, Joinable}
use Rattle.iosa.specs.Product.{product, state_of, Within}
use Rattle.model.specs.Reading.{read_of}
use Rattle.iosa.specs.Checks.{reach_of, accept_of, confluent_of}
use Rattle.iosa.specs.Settle.{play}
use Rattle.iosa.specs.Orders.{Settling}
use Rattle.merged.specs.Merge.{merged}
use Rattle.iosa.specs.Demand3.{Demand3}
use Rattle.answering.specs.Examples.{bytes_of}
use Rattle.iosa.proofs.Acceptance.Accepted.{accepted-exactly}
use Rattle.iosa.proofs.Settling.WellFormedTest.{well_formed, well_comp, well_row, well-formed}
use Rattle.triggering.specs.Triggering.{Passes, NoOpenInput}
use Rattle.triggering.specs.Test.{passes_of}
use Rattle.triggering.proofs.Passing.{passes-exactly}
use Rattle.triggering.proofs.WhereReached.{demand-3-where-reached}
use Rattle.orderly_examples.specs.Examples.{says, G, N1, N2}

-- a row: from, guard, action, resets, target
abbrev row : ℕ → ℕ → ℕ → ℕ → ℕ → Row
row f g a r t = record { from = f; guard = g; action = a; resets = r; target = t }

-- what a component outputs, hears and outputs urgently; none of them hears a non-urgent action
record Acts : Type 0 where
  outs : ℕ
  uins : ℕ
  uouts : ℕ

abbrev acts : ℕ → ℕ → ℕ → Acts
acts o h u = record { outs = o; uins = h; uouts = u }

-- so many states from 0 on, its actions, its clocks, all set at the start, and its rows
abbrev of : ℕ → Acts → ℕ → List Row → Comp
of n a x rs = record { states = n; start = 0; ins = 0; outs = a.outs; uins = a.uins; uouts = a.uouts; clocks = x; started = x; rows = rs }

-- ---- G
unfoldable pub source : Comp
source =
    of 4 (acts 1 0 6) 1 (row 0 1 0 0 1 ∷ row 1 0 1 1 2 ∷ row 2 1 0 0 3 ∷ row 3 0 2 1 0 ∷ [])

unfoldable pub listener : Comp
listener =
    of 3 (acts 0 6 0) 0 (row 0 0 1 0 1 ∷ row 0 0 2 0 2 ∷ row 1 0 1 0 1 ∷ row 1 0 2 0 1 ∷ row 2 0 1 0 2 ∷ row 2 0 2 0 2 ∷ [])

abbrev both : Model
both = source ∷ listener ∷ []

pub they-are-G : read_of (bytes_of G) ≡ answered both
unfolding says source listener
they-are-G = refl

pub G-is-not-confluent : confluent_of both ≡ some (tell 18 (1 ∷ 0 ∷ 1 ∷ 2 ∷ []))
unfolding says source listener
G-is-not-confluent = refl

G-well : WellFormed both
unfolding says source listener well_formed well_comp well_row all all_of
G-well = well-formed both refl

G-accepted : accept_of both ≡ none
unfolding says source listener
G-accepted = refl

G-computes : passes_of both ≡ true
unfolding says source listener
G-computes = refl

accepted : Conforming both × Joinable both
accepted = (accepted-exactly both G-well).0 G-accepted

pub G-passes : Passes both
G-passes = (passes-exactly both G-well accepted.0 accepted.1).0 G-computes

pub G-is-closed : NoOpenInput both
unfolding source listener
G-is-closed = record { answered = by }
  where
    by : (i : ℕ) → i < 2 → (a : ℕ) → a ∈ inputs (comp_at both i) → (j : ℕ) × (j < 2) × (a ∈ outputs (comp_at both j))
    by zero h a k = absurd (none_in a k)
    by (suc zero) h a k = (0, omega arith, or-in-r 1 6 a k)
    by (suc (suc i)) h a k = absurd (omega arith)

pub G-settles : (s : List ℕ) → Within both s → Reachable (product source (listener ∷ [])) (state_of source (listener ∷ []) s) → Demand3 source (listener ∷ []) s
G-settles s w r = demand-3-where-reached source (listener ∷ []) G-well accepted.0 accepted.1 G-is-closed G-passes s w r

-- ---- where it stops: the parts of the state 0, 1 are reached, the state is not, and two orders from it differ
-- the end of a run: stable or not, one step, resets r, state s
abbrev ended : Bool → ℕ → List ℕ → Settling (List ℕ)
ended b r s = record { stable = b; steps = 1; resets = r; trace = []; state = s }

unfoldable pub silent : Comp
silent = record { states = 1; start = 0; ins = 0; outs = 0; uins = 0; uouts = 32; clocks = 0; started = 0; rows = [] }

unfoldable pub either : Comp
either =
    of 2 (acts 0 32 9) 0 (row 0 0 5 0 1 ∷ row 1 0 0 0 0 ∷ row 1 0 3 0 0 ∷ row 1 0 5 0 1 ∷ [])

-- N1: both stop, and the actions taken differ
pub N1-stops : (read_of (bytes_of N1) ≡ answered (silent ∷ either ∷ []))
    × (reach_of silent 0 ≡ true) × (reach_of either 1 ≡ true) × (reach_of (merged silent either) 1 ≡ false)
    × (play (silent ∷ either ∷ []) 0 (0 ∷ []) (0 ∷ 1 ∷ []) ≡ answered (ended true 0 (0 ∷ 0 ∷ [])))
    × (play (silent ∷ either ∷ []) 0 (3 ∷ []) (0 ∷ 1 ∷ []) ≡ answered (ended true 0 (0 ∷ 0 ∷ [])))
unfolding says silent either
N1-stops = (refl, refl, refl, refl, refl, refl)

unfoldable pub turning : Comp
turning =
    of 2 (acts 0 1 16) 0 (row 0 0 0 0 1 ∷ row 0 0 4 0 0 ∷ row 1 0 0 0 1 ∷ [])

unfoldable pub waiting : Comp
waiting =
    of 2 (acts 8 0 1) 1 (row 0 1 3 0 1 ∷ row 1 0 0 1 0 ∷ [])

-- N2: one stops, the other is back where it was
pub N2-stops : (read_of (bytes_of N2) ≡ answered (turning ∷ waiting ∷ []))
    × (reach_of turning 0 ≡ true) × (reach_of waiting 1 ≡ true) × (reach_of (merged turning waiting) 1 ≡ false)
    × (play (turning ∷ waiting ∷ []) 0 (0 ∷ []) (0 ∷ 1 ∷ []) ≡ answered (ended true 1 (1 ∷ 0 ∷ [])))
    × (play (turning ∷ waiting ∷ []) 0 (4 ∷ []) (0 ∷ 1 ∷ []) ≡ answered (ended false 0 (0 ∷ 1 ∷ [])))
unfolding says turning waiting
N2-stops = (refl, refl, refl, refl, refl, refl)
