-- Simulations with free choice are not empty: M of paper 01 has one, of one later round, over the lists of a text; and a system that check 18 refuses and
-- the new test lets through has one of two. Every hypothesis is computed.
use mathlib.Core.Path.{◌≡◌, refl}
use mathlib.Core.Option.{none, some}
use mathlib.Core.List.{List, [], ◌∷◌}
use Prim.Native.Nat.{ℕ}
use lib.ListN.{replicate}
use lib.IntN.{pos}
use Rattle.answer.specs.Told.{tell, answered}
use Rattle.model.specs.Model.{Row, Comp}
use Rattle.model.specs.WellFormed.{WellFormed}
use Rattle.iosa.specs.Checks.{confluent_of}
use Rattle.model.specs.Reading.{read_of}
use Rattle.answering.specs.Examples.{M, bytes_of}
use Rattle.iosa.proofs.Acceptance.Accepted.{accepted-exactly}
use Rattle.model.proofs.Reading.ReadOfText.{read-exactly}
use Rattle.answering.proofs.Witness.Settling.{M₀, M₁, M-is-read}
use Rattle.triggering.specs.Test.{entry_of}
use Rattle.walkable.proofs.Orderly.{entry-exactly}
use Rattle.simulation.specs.Simulate.{Supply, Round, Simulation, simulate_of}
use Rattle.simulation.specs.Samples.{recorded, SamplesAnswer}
use Rattle.simulation.specs.Free.{After, Simulates, is-done}
use Rattle.simulation.specs.Examples.{reply, line_refused, turns}
use Rattle.simulation.proofs.Answers.{recorded-fair}
use Rattle.simulation.proofs.Counts.{Reaches, reached-states-count}
use Rattle.simulation.proofs.Ours.{simulates-exactly}
use Rattle.simulation.proofs.ReadExactly.{samples-read-exactly}

-- a row: from, guard, action, resets, target
abbrev row : ℕ → ℕ → ℕ → ℕ → ℕ → Row
row f g a r t = record { from = f; guard = g; action = a; resets = r; target = t }

-- what is computed is the end of a simulation with free choice
computed : (c : Comp) (cs : List Comp) → WellFormed (c ∷ cs) → entry_of (c ∷ cs) ≡ none → {d : ℕ} {t : List ℕ} {ls : List (List ℕ)}
    → SamplesAnswer d t (answered ls) → (n : ℕ) (z : Simulation) → simulate_of (c ∷ cs) (recorded ls) n ≡ answered z
    → After c cs (recorded ls) z.rounds z.last
computed c cs well e {ls = ls} s n z h =
    let ok = (entry-exactly (c ∷ cs) well).0 e in
    let acc = (accepted-exactly (c ∷ cs) well).1 (ok.conforms, ok.joins) in
    let count = reached-states-count c cs well ok in
    the_last ((simulates-exactly c cs well acc (Reaches c cs) count (recorded ls) (recorded-fair s) n (answered z)).0 h)
  where
    the_last : {p : Supply} {d : Simulation} → Simulates c cs p n (answered d) → After c cs p d.rounds d.last
    the_last (is-done h l w) = h

-- ---- M
M-well : WellFormed (M₀ ∷ M₁ ∷ [])
M-well = ((read-exactly (bytes_of M) (M₀ ∷ M₁ ∷ [])).0 M-is-read).0

M-enters : entry_of (M₀ ∷ M₁ ∷ []) ≡ none
unfolding reply M₀ M₁
M-enters = refl

-- clock 0 has two samples
unfoldable pub two_samples : List (List ℕ)
two_samples = (5 ∷ 7 ∷ []) ∷ replicate 63 []

text-of-two : SamplesAnswer 1 (bytes_of "0\t5\t7\n") (answered two_samples)
unfolding line_refused two_samples
text-of-two = (samples-read-exactly 1 (bytes_of "0\t5\t7\n") (answered two_samples)).0 refl

-- what round 1 ends with
unfoldable pub end_of_one : Round
end_of_one = record { state = 0 ∷ 2 ∷ []; values = pos 7 ∷ replicate 63 (pos 0); taken = 2 ∷ replicate 63 0 }

one-round : simulate_of (M₀ ∷ M₁ ∷ []) (recorded two_samples) 1 ≡ answered (record { rounds = 1; last = end_of_one })
unfolding reply M₀ M₁ two_samples end_of_one
one-round = refl

pub a-simulation-of-M : After M₀ (M₁ ∷ []) (recorded two_samples) 1 end_of_one
a-simulation-of-M = computed M₀ (M₁ ∷ []) M-well M-enters text-of-two 1 (record { rounds = 1; last = end_of_one }) one-round

-- ---- a source that says 1 and 2 in turn, and a listener
unfoldable pub T₀ : Comp
T₀ =
    let rows = row 0 1 0 0 1 ∷ row 1 0 1 1 2 ∷ row 2 1 0 0 3 ∷ row 3 0 2 1 0 ∷ [] in
    record { states = 4; start = 0; ins = 0; outs = 1; uins = 0; uouts = 6; clocks = 1; started = 1; rows = rows }

unfoldable pub T₁ : Comp
T₁ =
    let rows = row 0 0 1 0 1 ∷ row 0 0 2 0 2 ∷ row 1 0 1 0 1 ∷ row 1 0 2 0 1 ∷ row 2 0 1 0 2 ∷ row 2 0 2 0 2 ∷ [] in
    record { states = 3; start = 0; ins = 0; outs = 0; uins = 6; uouts = 0; clocks = 0; started = 0; rows = rows }

turns-are-read : read_of (bytes_of turns) ≡ answered (T₀ ∷ T₁ ∷ [])
unfolding reply T₀ T₁
turns-are-read = refl

turns-well : WellFormed (T₀ ∷ T₁ ∷ [])
turns-well = ((read-exactly (bytes_of turns) (T₀ ∷ T₁ ∷ [])).0 turns-are-read).0

-- check 18 refuses it
pub turns-clash : confluent_of (T₀ ∷ T₁ ∷ []) ≡ some (tell 18 (1 ∷ 0 ∷ 1 ∷ 2 ∷ []))
unfolding reply confluent_of T₀ T₁
turns-clash = refl

turns-enter : entry_of (T₀ ∷ T₁ ∷ []) ≡ none
unfolding reply T₀ T₁
turns-enter = refl

-- clock 0 has three samples
unfoldable pub three_samples : List (List ℕ)
three_samples = (5 ∷ 7 ∷ 9 ∷ []) ∷ replicate 63 []

text-of-three : SamplesAnswer 1 (bytes_of "0\t5\t7\t9\n") (answered three_samples)
unfolding line_refused three_samples
text-of-three = (samples-read-exactly 1 (bytes_of "0\t5\t7\t9\n") (answered three_samples)).0 refl

-- what round 2 ends with
unfoldable pub end_of_two : Round
end_of_two = record { state = 0 ∷ 1 ∷ []; values = pos 9 ∷ replicate 63 (pos 0); taken = 3 ∷ replicate 63 0 }

two-rounds : simulate_of (T₀ ∷ T₁ ∷ []) (recorded three_samples) 2 ≡ answered (record { rounds = 2; last = end_of_two })
unfolding reply T₀ T₁ three_samples end_of_two
two-rounds = refl

pub a-simulation-of-turns : After T₀ (T₁ ∷ []) (recorded three_samples) 2 end_of_two
a-simulation-of-turns = computed T₀ (T₁ ∷ []) turns-well turns-enter text-of-three 2 (record { rounds = 2; last = end_of_two }) two-rounds
