-- What is printed, by the ways in which reading and simulating go.
use mathlib.Core.Path.{◌≡◌, refl, sym, ◌∙◌, ap, subst}
use mathlib.Core.Option.{some}
use mathlib.Core.List.{List, ◌∷◌}
use Prim.Native.Nat.{ℕ, ◌+◌, ◌≤◌}
use native.Mathlib.Omega.{arith}
use lib.IntN.{ℤ}
use lib.ListN.{length}
use Rattle.answer.specs.Limits.{max_components}
use Rattle.answer.specs.Told.{Told, told, Answer, answered, refused}
use Rattle.answer.specs.State.{parts_of}
use Rattle.answer.proofs.StateLaws.{parts-length}
use Rattle.std.specs.Prelude.{Result, Ok, Err}
use Rattle.answer.specs.declared.Refusal.{Refusal}
use Rattle.answer.specs.declared.Simulated.{Simulated}
use Rattle.answer.specs.declared.State.{State}
use Rattle.words.specs.Bytes.{state_of}
use Rattle.words.proofs.Laid.{state-numbers}
use Rattle.model.specs.Model.{Model, declared}
use Rattle.model.specs.Reading.{read_of}
use Rattle.iosa.proofs.Settling.Parts.{within-length}
use Rattle.answering.specs.Report.{refused_line}
use Rattle.layout.specs.Image.{Image, model_of}
use Rattle.table.proofs.OnTableLaws.{on-image}
use Rattle.table.proofs.ImageExactly.{image-exactly}
use Rattle.simulation.specs.Simulate.{no_values}
use Rattle.simulation.specs.Samples.{recorded}
use Rattle.simulation.specs.Call.{Simulating, simulate_text, SimulationAnswers}
use Rattle.simulation.proofs.Agree.{after-within}
use Rattle.simulate.specs.Simulate.{SimulateCall}
use Rattle.simulate.proofs.Rounds.{simulate-ends-as-any}
use Rattle.print.specs.Put.{Put}
use Rattle.steplines.specs.Run.{most_bytes}
use Rattle.printout.specs.Printed.{Printed}
use Rattle.printout.proofs.Printing.{as-printed}
use Rattle.roundlines.specs.Lines.{ended_text}
use Rattle.simulator.specs.Simulated.{ends_text, simulated_text}
use Rattle.simulator.proofs.Widths.{ended-most}

pub read-refused : (input samples : List ℕ) (n : ℕ) (t : Told) → read_of input ≡ refused t → simulated_text input samples n ≡ refused_line t
unfolding simulated_text
read-refused input samples n t e = rw (e, simulated_text)

pub read-fine : (input samples : List ℕ) (n : ℕ) (m : Model) → read_of input ≡ answered m → simulated_text input samples n ≡ ends_text m samples n
unfolding simulated_text
read-fine input samples n m e = rw (e, simulated_text)

-- ---- the call on a table, with 64 values that are 0
module _ (t samples : List ℕ) (n : ℕ) (vs : List ℤ) (im : Image t) where
  answers : (r : Result Simulated Refusal) → SimulateCall t samples n no_values r vs
      → SimulationAnswers (simulate_text (model_of t) samples n no_values) no_values r vs
  answers r call = subst (λ a. SimulationAnswers a no_values r vs) (on-image t (λ m. simulate_text m samples n no_values) ((image-exactly t).1 im)) call

  pub ends-refused : (f : Refusal) → SimulateCall t samples n no_values (Err f) vs
      → (u : Told) × (told f ≡ some u) × (ends_text (model_of t) samples n ≡ refused_line u)
  unfolding ends_text
  ends-refused f call = go (simulate_text (model_of t) samples n no_values) refl (answers (Err f) call)
    where
      go : (a : Answer Simulating) → simulate_text (model_of t) samples n no_values ≡ a → SimulationAnswers a no_values (Err f) vs
          → (u : Told) × (told f ≡ some u) × (ends_text (model_of t) samples n ≡ refused_line u)
      go (answered d) q l = absurd l
      go (refused u) q l = (u, l.told, rw (q, ends_text) refl)

  module _ (p : Simulated) (call : SimulateCall t samples n no_values (Ok p) vs) where
    pub ends-few : p.state.count ≤ max_components
    unfolding state_of
    ends-few =
        let q = simulate-ends-as-any t samples n no_values vs p call in
        let w = after-within q.first q.others (recorded q.lists) q.after in
        let c : p.state.count ≡ length q.last.state = ap (λ (x : State). x.count) q.state in
        omega (arith, c, within-length (q.first ∷ q.others) q.last.state w, q.holds.well.components)

    pub ends-done : ends_text (model_of t) samples n ≡ ended_text p.rounds (parts_of p.state) (declared (model_of t)) vs
    unfolding ends_text state_of
    ends-done = go (simulate_text (model_of t) samples n no_values) refl (answers (Ok p) call)
      where
        go : (a : Answer Simulating) → simulate_text (model_of t) samples n no_values ≡ a → SimulationAnswers a no_values (Ok p) vs
            → ends_text (model_of t) samples n ≡ ended_text p.rounds (parts_of p.state) (declared (model_of t)) vs
        go (refused f) q l = absurd l.told
        go (answered d) q l =
            let rounds : d.rounds ≡ p.rounds = sym l.rounds in
            let c : p.state.count ≡ length d.state = ap (λ (x : State). x.count) l.state in
            let state : d.state ≡ parts_of p.state = sym (ap parts_of l.state ∙ state-numbers d.state (omega (arith, c, ends-few))) in
            rw (q, ends_text, rounds, state, l.values) refl

    -- what is printed of it has room
    pub ends-room : (d : ℕ) (old : List ℕ) → most_bytes ≤ length old → 0 + length (ended_text p.rounds (parts_of p.state) d vs) ≤ length old
    ends-room d old room = omega (arith, room, ended-most p.rounds (parts_of p.state) d vs (omega (arith, parts-length p.state, ends-few)))

    pub ends-put : (d : ℕ) → d ≡ declared (model_of t) → (old new : List ℕ) (j : ℕ) → most_bytes ≤ length old
        → Put old 0 (ended_text p.rounds (parts_of p.state) d vs) new j → Printed (ends_text (model_of t) samples n) old new j
    ends-put d q old new j room w =
        as-printed (ap (λ y. ended_text p.rounds (parts_of p.state) y vs) q ∙ sym ends-done) (record { put = w; room = omega (arith, ends-room d old room) })
