-- What a call's contract says of its answer is what the caller in C is told.
use mathlib.Core.Path.{◌≡◌, refl, sym, ◌∙◌, ap, ap₂, subst}
use mathlib.Core.Option.{some}
use mathlib.Core.Bool.{Bool}
use mathlib.Core.List.{List}
use Prim.Native.Nat.{ℕ}
use lib.IntN.{ℤ}
use lib.ListN.{length}
use native.Mathlib.Omega.{arith}
use Rattle.std.specs.Prelude.{Result, Ok, Err}
use Rattle.answer.specs.Told.{Answer, answered, refused, as_refused, says, says_checked, told, Step, moved, stable, Shot}
use Rattle.answer.proofs.SaysFixes.{tells}
use Rattle.answer.specs.declared.Refusal.{Refusal}
use Rattle.answer.specs.Limits.{no_state}
use Rattle.answer.specs.declared.Outcome.{Outcome}
use Rattle.answer.specs.declared.Outcome.TheVariants.{Moved, Stable}
use Rattle.answer.specs.declared.State.{State}
use Rattle.answer.specs.declared.Stepped.{Stepped}
use Rattle.answer.specs.declared.Settled.{Settled}
use Rattle.answer.specs.declared.Timed.{Timed}
use Rattle.answer.specs.declared.Simulated.{Simulated}
use Rattle.iosa.specs.Start.{Beginning}
use Rattle.iosa.specs.Stepped.{Stepping}
use Rattle.iosa.specs.Orders.{Settling}
use Rattle.iosa.specs.TimedExactly.{Timing}
use Rattle.firing.specs.Shots.{TimingAnswers}
use Rattle.settling.specs.Gives.{StepAnswers, SettleAnswers}
use Rattle.outset.specs.declared.Outset.{Outset}
use Rattle.outset.specs.Start.{StartLeaves}
use Rattle.panel.specs.Advance.{AdvanceCall, AdvancedCall, outcome_of, moved_to, state_after}
use Rattle.panel.proofs.AsStep.{state-stays-where-stable}
use Rattle.panel.proofs.Lengths.{step-keeps-length}
use Rattle.run.specs.Calls.{step_on}
use Rattle.words.specs.Bytes.{state_of, laid_over, bytes_over, moved_over, places_in}
use Rattle.words.proofs.Laid.{laid-own, laid-with}
use Rattle.words.specs.Words.{says_step, says_settling, steps_in, resets_in, says_shot}
use Rattle.words.specs.Words.{started_words, stepped_words, settled_words, fired_words, written_words}
use Rattle.after.specs.Calls.{AfterAnswers}
use Rattle.simulation.specs.Call.{Simulating, SimulationAnswers}
use Rattle.floodneedle.specs.Told.{StartTold, StepTold, AdvanceTold, bytes_moved, bytes_after, SettlingTold, AfterTold, TimingTold, SimulationTold}

-- ---- where a system begins
module _ (v : Answer Beginning) (r : Result Outset Refusal) (g : StartLeaves r v) (b w : List ℕ) where
  pub begun-told : (o : Outset) → r ≡ Ok o → b ≡ o.state.parts
      → ((a : Answer (Unit {0})) → says_checked (Ok tt) ≡ some a → w ≡ started_words a o.state.count o.started) → StartTold v b w
  unfolding says_checked state_of
  begun-told o is e h = go v (subst (λ (q : Result Outset Refusal). StartLeaves q v) is g)
    where
      go : (v : Answer Beginning) → StartLeaves (Ok o) v → StartTold v b w
      go (answered d) l =
          record {
            words = h (answered tt) refl ∙ ap₂ (started_words (answered tt)) (ap (λ (y : State). y.count) l.state) l.started;
            state = e ∙ ap (λ (y : State). y.parts) l.state;
          }
      go (refused f) l = absurd l

  pub not-begun-told : (q : Refusal) → r ≡ Err q → b ≡ no_state.parts
      → ((a : Answer (Unit {0})) → says_checked (Err q) ≡ some a → w ≡ started_words a 0 0) → StartTold v b w
  unfolding says_checked
  not-begun-told q is e h = go v (subst (λ (p : Result Outset Refusal). StartLeaves p v) is g)
    where
      go : (v : Answer Beginning) → StartLeaves (Err q) v → StartTold v b w
      go (answered d) l = absurd l
      go (refused f) l = record { words = h (refused f) (ap as_refused l); state = e }

-- ---- steps
pub step-told : (v : Answer Stepping) (x : State) (r : Result Stepped Refusal) (b w : List ℕ) → StepAnswers v x r → b ≡ places_in (λ p. p.state) r
    → ((a : Answer Step) → says_step r ≡ some a → w ≡ stepped_words a) → StepTold v x b w
step-told (answered v) x (Ok p) b w g e h =
    record { words = h (answered v.step) (ap (λ s. some (answered s)) g.outcome); state = e ∙ ap (λ s. s.parts) g.state }
step-told (answered v) x (Err q) b w g e h = absurd g
step-told (refused t) x (Ok p) b w g e h = absurd g
step-told (refused t) x (Err q) b w g e h = record { words = h (refused t) (ap as_refused g); state = e }

-- ---- a state that was lent: its bytes are those of the state that the call leaves
laid : (old : List ℕ) (w : Step) (ps : List ℕ) → length ps ≡ length old → laid_over (moved_to (state_of old) w ps).parts old ≡ bytes_moved old w ps
laid old (moved a r) ps e = laid-with old ps e
laid old stable ps e = laid-own old

after-bytes : (t old : List ℕ) (v : Answer Stepping) → step_on t (state_of old) ≡ v → laid_over (state_after (state_of old) v).parts old ≡ bytes_after old v
unfolding state_of
after-bytes t old (answered v) e = laid old v.step v.state (step-keeps-length t (state_of old) v e)
after-bytes t old (refused f) e = laid-own old

-- where nothing moves, the state that the call leaves is the one that the bytes made: storing it would change nothing
stored-over : (t old : List ℕ) (y : State) (o : Outcome) → AdvanceCall t (state_of old) y (Ok o) → bytes_over o y.parts old ≡ laid_over y.parts old
stored-over t old y (Moved a r) g = refl
stored-over t old y Stable g =
    sym (ap (λ (s : State). laid_over s.parts old) (state-stays-where-stable t (state_of old) y (Ok Stable) g refl) ∙ laid-own old)

-- a refusal leaves the bytes
left-alone : (old : List ℕ) (v : Answer Stepping) (q : Refusal) → as_refused (told q) ≡ some (outcome_of v) → old ≡ bytes_after old v
left-alone old (answered v) q e =
    let k = tells q (answered v.step) e in
    let n : ◌≡◌ {A = Answer Step} (answered v.step) (refused k.0) = k.2 in
    let z : ◌≡◌ {A = ℕ} 0 1 = cc in absurd (omega arith)
left-alone old (refused f) q e = refl

bytes-told : (t old : List ℕ) (r : Result Stepped Refusal) → AdvancedCall t (state_of old) r → moved_over r old ≡ bytes_after old (step_on t (state_of old))
bytes-told t old (Ok p) g =
    stored-over t old p.state p.outcome (record { outcome = g.outcome; state = g.state p refl })
    ∙ ap (λ (s : State). laid_over s.parts old) (g.state p refl) ∙ after-bytes t old (step_on t (state_of old)) refl
bytes-told t old (Err q) g = left-alone old (step_on t (state_of old)) q g.outcome

pub advance-told : (t old : List ℕ) (r : Result Stepped Refusal) (new w : List ℕ) → AdvancedCall t (state_of old) r → new ≡ moved_over r old
    → ((a : Answer Step) → says_step r ≡ some a → w ≡ stepped_words a) → AdvanceTold (step_on t (state_of old)) old new w
advance-told t old r new w g e h = record { words = h (outcome_of (step_on t (state_of old))) g.outcome; state = e ∙ bytes-told t old r g }

pub settling-told : (v : Answer (Settling (List ℕ))) (x : State) (r : Result Settled Refusal) (b w : List ℕ) → SettleAnswers v x r
    → b ≡ places_in (λ p. p.state) r → ((a : Answer Bool) → says_settling r ≡ some a → w ≡ settled_words a (steps_in r) (resets_in r))
    → SettlingTold v x b w
settling-told (answered d) x (Ok p) b w g e h =
    record {
      words = h (answered d.stable) (ap (λ s. some (answered s)) g.verdict) ∙ ap₂ (settled_words (answered d.stable)) g.steps g.resets;
      state = e ∙ ap (λ s. s.parts) g.state;
    }
settling-told (answered d) x (Err q) b w g e h = absurd g
settling-told (refused t) x (Ok p) b w g e h = absurd g
settling-told (refused t) x (Err q) b w g e h = record { words = h (refused t) (ap as_refused g); state = e }

pub after-told : (v : Answer (Settling (List ℕ))) (r : Result Settled Refusal) (b w : List ℕ) → AfterAnswers v r
    → b ≡ places_in (λ p. p.state) r → ((a : Answer Bool) → says_settling r ≡ some a → w ≡ settled_words a (steps_in r) (resets_in r))
    → AfterTold v b w
after-told (answered d) (Ok p) b w g e h =
    record {
      words = h (answered d.stable) (ap (λ s. some (answered s)) g.verdict) ∙ ap₂ (settled_words (answered d.stable)) g.steps g.resets;
      state = e ∙ ap (λ (s : State). s.parts) g.state;
    }
after-told (answered d) (Err q) b w g e h = absurd g
after-told (refused t) (Ok p) b w g e h = absurd g
after-told (refused t) (Err q) b w g e h = record { words = h (refused t) (ap as_refused g); state = e }

pub timing-told : (v : Answer Timing) (x : State) (was : List ℤ) (r : Result Timed Refusal) (vs : List ℤ) (b w : List ℕ) → TimingAnswers v x was r vs
    → b ≡ places_in (λ p. p.state) r → ((a : Answer Shot) → says_shot r ≡ some a → w ≡ fired_words a) → TimingTold v x was vs b w
timing-told (answered d) x was (Ok p) vs b w g e h =
    record { words = h (answered d.shot) (ap (λ s. some (answered s)) g.firing); state = e ∙ ap (λ s. s.parts) g.state; values = g.values }
timing-told (answered d) x was (Err q) vs b w g e h = absurd g
timing-told (refused t) x was (Ok p) vs b w g e h = absurd g.told
timing-told (refused t) x was (Err q) vs b w g e h = record { words = h (refused t) (ap as_refused g.told); state = e; values = g.values }

pub simulation-told : (v : Answer Simulating) (was : List ℤ) (r : Result Simulated Refusal) (vs : List ℤ) (b w : List ℕ) → SimulationAnswers v was r vs
    → b ≡ places_in (λ p. p.state) r → ((a : Answer ℕ) → says (λ p. p.rounds) r ≡ some a → w ≡ written_words a) → SimulationTold v was vs b w
simulation-told (answered d) was (Ok p) vs b w g e h =
    record { words = h (answered d.rounds) (ap (λ n. some (answered n)) g.rounds); state = e ∙ ap (λ (s : State). s.parts) g.state; values = g.values }
simulation-told (answered d) was (Err q) vs b w g e h = absurd g
simulation-told (refused t) was (Ok p) vs b w g e h = absurd g.told
simulation-told (refused t) was (Err q) vs b w g e h = record { words = h (refused t) (ap as_refused g.told); state = e; values = g.values }
