-- Where the loop that settles stands: the state reached, and the steps done before what is left.
use mathlib.Core.Path.{◌≡◌, refl, sym, ap, ap₂, ◌∙◌}
use mathlib.Core.Bool.{false, not}
use mathlib.Core.List.{List, [], ◌∷◌, ◌++◌, append-nil}
use Prim.Native.Nat.{ℕ, ◌+◌, ◌-◌, ◌%◌, ◌≤◌, ◌<◌}
use native.Mathlib.Omega.{arith}
use native.Mathlib.Nat.{mod-eq_of_lt}
use native.Mathlib.Numerals.{add-one}
use Rattle.std.proofs.Common.{le_of_eq}
use lib.ListN.{length, take, drop, set, length-set, take-append-drop}
use lib.Seq.{take-suc-set, drop-set-lt, drop-drop, length-take-le}
use lib.Bits.{or_zero_r}
use Rattle.laws.specs.Sets.{◌∪◌}
use Rattle.answer.specs.Limits.{max_actions, max_components}
use Rattle.answer.specs.declared.State.{State}
use Rattle.answer.specs.declared.Settled.{Settled}
use Rattle.answer.specs.State.{parts_of, with_parts}
use Rattle.iosa.specs.Automaton.{Conforming, Joinable}
use Rattle.iosa.specs.Step.{urgent_step, is_stable}
use Rattle.iosa.specs.Settle.{resting, settle}
use Rattle.layout.specs.Image.{model_of}
use Rattle.moves.specs.Moves.{reset_all, after_all, moved_all, lowest_all}
use Rattle.settling.specs.Gives.{Ready, EndsAt, SettleGives, TraceHolds, traced}
use Rattle.settling.proofs.Reached.{Reached, reached-first, next-parts, reached-next}
use Rattle.moves.proofs.Lowest.{lowest-here}
use Rattle.settling.proofs.Plus.{plus, plus-nothing, plus_step, settle-ends}

-- k steps of a run from x are done, with these resets, and cur is reached; the trace was old
pub record Runs (t : List ℕ) (budget : ℕ) (x : State) (old : List ℕ) (cur : State) (resets k : ℕ) (trace : List ℕ) : Type 0 where
  pub within : k ≤ budget
  pub reached : Reached t x cur
  pub size : length trace ≡ length old
  pub room : budget ≤ length old
  pub run : plus k resets (take k trace) (settle (urgent_step (model_of t)) (budget - k) (parts_of cur)) ≡ settle (urgent_step (model_of t)) budget (parts_of x)
  pub rest : drop k trace ≡ drop k old

module _ (t : List ℕ) (budget : ℕ) (x : State) (old : List ℕ) where
  pub begin : Ready t x → length x.parts ≡ max_components → budget ≤ length old → Runs t budget x old x 0 0 old
  begin r len room = record {
    within = omega arith;
    reached = reached-first t x r len;
    size = refl;
    room = room;
    run = plus-nothing (settle (urgent_step (model_of t)) (budget - 0) (parts_of x)) ∙ ap (λ n. settle (urgent_step (model_of t)) n (parts_of x)) (omega arith);
    rest = refl;
  }

  module _ (good : Conforming (model_of t)) (fit : Joinable (model_of t)) (cur : State) (resets k : ℕ) (trace : List ℕ)
      (at : Runs t budget x old cur resets k trace)
      (a : ℕ) (e : a ≡ lowest_all (model_of t) (parts_of cur)) where
    byte : a < max_actions → a % 256 ≡ a
    byte h = mod-eq_of_lt (omega arith)

    -- one step more
    pub onward : k < budget → a < max_actions → (next : State) (more all : ℕ) → next ≡ with_parts cur (after_all (model_of t) (parts_of cur) a)
        → more ≡ reset_all (model_of t) (parts_of cur) a
        → all ≡ resets ∪ more → Runs t budget x old next all (k + 1) (set trace k (a % 256))
    onward h low next more all en em ea =
        let m = model_of t in
        let ps = after_all m (parts_of cur) a in
        let new : parts_of next ≡ ps = next-parts t x cur at.reached a next en in
        let inside : k < length trace = omega (arith, at.size, at.room) in
        let s = plus_step (urgent_step m) budget k resets (take k trace) (parts_of cur) (record { action = a; gone = moved_all m (parts_of cur) a }) h
        (lowest-here m good fit (parts_of cur) at.reached.standing.within a e low) in
        record {
          within = omega arith;
          reached = reached-next t x cur at.reached a next en;
          size = length-set trace k (a % 256) ∙ at.size;
          room = at.room;
          run =
              ap₂ (λ r l. plus (k + 1) r l (settle (urgent_step m) (budget - (k + 1)) (parts_of next))) (ea ∙ ap (λ n. resets ∪ n) em)
              (ap (λ n. take n (set trace k (a % 256))) (add-one k) ∙ take-suc-set trace k (a % 256) inside ∙ ap (λ b. take k trace ++ (b ∷ [])) (byte low))
              ∙ ap (λ q. plus (k + 1) (resets ∪ reset_all m (parts_of cur) a) (take k trace ++ (a ∷ [])) (settle (urgent_step m) (budget - (k + 1)) q)) new
              ∙ sym s
              ∙ at.run;
          rest = drop-set-lt (k + 1) trace k (a % 256) (omega arith) ∙ sym (drop-drop 1 k trace) ∙ ap (drop 1) at.rest ∙ drop-drop 1 k old;
        }

-- what the answer and the trace are at the end: no step is left, or the budget is used up
module _ (t : List ℕ) (budget : ℕ) (x : State) (old : List ℕ) (cur : State) (resets k : ℕ) (trace : List ℕ) (at : Runs t budget x old cur resets k trace) where
  pub ends : (is_stable (model_of t) (parts_of cur) ≡ false → budget ≤ k) → (r : Settled) → EndsAt (model_of t) cur k resets r
      → SettleGives (model_of t) budget x r × TraceHolds (model_of t) budget x old trace
  unfolding plus traced is_stable
  ends h r f =
      let d = settle (urgent_step (model_of t)) budget (parts_of x) in
      let b = is_stable (model_of t) (parts_of cur) in
      let e = settle-ends (urgent_step (model_of t)) (budget - k) (parts_of cur) (λ some. let n = h (ap not some) in omega arith) in
      let w : plus k resets (take k trace) (resting b (parts_of cur)) ≡ d = ap (plus k resets (take k trace)) (sym e) ∙ at.run in
      let taken : d.trace ≡ take k trace = sym (ap (λ v. v.trace) w) ∙ append-nil (take k trace) in
      let inside : k ≤ length trace = omega (arith, at.size, at.room, at.within) in (
        record {
          verdict = f.verdict ∙ ap (λ v. v.stable) w;
          steps = omega (arith, f.steps-are, ap (λ v. v.steps) w);
          resets = f.resets-are ∙ sym (or_zero_r resets) ∙ ap (λ v. v.resets) w;
          state = f.state ∙ sym at.reached.same ∙ ap (λ v. with_parts x v.state) w;
        },
        sym (take-append-drop k trace)
            ∙ ap₂ ◌++◌ (sym taken) (at.rest ∙ ap (λ n. drop n old) (sym (ap length taken ∙ length-take-le k trace inside))),
      )

  -- the budget is used up
  pub all-done : k ≡ budget → (r : Settled) → EndsAt (model_of t) cur budget resets r
      → SettleGives (model_of t) budget x r × TraceHolds (model_of t) budget x old trace
  all-done h r f =
      ends (λ _. le_of_eq (sym h)) r (record { verdict = f.verdict; steps-are = f.steps-are ∙ sym h; resets-are = f.resets-are; state = f.state })
