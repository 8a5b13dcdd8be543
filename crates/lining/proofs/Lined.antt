-- The line that is put of a round is that of the definition's settling.
use mathlib.Core.Path.{◌≡◌, sym, ◌∙◌, ap, ap₂}
use mathlib.Core.Bool.{cond}
use mathlib.Core.List.{List}
use Prim.Native.Nat.{ℕ, suc, ◌+◌, ◌≤◌, ◌<◌}
use native.Mathlib.Omega.{arith}
use borrow.Author.Tests.{lt-ltb, le-ltb}
use lib.ListN.{length}
use Rattle.std.specs.Prelude as Answered
use Rattle.std.specs.Prelude.{Some, None}
use Rattle.laws.specs.Sets.{◌∪◌}
use Rattle.answer.specs.Limits.{max_components, max_actions, max_budget}
use Rattle.answer.specs.State.{parts_of, with_parts}
use Rattle.answer.proofs.StateLaws.{parts-length, with-parts}
use Rattle.answer.specs.declared.Settled.{Settled}
use Rattle.answer.specs.declared.State.{State}
use Rattle.iosa.specs.Product.{Within}
use Rattle.iosa.specs.Step.{urgent_step}
use Rattle.iosa.specs.Settle.{settle}
use Rattle.iosa.specs.Orders.{Settling}
use Rattle.iosa.proofs.Settling.Parts.{within-length}
use Rattle.layout.specs.Image.{model_of}
use Rattle.layout.proofs.RowsOfRange.{well-formed}
use Rattle.moves.proofs.Ready.{count-model, count-few}
use Rattle.settling.specs.Gives.{Ready, SettleGives}
use Rattle.rounds.proofs.Keeps.{settle-keeps}
use Rattle.print.specs.Put.{Put}
use Rattle.printout.specs.Printed.{Filled}
use Rattle.printout.proofs.Printing.{as-printed, is-filled}
use Rattle.roundlines.specs.Lines.{round_line}
use Rattle.lining.specs.Settled.{settled_line, shown_of, line_bytes}
use Rattle.lining.specs.Went.{Went}
use Rattle.lining.proofs.Widths.{round-most}

module _ (t : List ℕ) (x : State) (ready : Ready t x) (d : Settled) (given : SettleGives (model_of t) max_budget x d) where
  abbrev ours : Settling (List ℕ)
  ours = settle (urgent_step (model_of t)) max_budget (parts_of x)

  within : Within (model_of t) ours.state
  within =
      settle-keeps (model_of t) (well-formed t ready.standing.image) ready.conforming ready.joinable (parts_of x) ready.standing.within max_budget

  parts : parts_of d.state ≡ ours.state
  parts = ap parts_of given.state ∙ with-parts x ours.state (within-length (model_of t) ours.state within ∙ sym (count-model t x ready.standing))

  pub line-few : d.state.count ≤ max_components
  unfolding with_parts
  line-few = let c : d.state.count ≡ x.count = ap (λ (y : State). y.count) given.state in omega (arith, c, count-few t x ready.standing)

  module _ (k v g w R : ℕ) (e : R ≡ w ∪ d.resets) (old : List ℕ) (room : line_bytes ≤ length old) where
    pub line-room : 0 + length (round_line k v g (parts_of d.state) R) ≤ length old
    line-room = omega (arith, room, round-most k v g (parts_of d.state) R (omega (arith, parts-length d.state, line-few)))

    line-is : round_line k v g (parts_of d.state) R ≡ settled_line (model_of t) k v g w (parts_of x)
    unfolding settled_line
    line-is = ap₂ (round_line k v g) parts (e ∙ ap (λ n. w ∪ n) given.resets)

    pub line-filled : (new : List ℕ) (r : ℕ) → Put old 0 (round_line k v g (parts_of d.state) R) new r
        → Filled (settled_line (model_of t) k v g w (parts_of x)) new r
    line-filled new r p = is-filled (as-printed line-is (record { put = p; room = omega (arith, line-room) }))

-- ---- an action one up
pub shown-low : (a : ℕ) → a < max_actions → a + 1 ≡ shown_of a
unfolding shown_of
shown-low a h = let e : shown_of a ≡ suc a = ap (λ b. cond b (suc a) 0) (lt-ltb a max_actions h) in omega (arith, e)

pub shown-high : (a : ℕ) → max_actions ≤ a → 0 ≡ shown_of a
unfolding shown_of
shown-high a h = sym (ap (λ b. cond b (suc a) 0) (le-ltb a max_actions h))

-- ---- what went as one call says went as another, which follows from it
pub first-said : {A : Type 0} (P Q : A → Type 0) (o : Answered.Option A) → ((x : A) → P x → Q x) → Went P o → Went Q o
first-said P Q (Some x) f p = f x p
first-said P Q None f p = (p.0, f p.0 p.1)
