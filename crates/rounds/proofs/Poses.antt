-- A state with zeros behind its parts, given other parts, has zeros behind them again; what is posed stays so.
use mathlib.Core.Path.{◌≡◌, sym, ◌∙◌, ap}
use mathlib.Core.List.{List}
use Prim.Native.Nat.{ℕ}
use lib.ListN.{length}
use lib.IntN.{ℤ}
use Rattle.answer.specs.declared.State.{State}
use Rattle.answer.specs.State.{parts_of, with_parts}
use Rattle.answer.proofs.StateLaws.{with-parts}
use Rattle.model.specs.Model.{Model, declared}
use Rattle.iosa.specs.Product.{Within}
use Rattle.iosa.specs.TimedExactly.{InTicks}
use Rattle.iosa.proofs.Settling.Parts.{within-length}
use Rattle.layout.specs.Image.{model_of}
use Rattle.words.specs.Bytes.{state_of}
use Rattle.words.proofs.Zeros.{with-zeros}
use Rattle.ticks.specs.Ticks.{Ticking}
use Rattle.moves.proofs.Ready.{count-model, count-few}
use Rattle.rounds.specs.Rounds.{Posed}

pub ticking-in : (m : Model) (vs : List ℤ) → InTicks m vs → Ticking (declared m) vs
ticking-in m vs k = record { count = k.count; each = λ x h. record { low = k.low x h; high = k.high x h } }

pub in-ticking : (m : Model) (vs : List ℤ) → Ticking (declared m) vs → InTicks m vs
in-ticking m vs k = record { count = k.count; low = λ x h. (k.each x h).low; high = λ x h. (k.each x h).high }

-- the state with other parts of the model, and other values in range
module _ (t : List ℕ) (x : State) (vs : List ℤ) (k : Posed t x vs) (y : State) (ps : List ℕ) (e : y ≡ with_parts x ps) (w : Within (model_of t) ps) where
  as_long : length ps ≡ x.count
  as_long = within-length (model_of t) ps w ∙ sym (count-model t x k.ready.standing)

  pub posed-parts : parts_of y ≡ ps
  posed-parts = ap parts_of e ∙ with-parts x ps as_long

  pub posed-zeros : y ≡ state_of ps
  posed-zeros = e ∙ with-zeros x ps k.zeros as_long (count-few t x k.ready.standing)

  pub posed-with : (us : List ℤ) → Ticking (declared (model_of t)) us → Posed t y us
  posed-with us u = record {
    ready = record {
      standing = record { image = k.ready.standing.image; within = rw (← posed-parts) at w };
      conforming = k.ready.conforming;
      joinable = k.ready.joinable;
    };
    zeros = posed-zeros ∙ sym (ap state_of posed-parts);
    ticking = u;
  }

pub posed-again : (t : List ℕ) (x y : State) (vs us : List ℤ) → Posed t x vs → y ≡ x → Ticking (declared (model_of t)) us → Posed t y us
posed-again t x y vs us k e u = rw e (record { ready = k.ready; zeros = k.zeros; ticking = u })
