-- What the code gives is what the definition says: the clock that fires, and the answers of the call.
use mathlib.Core.Path.{◌≡◌, refl, sym, ◌∙◌, ap}
use mathlib.Core.Bool.{false, true≢false}
use mathlib.Core.List.{List}
use Prim.Native.Nat.{ℕ}
use native.Mathlib.Omega.{arith}
use lib.Dec.{T}
use lib.IntN.{ℤ, pos, negsuc, nat_abs}
use lib.Signed.{lt_z, non_neg}
use mir.Val.{Fits, to_z, of_z}
use mir.Syntax.{w64}
use borrow.Author.Tests.{leb-true}
use Rattle.laws.specs.Sets.{◌∈◌}
use Rattle.answer.specs.Limits.{max_ticks}
use Rattle.answer.specs.Told.{fired}
use Rattle.answer.specs.State.{with_parts}
use Rattle.answer.specs.declared.State.{State}
use Rattle.answer.specs.declared.Firing.TheVariants.{Fired}
use Rattle.model.specs.Model.{Model, declared}
use Rattle.model.specs.WellFormed.{WellFormed}
use Rattle.iosa.specs.Automaton.{Conforming, Joinable}
use Rattle.iosa.specs.Product.{Within}
use Rattle.timing.specs.Timed.{ticks_of, enabling_all, clock_row_of, aged_from, fire}
use Rattle.iosa.specs.TimedExactly.{value_of}
use Rattle.iosa.proofs.Settling.ProductOfMany.{wells}
use Rattle.timing.proofs.Timing.Enabling.{enabling-enables, enables-clock, clock-declared}
use Rattle.moves.specs.Moves.{reset_by, after_by}
use Rattle.ticks.specs.Ticks.{Tick, Ticking}
use Rattle.ticks.proofs.Falling.{tick-back}
use Rattle.firing.specs.Fired.{action_or, fired_one}
use Rattle.firing.specs.Shots.{TimingGives}
use Rattle.firing.proofs.Shoots.{fires-so}

-- ---- a value from zero on, as a machine's word holds it
pub cast-fine : (z : ℤ) → Tick z → lt_z z (pos 0) ≡ false → T (non_neg (to_z w64 (of_z w64 z))) × Fits w64 (nat_abs (to_z w64 (of_z w64 z)))
cast-fine z t h = rw (tick-back z t) (go z t h)
  where
    go : (z : ℤ) → Tick z → lt_z z (pos 0) ≡ false → T (non_neg z) × Fits w64 (nat_abs z)
    go (pos n) t h = (tt, omega (arith, leb-true n max_ticks t.high))
    go (negsuc n) t h = absurd (true≢false h)

pub ticks-back : (z : ℤ) → Tick z → lt_z z (pos 0) ≡ false → nat_abs (to_z w64 (of_z w64 z)) ≡ ticks_of z
ticks-back z t h = ap nat_abs (tick-back z t) ∙ go z h
  where
    go : (z : ℤ) → lt_z z (pos 0) ≡ false → nat_abs z ≡ ticks_of z
    go (pos n) h = refl
    go (negsuc n) h = absurd (true≢false h)

module _ (m : Model) (well : WellFormed m) (ss : List ℕ) (x : ℕ) (h : x ∈ enabling_all m ss) where
  -- an enabling clock is declared, so its value is in range
  pub enabling-tick : (vs : List ℤ) → Ticking (declared m) vs → Tick (value_of vs x)
  enabling-tick vs t = t.each x (clock-declared m x (enables-clock m (wells m well) ss x (enabling-enables m ss x h)))

  pub fire-gives : Conforming m → Joinable m → Within m ss → (vs : List ℤ) (s : State) (n a R : ℕ) (st : State) (us : List ℤ)
      → n ≡ ticks_of (value_of vs x) → a ≡ action_or (clock_row_of m ss x) → R ≡ reset_by (fired_one x a) m ss → st ≡ with_parts s (after_by (fired_one x a) m ss)
      → us ≡ aged_from (declared m) (value_of vs x) 0 vs → TimingGives (fire m ss vs x) s (record { firing = Fired n a R; state = st }) us
  fire-gives good fit w vs s n a R st us en ea er es eu =
      let e = fires-so m well good fit ss w x h vs in
      let r = er ∙ ap (λ b. reset_by (fired_one x b) m ss) ea in
      record {
        firing = (λ i. fired (en i) (ea i) (r i)) ∙ ap (λ d. d.shot) (sym e);
        state = es ∙ ap (λ b. with_parts s (after_by (fired_one x b) m ss)) ea ∙ ap (λ d. with_parts s d.state) (sym e);
        values = eu ∙ ap (λ d. d.values) (sym e);
      }
