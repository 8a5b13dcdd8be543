-- 28: the test of the values decides whether they are 64, the declared ones within their range.
use mathlib.Core.Path.{◌≡◌, sym, ◌∙◌, ap, ap₂}
use mathlib.Core.Logic.{◌↔◌}
use mathlib.Core.Bool.{Bool, true, false, ◌&&◌, ◌||◌, not, false≢true}
use mathlib.Core.List.{List}
use Prim.Native.Nat.{ℕ}
use lib.ListN.{length}
use lib.Dec.{eqb}
use lib.IntN.{ℤ, pos}
use lib.Signed.{le_z}
use borrow.Author.Tests.{not-false, eqb-true, eq-eqb}
use Rattle.laws.specs.Sets.{has, ◌∈◌}
use Rattle.laws.specs.Search.{any}
use Rattle.laws.proofs.SearchLaws.{any-true, any_false}
use Rattle.laws.proofs.TestLaws.{and-true, and-false, not_so, or-false}
use Rattle.answer.specs.Limits.{max_clocks, max_ticks}
use Rattle.model.specs.Model.{Model, declared}
use Rattle.model.specs.WellFormed.{WellComp}
use Rattle.timing.specs.Timed.{out_of_ticks}
use Rattle.iosa.specs.TimedExactly.{InTicks, floor, value_of}
use Rattle.iosa.proofs.Settling.Each.{All}
use Rattle.timing.proofs.Timing.Enabling.{declared-below}

abbrev pub bad_values : Model → List ℤ → Bool
bad_values m vs = not (eqb (length vs) max_clocks) || any (out_of_ticks m vs) max_clocks

module _ (m : Model) (w : All WellComp m) (vs : List ℤ) where
  ends : any (out_of_ticks m vs) max_clocks ≡ false → (x : ℕ) → x ∈ declared m → (le_z floor (value_of vs x) ≡ true) × (le_z (value_of vs x) (pos max_ticks) ≡ true)
  unfolding out_of_ticks
  ends n x h =
      and-true (le_z floor (value_of vs x)) (le_z (value_of vs x) (pos max_ticks))
      (not-false (le_z floor (value_of vs x) && le_z (value_of vs x) (pos max_ticks))
      (and-false (has (declared m) x) (not (le_z floor (value_of vs x) && le_z (value_of vs x) (pos max_ticks)))
      (any_false (out_of_ticks m vs) max_clocks n x (declared-below m w x h)) h))

  good-values : bad_values m vs ≡ false → InTicks m vs
  good-values e =
      let p = or-false (not (eqb (length vs) max_clocks)) (any (out_of_ticks m vs) max_clocks) e in
      record {
        count = eqb-true (length vs) max_clocks (not-false (eqb (length vs) max_clocks) p.0);
        low = λ x h. (ends p.1 x h).0;
        high = λ x h. (ends p.1 x h).1;
      }

  values-good : InTicks m vs → bad_values m vs ≡ false
  unfolding out_of_ticks
  values-good t = ap₂ ◌||◌ (ap not (eq-eqb (length vs) max_clocks t.count)) (not_so (any (out_of_ticks m vs) max_clocks) (λ e.
      let p = any-true (out_of_ticks m vs) max_clocks e in
      let q = and-true (has (declared m) p.0) (not (le_z floor (value_of vs p.0) && le_z (value_of vs p.0) (pos max_ticks))) p.2 in
      false≢true (sym (ap not (ap₂ ◌&&◌ (t.low p.0 q.0) (t.high p.0 q.0))) ∙ q.1)))

  pub values-exactly : (bad_values m vs ≡ false) ↔ InTicks m vs
  values-exactly = (good-values, values-good)
