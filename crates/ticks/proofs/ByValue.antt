-- The loops that test one value after another: r is the test's answer at k, on the value as a machine's word holds it.
use mathlib.Core.Path.{◌≡◌, sym, ap, ◌∙◌}
use mathlib.Core.Option.{some}
use mathlib.Core.Bool.{Bool, true, false}
use mathlib.Core.List.{List}
use Prim.Native.Nat.{ℕ, ◌+◌, ◌<◌}
use lib.IntN.{ℤ}
use mir.Val.{SFits, to_z, of_z}
use mir.ValLaws.{to_z-of_z}
use mir.Syntax.{w64}
use Rattle.answer.specs.Limits.{max_clocks}
use Rattle.laws.specs.Search.{seek, when}
use Rattle.laws.proofs.SearchLaws.{test-here, test-next}
use Rattle.iosa.specs.TimedExactly.{value_of}
use Rattle.ticks.specs.Ticks.{by_value}

module _ (f : ℕ → ℤ → Bool) (vs : List ℤ) (k : ℕ) (h : k < max_clocks) (fits : SFits w64 (value_of vs k))
    (r : Bool) (e : r ≡ f k (to_z w64 (of_z w64 (value_of vs k)))) where
  pub told : by_value f vs k ≡ r
  told = ap (f k) (sym (to_z-of_z w64 (value_of vs k) fits)) ∙ sym e

  pub value-here : r ≡ true → seek (λ k. when (by_value f vs k) k) k max_clocks ≡ some k
  value-here t = test-here (by_value f vs) k max_clocks h (told ∙ t)

  pub value-next : r ≡ false → seek (λ k. when (by_value f vs k) k) k max_clocks ≡ seek (λ k. when (by_value f vs k) k) (k + 1) max_clocks
  value-next t = test-next (by_value f vs) k max_clocks h (told ∙ t)
