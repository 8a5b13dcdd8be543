-- As many bytes as a text may have and one byte more tell what is printed: what stands behind them changes nothing.
use mathlib.Core.Path.{◌≡◌, sym, ◌∙◌, ap}
use mathlib.Core.List.{List, [], ◌∷◌}
use Prim.Native.Nat.{ℕ, ◌≤◌, ◌<◌}
use native.Mathlib.Omega.{arith}
use native.Mathlib.Decide.{dec_lt}
use lib.ListN.{length, take}
use lib.Seq.{take_all, length-take-le}
use Rattle.answer.specs.Limits.{max_bytes}
use Rattle.answer.specs.Told.{tell}
use Rattle.answering.specs.Report.{refused_line}
use Rattle.model.proofs.Reading.Faults.{too-long-exactly}
use Rattle.whys.specs.Explanation.{explain_read, explanation_of}

too_long : (bs : List ℕ) → max_bytes < length bs → explanation_of bs ≡ refused_line (tell 1 (0 ∷ []))
unfolding explanation_of
too_long bs h = ap explain_read ((too-long-exactly bs).1 h)

-- what the program reads tells as much as the whole of its input
pub front-decides : (n : ℕ) → max_bytes < n → (bs : List ℕ) → explanation_of (take n bs) ≡ explanation_of bs
front-decides n room bs = elim (dec_lt n (length bs)) [
  | yes h ↦ too_long (take n bs) (omega (arith, length-take-le n bs (let q : n ≤ length bs = omega arith in q))) ∙ sym (too_long bs (omega arith))
  | no h ↦ ap explanation_of (take_all n bs (omega arith))
]
