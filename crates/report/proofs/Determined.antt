-- Any two outcomes that the contract of `report` allows are equal.
use mathlib.Core.Path.{◌≡◌, sym, ◌∙◌}
use mathlib.Core.List.{List}
use Prim.Native.Nat.{ℕ}
use Rattle.answer.specs.Told.{Written}
use Rattle.answer.proofs.SaysFixes.{written-fixed}
use Rattle.report.specs.Reported.{length_told, Reported}

pub report-determined : (input old a b : List ℕ) (r q : Written) → Reported input old a r → Reported input old b q → (r ≡ q) × (a ≡ b)
report-determined input old a b r q e f = (written-fixed r q (length_told input old) e.answer f.answer, e.buffer ∙ sym f.buffer)
