-- Any two outcomes that the contract of `merge` allows are equal: the answer, and the whole buffer.
use mathlib.Core.Path.{◌≡◌, sym, ◌∙◌}
use mathlib.Core.List.{List}
use Prim.Native.Nat.{ℕ}
use Rattle.answer.specs.Told.{done_of}
use Rattle.answer.specs.Told.{Checked}
use Rattle.answer.proofs.SaysFixes.{checked-fixed}
use Rattle.merge.specs.Merging.{merge_on, Merging}

pub merge-determined : (t : List ℕ) (i : ℕ) (was : List ℕ) (r q : Checked) (into other : List ℕ) → Merging t i was r into → Merging t i was q other
    → (r ≡ q) × (into ≡ other)
merge-determined t i was r q into other g h = (checked-fixed r q (done_of (merge_on t i was)) g.answer h.answer, g.table ∙ sym h.table)
