-- Any two outcomes that the contract of `repair` allows are equal: the answer, the whole table and the whole list.
use mathlib.Core.Path.{◌≡◌, sym, ◌∙◌}
use mathlib.Core.List.{List}
use Prim.Native.Nat.{ℕ}
use Rattle.answer.specs.Told.{Written}
use Rattle.answer.proofs.SaysFixes.{written-fixed}
use Rattle.repair.specs.Repairing.{repair_on, number_in, Repairing}

pub repair-determined : (t l : List ℕ) (r q : Written) (t' l' t'' l'' : List ℕ) → Repairing t l r t' l' → Repairing t l q t'' l'' → (r ≡ q) × (t' ≡ t'') × (l' ≡ l'')
repair-determined t l r q t' l' t'' l'' g h = (
  written-fixed r q (number_in (repair_on t l)) g.answer h.answer,
  g.table ∙ sym h.table,
  g.list ∙ sym h.list,
)
