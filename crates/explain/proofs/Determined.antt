-- Any two outcomes that the contracts of `explain` and `explain_table` allow are equal.
use mathlib.Core.Path.{◌≡◌, sym, ◌∙◌}
use mathlib.Core.List.{List}
use Prim.Native.Nat.{ℕ}
use Rattle.answer.specs.Told.{Answer}
use Rattle.answer.specs.Told.{Written}
use Rattle.answer.proofs.SaysFixes.{written-fixed}
use Rattle.explain.specs.Explain.{text_explained, table_explained, length_in, Puts, ExplainCall, ExplainTableCall}

one_left : (x : Answer (List ℕ)) (old a b : List ℕ) (r q : Written) → Puts x old a r → Puts x old b q → (r ≡ q) × (a ≡ b)
one_left x old a b r q e f = (written-fixed r q (length_in x) e.answer f.answer, e.buffer ∙ sym f.buffer)

pub explain-determined : (text old a b : List ℕ) (r q : Written) → ExplainCall text old a r → ExplainCall text old b q → (r ≡ q) × (a ≡ b)
explain-determined text old a b r q e f = one_left (text_explained text old) old a b r q e f

pub explain_table-determined : (t old a b : List ℕ) (r q : Written) → ExplainTableCall t old a r → ExplainTableCall t old b q → (r ≡ q) × (a ≡ b)
explain_table-determined t old a b r q e f = one_left (table_explained t old) old a b r q e f
