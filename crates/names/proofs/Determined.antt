-- Any two outcomes that the contract of a conversion allows are equal, the buffer too.
use mathlib.Core.Path.{◌≡◌, sym, ◌∙◌}
use mathlib.Core.List.{List}
use Prim.Native.Nat.{ℕ}
use lib.ListN.{length}
use Rattle.answer.specs.Told.{Answer}
use Rattle.answer.specs.Told.{Written}
use Rattle.answer.proofs.SaysFixes.{written-fixed}
use Rattle.named.specs.Converted.{to_names, to_numbers, written_by, Converts}

converts-determined : (o : Answer (List ℕ)) (old new late : List ℕ) (r q : Written) → Converts o old new r → Converts o old late q → (r ≡ q) × (new ≡ late)
converts-determined o old new late r q g h = (written-fixed r q (written_by (length old) o) g.answer h.answer, g.buffer ∙ sym h.buffer)

pub to_numbers-determined : (t old new late : List ℕ) (r q : Written) → Converts (to_numbers t) old new r → Converts (to_numbers t) old late q → (r ≡ q) × (new ≡ late)
to_numbers-determined t old new late r q g h = converts-determined (to_numbers t) old new late r q g h

pub to_names-determined : (t old new late : List ℕ) (r q : Written) → Converts (to_names t) old new r → Converts (to_names t) old late q → (r ≡ q) × (new ≡ late)
to_names-determined t old new late r q g h = converts-determined (to_names t) old new late r q g h
