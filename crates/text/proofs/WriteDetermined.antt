-- Any two outcomes that the promise of `write` allows are equal, the buffer too.
use mathlib.Core.Path.{◌≡◌, sym, ◌∙◌}
use mathlib.Core.List.{List}
use Prim.Native.Nat.{ℕ}
use Rattle.answer.specs.Told.{Written}
use Rattle.text.specs.Write.{write_on, WriteCall}
use Rattle.answer.proofs.SaysFixes.{written-fixed}

pub write-determined : (t old new late : List ℕ) (r q : Written) → WriteCall t old new r → WriteCall t old late q → (r ≡ q) × (new ≡ late)
write-determined t old new late r q g h = (written-fixed r q (write_on t old) g.answer h.answer, g.buffer ∙ sym h.buffer)
