-- Bytes at the front of a lent buffer, and their number, as one answer.
use mathlib.Core.Path.{◌≡◌}
use mathlib.Core.Logic.{◌↔◌}
use mathlib.Core.Option.{some}
use mathlib.Core.List.{List, ◌++◌}
use Prim.Native.Nat.{ℕ}
use lib.ListN.{length, drop}
use Rattle.answer.specs.Told.{Answer, answered, refused, says_written}
use Rattle.answer.specs.Told.{Written}
use Rattle.iosa.specs.Lent.{Fills}

-- the number of bytes that an answer gives, and the buffer with them at its front
abbrev pub length_in : Answer (List ℕ) → Answer ℕ
length_in (answered bytes) = answered (length bytes)
length_in (refused t) = refused t

abbrev pub filled_with : Answer (List ℕ) → List ℕ → List ℕ
filled_with (answered bytes) old = bytes ++ drop (length bytes) old
filled_with (refused t) old = old

pub fills-exactly : (old new : List ℕ) (r : Written) (a : Answer (List ℕ)) → (says_written r ≡ some (length_in a)) × (new ≡ filled_with a old) ↔ Fills old new r a
fills-exactly old new r (answered bytes) = (λ p. record { length-told = p.0; buffer = p.1 }, λ f. (f.length-told, f.buffer))
fills-exactly old new r (refused t) = (λ p. record { refusal = p.0; buffer = p.1 }, λ f. (f.refusal, f.buffer))
