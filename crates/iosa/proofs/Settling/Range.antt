-- 21 exactly: the test of a composed state says what it should.
use mathlib.Core.Path.{◌≡◌, refl}
use mathlib.Core.Logic.{◌↔◌}
use mathlib.Core.Bool.{true, false, false≢true}
use mathlib.Core.List.{List, [], ◌∷◌}
use Prim.Native.Nat.{ℕ}
use lib.ListN.{length}
use lib.Dec.{ltb}
use borrow.Author.Tests.{ltb-true, lt-ltb}
use Rattle.laws.proofs.TestLaws.{and-true, not_so}
use Rattle.model.specs.Model.{Model}
use Rattle.iosa.specs.Product.{Within}
use Rattle.iosa.specs.Step.{in_range}
use Rattle.iosa.proofs.Settling.Parts.{within-length}

range-within : (m : Model) (s : List ℕ) → in_range m s ≡ true → Within m s
unfolding in_range
range-within [] [] e = tt
range-within [] (s ∷ ss) e = absurd (false≢true e)
range-within (c ∷ cs) [] e = absurd (false≢true e)
range-within (c ∷ cs) (s ∷ ss) e = let p = and-true (ltb s c.states) (in_range cs ss) e in (ltb-true s c.states p.0, range-within cs ss p.1)

within-range : (m : Model) (s : List ℕ) → Within m s → in_range m s ≡ true
unfolding in_range
within-range [] [] w = refl
within-range [] (s ∷ ss) w = absurd w
within-range (c ∷ cs) [] w = absurd w
within-range (c ∷ cs) (s ∷ ss) w = simp (lt-ltb s c.states w.0, within-range cs ss w.1)

pub range-exactly : (m : Model) (s : List ℕ) → (in_range m s ≡ true) ↔ Within m s
range-exactly m s = (range-within m s, within-range m s)

pub range_length : (m : Model) (s : List ℕ) → in_range m s ≡ true → length s ≡ length m
range_length m s e = within-length m s (range-within m s e)

pub wrong-length : (m : Model) (s : List ℕ) → (length s ≡ length m → ⊥) → in_range m s ≡ false
wrong-length m s f = not_so (in_range m s) (λ e. f (range_length m s e))
