-- Numbers joined by commas, one by one.
use mathlib.Core.Path.{◌≡◌, refl}
use mathlib.Core.List.{List, [], ◌∷◌, ◌++◌}
use Prim.Native.Nat.{ℕ}
use Rattle.model.specs.Text.{comma, decimal, joined}

pub joined-none : joined [] ≡ []
unfolding joined
joined-none = refl

pub joined-one : (n : ℕ) → joined (n ∷ []) ≡ decimal n ++ []
unfolding joined
joined-one n = refl

pub joined-more : (n m : ℕ) (ns : List ℕ) → joined (n ∷ m ∷ ns) ≡ decimal n ++ comma ∷ joined (m ∷ ns)
unfolding joined
joined-more n m ns = refl
