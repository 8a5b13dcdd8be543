-- Words to be written one after the other.
use Rattle.std.specs.Prelude.{List, ℕ, ◌+◌, get_or}
use Rattle.laws.specs.Fold.{tab}

-- places that a machine's addresses reach
abbrev pub most_words : ℕ
most_words = 4294967296

-- n words of a list, from a place on
unfoldable pub words_from : List ℕ → ℕ → ℕ → List ℕ
words_from t from n = tab (λ k. get_or t (from + k) 0) 0 n

unfoldable pub zeros_of : ℕ → List ℕ
zeros_of n = tab (λ k. 0) 0 n
