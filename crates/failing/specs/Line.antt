-- The line about a failure: what could not be done, and the number of the error.
use Rattle.std.specs.Prelude.{List, [], ◌∷◌, ◌++◌, ℕ, ℤ, pos, negsuc}
use Rattle.model.specs.Text.{decimal}

abbrev pub error_word : List ℕ
error_word = 32 ∷ 40 ∷ 101 ∷ 114 ∷ 114 ∷ 111 ∷ 114 ∷ 32 ∷ []

abbrev pub close_word : List ℕ
close_word = 41 ∷ 10 ∷ []

unfoldable pub error_number : ℤ → ℕ
error_number (pos n) = n
error_number (negsuc n) = 0

unfoldable pub failure_line : List ℕ → ℤ → List ℕ
failure_line what e = what ++ (error_word ++ (decimal (error_number e) ++ close_word))

abbrev pub longest_what : ℕ
longest_what = 100
