-- What the program `names` writes (02, 7/13): the text in the second form of a model text, with the default names, or the line of a refusal.
use Rattle.std.specs.Prelude.{List, ℕ}
use Rattle.named.specs.Converted.{to_names}
use Rattle.converting.specs.Converting.{converted_text}

abbrev pub renamed_text : List ℕ → List ℕ
renamed_text input = converted_text (to_names input)
