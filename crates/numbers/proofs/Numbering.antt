-- What the program prints is what is printed of its conversion.
use mathlib.Core.Path.{◌≡◌, refl}
use mathlib.Core.List.{List}
use Prim.Native.Nat.{ℕ}
use Rattle.named.specs.Converted.{to_numbers}
use Rattle.converting.specs.Converting.{converted_text}
use Rattle.numbers.specs.Numbered.{numbered_text}

pub as-converted : (input : List ℕ) → numbered_text input ≡ converted_text (to_numbers input)
unfolding numbered_text converted_text
as-converted input = refl
