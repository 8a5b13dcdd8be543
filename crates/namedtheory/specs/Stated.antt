-- Texts as strings, and the model whose three texts are stated: with names, with numbers, and with the names that numbers have by default.
use Rattle.std.specs.Prelude.{List, ℕ}
use Prim.Native.Char.{code}
use Prim.Native.String.{String, len, char_at}
use Rattle.laws.specs.Fold.{tab}

-- the bytes of a text
abbrev pub bytes : String → List ℕ
bytes s = tab (λ i. code (char_at s i)) 0 (len s)

unfoldable pub lamp_named : List ℕ
lamp_named =
    bytes
    "form\t2\nname\t1\tlamp\nname\t12\tgo\ncomp\t2\t0\nact\tlamp\tuin\nact\tgo\tout\nclk\t3\t1\nrow\t0\t-\tlamp\t-\t1\nrow\t0\t3\tgo\t3\t1\n"

unfoldable pub lamp_numbered : List ℕ
lamp_numbered = bytes "comp\t2\t0\nact\t1\tuin\nact\t12\tout\nclk\t3\t1\nrow\t0\t-\t1\t-\t1\nrow\t0\t3\t12\t3\t1\n"

unfoldable pub lamp_by_default : List ℕ
lamp_by_default = bytes "form\t2\nname\t1\ta1\nname\t12\ta12\ncomp\t2\t0\nact\ta1\tuin\nact\ta12\tout\nclk\t3\t1\nrow\t0\t-\ta1\t-\t1\nrow\t0\t3\ta12\t3\t1\n"
