-- "Errors that look right" (paper 01): models on which such an error would answer otherwise. The first table's P5 and P1 show the last two of the paper's list.
use Rattle.std.specs.Prelude.{true, List, [], ◌∷◌}
use Prim.Native.String.{String}
use Rattle.answering.specs.Examples.{Case, P, settles, ends, refuses-with}

-- "two inputs driven by two others clash too": of two `uin` actions each leads to a state of its own, for good
abbrev pub inputs_clash : String
inputs_clash = "comp\t3\t0\nact\t0\tuin\nact\t1\tuin\nrow\t0\t-\t0\t-\t1\nrow\t0\t-\t1\t-\t2\nrow\t1\t-\t0\t-\t1\nrow\t1\t-\t1\t-\t1\nrow\t2\t-\t0\t-\t2\nrow\t2\t-\t1\t-\t2\n"

-- "Comparing end states but not the resets of each step": both ways end in 1, but after action 0 action 1 resets nothing
abbrev pub resets_clash : String
resets_clash = "comp\t2\t0\nact\t0\tuin\nact\t1\tuin\nclk\t0\t0\nrow\t0\t-\t0\t-\t1\nrow\t0\t-\t1\t0\t1\nrow\t1\t-\t0\t-\t1\nrow\t1\t-\t1\t-\t1\n"

-- "unstable states may need more" than `enabling` alone: in state 1, unstable and without a guard, clock 0 must be active already
abbrev pub active_more : String
active_more = "comp\t2\t1\nact\t0\tout\nact\t1\tuout\nclk\t0\t1\nrow\t0\t0\t0\t0\t0\nrow\t1\t-\t1\t-\t0\n"

unfoldable pub looks_right : List Case
looks_right =
    P (settles inputs_clash (0 ∷ []) 1) (refuses-with 18 (0 ∷ 0 ∷ 0 ∷ 1 ∷ []))
    ∷ P (settles resets_clash (0 ∷ []) 1) (refuses-with 18 (0 ∷ 0 ∷ 0 ∷ 1 ∷ []))
    ∷ P (settles active_more (1 ∷ []) 1) (ends true 1 0 (0 ∷ []))
    ∷ []
