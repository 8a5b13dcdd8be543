-- One row put by the walk over a state's rows, and where the walk stands then.
use Rattle.std.specs.Prelude.{◌≡◌, cond, List, ℕ, ◌+◌}
use Rattle.sets.specs.Members.{lowest_of}
use Rattle.layout.specs.Image.{row_in}
use Rattle.lacking.specs.Repair.{loop_at}
use Rattle.mending.specs.declared.Next.{Next}
use Rattle.mending.specs.Weave.{takes, later, put_row}

abbrev pub next_of : List ℕ → ℕ → ℕ → Next → Next
next_of u s hi x = cond (takes (row_in u s) hi x.left x.r) (record { r = x.r + 1; left = x.left }) (record { r = x.r; left = later x.left })

pub record Put (u : List ℕ) (s hi v : ℕ) (x y : Next) (u' : List ℕ) : Type 0 where
  pub next : y ≡ next_of u s hi x
  pub table : u' ≡ cond (takes (row_in u s) hi x.left x.r) (put_row u v (row_in u s x.r)) (put_row u v (loop_at s (lowest_of x.left)))
