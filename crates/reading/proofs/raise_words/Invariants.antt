-- What each turn of the loop of `reading::raise_words` keeps.
use Prim.Native.Nat.{◌≤◌}
use Rattle.reading.specs.Changes.{Raised}
use Rattle.reading.proofs.raise_words.Given as goal

abbrev pub invariant-loop-j : goal.invariant-loop-j
invariant-loop-j l = (l.lo ≤ l.j) × Raised l.initial.table l.lo l.j l.table
