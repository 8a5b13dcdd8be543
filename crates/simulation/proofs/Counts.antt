-- The composed states that count where either test passes: those that the system can reach.
use mathlib.Core.Path.{sym, subst}
use mathlib.Core.Logic.{inr}
use mathlib.Core.List.{List, ◌∷◌}
use Prim.Native.Nat.{ℕ}
use Rattle.model.specs.Model.{Comp}
use Rattle.model.specs.WellFormed.{WellFormed}
use Rattle.iosa.specs.Automaton.{Reachable, at-start, by_row}
use Rattle.iosa.specs.Product.{product, state_of}
use Rattle.iosa.proofs.Reaching.Keeps.{series-reaches}
use Rattle.iosa.proofs.Settling.Start.{start-of-the-product}
use Rattle.walkable.specs.Orderly.{Settles}
use Rattle.walkable.proofs.Orderly.{demand-3-after-a-path}
use Rattle.simulation.specs.Free.{Counting}

-- the system can reach s
abbrev pub Reaches : (c : Comp) → List Comp → List ℕ → Type 0
Reaches c cs s = Reachable (product c cs) (state_of c cs s)

-- the start is reached, urgent steps and firings from stable states lead to reached states, and demand 3 holds of them
pub reached-states-count : (c : Comp) (cs : List Comp) → WellFormed (c ∷ cs) → Settles (c ∷ cs) → Counting c cs (Reaches c cs)
reached-states-count c cs well ok = record {
  start = subst (Reachable (product c cs)) (sym (start-of-the-product c cs).0) at-start;
  urgent = λ r i j run. series-reaches (product c cs) r run;
  fires = λ r i st f. by_row r (inr st) f.row;
  settles = λ s i r. demand-3-after-a-path c cs well ok s i r;
}
