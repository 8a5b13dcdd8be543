-- The search for the clock's row over components: what is left from component i on, by one component more.
use mathlib.Core.Path.{◌≡◌, refl, ◌∙◌, ap}
use mathlib.Core.Option.{Option, none, some}
use mathlib.Core.List.{List}
use Prim.Native.Nat.{ℕ, ◌+◌, ◌≤◌, ◌<◌}
use native.Mathlib.Omega.{arith}
use lib.ListN.{length, get_or, drop, drop_of_length-le}
use Rattle.laws.specs.Search.{or_else}
use Rattle.answer.specs.Limits.{max_actions}
use Rattle.model.specs.Model.{Row, Model, comp_at}
use Rattle.timing.specs.Timed.{clock_row, clock_row_of}
use Rattle.moves.proofs.Along.{heads}
use Rattle.firing.specs.Fired.{action_or}

-- an action below the limit is that of a row
low-some : (o p : Option Row) → action_or o < max_actions → action_or (or_else o p) ≡ action_or o
low-some none p h = absurd (omega arith)
low-some (some r) p h = refl

high-none : (o p : Option Row) → ((r : Row) → o ≡ some r → r.action < max_actions) → (action_or o < max_actions → ⊥) → or_else o p ≡ p
high-none none p low n = refl
high-none (some r) p low n = absurd (n (low r refl))

module _ (m : Model) (ss : List ℕ) (x i : ℕ) (p : i < length m) (q : i < length ss) where
  pub action-here : action_or (clock_row (comp_at m i) (get_or ss i 0) x) < max_actions → action_or (clock_row_of (drop i m) (drop i ss) x) ≡ action_or (clock_row (comp_at m i) (get_or ss i 0) x)
  unfolding clock_row_of
  action-here h =
      ap action_or (heads m ss i p q (λ m ss. clock_row_of m ss x)) ∙ low-some (clock_row (comp_at m i) (get_or ss i 0) x) (clock_row_of (drop (i + 1) m) (drop (i + 1) ss) x) h

  pub action-next : ((r : Row) → clock_row (comp_at m i) (get_or ss i 0) x ≡ some r → r.action < max_actions) → (action_or (clock_row (comp_at m i) (get_or ss i 0) x) < max_actions → ⊥)
      → clock_row_of (drop i m) (drop i ss) x ≡ clock_row_of (drop (i + 1) m) (drop (i + 1) ss) x
  unfolding clock_row_of
  action-next low n =
      heads m ss i p q (λ m ss. clock_row_of m ss x) ∙ high-none (clock_row (comp_at m i) (get_or ss i 0) x) (clock_row_of (drop (i + 1) m) (drop (i + 1) ss) x) low n

pub action-end : (m : Model) (ss : List ℕ) (x i : ℕ) → length m ≤ i → clock_row_of (drop i m) (drop i ss) x ≡ none
unfolding clock_row_of
action-end m ss x i h = ap (λ k. clock_row_of k (drop i ss) x) (drop_of_length-le m h)
