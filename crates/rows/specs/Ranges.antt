-- Searches over a range of rows of the system.
use Rattle.std.proofs.Math.Option.{Option, none, some}
use Rattle.std.specs.Prelude as Answered
use Rattle.std.specs.Prelude.{Some, None, List, ℕ, ◌≤◌, ◌<◌, eqb}
use Rattle.laws.specs.Sets.{has}
use Rattle.laws.specs.Search.{seek, when}
use Rattle.answer.specs.Limits.{max_actions}
use Rattle.layout.specs.Layout.{action_at, guard_at}

-- what the engine answers of a search
abbrev pub Found : Type 0
Found = Answered.Option ℕ

unfoldable pub found_of : Option ℕ → Found
found_of none = None
found_of (some k) = Some k

-- the first row of lo .. hi with the action a, with the guard g, with an action of the set
unfoldable pub by_action : List ℕ → ℕ → ℕ → ℕ → Option ℕ
by_action t a lo hi = seek (λ k. when (eqb (action_at t k) a) k) lo hi

unfoldable pub by_guard : List ℕ → ℕ → ℕ → ℕ → Option ℕ
by_guard t g lo hi = seek (λ k. when (eqb (guard_at t k) g) k) lo hi

unfoldable pub by_set : List ℕ → ℕ → ℕ → ℕ → Option ℕ
by_set t set lo hi = seek (λ k. when (has set (action_at t k)) k) lo hi

-- the actions of a range are members of a set at all
pub record LowActions (t : List ℕ) (lo hi : ℕ) : Type 0 where
  pub low : (k : ℕ) → lo ≤ k → k < hi → action_at t k < max_actions
