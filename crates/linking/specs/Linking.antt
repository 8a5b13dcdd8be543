-- The pairs of actions that are led to, as 64 sets (02, 8/13).
use Rattle.std.specs.Prelude.{◌↔◌, ◌≡◌, List, ℕ, ◌<◌, length, get_or}
use Rattle.laws.specs.Sets.{◌∈◌}
use Rattle.laws.specs.Fold.{over}
use Rattle.answer.specs.Limits.{max_actions}
use Rattle.model.specs.Model.{Model}
use Rattle.triggering.specs.Test.{crossed, spread_by}
use Rattle.triggering.specs.Triggering.{LeadsOn, Led}

-- for each action those that it leads on to
pub record LeadTable (m : Model) (T : List ℕ) : Type 0 where
  pub places : length T ≡ max_actions
  pub leads : (a b : ℕ) → a < max_actions → b < max_actions → (b ∈ get_or T a 0) ↔ LeadsOn m a b

-- for each action a those b that the pair a, b is led to
pub record LedTable (m : Model) (T : List ℕ) : Type 0 where
  pub places : length T ≡ max_actions
  pub led : (a b : ℕ) → a < max_actions → b < max_actions → (b ∈ get_or T a 0) ↔ Led m a b

-- in place, from what each action is together with: the sets of those that a leads on to take in what those lead on to that are in its own
unfoldable pub led_from : List ℕ → List ℕ → List ℕ
led_from L W = over (λ a T. crossed (get_or L a 0) (spread_by L (get_or T a 0)) T) 0 max_actions W
