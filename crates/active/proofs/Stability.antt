-- Whether a state is stable, from the search for an urgent output over its range.
use mathlib.Core.Path.{◌≡◌, refl, sym, ◌∙◌, ap}
use mathlib.Core.Bool.{Bool}
use mathlib.Core.List.{List}
use Prim.Native.Nat.{ℕ, ◌+◌, ◌<◌}
use Rattle.laws.specs.Sets.{has}
use Rattle.laws.specs.Search.{when, is_some}
use Rattle.iosa.specs.Checks.{unstable}
use Rattle.layout.specs.Layout.{count_of, block_word, first_of, action_at}
use Rattle.layout.specs.Image.{Image, comp_of}
use Rattle.layout.proofs.Bridge.{unstable-is}
use Rattle.rows.specs.Ranges.{found_of, by_set}
use Rattle.rows.specs.Ranges.{Found}
use Rattle.std.specs.Prelude as Answered
use Rattle.std.specs.Prelude.{Some, None}
use Rattle.rows.proofs.FoundLaws.{at_some, nothing-none}
use Rattle.rows.proofs.Ready.{range-seek}

module _ (t : List ℕ) (im : Image t) (i : ℕ) (h : i < count_of t) (s : ℕ) (b : s < block_word t i 0) (lo hi : ℕ) (el : lo ≡ first_of t i s)
    (eh : hi ≡ first_of t i (s + 1)) (f : Found)
    (e : f ≡ found_of (by_set t (block_word t i 5) lo hi)) where
  by-range : unstable (comp_of t i) s ≡ is_some (by_set t (block_word t i 5) lo hi)
  unfolding by_set
  by-range = unstable-is t i s b ∙ ap is_some (sym (range-seek t im i h s b lo hi el eh (λ r. when (has (block_word t i 5) (action_at t r)) r)))

  -- whether one is found
  pub unstable-found : {r : Bool} → r ≡ Answered.is_some f → r ≡ unstable (comp_of t i) s
  unstable-found {r} q = go f refl
    where
      go : (g : Found) → f ≡ g → r ≡ unstable (comp_of t i) s
      go (Some k) at = q ∙ ap Answered.is_some at ∙ sym (by-range ∙ ap is_some (at_some (by_set t (block_word t i 5) lo hi) k (sym e ∙ at)))
      go None n = q ∙ ap Answered.is_some n ∙ sym (by-range ∙ ap is_some (nothing-none (by_set t (block_word t i 5) lo hi) (sym e ∙ n)))
