-- Whether a state is stable, by its lowest urgent output.
use mathlib.Core.Path.{◌≡◌, ap}
use mathlib.Core.Bool.{true, false, not}
use mathlib.Core.List.{List}
use Prim.Native.Nat.{ℕ, ◌≤◌, ◌<◌}
use Rattle.laws.specs.Search.{is_some}
use Rattle.answer.specs.Limits.{max_actions}
use Rattle.answer.specs.declared.State.{State}
use Rattle.answer.specs.State.{parts_of}
use Rattle.iosa.specs.Step.{is_stable}
use Rattle.layout.specs.Image.{model_of}
use Rattle.moves.specs.Moves.{lowest_all}
use Rattle.moves.proofs.Lowest.{lowest-here, lowest-nowhere}
use Rattle.settling.specs.Gives.{Ready}

module _ (t : List ℕ) (x : State) (r : Ready t x) (a : ℕ) (e : a ≡ lowest_all (model_of t) (parts_of x)) where
  pub rests : max_actions ≤ a → is_stable (model_of t) (parts_of x) ≡ true
  unfolding is_stable
  rests h = ap (λ o. not (is_some o)) (lowest-nowhere (model_of t) r.conforming r.joinable (parts_of x) r.standing.within a e h)

  pub goes_on : a < max_actions → is_stable (model_of t) (parts_of x) ≡ false
  unfolding is_stable
  goes_on h = ap (λ o. not (is_some o)) (lowest-here (model_of t) r.conforming r.joinable (parts_of x) r.standing.within a e h)
