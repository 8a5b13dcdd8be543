-- What an answer of a search over a range tells, and the first number of a range with a test as one that is sought.
use mathlib.Core.Path.{◌≡◌, refl}
use mathlib.Core.Bool.{Bool, true, false}
use mathlib.Core.Option.{Option, none, some}
use Prim.Native.Nat.{ℕ, ◌≤◌, ◌<◌}
use Rattle.std.specs.Prelude.{Some, None, MatchOption}
use Rattle.laws.specs.Search.{seek, when}
use Rattle.laws.proofs.SearchLaws.{some-seek, none-seek}
use Rattle.rows.specs.Ranges.{Found, found_of}

pub at_some : (o : Option ℕ) (k : ℕ) → found_of o ≡ Some k → o ≡ some k
unfolding found_of
at_some none k e = cc
at_some (some j) k e = cc

pub nothing-none : (o : Option ℕ) → found_of o ≡ None → o ≡ none
unfolding found_of
nothing-none none e = refl
nothing-none (some j) e = cc

-- what `find` over lo .. hi answers by a test
pub sought : (test : ℕ → Bool) (lo hi : ℕ) (r : Found)
    → MatchOption r ((k : ℕ) → lo ≤ k → k < hi → test k ≡ false)
    (λ i. (lo ≤ i) × (i < hi) × (test i ≡ true) × ((k : ℕ) → lo ≤ k → k < i → test k ≡ false))
    → r ≡ found_of (seek (λ k. when (test k) k) lo hi)
unfolding found_of
sought test lo hi None h = rw (none-seek (λ k. when (test k) k) lo hi (λ k p q. rw (h k p q)))
sought test lo hi (Some i) h =
    rw (some-seek (λ k. when (test k) k) lo hi {x = i} (record {
      place = i;
      from = h.0;
      below = h.1;
      here = rw h.2;
      least = λ j p q. rw (h.3 j p q);
    }))
