-- The numbers of a resets field, gathered from left to right.
use mathlib.Core.Path.{◌≡◌, refl, ap}
use mathlib.Core.List.{List, [], ◌∷◌}
use Prim.Native.Nat.{ℕ}
use lib.ListN.{length}
use Rattle.model.specs.Reading.{Scan, is, stops, got, then, number, more_numbers, numbers}
use Rattle.fields.specs.declared.Resets.{Resets}
use Rattle.fields.specs.Resets.{none_yet, first, with, with_all, summary, valued}

pub nothing-more : (s : Resets) → with_all s [] ≡ s
unfolding with_all
nothing-more s = refl

pub one_more : (s : Resets) (n : ℕ) (ns : List ℕ) → with_all s (n ∷ ns) ≡ with_all (with s n) ns
unfolding with_all
one_more s n ns = refl

-- ---- the whole field
pub first-number : (bs cs : List ℕ) (n : ℕ) → number bs ≡ got n cs → valued summary (numbers bs) ≡ valued (with_all (first n)) (more_numbers (length cs) cs)
unfolding numbers summary with_all
first-number bs cs n e = rw (e, numbers) (go (more_numbers (length cs) cs))
  where
    go : (o : Scan (List ℕ)) → valued summary (then o (λ ns ds. got (n ∷ ns) ds)) ≡ valued (with_all (first n)) o
    go (stops cs) = refl
    go (is g) = refl

pub no-resets : (o : Scan (List ℕ)) (cs : List ℕ) → o ≡ got [] cs → valued summary o ≡ got none_yet cs
unfolding summary
no-resets o cs e = ap (valued summary) e
