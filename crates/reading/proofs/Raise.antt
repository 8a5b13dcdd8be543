-- A word more of a run that is raised.
use mathlib.Core.Path.{◌≡◌}
use mathlib.Core.List.{List}
use Prim.Native.Nat.{ℕ, ◌-◌, ◌≤◌}
use native.Mathlib.Omega.{arith}
use lib.ListN.{length, replicate}
use borrow.Rule.Slice.PartMut.{put_mid}
use Rattle.std.proofs.Common.{rules}
use Rattle.std.proofs.lemmas.List.{places}
use Rattle.std.proofs.lemmas.Slice.{overwrites}
use Rattle.reading.specs.Changes.{Raised, Filled}

pub raised-to : {d : List ℕ} {lo hi hi' : ℕ} {d' : List ℕ} → hi ≡ hi' → Raised d lo hi d' → Raised d lo hi' d'
raised-to {d} {lo} {hi} {hi'} {d'} e r = record {
  long = r.long;
  inside = λ j h l. r.inside j h (omega arith);
  before = r.before;
  behind = λ j h. r.behind j (omega arith);
}

-- ---- filled with one number
pub filled-to : {d : List ℕ} {lo hi hi' v : ℕ} {d' : List ℕ} → hi ≡ hi' → Filled d lo hi v d' → Filled d lo hi' v d'
filled-to {d} {lo} {hi} {hi'} {v} {d'} e r = record {
  long = r.long;
  inside = λ j h l. r.inside j h (omega arith);
  before = r.before;
  behind = λ j h. r.behind j (omega arith);
}

pub raised-from : {d : List ℕ} {lo lo' hi : ℕ} {d' : List ℕ} → lo ≡ lo' → Raised d lo hi d' → Raised d lo' hi d'
raised-from {d} {lo} {lo'} {hi} {d'} e r = record {
  long = r.long;
  inside = λ j h l. r.inside j (omega arith) l;
  before = λ j h. r.before j (omega arith);
  behind = r.behind;
}

-- a part that is written over by one number
pub filled-mid : (d : List ℕ) (lo hi v : ℕ) (ys : List ℕ) → lo ≤ hi → hi ≤ length d → ys ≡ replicate (hi - lo) v → Filled d lo hi v (put_mid lo (hi - lo) d ys)
filled-mid d lo hi v ys h b e = rw e (filled d lo hi v h b)
  where
    filled : (d : List ℕ) (lo hi v : ℕ) → lo ≤ hi → hi ≤ length d → Filled d lo hi v (put_mid lo (hi - lo) d (replicate (hi - lo) v))
    filled d lo hi v h b = record {
      long = search (rules, places, overwrites);
      inside = λ j p q. search (rules, places);
      before = λ j p. search (rules, places);
      behind = λ j p. search (rules, places);
    }
